use Rattle.std.proofs.Common.{◌≡◌, map, length, arith}
use Rattle.std.proofs.lemmas.Grind.{common_steps}
use Rattle.std.proofs.lemmas.List.{map_push}
use Rattle.snow_lineup.specs.declared.lineup.Slot.{Slot}
use Rattle.snow_lineup.specs.declared.marks.Mark.TheVariants.{New}
use Rattle.snow_lineup.specs.Kept.Index.{tag_of, seat_of}
use Rattle.snow_lineup.proofs.Tagged.{indexed_push, indexed_same}
use Rattle.snow_lineup.proofs.Windowed.{within_pushed}
use Rattle.snow_lineup.proofs.lineup.Lineup.push.Goals as goal

pub invariant_of-self-in_err-put : goal.invariant_of-self-in_err-put
invariant_of-self-in_err-put g c =
    let inside = c.self.inside in
    rw (c.in_err-put.ensures.same, c.reserve.ensures.items)
    (indexed_same (map (tag_of g.T.Keyed.key) inside.slots.items) inside.rows.rows c.put.new.rows.rows inside.next c.self.invariant.0 c.in_err-put.ensures.err, c.self.invariant.1)

pub invariant_of-self-2 : goal.invariant_of-self-2
invariant_of-self-2 g c =
    let inside = c.self.inside in
    let items = inside.slots.items in
    let key = g.T.Keyed.key in
    let new : Slot _ = record { place = inside.next; mark = New; item = c.args.item } in
    let len : c.len-at.result ≡ length (map seat_of items) = grind (arith, common_steps) in
    rw (c.in_ok-put.ensures.slots, c.reserve.ensures.items, map_push (tag_of key) items new, map_push seat_of items new, c.marked-self-inside.ensures, len) (
      indexed_push (map (tag_of key) items) inside.rows.rows c.put.new.rows.rows inside.next (key c.args.item) c.self.invariant.0 c.in_ok-put.ensures.ok,
      within_pushed (map seat_of items) inside.windows c.args.item c.self.invariant.1,
    )
