use Rattle.std.proofs.Common.{◌<◌, map, length, set, get_or, sym, ap, ◌∙◌, subst, arith}
use Rattle.std.proofs.lemmas.List.{length-map, get_or-map}
use Rattle.snow_lineup.specs.declared.lineup.Slot.{Slot}
use Rattle.snow_lineup.specs.declared.marks.Mark.{Mark}
use Rattle.snow_lineup.specs.Kept.Index.{seat_of}
use Rattle.snow_lineup.proofs.Tagged.{tags_set, seats_set}
use Rattle.snow_lineup.proofs.Windowed.{within_marked}
use Rattle.snow_lineup.proofs.lineup.Lineup.set.Goals as goal

pub invariant_of-self : goal.invariant_of-self
invariant_of-self g c =
    let inside = c.self.inside in
    let old = c.index_mut.result.now in
    let there : c.args.at < length (map seat_of inside.slots.items) = subst (λ l. c.args.at < length l) (sym c.self.view_is) c.requires in (
      rw (tags_set g.T.Keyed.key inside.slots.items c.args.at old c.args.mark c.index_mut.ensures.value) c.self.invariant.0,
      rw (seats_set inside.slots.items c.args.at (record { place = old.place; mark = c.args.mark; item = old.item }), c.marked-self-inside.ensures)
          (within_marked (map seat_of inside.slots.items) inside.windows c.args.at old.item c.args.mark there c.self.invariant.1),
    )

pub returns : goal.returns
returns g c d =
    let items = c.self.inside.slots.items in
    let old = c.index_mut.result.now in
    let at = c.args.at in
    let there : at < length (map seat_of items) = subst (λ l. at < length l) (sym c.self.view_is) c.requires in
    let item = ap (λ (s : Slot _). s.item) c.index_mut.ensures.value ∙ sym (ap (λ (s : _ × Mark). s.0) (get_or-map seat_of items at old d (omega (arith, there, length-map items seat_of)))) in
    seats_set items at (record { place = old.place; mark = c.args.mark; item = old.item })
    ∙ ap (λ x. set (map seat_of items) at (x, c.args.mark)) item
    ∙ ap (λ l. set l at ((get_or l at d).0, c.args.mark)) c.self.view_is
