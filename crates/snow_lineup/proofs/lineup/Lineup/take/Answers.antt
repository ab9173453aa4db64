use Rattle.std.proofs.Common.{◌<◌, map, length, sym, ap, ◌∙◌, subst, arith}
use Rattle.std.specs.List.{remove}
use Rattle.std.proofs.lemmas.List.{length-map, get_or-map}
use Rattle.snow_lineup.specs.Kept.Index.{tag_of, seat_of}
use Rattle.snow_lineup.proofs.Tagged.{map_remove, indexed_remove, has_own_place}
use Rattle.snow_lineup.proofs.Windowed.{within_removed}
use Rattle.snow_lineup.proofs.lineup.Lineup.take.Goals as goal

pub take-requires : goal.take-requires
take-requires g c =
    let inside = c.self.inside in
    let items = inside.slots.items in
    let key = g.T.Keyed.key in
    let gone = c.index-slot.result.now in
    let there : c.args.at < length (map seat_of items) = subst (λ l. c.args.at < length l) (sym c.self.view_is) c.requires in
    let here : c.args.at < length items = omega (arith, there, length-map items seat_of) in
    rw (c.key.ensures) (has_own_place key items inside.rows.rows inside.next c.args.at gone here c.index-slot.ensures c.self.invariant.0)

pub invariant_of-self : goal.invariant_of-self
invariant_of-self g c =
    let inside = c.self.inside in
    let items = inside.slots.items in
    let at = c.args.at in
    let key = g.T.Keyed.key in
    let gone = c.index-slot.result.now in
    let there : at < length (map seat_of items) = subst (λ l. at < length l) (sym c.self.view_is) c.requires in
    let here : at < length items = omega (arith, there, length-map items seat_of) in
    let is_gone = ap (tag_of key) c.index-slot.ensures ∙ sym (get_or-map (tag_of key) items at gone (tag_of key gone) here) in (
      rw (c.take_slot.ensures.rest, map_remove (tag_of key) items at)
          (indexed_remove (map (tag_of key) items) at (tag_of key gone) inside.rows.rows c.take.new.self.rows inside.next (omega (arith, here, length-map items (tag_of key))) is_gone c.self.invariant.0
          (rw c.key.ensures at c.take.ensures)),
      rw (c.take_slot.ensures.rest, map_remove seat_of items at, c.without-self-inside.ensures) (within_removed (map seat_of items) inside.windows at there c.self.invariant.1),
    )

pub returns-clause-rest : goal.returns-clause-rest
returns-clause-rest g c =
    ap (map seat_of) c.take_slot.ensures.rest ∙ map_remove seat_of c.self.inside.slots.items c.args.at ∙ ap (λ l. remove l c.args.at) c.self.view_is
