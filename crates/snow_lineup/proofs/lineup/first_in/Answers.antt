-- A walk through the window finds the first slot with the mark, or none.
use Rattle.std.proofs.Common.{◌<◌, length, map, sym, ap, ◌∙◌, arith}
use Rattle.std.proofs.lemmas.List.{get_or-map, length-map}
use Rattle.snow_lineup.specs.Kept.Marks.{is_mark}
use Rattle.snow_lineup.specs.Kept.Index.{seat_of}
use Rattle.snow_lineup.proofs.Windowed.{none_outside, none_further, first_found, first_missing}
use Rattle.snow_lineup.proofs.lineup.first_in.Goals as goal

pub loop-at-init : goal.loop-at-init
loop-at-init g c = none_outside c.args.mark (map seat_of c.args.slots.now) c.args.window c.requires

pub returns-then-is : goal.returns-then-is
returns-then-is g c =
    let slots = c.args.slots.now in
    let at = c.loop-at.at in
    let s = c.index-slots-at.result in
    let there : at < length slots = omega (arith, c.loop-at-test.true, c.min-high.ensures) in
    first_found c.args.mark (map seat_of slots) at (seat_of s) c.loop-at.invariant (omega (arith, there, length-map slots seat_of))
    (ap (λ x. is_mark c.args.mark x.1) (get_or-map seat_of slots at s (seat_of s) there)
    ∙ sym c.is.ensures ∙ c.if-is.true)

pub loop-at-preserved : goal.loop-at-preserved
loop-at-preserved g c =
    let slots = c.args.slots.now in
    let at = c.loop-at.at in
    let s = c.index-slots-at.result in
    let there : at < length slots = omega (arith, c.loop-at-test.true, c.min-high.ensures) in
    none_further c.args.mark (map seat_of slots) at c.loop-at.invariant
    (λ d within. ap (λ x. is_mark c.args.mark x.1) (get_or-map seat_of slots at s d there)
    ∙ sym c.is.ensures ∙ c.if-is.false)

pub returns : goal.returns
returns g c =
    let slots = c.args.slots.now in
    sym (length-map slots seat_of)
    ∙ first_missing c.args.mark (map seat_of slots) c.args.window c.loop-at.at c.min-high.result c.requires c.loop-at.invariant
    (omega (arith, c.min-high.ensures, length-map slots seat_of)) (omega (arith, c.loop-at-test.false))
