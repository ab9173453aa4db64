use Rattle.std.proofs.Common.{◌≡◌, ◌<◌, ◌-◌, bytes_eq, List, length, map, get_or, set, sym, ap, ◌∙◌, subst, arith}
use Rattle.std.proofs.lemmas.List.{length-map}
use Rattle.snow_lineup.specs.declared.marks.Mark.{Mark}
use Rattle.snow_lineup.specs.declared.marks.Mark.TheVariants.{New}
use Rattle.snow_lineup.specs.Kept.Index.{seat_of, woken}
use Rattle.snow_lineup.proofs.Newest.{wakes_one}
use Rattle.snow_lineup.proofs.lineup.Lineup.is_of_newest.Goals as goal

pub returns-clause-alone : goal.returns-clause-alone
returns-clause-alone g c told d =
    let slots = c.self.inside.slots.items in
    let at = c.len-len.result - 1 in
    let key = g.T.Keyed.key in
    let there : at < length slots = omega (arith, c.if-len-eq0.false, c.len-len.ensures) in
    let same = ap (λ k. bytes_eq k c.args.key.now) (sym c.key.ensures) ∙ sym c.eq.ensures ∙ told in
    let whole = wakes_one key slots c.self.inside.rows.rows c.self.inside.next at c.index.result.now c.args.key.now c.self.invariant.0
    (c.are_single-single.ensures c.if-not-single.false c.args.key.now) there c.index.ensures same d in
    let seats : List (_ × Mark) = c.args.self.now in
    let last : at ≡ length seats - 1 = omega (arith, c.len-len.ensures, length-map slots seat_of, ap length c.self.view_is) in
    subst (λ n. map (woken key c.args.key.now) seats ≡ set seats n ((get_or seats n d).0, New)) last
    (subst (λ (l : List (_ × Mark)). map (woken key c.args.key.now) l ≡ set l at ((get_or l at d).0, New)) c.self.view_is whole)
