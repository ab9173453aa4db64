use Rattle.std.proofs.Common.{◌≡◌, ◌<◌, ◌-◌, length, map, ap, arith}
use Rattle.std.proofs.lemmas.List.{length-map}
use Rattle.snow_lineup.specs.declared.marks.Mark.TheVariants.{New}
use Rattle.snow_lineup.specs.Kept.Index.{seat_of, woken}
use Rattle.snow_lineup.proofs.Newest.{set_last}
use Rattle.snow_lineup.proofs.lineup.Lineup.wake.Goals as goal

pub returns-then-is_of_newest : goal.returns-then-is_of_newest
returns-then-is_of_newest g c =
    let seats = c.args.self.now in
    let last : c.len-len.result - 1 ≡ length seats - 1 = omega (arith, c.len-len.ensures, length-map c.self.inside.slots.items seat_of, ap length c.self.view_is) in
    let there : 0 < length seats = c.is_of_newest.ensures.there c.if-is_of_newest.true in
    set_last seats c.set.new.self (map (woken g.T.Keyed.key c.args.key.now) seats) (c.len-len.result - 1) (length seats - 1) (λ s. (s.0, New)) there last
    c.set.ensures (c.is_of_newest.ensures.alone c.if-is_of_newest.true)
