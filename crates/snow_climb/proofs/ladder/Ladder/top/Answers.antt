use Rattle.std.proofs.Common.{◌≡◌, ◌≤◌, get_or, All, sym, subst, arith}
use Rattle.snow_climb.specs.Kept.Ladder.{Rungs, no_link, mark_at}
use Rattle.snow_climb.proofs.Hung.{each_seen}
use Rattle.snow_climb.proofs.ladder.Ladder.top.Goals as goal

pub returns : goal.returns
returns c =
    let a = c.self.inside in
    subst (λ (s : Rungs). All (λ x. x.place ≤ c.highest.result) s.climbers) c.self.view_is
    (each_seen (λ x. x.place ≤ c.highest.result) a.low a.links.items
    (λ i h lower.
    let place = (get_or a.links.items i no_link).climber.place in
    c.highest.ensures place (omega (arith, lower, c.self.invariant.highest i h lower, c.min-bound.ensures)) (subst (λ w. mark_at w place ≡ 1) (sym c.deref.ensures.value) (c.self.invariant.marked i h lower))))
