-- A place that isn't left has the reply of its number.
use Rattle.std.proofs.Common.{None, Some, cond, get_or, ap, ◌∙◌}
use Rattle.std.proofs.lemmas.List.{get_or_default}
use Rattle.snow_held.specs.declared.roll.Place.{Place}
use Rattle.snow_held.proofs.Ranged.{missing, found_at}
use Rattle.snow_held.proofs.roll.find.Goals as goal

pub returns-in_err-at-clause-none : goal.returns-in_err-at-clause-none
returns-in_err-at-clause-none c = rw c.from_residual.ensures (missing c.args.places.now c.args.arrival c.in_err-at.ensures.none)

pub returns-then-places-at-clause-none : goal.returns-then-places-at-clause-none
returns-then-places-at-clause-none c =
    let p = c.index-places-at.result in
    found_at c.args.places.now c.in_ok-at.at c.args.arrival p c.requires c.in_ok-at.ensures.there (c.in_ok-at.ensures.at p)
    ∙ ap (λ b. cond b None (Some (get_or c.args.places.now c.in_ok-at.at p).kept)) c.if-places-at.true

pub returns-clause-value : goal.returns-clause-value
returns-clause-value c d =
    let ps = c.args.places.now in
    let at = c.in_ok-at.at in
    found_at ps at c.args.arrival d c.requires c.in_ok-at.ensures.there (c.in_ok-at.ensures.at d)
    ∙ ap (λ b. cond b None (Some (get_or ps at d).kept))
    (ap (λ (q : Place). q.left) (get_or_default ps at d c.index-places-at.result c.in_ok-at.ensures.there) ∙ c.if-places-at.false)
