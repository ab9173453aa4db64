-- The node at the place of the unit.
use Rattle.std.proofs.Common.{List, length, get_or, ap, arith, ◌∙◌}
use Rattle.std.proofs.lemmas.List.{get_or_default}
use Rattle.snow_sample.specs.declared.roster.Node.{Node}
use Rattle.snow_sample.specs.Model.Roster.{total_weight}
use Rattle.snow_sample.proofs.Weights.{ends_partitioned, owner_place}
use Rattle.snow_sample.proofs.roster.Roster.place.Goals as goal

pub place-requires-clause-ends : goal.place-requires-clause-ends
place-requires-clause-ends c = rw (c.as_slice.ensures.value, c.self.invariant.0.in_turn) (ends_partitioned c.self.inside.nodes.items c.args.unit)

pub returns-clause-within : goal.returns-clause-within
returns-clause-within c =
    let place = owner_place c.self.inside.nodes.items c.as_slice.result.now c.args.unit c.place.result
    (c.as_slice.ensures.value ∙ c.self.invariant.0.in_turn) (omega (arith, ap total_weight c.self.view_is)) c.place.ensures.within c.place.ensures.place in
    omega (arith, place.0, ap (λ (l : List Node). length l) c.self.view_is)

pub returns-clause-owner : goal.returns-clause-owner
returns-clause-owner c n =
    let place = owner_place c.self.inside.nodes.items c.as_slice.result.now c.args.unit c.place.result
    (c.as_slice.ensures.value ∙ c.self.invariant.0.in_turn) (omega (arith, ap total_weight c.self.view_is)) c.place.ensures.within c.place.ensures.place in
    rw (← c.self.view_is)
    (place.1 (get_or c.self.inside.nodes.items c.place.result n) (get_or_default c.self.inside.nodes.items c.place.result n _ place.0))
