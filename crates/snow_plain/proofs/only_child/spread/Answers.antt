use Rattle.std.proofs.Common.{◌≡◌, Option, Some, sym, ap, ◌∙◌, subst}
use Rattle.snow_plain.specs.declared.only_child.OnlyChild.{OnlyChild}
use Rattle.snow_plain.specs.Kept.Trees.{counters_of}
use Rattle.snow_plain.specs.Kept.Alone.{counters_seen, IsReserve, lined}
use Rattle.snow_base.specs.Model.Identifier.{bits}
use Rattle.snow_plain.proofs.Alone.{filled_reserve, depth_alone}
use Rattle.snow_plain.proofs.only_child.spread.Goals as goal
use Rattle.snow_plain.proofs.only_child.spread.Goals.{After-fill}

-- the tree has the counters of the child
filled_is : (c : After-fill) → counters_of c.fill.new.tree ≡ lined c.in-Some.only.counter (bits c.in-Some.only.child)
filled_is c =
    let there : c.args.only_child.now ≡ Some c.in-Some.only = sym c.take.ensures.value ∙ c.in-Some.is in
    c.fill.ensures ∙ filled_reserve c.in-Some.only (counters_of c.args.tree.now) (subst (λ (o : Option OnlyChild). IsReserve o (counters_of c.args.tree.now)) there c.requires.reserve)

pub returns-in-Some-clause-counters : goal.returns-in-Some-clause-counters
returns-in-Some-clause-counters c =
    let there : c.args.only_child.now ≡ Some c.in-Some.only = sym c.take.ensures.value ∙ c.in-Some.is in
    filled_is (goal.at.returns-in-Some-clause-counters c).After-fill ∙ sym (ap (λ (o : Option OnlyChild). counters_seen o (counters_of c.args.tree.now)) there)

pub returns-in-Some-clause-shallow : goal.returns-in-Some-clause-shallow
returns-in-Some-clause-shallow c =
    rw (filled_is (goal.at.returns-in-Some-clause-shallow c).After-fill) (depth_alone c.in-Some.only.counter c.in-Some.only.child)
