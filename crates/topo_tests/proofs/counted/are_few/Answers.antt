use Rattle.std.proofs.Common.{◌≤◌, subst, arith}
use Rattle.std.proofs.lemmas.List.Elements.{All-more}
use Rattle.snow_base.specs.Model.Votes.{Votes, total_count}
use Rattle.topo_tests.proofs.counted.are_few.Goals as goal

pub loop-votes-preserved : goal.loop-votes-preserved
loop-votes-preserved c =
    let Few : Votes → Type 0 = λ votes. total_count votes.list ≤ c.args.most in
    All-more Few c.args.polls.now c.loop-votes.votes-index c.votes-item.result c.loop-votes-test.true c.loop-votes.invariant
    (subst Few c.votes-item.is (omega (arith, c.total.ensures, c.if-total-most.false)))
