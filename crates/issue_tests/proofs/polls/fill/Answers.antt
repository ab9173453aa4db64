-- The next number was not begun before.
use Rattle.std.proofs.Common.{ap, arith, ◌∙◌}
use Rattle.snow_poll.specs.Model.Table.{Table}
use Rattle.snow_poll.proofs.Placed.{none_from_more}
use Rattle.issue_tests.proofs.polls.fill.Goals as goal

pub begin-requires-clause-number : goal.begin-requires-clause-number
begin-requires-clause-number c = c.loop-number.invariant.0 c.loop-number.number (omega arith)

pub loop-number-preserved : goal.loop-number-preserved
loop-number-preserved c =
    let begun = c.in_ok-begin.ensures.ok in (
      rw begun (none_from_more c.loop-number.number c.loop-number.polls.polls c.args.draws.now c.loop-number.invariant.0),
      ap (λ (t : Table). t.parameters) begun ∙ c.loop-number.invariant.1,
    )
