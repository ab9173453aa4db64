-- The numbers so far were begun in order.
use Rattle.std.proofs.Common.{◌≡◌}
use Rattle.snow_poll.specs.Model.Table.{HasNoneFrom}
use Rattle.issue_tests.proofs.polls.fill.Given as goal

abbrev pub invariant-loop-number : goal.invariant-loop-number
invariant-loop-number l = HasNoneFrom l.number l.polls.polls × (l.polls.parameters ≡ l.initial.polls.parameters)
