-- Where no poll is closed in front, all stay.
use Rattle.std.proofs.Common.{List, sym, ap, ◌∙◌}
use Rattle.snow_poll.specs.Model.Poll.{Poll}
use Rattle.snow_poll.specs.Model.Table.{Table}
use Rattle.snow_poll.proofs.Placed.{none_taken}
use Rattle.snow_poll.proofs.polls.Polls.take_finished.Goals as goal

-- a table with these polls
abbrev with_polls : Table → List Poll → Table
with_polls table polls = record table { polls = polls }

pub returns-then-not-has_finished-clause-found : goal.returns-then-not-has_finished-clause-found
returns-then-not-has_finished-clause-found c =
    sym (none_taken c.args.self.now.parameters c.args.self.now.polls (sym c.has_finished.ensures.finished ∙ c.if-not-has_finished.true)).0

pub returns-then-not-has_finished-clause-table : goal.returns-then-not-has_finished-clause-table
returns-then-not-has_finished-clause-table c =
    ap (with_polls c.args.self.now) (sym (none_taken c.args.self.now.parameters c.args.self.now.polls (sym c.has_finished.ensures.finished ∙ c.if-not-has_finished.true)).1)
