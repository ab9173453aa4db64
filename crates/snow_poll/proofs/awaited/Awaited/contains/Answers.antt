-- The node's last entry tells.
use Rattle.std.proofs.Common.{is_some, sym, ap, ◌∙◌}
use Rattle.std.proofs.lemmas.Bool.{le-ltb}
use Rattle.snow_poll.proofs.Waiting.{counts_here, counts_none, count_there}
use Rattle.snow_poll.proofs.awaited.Awaited.contains.Goals as goal

pub returns-then-number-gt0 : goal.returns-then-number-gt0
returns-then-number-gt0 c =
    count_there c.index.result.now
    ∙ ap is_some (sym (counts_here c.args.self.now.waits.items c.args.node.now c.find-number.result c.index.result.now c.find-number.ensures c.if-number-gt0.true c.index.ensures))

pub returns-else-number-gt0 : goal.returns-else-number-gt0
returns-else-number-gt0 c =
    le-ltb 0 c.find-number.result c.if-number-gt0.false
    ∙ ap is_some (sym (counts_none c.args.self.now.waits.items c.args.node.now c.find-number.result c.find-number.ensures c.if-number-gt0.false))
