-- The other one isn't missed any more.
use Rattle.std.proofs.Common.{sym, ◌∙◌}
use Rattle.snow_store.proofs.Renewed.{other_due}
use Rattle.snow_store.proofs.needs.due_both.Goals as goal

pub returns-clause-others : goal.returns-clause-others
returns-clause-others c q there free = other_due c.args.needs.now c.args.other q (sym c.contains_key.ensures ∙ c.if-contains_key.false) there
