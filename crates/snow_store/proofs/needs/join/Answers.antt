-- So many more miss it. It was missed before, or it is due.
use Rattle.std.proofs.Common.{ap, sym, ◌∙◌}
use Rattle.std.specs.Option.{unwrap_or}
use Rattle.snow_store.proofs.Counting.{added}
use Rattle.snow_store.proofs.Renewed.{same_due, new_due}
use Rattle.snow_store.proofs.needs.join.Goals as goal

pub returns-in-Some-before-clause-counts : goal.returns-in-Some-before-clause-counts
returns-in-Some-before-clause-counts c count some counts =
    added c.args.needs.now c.insert.new.self c.in-Some.id c.args.missed.now c.unwrap_or.result c.args.targets c.in-Some-checked_add.sum count c.in_ok-insert.ensures.updates.0 c.in-Some-checked_add.ensures.1
    (c.unwrap_or.ensures ∙ ap (λ o. unwrap_or o 0) (c.copied-before.ensures ∙ c.get.ensures.value)) c.in-Some.is some counts

pub returns-in-Some-before-clause-due : goal.returns-in-Some-before-clause-due
returns-in-Some-before-clause-due c =
    same_due c.args.needs.now c.insert.new.self c.in-Some.id c.in-Some-checked_add.sum c.in-Some-before.field-0 c.args.due c.in_ok-insert.ensures.updates.0
    (sym (c.copied-before.ensures ∙ c.get.ensures.value) ∙ c.in-Some-before.is)

pub returns-in-None-clause-counts : goal.returns-in-None-clause-counts
returns-in-None-clause-counts c count some counts =
    added c.args.needs.now c.insert.new.self c.in-Some.id c.args.missed.now c.unwrap_or.result c.args.targets c.in-Some-checked_add.sum count c.in_ok-insert.ensures.updates.0 c.in-Some-checked_add.ensures.1
    (c.unwrap_or.ensures ∙ ap (λ o. unwrap_or o 0) (c.copied-before.ensures ∙ c.get.ensures.value)) c.in-Some.is some counts

pub returns-in-None-clause-due : goal.returns-in-None-clause-due
returns-in-None-clause-due c =
    new_due c.args.needs.now c.insert.new.self c.in-Some.id c.in-Some-checked_add.sum c.args.due c.due_with.result c.in_ok-insert.ensures.updates.0 c.due_with.ensures.id c.due_with.ensures.others
