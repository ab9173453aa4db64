-- What the audit found, as it was told.
use Rattle.snow_audit.specs.Model.Auditing.{audit_of}
use Rattle.snow_cli.specs.Clauses.Answer.{answer_of}
use Rattle.snow_cli.proofs.Finished.{finish_known, wrote_known, told_kept, told_read, told_fault}
use Rattle.snow_cli.proofs.program.check.Goals as goal

pub returns-clause-end : goal.returns-clause-end
returns-clause-end g c =
    finish_known (g.S.Source.left c.args.source.now) (λ bytes. audit_of g.C.Chain.rules (answer_of c.args.rule) bytes)
    c.tell.result c.audited-found.result _ _ _ _ c.audited-found.ensures.answer c.tell.ensures

pub returns-clause-output : goal.returns-clause-output
returns-clause-output g c =
    wrote_known (g.S.Source.left c.args.source.now) (λ bytes. audit_of g.C.Chain.rules (answer_of c.args.rule) bytes)
    c.tell.result c.audited-found.result _ _ _ _ c.audited-found.ensures.answer c.tell.ensures

pub returns-clause-broken : goal.returns-clause-broken
returns-clause-broken g c = told_kept c.tell.result c.audited-found.result _ _ _ _ c.tell.ensures

pub returns-clause-read : goal.returns-clause-read
returns-clause-read g c =
    told_read c.tell.result c.audited-found.result _ _ _ _ _ c.audited-found.ensures.told c.audited-found.ensures.read c.tell.ensures

pub returns-clause-fault : goal.returns-clause-fault
returns-clause-fault g c =
    told_fault c.tell.result c.audited-found.result _ _ _ _ _ _ c.audited-found.ensures.told c.audited-found.ensures.fault c.tell.ensures
