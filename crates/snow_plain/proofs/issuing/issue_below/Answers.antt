use Rattle.std.proofs.Common.{sym, ◌∙◌}
use Rattle.std.proofs.lemmas.Result.{on_ok_weaker}
use Rattle.snow_board.proofs.Issued.{none_issued, last_issued, one_issued}
use Rattle.snow_plain.proofs.Placed.{first_at, not_found_has}
use Rattle.snow_plain.proofs.issuing.issue_below.Goals as goal

pub returns-then-eq-clause-pending : goal.returns-then-eq-clause-pending
returns-then-eq-clause-pending c =
    on_ok_weaker c.add.result (λ _. sym (last_issued c.args.last.now c.args.child.now c.args.pending.now c.requires.grown cc)) c.add.ensures.ok

pub returns-in-Some-clause-pending : goal.returns-in-Some-clause-pending
returns-in-Some-clause-pending c =
    let pending = c.args.pending.now in
    let at = c.in-Some.at in
    let d = c.index-pending-at.result in
    let found = first_at at c.args.child.now.parent pending (sym c.requires.above ∙ c.in-Some.is) in
    on_ok_weaker c.add-in-Some.result
    (λ e. one_issued c.args.last.now c.args.child.now pending at d c.add-in-Some.new.self c.requires.grown found.within found.before (found.here d) e)
    c.add-in-Some.ensures.ok

pub returns-in-None-clause-pending : goal.returns-in-None-clause-pending
returns-in-None-clause-pending c =
    sym (none_issued c.args.child.now c.args.pending.now (not_found_has 0 c.args.child.now.parent c.args.pending.now (sym c.requires.above ∙ c.in-None.is)))
