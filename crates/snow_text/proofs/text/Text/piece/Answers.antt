use Rattle.std.proofs.Common.{rules}
use Rattle.std.proofs.lemmas.Result.{err_from_is_err_and}
use Rattle.snow_text.proofs.Spliced.{taking_left, taking_next, taking_not}
use Rattle.snow_text.proofs.text.Text.piece.Goals as goal

pub returns-in_err-end_line-clause-steps : goal.returns-in_err-end_line-clause-steps
returns-in_err-end_line-clause-steps c =
    let cut = c.in-Some.ensures in
    let e = err_from_is_err_and c.from_residual.result c.from_residual.ensures.1 in
    rw (e.1, e.2) (taking_not c.args.self.now c.loop-line.self c.end_line.new.self c.end_line.new.self c.args.piece.now c.loop-line.rest.now c.in-Some.line.now c.in-Some.behind.now c.in_err-end_line.field-0.0
    c.loop-line.invariant cut.1 c.in_err-end_line.ensures.steps)

pub loop-line-preserved : goal.loop-line-preserved
loop-line-preserved c =
    let cut = c.in-Some.ensures in
    taking_next c.args.self.now c.loop-line.self c.end_line.new.self c.args.piece.now c.loop-line.rest.now c.in-Some.line.now c.in-Some.behind.now
    c.loop-line.invariant cut.0 cut.1 c.in_ok-end_line.ensures.steps c.in_ok-end_line.ensures.left c.in_ok-end_line.ensures.number

pub returns-clause-steps : goal.returns-clause-steps
returns-clause-steps c =
    taking_left c.args.self.now c.loop-line.self (record { lines = c.self.inside.lines; left = c.append.new.self }) c.args.piece.now c.loop-line.rest.now
    c.loop-line.invariant c.in_default.ensures (search rules) (search rules)
