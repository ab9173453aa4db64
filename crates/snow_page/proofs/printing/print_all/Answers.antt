-- A line failed: what was written of it is in front of what is left.
use Rattle.std.proofs.Common.{subst}
use Rattle.std.proofs.lemmas.Result.{err_from_is_err_and}
use Rattle.snow_base.specs.Clauses.Outside.{AppendsFront}
use Rattle.snow_base.proofs.Known.{fails_inside}
use Rattle.snow_lines.specs.declared.line.Line.{Line}
use Rattle.snow_lines.specs.Model.Text.{text}
use Rattle.snow_page.proofs.printing.print_all.Goals as goal

pub returns-in_err-print-clause-err : goal.returns-in_err-print-clause-err
returns-in_err-print-clause-err g c =
    let p = err_from_is_err_and c.from_residual.result c.from_residual.ensures.1 in
    let before = g.K.Sink.written c.loop-line.sink in
    let after = g.K.Sink.written c.print.new.sink in
    let part : AppendsFront before after (text c.line-item.result) = c.in_err-print.ensures.err in
    rw p.1 (fails_inside text c.args.lines.now c.loop-line.line-index c.line-item.result (g.K.Sink.written c.args.sink.now) before after
    c.loop-line-test.true c.loop-line.invariant.0 (subst (λ (l : Line). AppendsFront before after (text l)) c.line-item.is part))
