-- A line failed, or is done.
use Rattle.std.proofs.Common.{rules, ap}
use Rattle.std.proofs.lemmas.Result.{err_from_is_err_and}
use Rattle.snow_lines.specs.Model.Text.{text}
use Rattle.snow_page.proofs.Waiting.{gathers_next, gathers_inside}
use Rattle.snow_page.proofs.page.Page.print_some.Goals as goal

pub returns-in_err-print-clause-err : goal.returns-in_err-print-clause-err
returns-in_err-print-clause-err g c =
    let e = err_from_is_err_and c.from_residual.result c.from_residual.ensures.1 in
    rw e.1 (gathers_inside text c.args.lines.now c.loop-line.line-index c.line-item.result _ _ _ _ _ _ c.loop-line-test.true c.loop-line.invariant.0 c.in_err-print.ensures.err (ap text c.line-item.is))

pub loop-line-preserved : goal.loop-line-preserved
loop-line-preserved g c = (
  gathers_next text c.args.lines.now c.loop-line.line-index c.line-item.result _ _ _ _ _ _ _ c.loop-line-test.true c.loop-line.invariant.0 c.in_ok-print.ensures.ok (ap text c.line-item.is),
  search rules,
)
