-- A part failed, or is done.
use Rattle.std.proofs.Common.{rules, ap}
use Rattle.std.proofs.lemmas.Result.{err_from_is_err_and}
use Rattle.snow_page.proofs.Waiting.{gathers_next, gathers_inside}
use Rattle.snow_page.proofs.part.put_all.Goals as goal

pub returns-in_err-put_into-clause-err : goal.returns-in_err-put_into-clause-err
returns-in_err-put_into-clause-err g c =
    let e = err_from_is_err_and c.from_residual.result c.from_residual.ensures.1 in
    rw e.1 (gathers_inside (λ x. g.T.Part.text x) c.args.parts.now c.loop-part.part-index c.part-item.result _ _ _ _ _ _ c.loop-part-test.true c.loop-part.invariant.0 c.in_err-put_into.ensures.err (ap (λ x. g.T.Part.text x) c.part-item.is))

pub loop-part-preserved : goal.loop-part-preserved
loop-part-preserved g c = (
  gathers_next (λ x. g.T.Part.text x) c.args.parts.now c.loop-part.part-index c.part-item.result _ _ _ _ _ _ _ c.loop-part-test.true c.loop-part.invariant.0 c.in_ok-put_into.ensures.ok (ap (λ x. g.T.Part.text x) c.part-item.is),
  search rules,
)
