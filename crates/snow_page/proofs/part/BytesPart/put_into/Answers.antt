-- The space failed.
use Rattle.std.proofs.Common.{[], ◌∷◌}
use Rattle.std.proofs.lemmas.Result.{err_from_is_err_and}
use Rattle.snow_lines.specs.Model.Text.{block_word}
use Rattle.snow_page.proofs.Waiting.{fails_first}
use Rattle.snow_page.proofs.part.BytesPart.put_into.Goals as goal

pub returns-in_err-put-clause-err : goal.returns-in_err-put-clause-err
returns-in_err-put-clause-err g c =
    let e = err_from_is_err_and c.from_residual.result c.from_residual.ensures.1 in
    rw e.1 (fails_first _ _ (g.G.Gather.waiting c.args.out.now) (32 ∷ []) (block_word c.args.self.now) c.in_err-put.ensures.err)
