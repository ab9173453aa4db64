-- The count is written back.
use Rattle.std.proofs.Common.{List, ap, arith, length, ◌∙◌}
use Rattle.snow_sample.specs.declared.draws.Draw.{Draw}
use Rattle.snow_sample.specs.Kept.Drawn.{one_more}
use Rattle.snow_sample.proofs.Counting.{written}
use Rattle.snow_sample.proofs.draws.Draws.add_one.Goals as goal

pub returns : goal.returns
returns c =
    written c.self.inside.draws.items c.args.place c.index_mut.result.now (omega (arith, ap (λ (l : List Draw). length l) c.self.view_is))
    c.index_mut.ensures.value
    ∙ ap (λ (l : List Draw). one_more l c.args.place) c.self.view_is
