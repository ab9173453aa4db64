-- The span at the place begins one lower.
use Rattle.snow_interval.proofs.Growing.{begun_at}
use Rattle.snow_interval.proofs.spanning.begin_at.Goals as goal

pub returns : goal.returns
returns c =
    begun_at c.args.spans.now.items c.args.place c.args.height c.index_mut.result.now c.index_mut.ensures.value c.requires.apart c.requires.below c.requires.above
