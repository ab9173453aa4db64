-- The height's run is the span before its place.
use Rattle.snow_interval.proofs.Apart.{held_behind}
use Rattle.snow_interval.proofs.Running.{low_before}
use Rattle.snow_interval.proofs.spanning.lowest.Goals as goal

pub overflow_sub-result : goal.overflow_sub-result
overflow_sub-result c = held_behind c.args.spans.now c.place_of.result c.args.height c.requires.apart c.place_of.ensures.place c.requires.held

pub returns : goal.returns
returns c =
    low_before c.args.spans.now c.place_of.result c.args.height record { low = 0; high = 0 } c.requires.apart c.place_of.ensures.within c.place_of.ensures.place c.requires.held
