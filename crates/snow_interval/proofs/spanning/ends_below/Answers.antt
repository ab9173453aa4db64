-- The span before the place is the last of those up to it.
use Rattle.snow_interval.proofs.Growing.{ends_at}
use Rattle.snow_interval.proofs.spanning.ends_below.Goals as goal

pub returns-then-place-gt0 : goal.returns-then-place-gt0
returns-then-place-gt0 c = ends_at c.args.spans.now c.args.place c.args.height record { low = 0; high = 0 } c.requires.above c.requires.within c.if-place-gt0.true
