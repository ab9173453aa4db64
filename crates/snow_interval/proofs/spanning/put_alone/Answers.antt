-- A span of one height stands at the place.
use Rattle.snow_interval.proofs.Growing.{put_at}
use Rattle.snow_interval.proofs.spanning.put_alone.Goals as goal

pub returns-clause-ok : goal.returns-clause-ok
returns-clause-ok c = rw c.in_ok-insert.ensures.items (put_at c.args.spans.now.items c.args.place c.args.height c.requires.below c.requires.above)
