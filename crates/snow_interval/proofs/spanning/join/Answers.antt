-- The two spans become one.
use Rattle.std.proofs.Common.{◌-◌}
use Rattle.snow_interval.proofs.Apart.{before}
use Rattle.snow_interval.proofs.Growing.{has_last, joined_at}
use Rattle.snow_interval.proofs.spanning.join.Goals as goal

pub returns : goal.returns
returns c =
    let spans = c.args.spans.now.items in
    let s = c.index_mut.result.now in
    let t = c.remove-above.result in
    let next = before c.args.place (has_last spans c.args.place c.args.height c.requires.below) in
    rw c.remove-above.ensures.items
    (joined_at spans c.args.place (c.args.place - 1) c.args.height s t next (rw c.remove-above.ensures.items at c.index_mut.ensures.value) c.remove-above.ensures.value
    c.requires.apart c.requires.below c.requires.above)
