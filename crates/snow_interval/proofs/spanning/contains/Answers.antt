-- The height is held where it is in the span before its place.
use Rattle.std.proofs.Common.{rules}
use Rattle.snow_interval.proofs.Apart.{held_before, held_nowhere, reached}
use Rattle.snow_interval.proofs.spanning.contains.Goals as goal

pub returns-then-place-gt0-clause-held : goal.returns-then-place-gt0-clause-held
returns-then-place-gt0-clause-held c =
    held_before c.args.spans.now c.place_of-place.result c.args.height record { low = 0; high = 0 } c.requires c.place_of-place.ensures.within c.place_of-place.ensures.place
    c.if-place-gt0.true

pub returns-then-place-gt0-clause-above : goal.returns-then-place-gt0-clause-above
returns-then-place-gt0-clause-above c =
    λ from apart held. reached from c.args.spans.now c.place_of-place.result c.args.height c.place_of-place.ensures.within c.place_of-place.ensures.place c.if-place-gt0.true apart

pub returns-else-place-gt0-clause-held : goal.returns-else-place-gt0-clause-held
returns-else-place-gt0-clause-held c =
    let none = held_nowhere c.args.spans.now c.place_of-place.result c.args.height c.requires c.place_of-place.ensures.place c.if-place-gt0.false in
    rw none (search rules)
