use Rattle.std.proofs.Common.{◌<◌, ◌^◌, ap, arith, length, not, ◌==◌}
use Rattle.std.proofs.lemmas.List.{length-drop}
use Rattle.std.proofs.lemmas.List.Elements.{All-filter}
use Rattle.snow_recent.specs.Kept.Index.{head_of}
use Rattle.snow_recent.proofs.Appended.{rising_before}
use Rattle.snow_recent.proofs.Forgotten.{forgotten, no_oldest}
use Rattle.snow_recent.proofs.recent.Recent.forget_oldest.Goals as goal

pub take_oldest_number-requires : goal.take_oldest_number-requires
take_oldest_number-requires g c =
    let inside = c.self.inside in (
      omega arith,
      (
        rising_before g.T.Named.id inside.entries.items inside.first (head_of inside.first inside.heads) inside.table c.self.invariant.index,
        no_oldest g.T.Named.id inside.entries.items inside.first inside.heads inside.table (omega arith) c.self.invariant.index,
      ),
    )

pub invariant_of-self : goal.invariant_of-self
invariant_of-self g c =
    let entries = c.self.inside.entries.items in
    let first = c.self.inside.first in
    let numbers = c.self.inside.table in
    let some : 0 < length entries = omega (arith, ap length c.self.view_is, c.requires) in
    record {
      some = c.self.invariant.some;
      fits = c.self.invariant.fits;
      few = omega (arith, ap length c.pop_front-oldest.ensures.rest, length-drop 1 entries, c.self.invariant.few);
      room = omega (arith, c.pop_front-oldest.ensures.capacity, c.self.invariant.room);
      small = rw c.take_oldest_number.ensures (All-filter (λ n. not (n == first)) (λ n. n < 2 ^ 32) numbers c.self.invariant.small);
      index = rw (c.pop_front-oldest.ensures.rest, c.take_oldest_number.ensures)
          (forgotten g.T.Named.id entries first c.self.inside.heads numbers some (omega arith) c.self.invariant.small c.self.invariant.index);
    }
