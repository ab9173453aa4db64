use Rattle.std.proofs.Common.{◌≡◌, ◌<◌, ap, ◌∙◌, arith, length}
use Rattle.std.proofs.lemmas.List.{length_push}
use Rattle.snow_recent.specs.Kept.Index.{head_of}
use Rattle.snow_recent.proofs.Appended.{appended, rising_before, few_numbers, small_seated}
use Rattle.snow_recent.proofs.recent.Recent.append.Goals as goal

pub take_seat-requires : goal.take_seat-requires
take_seat-requires g c =
    let inside = c.self.inside in
    let few = few_numbers g.T.Named.id inside.entries.items inside.first (head_of inside.first inside.heads) inside.table c.self.invariant.index in (
      omega arith,
      (
        rising_before g.T.Named.id inside.entries.items inside.first (head_of inside.first inside.heads) inside.table c.self.invariant.index,
        omega (arith, few, ap length c.self.view_is, c.requires),
      ),
    )

pub invariant_of-self : goal.invariant_of-self
invariant_of-self g c =
    let name = g.T.Named.id in
    let entries = c.self.inside.entries.items in
    let first = c.self.inside.first in
    let heads = c.self.inside.heads in
    let numbers = c.self.inside.table in
    let entry = c.args.entry in
    let few : length entries < g.row.MOST = omega (arith, ap length c.self.view_is, c.requires) in
    let count : c.len.result ≡ length entries = c.len.ensures ∙ c.self.inside.entries.ok.0 in
    let seated_is = rw c.id-id.ensures at c.take_seat.ensures.numbers in
    let small = rw c.id-id.ensures at c.take_seat.ensures.small in
    let set_is = rw (c.id-id.ensures, count) at c.set.ensures.set in
    let there = rw c.id-id.ensures at c.set.ensures.there in
    record {
      some = c.self.invariant.some;
      fits = c.self.invariant.fits;
      few = omega (arith, ap length c.push_back_reserved.ensures.items, length_push entries entry);
      room = omega (arith, c.push_back_reserved.ensures.capacity, c.self.invariant.room);
      small = rw seated_is (small_seated name entries first heads numbers (name entry) c.self.invariant.small small);
      index = rw (seated_is, c.push_back_reserved.ensures.items, set_is)
          (appended name entries entry first heads numbers (omega arith) (omega (arith, few, c.self.invariant.fits)) there c.self.invariant.index);
    }
