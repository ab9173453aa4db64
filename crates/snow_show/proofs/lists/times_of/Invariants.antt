use Rattle.std.proofs.Common.{◌≡◌, ◌+◌, drop, map, slice_index}
use Rattle.byteorder.specs.Endian.{big_number}
use Rattle.snow_show.specs.Kept.Shortening.{times_in_front}
use Rattle.snow_show.proofs.lists.times_of.Given as goal

abbrev pub invariant-loop-times : goal.invariant-loop-times
invariant-loop-times l =
    l.times + times_in_front (slice_index (map (big_number 8) l.numbers) 0) (drop l.times (map (big_number 8) l.numbers)) ≡ times_in_front (slice_index (map (big_number 8) l.numbers) 0) (map (big_number 8) l.numbers)
