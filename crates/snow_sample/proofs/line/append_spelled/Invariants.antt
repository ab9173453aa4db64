-- The words so far are appended, and the others have room.
use Rattle.std.proofs.Common.{◌≡◌, ◌+◌, ◌-◌, ◌≤◌, ◌++◌, length, map, take}
use Rattle.std.specs.Vec.{vec_len, vec_capacity}
use Rattle.byteorder.specs.Endian.{big_number}
use Rattle.snow_sample.proofs.line.append_spelled.Given as goal

abbrev pub invariant-loop-word : goal.invariant-loop-word
invariant-loop-word l =
    (l.room.items ≡ l.fn.room.items ++ map (big_number 8) (take l.word-index l.words)) × (vec_len l.room + (length l.words - l.word-index) ≤ vec_capacity l.room)
