use Rattle.std.proofs.Common.{◌≡◌, map, take}
use Rattle.byteorder.specs.Endian.{big_number}
use Rattle.snow_wire.proofs.lists.words_of.Given as goal

abbrev pub invariant-loop-word : goal.invariant-loop-word
invariant-loop-word l = l.made ≡ map (big_number 8) (take l.word-index l.words)
