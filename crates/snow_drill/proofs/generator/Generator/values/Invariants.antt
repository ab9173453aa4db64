-- The values so far.
use Rattle.std.proofs.Common.{◌≡◌, map}
use Rattle.byteorder.specs.Endian.{big_number}
use Rattle.snow_drill.specs.Model.Generator.{last_of, values}
use Rattle.snow_drill.proofs.generator.Generator.values.Given as goal

abbrev pub invariant-loop : goal.invariant-loop
invariant-loop l = (map (big_number 8) l.list.items ≡ values l.counter l.initial.self) × (l.self ≡ last_of l.counter l.initial.self)
