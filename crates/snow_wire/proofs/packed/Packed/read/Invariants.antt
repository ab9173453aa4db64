use Rattle.std.proofs.Common.{◌≡◌, ◌-◌}
use Rattle.snow_wire.specs.Model.Reading.{block_at, items_at}
use Rattle.snow_wire.proofs.Listed.{left_by}
use Rattle.snow_wire.proofs.packed.Packed.read.Given as goal

abbrev pub invariant-loop : goal.invariant-loop
invariant-loop l = left_by (items_at block_at (l.count - l.counter) l.reader) ≡ left_by (items_at block_at l.count l.initial.reader)
