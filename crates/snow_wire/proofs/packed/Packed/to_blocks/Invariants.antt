use Rattle.std.proofs.Common.{◌≡◌, ◌++◌}
use Rattle.snow_wire.proofs.packed.Packed.to_blocks.Given as goal

abbrev pub invariant-loop-block : goal.invariant-loop-block
invariant-loop-block l = l.blocks ++ l.block-iterator ≡ l.fn.self
