use Rattle.std.proofs.Common.{◌≡◌, ◌++◌, map, take, drop}
use Rattle.snow_board.specs.Kept.Cursors.{moved}
use Rattle.snow_board.proofs.cursor.advance.Given as goal

abbrev pub invariant-loop-cursor : goal.invariant-loop-cursor
invariant-loop-cursor l = l.cursors ≡ map (moved l.block) (take l.cursor-index l.initial.cursors) ++ drop l.cursor-index l.initial.cursors
