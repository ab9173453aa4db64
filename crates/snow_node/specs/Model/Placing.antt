-- What stands against a block that is to be issued.
use Rattle.std.specs.Prelude.{ℕ, ◌+◌, length, Option, Some, None, nat_le, ◌==◌, if◌then◌else◌}
use Rattle.snow_base.specs.declared.limits.TheConstants.{MOST_PENDING}
use Rattle.snow_base.specs.declared.block.Header.{Header}
use Rattle.snow_board.specs.Model.Board.{Board}
use Rattle.snow_lines.specs.declared.why.DropWhy.{DropWhy}
use Rattle.snow_lines.specs.declared.why.DropWhy.TheVariants as why

-- what stands against a block above a parent at this height, if the parent is on the board
abbrev pub opposed : Board → Header → Option ℕ → Option DropWhy
opposed board block None = Some why.Parent
opposed board block (Some below) =
    if nat_le MOST_PENDING (length board.pending) then Some why.Full
    else (if block.height == below + 1 then None else Some why.Invalid)
