-- Votes on their way up the lines of the blocks, past the latest block first.
use Rattle.std.specs.Prelude.{ℕ, Bool, not, ◌&&◌, List, [], ◌∷◌, map, Option, Some, None, sum_by, bytes_eq, if◌then◌else◌}
use Rattle.std.specs.Bool.{beq}
use Rattle.std.specs.List.{starts_with}
use Rattle.snow_base.specs.declared.block.Header.{Header}
use Rattle.snow_base.specs.declared.block.Vote.{Vote}
use Rattle.snow_base.specs.Model.Identifier.{bits}
use Rattle.snow_flake.specs.Model.Parameters.{Parameters}
use Rattle.snow_board.specs.declared.cursor.Cursor.{Cursor}
use Rattle.snow_board.specs.Model.Conflict.{Pending}
use Rattle.snow_board.specs.Model.Conflict.{all_polled}
use Rattle.snow_board.specs.Model.Board.{blocks_of}

-- a vote at its own block
abbrev pub started : Vote → Cursor
started v = record { sought = v.id; passed = v.id; count = v.count }

-- after a block, which is on the line where it is the one that is sought
abbrev pub moved : Header → Cursor → Cursor
moved b c = if bytes_eq b.id c.sought then record c { sought = b.parent; passed = b.id } else c

-- after blocks, the latest first
abbrev pub moved_past : List Header → Cursor → Cursor
moved_past [] c = c
moved_past (b ∷ later) c = moved b (moved_past later c)

-- the child of the parent by which a line came to it: no block is its own parent
abbrev pub child_at : List ℕ → Cursor → Option (List ℕ)
child_at parent c = if bytes_eq c.sought parent && not (bytes_eq c.passed parent) then Some c.passed else None

-- so many votes for a child count where its bits begin so
abbrev pub votes_for : Option (List ℕ) → ℕ → List Bool → ℕ
votes_for None count front = 0
votes_for (Some id) count front = if starts_with beq (bits id) front then count else 0

-- how many votes came to the parent by children whose bits begin so
abbrev pub votes_at : List Cursor → List ℕ → List Bool → ℕ
votes_at cursors parent front = sum_by (λ c. votes_for (child_at parent c) c.count front) cursors

-- how many votes there are in all
abbrev pub cursor_total : List Cursor → ℕ
cursor_total cursors = sum_by (λ c. c.count) cursors

-- blocks whose counters take the bit step with the votes that came to them
unfoldable pub polled : Parameters → List Cursor → List Pending → List Pending
polled p cursors [] = []
polled p cursors (q ∷ later) =
    record q { counters = all_polled p (votes_at (map (moved_past (blocks_of later)) cursors) q.block.id) q.counters } ∷ polled p cursors later
