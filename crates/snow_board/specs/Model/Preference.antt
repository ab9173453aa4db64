-- Which block a board prefers.
use Rattle.std.specs.Prelude.{ℕ, Bool, ◌&&◌, List, [], ◌∷◌, bytes_eq, if◌then◌else◌}
use Rattle.std.specs.List.{list_any}
use Rattle.snow_flake.specs.Model.Rule.{Answer}
use Rattle.snow_board.specs.Model.Conflict.{Counters, leads_to}
use Rattle.snow_board.specs.Model.Conflict.{Pending}
use Rattle.snow_board.specs.Model.Board.{Board}

-- the blocks to which the answers lead from a block on, among those issued later
unfoldable pub path_from : Answer → List ℕ → Counters → List Pending → List (List ℕ)
path_from answer id counters [] = []
path_from answer id counters (q ∷ later) =
    if bytes_eq q.block.parent id && leads_to answer counters q.block.id then q.block.id ∷ path_from answer q.block.id q.counters later
    else path_from answer id counters later

-- the last block of a path that begins with this one
abbrev pub end_of : List ℕ → List (List ℕ) → List ℕ
end_of id [] = id
end_of id (next ∷ path) = end_of next path

-- the path from the last accepted block, by the answers, to a block without children
abbrev pub preferred_path : Answer → Board → List (List ℕ)
preferred_path answer board = path_from answer board.last board.counters board.pending

-- the preference
abbrev pub preferred : Answer → Board → List ℕ
preferred answer board = end_of board.last (preferred_path answer board)

-- whether a block is on that path, both ends included
abbrev pub is_preferred : Answer → Board → List ℕ → Bool
is_preferred answer board id = list_any (λ other. bytes_eq other id) (board.last ∷ preferred_path answer board)
