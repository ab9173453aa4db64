-- At each height at most one block has a quorum for preference.
use Rattle.std.specs.Prelude.{◌≡◌, ℕ, ◌≤◌, List, Some, sum_by, if◌then◌else◌}
use Rattle.snow_base.specs.declared.block.Header.{Header}
use Rattle.snow_base.specs.declared.block.Vote.{Vote}
use Rattle.snow_base.specs.Model.Votes.{total_count}
use Rattle.snow_base.specs.Model.Ancestry.{descends}
use Rattle.snow_board.specs.Model.Board.{Board, blocks_of, height_of}
use Rattle.snow_board.specs.Laws.Reached.{Reached}

-- how many votes are for a block or its descendants
abbrev pub votes_with : List Header → List Vote → List ℕ → ℕ
votes_with blocks votes id = sum_by (λ v. if descends blocks id v.id then v.count else 0) votes

-- on a board that can be reached, of at most K votes, two blocks of one height that both have AlphaPreference are one
abbrev pub OneQuorumLaw : Type 0
OneQuorumLaw = (board : Board) (votes : List Vote) (a b : List ℕ) (height : ℕ) → Reached board → total_count votes ≤ board.parameters.k
    → height_of board a ≡ Some height → height_of board b ≡ Some height
    → board.parameters.alpha_preference ≤ votes_with (blocks_of board.pending) votes a
    → board.parameters.alpha_preference ≤ votes_with (blocks_of board.pending) votes b
    → a ≡ b
