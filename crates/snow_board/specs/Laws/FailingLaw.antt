-- What a poll without a quorum does: it fails the counters.
use Rattle.std.specs.Prelude.{◌≡◌, ℕ, ◌<◌, Bool, List, []}
use Rattle.snow_base.specs.declared.block.Vote.{Vote}
use Rattle.snow_base.specs.Model.Ancestry.{votes_below}
use Rattle.snow_flake.specs.Model.Parameters.{Parameters, AreGood}
use Rattle.snow_board.specs.Model.Conflict.{Counters, with_child, all_polled}
use Rattle.snow_board.specs.Model.Board.{Board, blocks_of}
use Rattle.snow_board.specs.Model.Poll.{poll}

-- the counters of a conflict after a poll without votes
abbrev pub failed : Parameters → Counters → Counters
failed p counters = all_polled p (λ front. 0) counters

-- a poll of a conflict with fewer than AlphaPreference votes on every side does what one without votes does
abbrev pub FewVotesLaw : Type 0
FewVotesLaw = (p : Parameters) (votes : List Bool → ℕ) (counters : Counters) → ((front : List Bool) → votes front < p.alpha_preference)
    → all_polled p votes counters ≡ failed p counters

-- and so does such a poll of a board
abbrev pub FewVotesOnBoardLaw : Type 0
FewVotesOnBoardLaw = (board : Board) (votes : List Vote)
    → ((block : List ℕ) (front : List Bool) → votes_below (blocks_of board.pending) votes block front < board.parameters.alpha_preference)
    → poll board votes ≡ poll board []

-- failing twice is failing once
abbrev pub FailingTwiceLaw : Type 0
FailingTwiceLaw = (p : Parameters) (counters : Counters) → AreGood p → failed p (failed p counters) ≡ failed p counters

-- failing and adding a child may change places
abbrev pub FailingAndAddingLaw : Type 0
FailingAndAddingLaw = (p : Parameters) (child : List Bool) (counters : Counters) → AreGood p → failed p (with_child child counters) ≡ with_child child (failed p counters)
