-- What a poll leaves: no winner, and not because steps of acceptance ran out.
use Rattle.std.specs.Prelude.{◌≡◌, ℕ, ◌≤◌, List, length, None}
use Rattle.snow_base.specs.declared.block.Vote.{Vote}
use Rattle.snow_board.specs.Model.Board.{Board}
use Rattle.snow_board.specs.Model.Poll.{counted, winner, settled, poll}

-- behind a poll decided counters lead to no child of the last accepted block
abbrev pub NoWinnerLaw : Type 0
NoWinnerLaw = (board : Board) (votes : List Vote) → winner (poll board votes).0 ≡ None

-- with as many steps as blocks are pending, or with more, acceptance leaves one board with one list of decisions
abbrev pub EnoughStepsLaw : Type 0
EnoughStepsLaw = (board : Board) (votes : List Vote) (n : ℕ) → length board.pending ≤ n → settled n (counted board votes) ≡ poll board votes
