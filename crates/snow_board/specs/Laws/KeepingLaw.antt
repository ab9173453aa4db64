-- Excluded counters, and the numbers of decided ones, are never read.
use Rattle.std.specs.Prelude.{◌≡◌, ℕ, List, [], ◌∷◌}
use Rattle.snow_base.specs.declared.block.Header.{Header}
use Rattle.snow_base.specs.declared.block.Vote.{Vote}
use Rattle.snow_flake.specs.Model.Parameters.{Parameters}
use Rattle.snow_flake.specs.Model.Rule.{Answer}
use Rattle.snow_board.specs.declared.board.Decision.{Decision}
use Rattle.snow_board.specs.Model.Board.{Board, begin, issued}
use Rattle.snow_board.specs.Model.Poll.{poll, and_then}
use Rattle.snow_board.specs.Model.Preference.{preferred, preferred_path}
use Rattle.snow_board.specs.Laws.Keeping.{WholeBoard, whole_begin, seen_board, whole_issued, whole_poll, told_and_then}

-- what is done to a board
pub data Round : Type 0 where
  Issue : (child : Header) → Round
  Poll : (votes : List Vote) → Round

-- the board after these rounds, and the decisions of all polls in order
abbrev pub run : List Round → Board → Board × List Decision
run [] board = (board, [])
run (Issue child ∷ rounds) board = run rounds (issued board child)
run (Poll votes ∷ rounds) board = and_then (poll board votes).1 (run rounds (poll board votes).0)

-- the same of a board that keeps every counter
abbrev pub whole_run : List Round → WholeBoard → WholeBoard × List Decision
whole_run [] board = (board, [])
whole_run (Issue child ∷ rounds) board = whole_run rounds (whole_issued board child)
whole_run (Poll votes ∷ rounds) board = told_and_then (whole_poll board votes).1 (whole_run rounds (whole_poll board votes).0)

-- after all issues and polls a board that keeps every counter made the same decisions, and has by every rule the same preference and path to it
abbrev pub KeepingLaw : Type 0
KeepingLaw = (p : Parameters) (last : List ℕ) (height : ℕ) (rounds : List Round) →
    let kept : WholeBoard × List Decision = whole_run rounds (whole_begin p last height) in
    let plain : Board × List Decision = run rounds (begin p last height) in
    (kept.1 ≡ plain.1)
    × ((answer : Answer) → preferred answer (seen_board kept.0) ≡ preferred answer plain.0)
    × ((answer : Answer) → preferred_path answer (seen_board kept.0) ≡ preferred_path answer plain.0)
