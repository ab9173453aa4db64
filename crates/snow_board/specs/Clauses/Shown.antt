-- A board with the decisions of its last poll, and the room that it keeps for the next.
use Rattle.std.specs.Prelude.{ℕ, Bool, List, ◌≤◌, length, refl}
use Rattle.std.specs.Coded.{Coded, coded_ℕ, coded_bool, coded_list, coded×, code_by}
use Rattle.snow_board.specs.declared.board.Decision.{Decision}
use Rattle.snow_board.specs.Model.Board.{Board}
use Rattle.snow_board.specs.Kept.BoardCode.{coded_board}

-- a board and the decisions of the last poll
pub record Shown : Type 0 where
  pub board : Board
  pub decided : List Decision

-- the code of a decision
abbrev coded_decision : Coded Decision
coded_decision =
    code_by (Bool × List ℕ) (coded× coded_bool (coded_list coded_ℕ)) (λ d. (d.accepted, d.id)) (λ f. record { accepted = f.0; id = f.1 }) (λ _. refl)

-- the code of a board with its decisions
abbrev pub coded_shown : Coded Shown
coded_shown =
    code_by (Board × List Decision) (coded× coded_board (coded_list coded_decision)) (λ s. (s.board, s.decided)) (λ f. record { board = f.0; decided = f.1 })
    (λ _. refl)

-- room for a decision on each pending block, for the votes of a poll, and for them once more by child
pub record HasRoom (board : Board) (decisions votes children : ℕ) : Type 0 where
  pub decides : length board.pending ≤ decisions
  pub counts : board.parameters.k ≤ votes
  pub gathers : board.parameters.k ≤ children
