-- A board that is kept by a tree, and what is true of each.
use Rattle.std.specs.Prelude.{◌≡◌, ◌⊎◌, ℕ, List, length}
use Rattle.snow_flake.specs.Model.Parameters.{Parameters}
use Rattle.snow_flake.specs.Model.Rule.{Answer}
use Rattle.snow_board.specs.declared.board.Decision.{Decision}
use Rattle.snow_board.specs.Model.Conflict.{Counters}
use Rattle.snow_board.specs.Laws.FailingLaw.{failed}
use Rattle.snow_board.specs.Model.Preference.{preferred}
use Rattle.snow_board.specs.Clauses.Shown.{Shown, HasRoom}
use Rattle.snow_tree.specs.Kept.Held.{Held, blocks_in}
use Rattle.snow_topo.specs.Kept.Children.{Kept}
use Rattle.snow_climb.specs.Kept.Ladder.{Rungs, IsReady}
use Rattle.snow_topo.specs.Kept.View.{view, AreFit}
use Rattle.snow_topo.specs.Kept.Walking.{AreNamed}

-- the board, with the decisions of the last poll
abbrev pub shown_board : Parameters → ℕ → Kept → Held Kept → List Decision → Shown
shown_board p polls root held decided = record { board = view p polls root held; decided = decided }

-- what is kept fits, this is the preference, and there is room for the next poll
pub record IsStanding (answer : Answer) (p : Parameters) (polls : ℕ) (root : Kept) (held : Held Kept) (leading : List ℕ) (ladder : Rungs) (decisions children : ℕ) : Type 0 where
  pub fit : AreFit p polls root held
  pub named : AreNamed (blocks_in held.pending)
  pub preference : leading ≡ preferred answer (view p polls root held)
  pub room : HasRoom (view p polls root held) decisions ladder.votes children
  pub ready : IsReady (length held.pending) ladder

-- counters that a tree keeps are those of the board, or have failed there since the tree recorded a poll
abbrev pub AreKept : Parameters → Counters → Counters → Type 0
AreKept p board kept = (board ≡ kept) ⊎ (board ≡ failed p kept)
