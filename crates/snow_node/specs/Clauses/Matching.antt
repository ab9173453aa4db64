-- A board and a chain that belong together, and decisions of which a chain can be told.
use Rattle.std.specs.Prelude.{◌≡◌, ℕ, Bool, true, false, List, [], ◌∷◌, Option, Some, None, is_some, ⊤}
use Rattle.snow_board.specs.declared.board.Decision.{Decision}
use Rattle.snow_base.specs.declared.block.Header.{Header}
use Rattle.snow_board.specs.Model.Board.{Board, height_of, issued}
use Rattle.snow_board.specs.Laws.Reached.{Reached}
use Rattle.snow_chain.specs.Model.Chain.{Held, state_of, with_state, MayAccept, MayReject}
use Rattle.snow_node.specs.Model.Telling.{with_decision}

-- the states that are held are those of the blocks on the board
pub record Matches (board : Board) (held : Held) : Type 0 where
  pub last : held.last ≡ board.last
  pub each : (id : List ℕ) → is_some (state_of held id) ≡ is_some (height_of board id)

-- a board that can be reached, and a chain that belongs to it
pub record IsSteady (board : Board) (held : Held) : Type 0 where
  pub reached : Reached board
  pub matches : Matches board held

-- a chain can be told of a block that it is accepted, or that it is rejected
abbrev pub MayTell : Held → List ℕ → Bool → Type 0
MayTell held id true = MayAccept held id
MayTell held id false = MayReject held id

-- a chain can be told these decisions, one after another
unfoldable pub MayFollow : Held → List Decision → Type 0
MayFollow held [] = ⊤
MayFollow held (d ∷ decisions) = MayTell held d.id d.accepted × MayFollow (with_decision held d) decisions

-- a block was admitted to this board and this chain by its state: it was issued if it has one, and else nothing changed
abbrev pub Admits : Bool → Board → Held → Board → Held → List Decision → Header → Option (List ℕ) → Type 0
Admits true board held board_now held_now decisions block (Some state) =
    (board_now ≡ issued board block) × (held_now ≡ with_state held block.id state) × (decisions ≡ [])
Admits true board held board_now held_now decisions block None = ⊥
Admits false board held board_now held_now decisions block (Some state) = ⊥
Admits false board held board_now held_now decisions block None = (board_now ≡ board) × (held_now ≡ held)
