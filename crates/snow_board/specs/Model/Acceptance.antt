-- One acceptance, and which pending blocks it takes out.
use Rattle.std.specs.Prelude.{◌≡◌, ℕ, Bool, true, false, not, ◌&&◌, ◌||◌, List, ◌++◌, filter, Option, Some, None, bytes_eq}
use Rattle.std.specs.List.{list_any}
use Rattle.snow_base.specs.declared.block.Header.{Header}
use Rattle.snow_base.specs.Model.Ancestry.{descends}
use Rattle.snow_board.specs.declared.board.Decision.{Decision}
use Rattle.snow_board.specs.Model.Conflict.{Pending}
use Rattle.snow_board.specs.Model.Board.{Board, blocks_of}
use Rattle.snow_board.specs.Model.Poll.{decisions_for, promoted}

-- the pending blocks that neither are the child nor descend from it
abbrev pub outsiders : List Pending → List ℕ → List Pending
outsiders pending child = filter (λ q. not (descends (blocks_of pending) child q.block.id)) pending

-- the pending blocks that descend from the child
abbrev pub descendants : List Pending → List ℕ → List Pending
descendants pending child = filter (λ q. descends (blocks_of pending) child q.block.id && not (bytes_eq q.block.id child)) pending

-- whether some decision is on this block
abbrev pub has_decision : List Decision → List ℕ → Bool
has_decision decisions id = list_any (λ d. bytes_eq d.id id) decisions

-- whether a block goes, where these of those issued before it do: its parent is the last accepted block or goes, and it isn't the child
abbrev pub is_rejected : List ℕ → List ℕ → List Decision → Header → Bool
is_rejected last child told b = not (bytes_eq b.id child) && (bytes_eq last b.parent || has_decision told b.parent)

-- where there is a child to accept, the board and the decisions are those after its acceptance; else all is as before
abbrev pub Accepts : Option Pending → Board → Board → List Decision → List Decision → Bool → Type 0
Accepts None old new before after accepted = (accepted ≡ false) × (new ≡ old) × (after ≡ before)
Accepts (Some child) old new before after accepted = (accepted ≡ true) × (new ≡ promoted old child) × (after ≡ before ++ decisions_for old child)
