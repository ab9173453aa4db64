-- A board that keeps every counter: those that a decided one excludes, and the numbers of decided ones.
use Rattle.std.specs.Prelude.{ℕ, zero, suc, Bool, true, false, not, ◌&&◌, List, [], ◌∷◌, ◌++◌, map, length, Option, Some, None, filter, find, bytes_eq, if◌then◌else◌}
use Rattle.snow_base.specs.declared.block.Header.{Header}
use Rattle.snow_base.specs.declared.block.Vote.{Vote}
use Rattle.snow_base.specs.Model.Identifier.{bits}
use Rattle.snow_base.specs.Model.Ancestry.{votes_below}
use Rattle.snow_flake.specs.Model.Parameters.{Parameters}
use Rattle.snow_flake.specs.Kept.Instance.{Instance, counter_of, polled}
use Rattle.snow_board.specs.declared.board.Decision.{Decision}
use Rattle.snow_board.specs.Model.Conflict.{Pending}
use Rattle.snow_board.specs.Model.Conflict.{Counters, Blank, At, decides}
use Rattle.snow_board.specs.Model.Board.{Board}
use Rattle.snow_board.specs.Model.Poll.{stays_with, decisions_for}

-- a map from bit lists to instances, none of which goes
pub data Whole : Type 0 where
  Empty : Whole
  Node : (instance : Instance) → (below_zero below_one : Whole) → Whole

-- a fresh instance
abbrev pub begun : Bool → Instance
begun bit = record {
  standing = record { preference = bit; flake = bit; strength_zero = 0; strength_one = 0; confidence = 0 };
  final = false;
}

-- a child with these bits was issued: fresh instances stand where none stood, behind decided ones too
unfoldable pub whole_with_child : List Bool → Whole → Whole
whole_with_child [] whole = whole
whole_with_child (false ∷ rest) Empty = Node (begun false) (whole_with_child rest Empty) Empty
whole_with_child (true ∷ rest) Empty = Node (begun true) Empty (whole_with_child rest Empty)
whole_with_child (false ∷ rest) (Node i z o) = Node i (whole_with_child rest z) o
whole_with_child (true ∷ rest) (Node i z o) = Node i z (whole_with_child rest o)

-- every instance takes the bit step with its own votes
unfoldable pub whole_polled : Parameters → (List Bool → ℕ) → Whole → Whole
whole_polled p votes Empty = Empty
whole_polled p votes (Node i z o) =
    Node (polled p i (votes (false ∷ [])) (votes (true ∷ [])))
    (whole_polled p (λ front. votes (false ∷ front)) z)
    (whole_polled p (λ front. votes (true ∷ front)) o)

-- the counters that they are, with those behind decided ones
abbrev pub seen : Whole → Counters
seen Empty = Blank
seen (Node i z o) = At (counter_of i) (seen z) (seen o)

-- a pending block that keeps every counter of its children
pub record WholePending : Type 0 where
  pub block : Header
  pub whole : Whole

-- a board that keeps every counter
pub record WholeBoard : Type 0 where
  pub parameters : Parameters
  pub last : List ℕ
  pub height : ℕ
  pub whole : Whole
  pub pending : List WholePending

-- nothing is pending
abbrev pub whole_begin : Parameters → List ℕ → ℕ → WholeBoard
whole_begin p last height = record { parameters = p; last = last; height = height; whole = Empty; pending = [] }

-- a pending block as it is read, with the counters behind decided ones
abbrev pub seen_pending : WholePending → Pending
seen_pending q = record { block = q.block; counters = seen q.whole }

-- the board as it is read
abbrev pub seen_board : WholeBoard → Board
seen_board b = record { parameters = b.parameters; last = b.last; height = b.height; counters = seen b.whole; pending = map seen_pending b.pending }

-- a pending block whose instances are changed by a function of the block's identifier
abbrev pub with_whole : (List ℕ → Whole → Whole) → WholePending → WholePending
with_whole change q = record q { whole = change q.block.id q.whole }

-- the instances of a block after a child was issued, where the block is the child's parent
abbrev pub grown_whole : Header → List ℕ → Whole → Whole
grown_whole child id whole = if bytes_eq id child.parent then whole_with_child (bits child.id) whole else whole

-- a block is issued
abbrev pub whole_issued : WholeBoard → Header → WholeBoard
whole_issued board child = record board {
  whole = grown_whole child board.last board.whole;
  pending = map (with_whole (grown_whole child)) board.pending ++ record { block = child; whole = Empty } ∷ [];
}

-- the instances of a block after a poll with these votes over these blocks
abbrev pub polled_whole : Parameters → List Header → List Vote → List ℕ → Whole → Whole
polled_whole p blocks votes id whole = whole_polled p (votes_below blocks votes id) whole

-- every instance of the board takes the bit step with the votes below its own block
unfoldable pub whole_counted : WholeBoard → List Vote → WholeBoard
whole_counted board votes =
    let blocks = map (λ q. q.block) board.pending in
    record board {
      whole = polled_whole board.parameters blocks votes board.last board.whole;
      pending = map (with_whole (polled_whole board.parameters blocks votes)) board.pending;
    }

-- the child of the last accepted block to which decided instances alone lead
unfoldable pub whole_winner : WholeBoard → Option WholePending
whole_winner board = find (λ q. bytes_eq q.block.parent board.last && decides (seen board.whole) q.block.id) board.pending

-- the child is the last accepted block, and its descendants alone stay
unfoldable pub whole_promoted : WholeBoard → WholePending → WholeBoard
whole_promoted board child = record board {
  last = child.block.id;
  height = child.block.height;
  whole = child.whole;
  pending =
      filter (λ q. stays_with (seen_board board) (seen_pending child) (seen_pending q) && not (bytes_eq q.block.id child.block.id)) board.pending;
}

-- these decisions, and then those that follow
abbrev pub told_and_then : List Decision → WholeBoard × List Decision → WholeBoard × List Decision
told_and_then first after = (after.0, first ++ after.1)

-- nothing more where there is no winner, else its acceptance and what follows
abbrev pub whole_accepted_then : WholeBoard → Option WholePending → (WholeBoard → WholeBoard × List Decision) → WholeBoard × List Decision
whole_accepted_then board None next = (board, [])
whole_accepted_then board (Some child) next =
    told_and_then (decisions_for (seen_board board) (seen_pending child)) (next (whole_promoted board child))

-- children are accepted, at most n, while there is a winner
unfoldable pub whole_settled : ℕ → WholeBoard → WholeBoard × List Decision
whole_settled zero board = (board, [])
whole_settled (suc n) board = whole_accepted_then board (whole_winner board) (whole_settled n)

-- a poll
unfoldable pub whole_poll : WholeBoard → List Vote → WholeBoard × List Decision
whole_poll board votes = whole_settled (length board.pending) (whole_counted board votes)
