-- Lemmas on a block that is offered.
use Rattle.std.proofs.Common.{◌≡◌, ℕ, zero, suc, refl, ◌+◌, ◌<◌, true, List, length, Option, Some, None, is_some, sym, ◌∙◌, ap, subst}
use Rattle.snow_base.specs.declared.block.Header.{Header}
use Rattle.snow_base.specs.declared.block.Vote.{Vote}
use Rattle.snow_node.specs.Clauses.Matching.{IsSteady}
use Rattle.snow_chain.specs.Model.Chain.{Held, MayReject, with_state, verified, rejected}
use Rattle.snow_node.proofs.Following.{may_undo, undone, issued_steady}
use Rattle.snow_board.specs.Model.Board.{Board, height_of, issued}
use Rattle.snow_board.specs.declared.board.Decision.{Decision}
use Rattle.snow_board.specs.Model.Conflict.{Pending}
use Rattle.snow_board.specs.Model.Poll.{poll, settled, counted, promoted, winner, accepted_then}
use Rattle.snow_board.specs.Laws.Reached.{MayIssue}

-- ---- the parameters stay

accepted_keeps : (next : Board → Board × List Decision) → ((b : Board) → (next b).0.parameters ≡ b.parameters)
    → (board : Board) (child : Option Pending) → (accepted_then board child next).0.parameters ≡ board.parameters
unfolding promoted
accepted_keeps next keeps board None = refl
accepted_keeps next keeps board (Some child) = keeps (promoted board child)

settled_keeps : (n : ℕ) (board : Board) → (settled n board).0.parameters ≡ board.parameters
unfolding settled
settled_keeps zero board = refl
settled_keeps (suc n) board = accepted_keeps (settled n) (settled_keeps n) board (winner board)

-- a poll keeps the parameters
pub poll_keeps : (board : Board) (votes : List Vote) → (poll board votes).0.parameters ≡ board.parameters
unfolding poll counted
poll_keeps board votes = settled_keeps (length board.pending) (counted board votes)

-- ---- blocks

-- where nothing stands against a block, it may be issued
pub unopposed : (board : Board) (block : Header) (below : ℕ) → height_of board block.id ≡ None
    → height_of board block.parent ≡ Some below → length board.pending < 4096 → block.height ≡ below + 1 → MayIssue board block
unopposed board block below unknown parent room height = record { unknown = unknown; follows = (below, parent, height); room = room }

-- a board and a chain that are these
pub steady_as : (board b : Board) (held h : Held) → board ≡ b → held ≡ h → IsSteady b h → IsSteady board held
steady_as board b held h e f s = rw (e, f) s

-- a valid block has a state, which is held
valid_held : (held h : Held) (id : List ℕ) (o : Option (List ℕ)) → is_some o ≡ true → h ≡ verified held id o → (state : List ℕ) × (h ≡ with_state held id state)
valid_held held h id None valid e = absurd cc
valid_held held h id (Some state) valid e = (state, e)

-- a block that was found valid may be taken back
pub may_take_back : (board : Board) (held h : Held) (block : Header) (o : Option (List ℕ)) → IsSteady board held → MayIssue board block
    → is_some o ≡ true → h ≡ verified held block.id o → MayReject h block.id
may_take_back board held h block o steady may valid e =
    let v = valid_held held h block.id o valid e in
    subst (λ (x : Held). MayReject x block.id) (sym v.1) (may_undo board held block.id v.0 steady.matches may.unknown)

-- once it was taken back, all is as before
pub as_before : (board : Board) (held h after : Held) (block : Header) (o : Option (List ℕ)) → IsSteady board held → MayIssue board block
    → is_some o ≡ true → h ≡ verified held block.id o → after ≡ rejected h block.id → after ≡ held
as_before board held h after block o steady may valid e went =
    let v = valid_held held h block.id o valid e in
    went ∙ ap (λ (x : Held). rejected x block.id) v.1 ∙ undone board held block.id v.0 steady.matches may.unknown

-- a block that was found valid was taken back
pub taken_back : (board b : Board) (held h after : Held) (block : Header) (o : Option (List ℕ)) → IsSteady board held → MayIssue board block
    → is_some o ≡ true → h ≡ verified held block.id o → b ≡ board → after ≡ rejected h block.id → IsSteady b after
taken_back board b held h after block o steady may valid e same went =
    steady_as b board after held same (as_before board held h after block o steady may valid e went) steady

-- a block that was found valid was issued
pub taken : (board b : Board) (held h : Held) (block : Header) (o : Option (List ℕ)) → IsSteady board held → MayIssue board block
    → is_some o ≡ true → h ≡ verified held block.id o → b ≡ issued board block → IsSteady b h
taken board b held h block o steady may valid e grown =
    let v = valid_held held h block.id o valid e in
    steady_as b (issued board block) h (with_state held block.id v.0) grown v.1 (issued_steady board held block v.0 steady may)
