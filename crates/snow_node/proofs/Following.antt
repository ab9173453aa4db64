-- How the states that a chain holds follow the blocks on a board: at the beginning, at an issue, and before and after a block is verified.
use Rattle.std.proofs.Common.{◌≡◌, ℕ, Bool, true, false, cond, not, ◌&&◌, ◌||◌, List, [], ◌∷◌, Option, Some, None, is_some, bytes_eq, refl, sym, ap, ◌∙◌}
use Rattle.std.specs.FinMap.{empty, get-empty, get-insert, get-remove, same_map, slice_cmp-IsAntisymmetric, nat_cmp-IsAntisymmetric}
use Rattle.std.specs.Ordering.{nat_cmp}
use Rattle.std.specs.Cmp.Lexicographic.{slice_cmp, nat_list_cmp_total}
use Rattle.std.proofs.lemmas.Map.Text.{is_eq-slice_cmp}
use Rattle.std.proofs.lemmas.List.Folds.{list_any-append}
use Rattle.snow_base.specs.declared.block.Header.{Header}
use Rattle.snow_flake.specs.Model.Parameters.{Parameters, AreGood}
use Rattle.snow_board.specs.Model.Board.{Board, begin, blocks_of, height_of, issued}
use Rattle.snow_board.specs.Laws.Reached.{MayIssue, Begun, Issued}
use Rattle.snow_board.specs.Kept.Grown.{has_block, is_on}
use Rattle.snow_board.proofs.Cases.{split_on, clash, same_id, id_same, id_itself, differs_back}
use Rattle.snow_board.proofs.Children.{some_height}
use Rattle.snow_board.proofs.Invariant.{blocks_issued}
use Rattle.snow_chain.specs.Model.Chain.{Held, States, state_of, begun, with_state, rejected, MayReject}
use Rattle.snow_node.specs.Clauses.Matching.{Matches, IsSteady}

-- ---- the states that are held

-- whether a state is held for an identifier
abbrev pub holds : Held → List ℕ → Bool
holds held id = is_some (state_of held id)

-- after a state was put in
pub state_with : (held : Held) (id state q : List ℕ) → state_of (with_state held id state) q ≡ cond (bytes_eq q id) (Some state) (state_of held q)
state_with held id state q =
    get-insert nat_list_cmp_total held.states id state q ∙ ap (λ b. cond b (Some state) (state_of held q)) (is_eq-slice_cmp q id)

-- after a state went
pub state_without : (held : Held) (id q : List ℕ) → state_of (rejected held id) q ≡ cond (bytes_eq q id) None (state_of held q)
state_without held id q =
    get-remove nat_list_cmp_total held.states id q ∙ ap (λ b. cond b None (state_of held q)) (is_eq-slice_cmp q id)

-- one more is held
pub holds_with : (held : Held) (id state q : List ℕ) → holds (with_state held id state) q ≡ (bytes_eq q id || holds held q)
holds_with held id state q =
    ap (λ o. is_some o) (state_with held id state q) ∙ split_on (bytes_eq q id) (λ t. rw t refl) (λ t. rw t refl)

-- one less is held
pub holds_without : (held : Held) (id q : List ℕ) → holds (rejected held id) q ≡ (not (bytes_eq q id) && holds held q)
holds_without held id q =
    ap (λ o. is_some o) (state_without held id q) ∙ split_on (bytes_eq q id) (λ t. rw t refl) (λ t. rw t refl)

-- whichever of two identifiers is compared to the other
pub turned : (a b : List ℕ) → bytes_eq a b ≡ bytes_eq b a
turned a b = split_on (bytes_eq b a) (λ t. id_same a b (sym (same_id b a t)) ∙ sym t) (λ t. differs_back a b t ∙ sym t)

-- ---- boards and chains that belong together

-- the states that are held are those of the blocks that are there
pub held_on : (board : Board) (held : Held) → Matches board held → (id : List ℕ) → holds held id ≡ is_on board.last (blocks_of board.pending) id
held_on board held m id = m.each id ∙ some_height board id

pub matching : (board : Board) (held : Held) → held.last ≡ board.last → ((id : List ℕ) → holds held id ≡ is_on board.last (blocks_of board.pending) id) → Matches board held
matching board held last each = record { last = last; each = λ id. each id ∙ sym (some_height board id) }

-- at the beginning
pub begun_matches : (p : Parameters) (last : List ℕ) (height : ℕ) (state : List ℕ) → Matches (begin p last height) (begun last state)
begun_matches p last height state =
    let none : Held = record { last = last; states = empty } in
    matching (begin p last height) (begun last state) refl
    (λ id. holds_with none last state id
    ∙ ap (λ o. bytes_eq id last || is_some o) (get-empty (slice_cmp nat_cmp) id)
    ∙ ap (λ t. t || false) (turned id last))

pub begun_steady : (p : Parameters) (last : List ℕ) (height : ℕ) (state : List ℕ) → AreGood p → IsSteady (begin p last height) (begun last state)
begun_steady p last height state good = record { reached = Begun p last height good; matches = begun_matches p last height state }

-- the blocks after an issue
on_issued : (board : Board) (block : Header) (id : List ℕ)
    → is_on board.last (blocks_of (issued board block).pending) id ≡ (bytes_eq id block.id || is_on board.last (blocks_of board.pending) id)
on_issued board block id =
    ap (λ l. is_on board.last l id) (blocks_issued board block)
    ∙ ap (λ t. bytes_eq board.last id || t) (list_any-append (λ b. bytes_eq b.id id) (blocks_of board.pending) (block ∷ []))
    ∙ in_front (bytes_eq board.last id) (has_block (blocks_of board.pending) id) (bytes_eq block.id id)
    ∙ ap (λ t. t || is_on board.last (blocks_of board.pending) id) (turned block.id id)
  where
    in_front : (last there new : Bool) → (last || (there || (new || false))) ≡ (new || (last || there))
    in_front true there true = refl
    in_front true there false = refl
    in_front false true true = refl
    in_front false true false = refl
    in_front false false true = refl
    in_front false false false = refl

-- an issued block's state is held
pub issued_steady : (board : Board) (held : Held) (block : Header) (state : List ℕ) → IsSteady board held → MayIssue board block
    → IsSteady (issued board block) (with_state held block.id state)
issued_steady board held block state steady may = record {
  reached = Issued board block steady.reached may;
  matches =
      matching (issued board block) (with_state held block.id state) steady.matches.last
      (λ id. holds_with held block.id state id
      ∙ ap (λ t. bytes_eq id block.id || t) (held_on board held steady.matches id)
      ∙ sym (on_issued board block id));
}

-- ---- a block is verified, and what was put in is taken out again

-- nothing is held where no state is
no_state : (o : Option (List ℕ)) → is_some o ≡ false → o ≡ None
no_state None h = refl
no_state (Some state) h = clash true refl h

-- what isn't on the board has no state
unknown : (board : Board) (held : Held) (id : List ℕ) → Matches board held → height_of board id ≡ None → state_of held id ≡ None
unknown board held id m off = no_state (state_of held id) (m.each id ∙ ap (λ o. is_some o) off)

-- the last accepted block is on the board
off_last : (board : Board) (held : Held) (id : List ℕ) → Matches board held → height_of board id ≡ None → bytes_eq held.last id ≡ false
off_last board held id m off =
    split_on (bytes_eq board.last id)
    (λ t. let on = rw t at off in clash true refl (ap (λ o. is_some o) on))
    (λ t. ap (λ l. bytes_eq l id) m.last ∙ t)

-- its state may be taken out again
pub may_undo : (board : Board) (held : Held) (id state : List ℕ) → Matches board held → height_of board id ≡ None → MayReject (with_state held id state) id
may_undo board held id state m off = record {
  known = holds_with held id state id ∙ rw (id_itself id) refl;
  other = off_last board held id m off;
}

-- and then all is as before
pub undone : (board : Board) (held : Held) (id state : List ℕ) → Matches board held → height_of board id ≡ None → rejected (with_state held id state) id ≡ held
undone board held id state m off =
    let made : States → Held = λ states. record { last = held.last; states = states } in
    ap made (same_map nat_list_cmp_total (slice_cmp-IsAntisymmetric nat_cmp-IsAntisymmetric) (rejected (with_state held id state) id).states held.states at)
  where
    at : (q : List ℕ) → state_of (rejected (with_state held id state) id) q ≡ state_of held q
    at q =
        state_without (with_state held id state) id q
        ∙ ap (λ o. cond (bytes_eq q id) None o) (state_with held id state q)
        ∙ split_on (bytes_eq q id)
        (λ t. rw t (sym (ap (state_of held) (same_id q id t) ∙ unknown board held id m off)))
        (λ t. rw t refl)
