-- Lemmas on the places of pending blocks.
use Rattle.std.proofs.Common.{◌≡◌, ℕ, suc, ◌+◌, ◌-◌, ◌<◌, ◌≤◌, true, false, cond, List, [], ◌∷◌, ◌++◌, length, get_or, take, drop, reverse, bytes_eq, Option, Some, None, IfSome, find, refl, sym, ap, ◌∙◌, add-zero, add-one, arith}
use Rattle.std.proofs.lemmas.Bool.{or_parts, or_left, or_right}
use Rattle.std.proofs.lemmas.Option.{none-some}
use Rattle.snow_base.specs.declared.block.Header.{Header}
use Rattle.snow_board.specs.Model.Conflict.{Pending}
use Rattle.snow_board.specs.Model.Board.{Board, blocks_of}
use Rattle.snow_board.specs.Laws.Reached.{MayIssue}
use Rattle.snow_board.specs.Kept.Grown.{has_block, IsGrown}
use Rattle.snow_plain.specs.Kept.Places.{place_from}
use Rattle.snow_board.proofs.Issued.{unknown_off}
use Rattle.snow_board.proofs.Grown.{older, reversed_at, has_block-reverse}
use Rattle.snow_board.proofs.Cases.{split_on, clash, same_id, id_same, id_itself}

-- what is no block has no place
pub no_place : (n : ℕ) (blocks : List Header) (id : List ℕ) → has_block blocks id ≡ false → place_from n blocks id ≡ None
no_place n [] id h = refl
no_place n (b ∷ later) id h =
    let parts = or_parts (bytes_eq b.id id) (has_block later id) h in
    rw parts.0 (no_place (n + 1) later id parts.1)

-- what a place says of pending blocks of which the first has place n
record IsFound (n at : ℕ) (id : List ℕ) (pending : List Pending) : Type 0 where
  pub low : n ≤ at
  pub high : at < n + length pending
  pub before : has_block (blocks_of (take (at - n) pending)) id ≡ false
  pub here : (d : Pending) → bytes_eq (get_or pending (at - n) d).block.id id ≡ true
  pub first : (d : Pending) → find (λ q. bytes_eq q.block.id id) pending ≡ Some (get_or pending (at - n) d)

some_same : (m n : ℕ) → Some m ≡ Some n → m ≡ n
some_same m n e = cc

-- the block at the place is the first with its identifier
found_at : (n at : ℕ) (id : List ℕ) (pending : List Pending) → place_from n (blocks_of pending) id ≡ Some at → IsFound n at id pending
found_at n at id [] h = absurd (none-some at h)
found_at n at id (q ∷ later) h =
    split_on (bytes_eq q.block.id id)
    (λ t. let k = rw t at h in
    let same : at ≡ n = sym (some_same n at k) in
    let none : at - n ≡ 0 = omega arith in
    record {
      low = omega arith;
      high = omega arith;
      before = rw none refl;
      here = λ d. rw none t;
      first = λ d. rw (none, t) refl;
    })
    (λ t. let k = rw t at h in
    let rest = found_at (n + 1) at id later k in
    let low = rest.low in
    let high = rest.high in
    let next : at - n ≡ suc (at - (n + 1)) = omega arith in
    record {
      low = omega arith;
      high = omega arith;
      before = rw (next, t) rest.before;
      here = λ d. rw next (rest.here d);
      first = λ d. rw (next, t) (rest.first d);
    })

-- the same where the first block has place 0
pub record IsFirst (at : ℕ) (id : List ℕ) (pending : List Pending) : Type 0 where
  pub within : at < length pending
  pub before : has_block (blocks_of (take at pending)) id ≡ false
  pub here : (d : Pending) → bytes_eq (get_or pending at d).block.id id ≡ true
  pub first : (d : Pending) → find (λ q. bytes_eq q.block.id id) pending ≡ Some (get_or pending at d)

pub first_at : (at : ℕ) (id : List ℕ) (pending : List Pending) → place_from 0 (blocks_of pending) id ≡ Some at → IsFirst at id pending
first_at at id pending h =
    let found = found_at 0 at id pending h in
    let high = found.high in
    let same : at - 0 ≡ at = omega arith in
    record {
      within = omega arith;
      before = rw same at found.before;
      here = λ d. rw same at (found.here d);
      first = λ d. rw same at (found.first d);
    }

-- the place is among them
pub found_within : (found : Option ℕ) (id : List ℕ) (pending : List Pending) → found ≡ place_from 0 (blocks_of pending) id → IfSome found (λ at. at < length pending)
found_within None id pending h = tt
found_within (Some at) id pending h = (first_at at id pending (sym h)).within

-- without a place there is none
pub not_found : (n : ℕ) (id : List ℕ) (pending : List Pending) → place_from n (blocks_of pending) id ≡ None → find (λ q. bytes_eq q.block.id id) pending ≡ None
not_found n id [] h = refl
not_found n id (q ∷ later) h =
    split_on (bytes_eq q.block.id id)
    (λ t. let k = rw t at h in absurd (none-some n (sym k)))
    (λ t. let k = rw t at h in rw t (not_found (n + 1) id later k))

-- nor any block
pub not_found_has : (n : ℕ) (id : List ℕ) (pending : List Pending) → place_from n (blocks_of pending) id ≡ None → has_block (blocks_of pending) id ≡ false
not_found_has n id [] h = refl
not_found_has n id (q ∷ later) h =
    split_on (bytes_eq q.block.id id)
    (λ t. let k = rw t at h in absurd (none-some n (sym k)))
    (λ t. let k = rw t at h in rw t (not_found_has (n + 1) id later k))

-- a new block behind the others
pub placed_behind : (n : ℕ) (blocks : List Header) (child : Header) (id : List ℕ) → has_block blocks child.id ≡ false
    → cond (bytes_eq child.id id) (Some (n + length blocks)) (place_from n blocks id) ≡ place_from n (blocks ++ child ∷ []) id
placed_behind n [] child id h = split_on (bytes_eq child.id id) (λ t. rw t (ap Some (add-zero n))) (λ t. rw t refl)
placed_behind n (b ∷ later) child id h =
    let parts = or_parts (bytes_eq b.id child.id) (has_block later child.id) h in
    let rest = placed_behind (n + 1) later child id parts.1 in
    let size : n + 1 + length later ≡ n + suc (length later) = omega arith in
    split_on (bytes_eq b.id id)
    (λ t. split_on (bytes_eq child.id id)
    (λ s. clash (bytes_eq b.id child.id) (id_same b.id child.id (same_id b.id id t ∙ sym (same_id child.id id s))) parts.0)
    (λ s. rw (s, t) refl))
    (λ t. rw t (ap (λ m. cond (bytes_eq child.id id) (Some m) (place_from (n + 1) later id)) (sym size) ∙ rest))

-- a block that may be issued is no block yet
pub new_block : (board : Board) (child : Header) → MayIssue board child → has_block (blocks_of board.pending) child.id ≡ false
new_block board child may =
    sym (has_block-reverse (blocks_of board.pending) child.id)
    ∙ (or_parts (bytes_eq board.last child.id) (has_block (reverse (blocks_of board.pending)) child.id) (unknown_off board child.id may.unknown)).1

-- no block behind another has its identifier
pub none_behind : (last : List ℕ) (pending : List Pending) (m : ℕ) (d : Pending) → IsGrown last (reverse (blocks_of pending)) → m < length pending
    → has_block (blocks_of (drop (m + 1) pending)) (get_or pending m d).block.id ≡ false
none_behind last pending m d g h =
    let back = drop (suc m) pending in
    let front = take m pending in
    let entry = get_or pending m d in
    let id = entry.block.id in
    ap (λ k. has_block (blocks_of (drop k pending)) id) (add-one m)
    ∙ sym (has_block-reverse (blocks_of back) id)
    ∙ older last (reverse (blocks_of back)) (entry.block ∷ reverse (blocks_of front)) id
    (rw (← reversed_at pending m d h) g)
    (or_right (bytes_eq last id) (has_block (entry.block ∷ reverse (blocks_of front)) id) (or_left (bytes_eq id id) (has_block (reverse (blocks_of front)) id) (id_itself id)))
