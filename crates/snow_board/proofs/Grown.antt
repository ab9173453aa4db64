-- Lemmas on blocks that each came after their parent: which identifiers differ, and whose lines pass by whom.
use Rattle.std.proofs.Common.{◌≡◌, ℕ, suc, ◌<◌, Bool, true, false, ◌||◌, List, [], ◌∷◌, ◌++◌, length, get_or, take, drop, reverse, bytes_eq, None, find, refl, sym, ap, ◌∙◌, append_assoc, append-nil, take-append-drop, drop-cons}
use mathlib.Core.List.{reverse-cons}
use Rattle.std.specs.List.{list_any}
use Rattle.std.proofs.lemmas.List.{reverse-append, map-append}
use Rattle.std.proofs.lemmas.List.Folds.{list_any-append}
use Rattle.std.proofs.lemmas.Bool.{or_parts, or_from, or_left, or_right}
use Rattle.snow_base.specs.declared.block.Header.{Header}
use Rattle.snow_base.specs.Model.Ancestry.{line_in}
use Rattle.snow_board.specs.Model.Conflict.{Pending}
use Rattle.snow_board.specs.Model.Board.{blocks_of}
use Rattle.snow_board.specs.Kept.Grown.{has_block, is_on, IsGrown, Grew}
use Rattle.snow_board.proofs.Cases.{split_on, clash, same_id, id_itself}

-- the latest block was new
pub grown_new : {last : List ℕ} {b : Header} {earlier : List Header} → IsGrown last (b ∷ earlier) → is_on last earlier b.id ≡ false
grown_new (Grew b earlier new parent rest) = new

-- the parent of the latest block was there
pub grown_parent : {last : List ℕ} {b : Header} {earlier : List Header} → IsGrown last (b ∷ earlier) → is_on last earlier b.parent ≡ true
grown_parent (Grew b earlier new parent rest) = parent

-- the blocks before the latest
pub grown_rest : {last : List ℕ} {b : Header} {earlier : List Header} → IsGrown last (b ∷ earlier) → IsGrown last earlier
grown_rest (Grew b earlier new parent rest) = rest

-- the blocks before some others
pub grown_before : (last : List ℕ) (later earlier : List Header) → IsGrown last (later ++ earlier) → IsGrown last earlier
grown_before last [] earlier g = g
grown_before last (b ∷ later) earlier g = grown_before last later earlier (grown_rest g)

-- what is on a list of blocks is on a longer one
pub on_more : (last : List ℕ) (later earlier : List Header) (id : List ℕ) → is_on last earlier id ≡ true → is_on last (later ++ earlier) id ≡ true
on_more last later earlier id h =
    split_on (bytes_eq last id)
    (λ t. or_left (bytes_eq last id) (has_block (later ++ earlier) id) t)
    (λ t. let k = rw t at h in
    or_right (bytes_eq last id) (has_block (later ++ earlier) id)
    (list_any-append (λ b. bytes_eq b.id id) later earlier ∙ or_right (has_block later id) (has_block earlier id) k))

-- no later block has the identifier of one that was there
pub older : (last : List ℕ) (later earlier : List Header) (id : List ℕ) → IsGrown last (later ++ earlier) → is_on last earlier id ≡ true → has_block later id ≡ false
older last [] earlier id g h = refl
older last (b ∷ later) earlier id g h =
    split_on (bytes_eq b.id id)
    (λ t. clash (is_on last (later ++ earlier) b.id)
    (ap (is_on last (later ++ earlier)) (same_id b.id id t) ∙ on_more last later earlier id h)
    (grown_new g))
    (λ t. rw t (older last later earlier id (grown_rest g) h))

-- the last accepted block isn't among the others
pub not_last : (last : List ℕ) (blocks : List Header) → IsGrown last blocks → has_block blocks last ≡ false
not_last last blocks g =
    older last blocks [] last (rw append-nil g) (or_left (bytes_eq last last) false (id_itself last))

-- ---- who is whose child

-- whether some block is a child of this one
abbrev pub has_child : List Header → List ℕ → Bool
has_child blocks id = list_any (λ b. bytes_eq b.parent id) blocks

-- what isn't on the board has no child
pub childless : (last : List ℕ) (blocks : List Header) (id : List ℕ) → IsGrown last blocks → is_on last blocks id ≡ false → has_child blocks id ≡ false
childless last [] id g h = refl
childless last (b ∷ earlier) id g h =
    let parts = or_parts (bytes_eq last id) (has_block (b ∷ earlier) id) h in
    let rest = or_parts (bytes_eq b.id id) (has_block earlier id) parts.1 in
    let off : is_on last earlier id ≡ false = or_from (bytes_eq last id) (has_block earlier id) parts.0 rest.1 in
    split_on (bytes_eq b.parent id)
    (λ t. clash (is_on last earlier b.parent) (grown_parent g) (ap (is_on last earlier) (same_id b.parent id t) ∙ off))
    (λ t. rw t (childless last earlier id (grown_rest g) off))

-- the latest block has no child
pub latest_childless : (last : List ℕ) (b : Header) (earlier : List Header) → IsGrown last (b ∷ earlier) → has_child (b ∷ earlier) b.id ≡ false
latest_childless last b earlier g =
    split_on (bytes_eq b.parent b.id)
    (λ t. clash (is_on last earlier b.parent) (grown_parent g) (ap (is_on last earlier) (same_id b.parent b.id t) ∙ grown_new g))
    (λ t. rw t (childless last earlier b.id (grown_rest g) (grown_new g)))

-- ---- lines

-- a line has no child of a block that has none
pub no_child_on : (blocks : List Header) (parent id : List ℕ) → has_child blocks parent ≡ false → find (λ b. bytes_eq b.parent parent) (line_in blocks id) ≡ None
no_child_on [] parent id h = refl
no_child_on (b ∷ earlier) parent id h =
    let parts = or_parts (bytes_eq b.parent parent) (has_child earlier parent) h in
    split_on (bytes_eq b.id id)
    (λ t. rw t (rw parts.0 (no_child_on earlier parent b.parent parts.1)))
    (λ t. rw t (no_child_on earlier parent id parts.1))

-- the line of an identifier passes by blocks that don't have it
pub line_passes : (later earlier : List Header) (id : List ℕ) → has_block later id ≡ false → line_in (later ++ earlier) id ≡ line_in earlier id
line_passes [] earlier id h = refl
line_passes (b ∷ later) earlier id h =
    let parts = or_parts (bytes_eq b.id id) (has_block later id) h in
    rw parts.0 (line_passes later earlier id parts.1)

-- what is no block has no line
pub no_line : (blocks : List Header) (id : List ℕ) → has_block blocks id ≡ false → line_in blocks id ≡ []
no_line [] id h = refl
no_line (b ∷ earlier) id h =
    let parts = or_parts (bytes_eq b.id id) (has_block earlier id) h in
    rw parts.0 (no_line earlier id parts.1)

-- ---- blocks in order of issue

-- the order makes no difference to which identifiers there are
pub has_block-reverse : (blocks : List Header) (id : List ℕ) → has_block (reverse blocks) id ≡ has_block blocks id
has_block-reverse [] id = refl
has_block-reverse (b ∷ blocks) id =
    ap (λ l. has_block l id) (reverse-cons b blocks)
    ∙ list_any-append (λ b. bytes_eq b.id id) (reverse blocks) (b ∷ [])
    ∙ ap (λ t. t || has_block (b ∷ []) id) (has_block-reverse blocks id)
    ∙ swapped (has_block blocks id) (bytes_eq b.id id)
  where
    swapped : (x y : Bool) → (x || (y || false)) ≡ (y || x)
    swapped true true = refl
    swapped true false = refl
    swapped false true = refl
    swapped false false = refl

-- the latest first, around one of them
pub reversed_at : (pending : List Pending) (i : ℕ) (d : Pending) → i < length pending
    → reverse (blocks_of pending) ≡ reverse (blocks_of (drop (suc i) pending)) ++ (get_or pending i d).block ∷ reverse (blocks_of (take i pending))
reversed_at pending i d h =
    let front = take i pending in
    let back = drop (suc i) pending in
    let entry = get_or pending i d in
    ap (λ l. reverse (blocks_of l)) (sym (take-append-drop i pending) ∙ ap (λ l. front ++ l) (drop-cons pending i d h))
    ∙ ap reverse (map-append (λ q. q.block) front (entry ∷ back))
    ∙ reverse-append (blocks_of front) (blocks_of (entry ∷ back))
    ∙ ap (λ l. l ++ reverse (blocks_of front)) (reverse-cons entry.block (blocks_of back))
    ∙ append_assoc (reverse (blocks_of back)) (entry.block ∷ []) (reverse (blocks_of front))
