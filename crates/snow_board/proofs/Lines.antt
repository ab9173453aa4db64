-- Lemmas on the lines of blocks that each came after their parent.
use Rattle.std.proofs.Common.{◌≡◌, ℕ, Bool, true, false, ◌||◌, ◌&&◌, List, [], ◌∷◌, ◌++◌, reverse, find, bytes_eq, Option, Some, None, refl, sym, ap, ◌∙◌, subst}
use Rattle.std.specs.Bool.{beq}
use Rattle.std.specs.List.{list_any, starts_with}
use Rattle.std.proofs.lemmas.Option.{none-some}
use Rattle.std.proofs.lemmas.Bool.{or_left, or_right}
use Rattle.snow_base.specs.declared.block.Header.{Header}
use Rattle.snow_base.specs.Model.Identifier.{bits}
use Rattle.snow_base.specs.Model.Ancestry.{line_in, begins_with}
use Rattle.snow_base.specs.Model.Ancestry.{is_below}
use Rattle.snow_board.specs.Model.Board.{Board, blocks_of}
use Rattle.snow_board.specs.Laws.Reached.{Reached}
use Rattle.snow_board.specs.Laws.LineLaw.{has_child_on}
use Rattle.snow_board.proofs.Invariant.{reached_sound}
use Rattle.snow_board.specs.Kept.Grown.{has_block, is_on, IsGrown}
use Rattle.snow_board.proofs.Cases.{split_on, clash, same_id, id_itself}
use Rattle.snow_board.proofs.Grown.{grown_new, grown_parent, grown_rest, grown_before, on_more, older, childless, no_child_on, line_passes}

-- the child of a parent on the line of a block, the latest blocks first
abbrev pub child_in : List Header → List ℕ → List ℕ → Option Header
child_in blocks parent id = find (λ b. bytes_eq b.parent parent) (line_in blocks id)

-- a block that isn't there is on no line as a parent
no_child_in : (last : List ℕ) (blocks : List Header) (parent id : List ℕ) → IsGrown last blocks → is_on last blocks parent ≡ false → child_in blocks parent id ≡ None
no_child_in last blocks parent id g h = no_child_on blocks parent id (childless last blocks parent g h)

-- no block is below itself
pub acyclic : (last : List ℕ) (blocks : List Header) (id : List ℕ) → IsGrown last blocks → child_in blocks id id ≡ None
acyclic last [] id g = refl
acyclic last (b ∷ earlier) id g =
    split_on (bytes_eq b.id id)
    (λ t. let off : is_on last earlier id ≡ false = ap (is_on last earlier) (sym (same_id b.id id t)) ∙ grown_new g in
    rw t (split_on (bytes_eq b.parent id)
    (λ s. clash (is_on last earlier b.parent) (grown_parent g) (ap (is_on last earlier) (same_id b.parent id s) ∙ off))
    (λ s. rw s (no_child_in last earlier id b.parent (grown_rest g) off))))
    (λ t. rw t (acyclic last earlier id (grown_rest g)))

-- the latest block is nobody's parent
not_latest : (last : List ℕ) (b : Header) (earlier : List Header) (parent id : List ℕ) (x : Header) → IsGrown last (b ∷ earlier)
    → child_in earlier parent id ≡ Some x → bytes_eq b.id parent ≡ false
not_latest last b earlier parent id x g h =
    split_on (bytes_eq b.id parent)
    (λ t. absurd (none-some x (sym (no_child_in last earlier parent id (grown_rest g) (ap (is_on last earlier) (sym (same_id b.id parent t)) ∙ grown_new g)) ∙ h)))
    (λ t. t)

-- where a block's line comes to a second one by a child of it, it goes on as that one's: they come to a third by the same child
pub through : (last : List ℕ) (blocks : List Header) (top middle id : List ℕ) (x c : Header) → IsGrown last blocks
    → child_in blocks middle id ≡ Some x → child_in blocks top middle ≡ Some c → child_in blocks top id ≡ Some c
through last [] top middle id x c g below above = absurd (none-some x below)
through last (b ∷ earlier) top middle id x c g below above =
    split_on (bytes_eq b.id id)
    (λ t. let low = rw t at below in
    rw t (split_on (bytes_eq b.parent middle)
    (λ s.
    let is : b.parent ≡ middle = same_id b.parent middle s in
    let other : bytes_eq b.id middle ≡ false =
    split_on (bytes_eq b.id middle)
    (λ u. clash (is_on last earlier b.parent) (grown_parent g) (ap (is_on last earlier) (is ∙ sym (same_id b.id middle u)) ∙ grown_new g))
    (λ u. u)
    in
    let high : child_in earlier top middle ≡ Some c = rw other at above in
    split_on (bytes_eq b.parent top)
    (λ u. absurd (none-some c (sym (acyclic last earlier top (grown_rest g)) ∙ ap (child_in earlier top) (sym (same_id b.parent top u) ∙ is) ∙ high)))
    (λ u. rw u (ap (child_in earlier top) is ∙ high)))
    (λ s.
    let lower : child_in earlier middle b.parent ≡ Some x = rw s at low in
    let high : child_in earlier top middle ≡ Some c = rw (not_latest last b earlier middle b.parent x g lower) at above in
    let rest : child_in earlier top b.parent ≡ Some c = through last earlier top middle b.parent x c (grown_rest g) lower high in
    split_on (bytes_eq b.parent top)
    (λ u. absurd (none-some c (sym (acyclic last earlier top (grown_rest g)) ∙ ap (child_in earlier top) (sym (same_id b.parent top u)) ∙ rest)))
    (λ u. rw u rest))))
    (λ t. let low = rw t at below in
    let high : child_in earlier top middle ≡ Some c = rw (not_latest last b earlier middle id x g low) at above in
    rw t (through last earlier top middle id x c (grown_rest g) low high))

-- ---- some child or the child

-- whether some block on the line is a child whose bits begin so
abbrev pub some_child_in : List Header → List ℕ → List Bool → List ℕ → Bool
some_child_in blocks parent front id = list_any (λ b. bytes_eq b.parent parent && starts_with beq (bits b.id) front) (line_in blocks id)

-- where no block on the line is a child, none is one whose bits begin so
no_some_child : (parent : List ℕ) (front : List Bool) (line : List Header) → find (λ b. bytes_eq b.parent parent) line ≡ None
    → list_any (λ b. bytes_eq b.parent parent && starts_with beq (bits b.id) front) line ≡ false
no_some_child parent front [] h = refl
no_some_child parent front (b ∷ line) h =
    split_on (bytes_eq b.parent parent)
    (λ t. let k = rw t at h in absurd (none-some b (sym k)))
    (λ t. let k = rw t at h in rw t (no_some_child parent front line k))

-- some child whose bits begin so is the child
pub one_child : (last : List ℕ) (blocks : List Header) (parent : List ℕ) (front : List Bool) (id : List ℕ) → IsGrown last blocks
    → some_child_in blocks parent front id ≡ begins_with front (child_in blocks parent id)
one_child last [] parent front id g = refl
one_child last (b ∷ earlier) parent front id g =
    split_on (bytes_eq b.id id)
    (λ t. rw t (split_on (bytes_eq b.parent parent)
    (λ s. rw s (last_one (starts_with beq (bits b.id) front) (no_some_child parent front (line_in earlier b.parent)
    (ap (child_in earlier parent) (same_id b.parent parent s) ∙ acyclic last earlier parent (grown_rest g)))))
    (λ s. rw s (one_child last earlier parent front b.parent (grown_rest g)))))
    (λ t. rw t (one_child last earlier parent front id (grown_rest g)))
  where
    last_one : (x : Bool) {y : Bool} → y ≡ false → (x || y) ≡ x
    last_one true h = refl
    last_one false h = h

-- on boards in order of issue
pub line_law : (board : Board) (parent : List ℕ) (front : List Bool) (id : List ℕ) → Reached board
    → has_child_on (blocks_of board.pending) parent front id ≡ is_below (blocks_of board.pending) parent front id
line_law board parent front id reached =
    one_child board.last (reverse (blocks_of board.pending)) parent front id (reached_sound board reached).grown

-- ---- lines through one block

-- the line of a block begins with it and goes on as its parent's
pub line_of : (last : List ℕ) (later : List Header) (b : Header) (earlier : List Header) → IsGrown last (later ++ b ∷ earlier)
    → line_in (later ++ b ∷ earlier) b.id ≡ b ∷ line_in (later ++ b ∷ earlier) b.parent
line_of last later b earlier g =
    let here : IsGrown last (b ∷ earlier) = grown_before last later (b ∷ earlier) g in
    let on : is_on last (b ∷ earlier) b.id ≡ true =
    or_right (bytes_eq last b.id) (has_block (b ∷ earlier) b.id) (or_left (bytes_eq b.id b.id) (has_block earlier b.id) (id_itself b.id))
    in
    let parent : is_on last earlier b.parent ≡ true = grown_parent here in
    let above : line_in (later ++ b ∷ earlier) b.parent ≡ line_in earlier b.parent =
    line_passes later (b ∷ earlier) b.parent (older last later (b ∷ earlier) b.parent g (on_more last (b ∷ []) earlier b.parent parent))
    ∙ line_passes (b ∷ []) earlier b.parent (older last (b ∷ []) earlier b.parent here parent)
    in
    line_passes later (b ∷ earlier) b.id (older last later (b ∷ earlier) b.id g on)
    ∙ rw (id_itself b.id) (ap (λ l. b ∷ l) (sym above))

-- two blocks with one identifier are one
pub same_block : (last : List ℕ) (blocks later more : List Header) (b c : Header) (earlier fewer : List Header) → IsGrown last blocks
    → blocks ≡ later ++ b ∷ earlier → blocks ≡ more ++ c ∷ fewer → b.id ≡ c.id → b ≡ c
same_block last blocks later more b c earlier fewer g at_b at_c same =
    let first = subst (λ l. line_in l b.id ≡ b ∷ line_in l b.parent) (sym at_b) (line_of last later b earlier (subst (IsGrown last) at_b g)) in
    let second = subst (λ l. line_in l c.id ≡ c ∷ line_in l c.parent) (sym at_c) (line_of last more c fewer (subst (IsGrown last) at_c g)) in
    let both : b ∷ line_in blocks b.parent ≡ c ∷ line_in blocks c.parent = sym first ∙ ap (line_in blocks) same ∙ second in
    cc
