-- Lemmas on which pending blocks an acceptance rejects: those whose parent is the last accepted block or is rejected, but not the child.
use Rattle.std.proofs.Common.{◌≡◌, ℕ, suc, ◌+◌, ◌<◌, ◌≤◌, Bool, true, false, not, ◌||◌, ◌&&◌, List, [], ◌∷◌, ◌++◌, length, get_or, take, drop, map, reverse, filter, cond, bytes_eq, refl, sym, ap, ◌∙◌, subst, arith, append_assoc, take-append-drop, length-append, drop_at, ◌-◌}
use Rattle.std.specs.List.{list_any}
use Rattle.std.proofs.lemmas.List.{map-append, take_rest, length-map}
use Rattle.std.proofs.lemmas.List.Elements.{filter_more, filter-append}
use Rattle.std.proofs.lemmas.Bool.{or_left, or_right}
use Rattle.snow_base.specs.declared.block.Header.{Header}
use Rattle.snow_base.specs.Model.Ancestry.{line_in, descends}
use Rattle.snow_board.specs.declared.board.Decision.{Decision}
use Rattle.snow_board.specs.Model.Conflict.{Pending}
use Rattle.snow_board.specs.Model.Board.{blocks_of}
use Rattle.snow_board.specs.Model.Poll.{rejects}
use Rattle.snow_board.specs.Model.Acceptance.{outsiders, has_decision, is_rejected}
use Rattle.snow_board.specs.Kept.Grown.{has_block, is_on, IsGrown}
use Rattle.snow_board.proofs.Cases.{split_on, same_id, id_itself}
use Rattle.snow_board.proofs.Grown.{grown_parent, grown_rest, grown_before, on_more, older, not_last, no_line, line_passes, reversed_at, has_block-reverse}
use Rattle.snow_board.proofs.Kept.{blocks-filter, has_filtered}

-- a block is told as rejected where it is among those that are
pub told_rejects : (pending : List Pending) (id : List ℕ) → has_decision (map rejects pending) id ≡ has_block (blocks_of pending) id
told_rejects [] id = refl
told_rejects (q ∷ pending) id = ap (λ t. bytes_eq q.block.id id || t) (told_rejects pending id)

-- among some pending blocks, those are told that a test of identifiers finds
pub told_kept : (f : List ℕ → Bool) (pending : List Pending) (id : List ℕ)
    → has_decision (map rejects (filter (λ q. f q.block.id) pending)) id ≡ (has_block (blocks_of pending) id && f id)
told_kept f pending id =
    told_rejects (filter (λ q. f q.block.id) pending) id
    ∙ ap (λ l. has_block l id) (blocks-filter (λ b. f b.id) pending)
    ∙ has_filtered f (blocks_of pending) id

-- the blocks among the first i that are rejected
abbrev pub rejected_before : List Pending → List ℕ → ℕ → List Pending
rejected_before pending child i = filter (λ q. not (descends (blocks_of pending) child q.block.id)) (take i pending)

-- a block descends from the child where it is the child, or its parent does
line_step : (last : List ℕ) (later earlier : List Header) (b : Header) (child : List ℕ) → IsGrown last (later ++ b ∷ earlier)
    → list_any (λ c. bytes_eq c.id child) (line_in (later ++ b ∷ earlier) b.id) ≡ (bytes_eq b.id child || list_any (λ c. bytes_eq c.id child) (line_in earlier b.parent))
line_step last later earlier b child g =
    let on : is_on last (b ∷ earlier) b.id ≡ true =
    or_right (bytes_eq last b.id) (has_block (b ∷ earlier) b.id) (or_left (bytes_eq b.id b.id) (has_block earlier b.id) (id_itself b.id))
    in
    ap (list_any (λ c. bytes_eq c.id child)) (line_passes later (b ∷ earlier) b.id (older last later (b ∷ earlier) b.id g on))
    ∙ rw (id_itself b.id) refl

-- the rule for one block
judged_in : (last : List ℕ) (later earlier : List Header) (b : Header) (child : List ℕ) (told : List Decision) → IsGrown last (later ++ b ∷ earlier)
    → has_decision told b.parent ≡ (has_block earlier b.parent && not (list_any (λ c. bytes_eq c.id child) (line_in (later ++ b ∷ earlier) b.parent)))
    → is_rejected last child told b ≡ not (list_any (λ c. bytes_eq c.id child) (line_in (later ++ b ∷ earlier) b.id))
judged_in last later earlier b child told g is =
    let here : IsGrown last (b ∷ earlier) = grown_before last later (b ∷ earlier) g in
    let passes : List Header → Bool = list_any (λ c. bytes_eq c.id child) in
    rw (line_step last later earlier b child g)
    (split_on (bytes_eq b.id child)
    (λ t. rw t refl)
    (λ t. rw t
    (split_on (bytes_eq last b.parent)
    (λ s.
    let none : has_block earlier b.parent ≡ false = ap (has_block earlier) (sym (same_id last b.parent s)) ∙ not_last last earlier (grown_rest here) in
    rw (s, no_line earlier b.parent none) refl)
    (λ s.
    let on : is_on last earlier b.parent ≡ true = grown_parent here in
    let there : has_block earlier b.parent ≡ true = rw s at on in
    let line : line_in (later ++ b ∷ earlier) b.parent ≡ line_in earlier b.parent =
    line_passes later (b ∷ earlier) b.parent (older last later (b ∷ earlier) b.parent g (on_more last (b ∷ []) earlier b.parent on))
    ∙ line_passes (b ∷ []) earlier b.parent (older last (b ∷ []) earlier b.parent here on)
    in
    rw s (is ∙ ap (λ t. t && not (passes (line_in (later ++ b ∷ earlier) b.parent))) there ∙ ap (λ l. not (passes l)) line)))))

-- the rule for the block at a place, after those before it
pub judged : (last child : List ℕ) (pending : List Pending) (i : ℕ) (d : Pending) → IsGrown last (reverse (blocks_of pending)) → i < length pending
    → is_rejected last child (map rejects (rejected_before pending child i)) (get_or pending i d).block
    ≡ not (descends (blocks_of pending) child (get_or pending i d).block.id)
judged last child pending i d g h =
    let later = reverse (blocks_of (drop (suc i) pending)) in
    let earlier = reverse (blocks_of (take i pending)) in
    let b = (get_or pending i d).block in
    let whole : reverse (blocks_of pending) ≡ later ++ b ∷ earlier = reversed_at pending i d h in
    let told = map rejects (rejected_before pending child i) in
    let found : List Header → List ℕ → Bool = λ blocks id. not (list_any (λ c. bytes_eq c.id child) (line_in blocks id)) in
    judged_in last later earlier b child told (subst (IsGrown last) whole g)
    (told_kept (found (reverse (blocks_of pending))) (take i pending) b.parent
    ∙ ap (λ t. t && found (reverse (blocks_of pending)) b.parent) (sym (has_block-reverse (blocks_of (take i pending)) b.parent))
    ∙ ap (λ l. has_block earlier b.parent && found l b.parent) whole)
    ∙ ap (λ l. found l b.id) (sym whole)

-- the rejections so far, and then that of the next block
pub rejects_more : (last child : List ℕ) (pending : List Pending) (i : ℕ) (d : Pending) → IsGrown last (reverse (blocks_of pending)) → i < length pending
    → map rejects (rejected_before pending child (i + 1))
    ≡ map rejects (rejected_before pending child i)
    ++ cond (is_rejected last child (map rejects (rejected_before pending child i)) (get_or pending i d).block) (rejects (get_or pending i d) ∷ []) []
rejects_more last child pending i d g h =
    let before = rejected_before pending child i in
    let entry = get_or pending i d in
    let gone : Bool = not (descends (blocks_of pending) child entry.block.id) in
    ap (map rejects) (filter_more (λ q. not (descends (blocks_of pending) child q.block.id)) pending i d h)
    ∙ map-append rejects before (cond gone (entry ∷ []) [])
    ∙ ap (λ l. map rejects before ++ l) (map_cond gone entry)
    ∙ ap (λ t. map rejects before ++ cond t (rejects entry ∷ []) []) (sym (judged last child pending i d g h))
  where
    map_cond : (t : Bool) (q : Pending) → map rejects (cond t (q ∷ []) []) ≡ cond t (rejects q ∷ []) []
    map_cond true q = refl
    map_cond false q = refl

-- there are no more rejections so far than in all
pub rejects_room : (child : List ℕ) (pending : List Pending) (i : ℕ) → length (rejected_before pending child i) ≤ length (outsiders pending child)
rejects_room child pending i =
    let p : Pending → Bool = λ q. not (descends (blocks_of pending) child q.block.id) in
    omega (
      arith,
      length-append (filter p (take i pending)) (filter p (drop i pending)),
      ap length (sym (filter-append p (take i pending) (drop i pending)) ∙ ap (filter p) (take-append-drop i pending)),
    )

-- ---- the loop

-- the decisions behind those that there were
pub told_since : (old told all slice : List Decision) (n : ℕ) → n ≡ length old → all ≡ old ++ told → slice ≡ all → take (length slice - n) (drop n slice) ≡ told
told_since old told all slice n long is same =
    take_rest slice n ∙ ap (drop n) (same ∙ is) ∙ drop_at old told n (sym long)

-- the decisions after the next block
pub told_next : (last child : List ℕ) (pending : List Pending) (i : ℕ) (q : Pending) (old all : List Decision) (told : List Decision)
    → IsGrown last (reverse (blocks_of pending)) → i < length pending → q ≡ get_or pending i q
    → all ≡ old ++ map rejects (rejected_before pending child i) → told ≡ map rejects (rejected_before pending child i)
    → all ++ cond (is_rejected last child told q.block) (rejects q ∷ []) [] ≡ old ++ map rejects (rejected_before pending child (i + 1))
told_next last child pending i q old all told g h item is same =
    let before = map rejects (rejected_before pending child i) in
    let added : List Decision → Pending → List Decision = λ l q. cond (is_rejected last child l q.block) (rejects q ∷ []) [] in
    ap (λ l. l ++ added told q) is
    ∙ append_assoc old before (added told q)
    ∙ ap (λ l. old ++ (before ++ l)) (ap (λ l. added l q) same ∙ ap (added before) item)
    ∙ ap (λ l. old ++ l) (sym (rejects_more last child pending i q g h))

-- there is room for one more rejection
pub told_room : (child : List ℕ) (pending : List Pending) (i : ℕ) (old all : List Decision) (d : Decision)
    → all ++ d ∷ [] ≡ old ++ map rejects (rejected_before pending child (i + 1)) → length all < length old + length (outsiders pending child)
told_room child pending i old all d is =
    omega (
      arith,
      ap length is,
      length-append all (d ∷ []),
      length-append old (map rejects (rejected_before pending child (i + 1))),
      length-map (rejected_before pending child (i + 1)) rejects,
      rejects_room child pending (i + 1),
    )
