-- Lemmas on which blocks are below which, by their places in order of issue.
use Rattle.std.proofs.Common.{◌≡◌, ℕ, zero, suc, ◌+◌, ◌<◌, ◌≤◌, Bool, cond, nat_lt, true, false, not, List, [], ◌∷◌, ◌++◌, length, get_or, take, drop, reverse, find, bytes_eq, Option, Some, None, lt_of_not-le, refl, sym, ap, subst, ◌∙◌, arith, if◌then◌else◌}
use Rattle.std.specs.Bool.{beq}
use Rattle.std.specs.List.{position, prefix_len, starts_with}
use Rattle.std.proofs.lemmas.List.{length-map}
use Rattle.snow_tree.specs.Kept.Held.{Entry, blocks_in, place_in}
use Rattle.std.specs.Option.{option_map}
use Rattle.std.proofs.lemmas.Bool.{or_parts, or_left, or_right}
use Rattle.snow_base.specs.declared.block.Header.{Header}
use Rattle.snow_base.specs.Model.Identifier.{bits}
use Rattle.snow_base.specs.Model.Ancestry.{line_in, begins_with, is_below}
use Rattle.snow_board.specs.Kept.Grown.{has_block, is_on, IsGrown}
use Rattle.snow_board.proofs.Cases.{split_on, clash, same_id, id_same, id_itself}
use Rattle.snow_board.proofs.Kept.{has_own}
use Rattle.snow_board.proofs.Grown.{grown_new, grown_rest, grown_before, older, childless, no_child_on, no_line, line_passes, has_block-reverse}
use Rattle.snow_tree.proofs.Placed.{position_cons}
use Rattle.snow_tree.proofs.Descending.{around, line_at, parent_before, last_off}
use Rattle.snow_climb.specs.Kept.Climbing.{above, reach}

-- the reach of a block with one block more in front
reach_cons : (b : Header) (bs : List Header) (id : List ℕ) → reach (b ∷ bs) id ≡ (if bytes_eq b.id id then 1 else above (option_map suc (position (λ b. bytes_eq b.id id) bs)))
reach_cons b bs id = ap above (position_cons (λ b. bytes_eq b.id id) b bs) ∙ split_on (bytes_eq b.id id) (λ t. rw t refl) (λ t. rw t refl)

-- one more in front is one more
above_suc : (o : Option ℕ) (n : ℕ) → above (option_map suc o) ≤ suc n → above o ≤ n
above_suc None n h = omega arith
above_suc (Some i) n h = omega (arith, h)

-- what reaches no further than a place is before it, if it is there
pub near : (bs : List Header) (id : List ℕ) (at : ℕ) → reach bs id ≤ at → has_block bs id ≡ true → has_block (take at bs) id ≡ true
near [] id at h on = absurd cc
near (b ∷ bs) id zero h on =
    split_on (bytes_eq b.id id)
    (λ t. let r : reach (b ∷ bs) id ≡ 1 = reach_cons b bs id ∙ rw t refl in absurd (omega (arith, h, r)))
    (λ t. let k = rw t at on in
    let r : reach (b ∷ bs) id ≡ above (option_map suc (position (λ b. bytes_eq b.id id) bs)) = reach_cons b bs id ∙ rw t refl in
    absurd (far (position (λ b. bytes_eq b.id id) bs) (there bs id k) (omega (arith, h, r))))
  where
    far : (o : Option ℕ) → 0 < above o → above (option_map suc o) ≤ 0 → ⊥
    far None l k = omega (arith, l)
    far (Some i) l k = omega (arith, k)

    there : (xs : List Header) (id : List ℕ) → has_block xs id ≡ true → 0 < reach xs id
    there [] id on = absurd cc
    there (x ∷ xs) id on =
        split_on (bytes_eq x.id id)
        (λ t. let r : reach (x ∷ xs) id ≡ 1 = reach_cons x xs id ∙ rw t refl in omega (arith, r))
        (λ t. let k = rw t at on in
        let r : reach (x ∷ xs) id ≡ above (option_map suc (position (λ b. bytes_eq b.id id) xs)) = reach_cons x xs id ∙ rw t refl in
        omega (arith, r, more (position (λ b. bytes_eq b.id id) xs) (there xs id k)))
      where
        more : (o : Option ℕ) → 0 < above o → 0 < above (option_map suc o)
        more None l = absurd (omega (arith, l))
        more (Some i) l = omega arith
near (b ∷ bs) id (suc at) h on =
    split_on (bytes_eq b.id id)
    (λ t. or_left (bytes_eq b.id id) (has_block (take at bs) id) t)
    (λ t. let k = rw t at on in
    let r : reach (b ∷ bs) id ≡ above (option_map suc (position (λ b. bytes_eq b.id id) bs)) = reach_cons b bs id ∙ rw t refl in
    or_right (bytes_eq b.id id) (has_block (take at bs) id) (near bs id at (above_suc (position (λ b. bytes_eq b.id id) bs) at (omega (arith, h, r))) k))

-- what reaches no further than a block's place is not below the block
pub not_below : (last : List ℕ) (bs : List Header) (at : ℕ) (d : Header) (id : List ℕ) (front : List Bool) → IsGrown last (reverse bs) → at < length bs → reach bs id ≤ at
    → is_below bs (get_or bs at d).id front id ≡ false
not_below last bs at d id front g h low =
    let b = get_or bs at d in
    let later = reverse (drop (suc at) bs) in
    let earlier = reverse (take at bs) in
    let whole = around bs at d h in
    let grown : IsGrown last (later ++ b ∷ earlier) = subst (IsGrown last) whole g in
    let here : IsGrown last (b ∷ earlier) = grown_before last later (b ∷ earlier) grown in
    let none : find (λ c. bytes_eq c.parent b.id) (line_in (reverse bs) id) ≡ None =
    split_on (has_block bs id)
    (λ t.
    let on : is_on last earlier id ≡ true = or_right (bytes_eq last id) (has_block earlier id) (has_block-reverse (take at bs) id ∙ near bs id at low t) in
    let first : line_in (b ∷ earlier) id ≡ line_in earlier id = line_passes (b ∷ []) earlier id (older last (b ∷ []) earlier id here on) in
    let on_more : is_on last (b ∷ earlier) id ≡ true =
    or_right (bytes_eq last id) (has_block (b ∷ earlier) id) (or_right (bytes_eq b.id id) (has_block earlier id) (has_block-reverse (take at bs) id ∙ near bs id at low t))
    in
    let line : line_in (reverse bs) id ≡ line_in earlier id =
    ap (λ l. line_in l id) whole ∙ line_passes later (b ∷ earlier) id (older last later (b ∷ earlier) id grown on_more) ∙ first
    in
    ap (find (λ c. bytes_eq c.parent b.id)) line ∙ no_child_on earlier b.id id (childless last earlier b.id (grown_rest here) (grown_new here)))
    (λ t. ap (find (λ c. bytes_eq c.parent b.id)) (no_line (reverse bs) id (has_block-reverse bs id ∙ t)))
    in
    ap (begins_with front) none

-- what isn't there is below nothing
pub off_below : (bs : List Header) (parent id : List ℕ) (front : List Bool) → has_block bs id ≡ false → is_below bs parent front id ≡ false
off_below bs parent id front off =
    ap (λ l. begins_with front (find (λ b. bytes_eq b.parent parent) l)) (no_line (reverse bs) id (has_block-reverse bs id ∙ off))

-- a block is below a parent where it is a child whose bits begin so, or its own parent is below
pub below_at : (last : List ℕ) (bs : List Header) (at : ℕ) (d : Header) (parent : List ℕ) (front : List Bool) → IsGrown last (reverse bs) → at < length bs
    → is_below bs parent front (get_or bs at d).id
    ≡ (if bytes_eq (get_or bs at d).parent parent then starts_with beq (bits (get_or bs at d).id) front else is_below bs parent front (get_or bs at d).parent)
below_at last bs at d parent front g h =
    let b = get_or bs at d in
    ap (λ l. begins_with front (find (λ c. bytes_eq c.parent parent) l)) (line_at last bs at d g h)
    ∙ split_on (bytes_eq b.parent parent) (λ t. rw t refl) (λ t. rw t refl)

-- a reach is within the blocks
pub reach_within : (bs : List Header) (id : List ℕ) → reach bs id ≤ length bs
reach_within [] id = omega arith
reach_within (b ∷ bs) id =
    split_on (bytes_eq b.id id)
    (λ t. let r : reach (b ∷ bs) id ≡ 1 = reach_cons b bs id ∙ rw t refl in omega (arith, r))
    (λ t. let r : reach (b ∷ bs) id ≡ above (option_map suc (position (λ b. bytes_eq b.id id) bs)) = reach_cons b bs id ∙ rw t refl in
    let low = suc_above (position (λ b. bytes_eq b.id id) bs) in
    omega (arith, r, low, reach_within bs id))
  where
    suc_above : (o : Option ℕ) → above (option_map suc o) ≤ suc (above o)
    suc_above None = omega arith
    suc_above (Some i) = omega arith

-- what stands before a place reaches no further
pub near_back : (bs : List Header) (id : List ℕ) (at : ℕ) → has_block (take at bs) id ≡ true → reach bs id ≤ at
near_back bs id zero h = absurd cc
near_back [] id (suc at) h = absurd cc
near_back (b ∷ bs) id (suc at) h =
    split_on (bytes_eq b.id id)
    (λ t. let r : reach (b ∷ bs) id ≡ 1 = reach_cons b bs id ∙ rw t refl in omega (arith, r))
    (λ t. let k = rw t at h in
    let r : reach (b ∷ bs) id ≡ above (option_map suc (position (λ b. bytes_eq b.id id) bs)) = reach_cons b bs id ∙ rw t refl in
    omega (arith, r, suc_above (position (λ b. bytes_eq b.id id) bs), near_back bs id at k))
  where
    suc_above : (o : Option ℕ) → above (option_map suc o) ≤ suc (above o)
    suc_above None = omega arith
    suc_above (Some i) = omega arith

-- what isn't there reaches nothing
pub off_reach : (bs : List Header) (id : List ℕ) → has_block bs id ≡ false → reach bs id ≡ 0
off_reach [] id h = refl
off_reach (b ∷ bs) id h =
    let parts = or_parts (bytes_eq b.id id) (has_block bs id) h in
    reach_cons b bs id ∙ rw parts.0 (none (position (λ b. bytes_eq b.id id) bs) (off_reach bs id parts.1))
  where
    none : (o : Option ℕ) → above o ≡ 0 → above (option_map suc o) ≡ 0
    none None e = refl
    none (Some i) e = absurd (omega (arith, e))

-- the block at a place reaches no further than right above it
up_to : (bs : List Header) (at : ℕ) (d : Header) → at < length bs → reach bs (get_or bs at d).id ≤ at + 1
up_to [] at d h = absurd (omega (arith, h))
up_to (b ∷ bs) zero d h = let r : reach (b ∷ bs) b.id ≡ 1 = reach_cons b bs b.id ∙ rw (id_itself b.id) refl in omega (arith, r)
up_to (b ∷ bs) (suc at) d h =
    let id = (get_or bs at d).id in
    split_on (bytes_eq b.id id)
    (λ t. let r : reach (b ∷ bs) id ≡ 1 = reach_cons b bs id ∙ rw t refl in omega (arith, r))
    (λ t. let r : reach (b ∷ bs) id ≡ above (option_map suc (position (λ b. bytes_eq b.id id) bs)) = reach_cons b bs id ∙ rw t refl in
    omega (arith, r, suc_above (position (λ b. bytes_eq b.id id) bs), up_to bs at d (omega (arith, h))))
  where
    suc_above : (o : Option ℕ) → above (option_map suc o) ≤ suc (above o)
    suc_above None = omega arith
    suc_above (Some i) = omega arith

-- and just that far
pub reach_at : (last : List ℕ) (bs : List Header) (at : ℕ) (d : Header) → IsGrown last (reverse bs) → at < length bs → reach bs (get_or bs at d).id ≡ at + 1
reach_at last bs at d g h =
    let b = get_or bs at d in
    let earlier = reverse (take at bs) in
    let here : IsGrown last (b ∷ earlier) = grown_before last (reverse (drop (suc at) bs)) (b ∷ earlier) (subst (IsGrown last) (around bs at d h) g) in
    let off : has_block (take at bs) b.id ≡ false = sym (has_block-reverse (take at bs) b.id) ∙ (or_parts (bytes_eq last b.id) (has_block earlier b.id) (grown_new here)).1 in
    let on : has_block bs b.id ≡ true = has_own bs at d h in
    let not_less : at < reach bs b.id = by_cases (reach bs b.id) at (λ low. clash (has_block (take at bs) b.id) (near bs b.id at low on) off) in
    omega (arith, not_less, up_to bs at d h)
  where
    by_cases : (n m : ℕ) → (n ≤ m → ⊥) → m < n
    by_cases n m never = lt_of_not-le never

-- the parent of a block stands before it, or isn't there
pub parent_low : (last : List ℕ) (bs : List Header) (at : ℕ) (d : Header) → IsGrown last (reverse bs) → at < length bs → reach bs (get_or bs at d).parent ≤ at
parent_low last bs at d g h =
    let b = get_or bs at d in
    split_on (bytes_eq last b.parent)
    (λ t. let off : reach bs b.parent ≡ 0 = ap (reach bs) (sym (same_id last b.parent t)) ∙ off_reach bs last (last_off last bs g) in omega (arith, off))
    (λ t. near_back bs b.parent at (parent_before last bs at d g h t))

-- no block is its own parent
pub not_own : (last : List ℕ) (bs : List Header) (at : ℕ) (d : Header) → IsGrown last (reverse bs) → at < length bs → bytes_eq (get_or bs at d).id (get_or bs at d).parent ≡ false
not_own last bs at d g h =
    let b = get_or bs at d in
    split_on (bytes_eq b.id b.parent)
    (λ t. absurd (omega (arith, reach_at last bs at d g h, parent_low last bs at d g h, ap (reach bs) (same_id b.id b.parent t))))
    (λ t. t)

-- what is among the first is among all
had : (bs : List Header) (n : ℕ) (id : List ℕ) → has_block (take n bs) id ≡ true → has_block bs id ≡ true
had bs zero id h = absurd cc
had [] (suc n) id h = absurd cc
had (b ∷ bs) (suc n) id h =
    split_on (bytes_eq b.id id)
    (λ t. or_left (bytes_eq b.id id) (has_block bs id) t)
    (λ t. let k = rw t at h in or_right (bytes_eq b.id id) (has_block bs id) (had bs n id k))

-- what reaches nothing isn't there
pub reaches_none : (bs : List Header) (id : List ℕ) → reach bs id ≤ 0 → has_block bs id ≡ false
reaches_none bs id low = split_on (has_block bs id) (λ t. absurd (let k = near bs id 0 low t in cc)) (λ t. t)

-- a parent that isn't there is the last accepted block
pub parent_is_last : (last : List ℕ) (bs : List Header) (at : ℕ) (d : Header) → IsGrown last (reverse bs) → at < length bs → reach bs (get_or bs at d).parent ≤ 0
    → bytes_eq (get_or bs at d).parent last ≡ true
parent_is_last last bs at d g h low =
    let id = (get_or bs at d).parent in
    split_on (bytes_eq last id)
    (λ t. id_same id last (sym (same_id last id t)))
    (λ t. clash (has_block bs id) (had bs at id (parent_before last bs at d g h t)) (reaches_none bs id low))

-- what reaches right above a place is the block there
pub at_reach : (bs : List Header) (id : List ℕ) (at : ℕ) (d : Header) → reach bs id ≡ at + 1 → bytes_eq (get_or bs at d).id id ≡ true
at_reach [] id at d h = absurd (omega (arith, h))
at_reach (b ∷ bs) id zero d h =
    split_on (bytes_eq b.id id) (λ t. t)
    (λ t. let r : reach (b ∷ bs) id ≡ above (option_map suc (position (λ b. bytes_eq b.id id) bs)) = reach_cons b bs id ∙ rw t refl in
    absurd (one (position (λ b. bytes_eq b.id id) bs) (sym r ∙ h)))
  where
    one : (o : Option ℕ) → above (option_map suc o) ≡ 0 + 1 → ⊥
    one None e = omega (arith, e)
    one (Some i) e = omega (arith, e)
at_reach (b ∷ bs) id (suc at) d h =
    split_on (bytes_eq b.id id)
    (λ t. let r : reach (b ∷ bs) id ≡ 1 = reach_cons b bs id ∙ rw t refl in absurd (omega (arith, r, h)))
    (λ t. let r : reach (b ∷ bs) id ≡ above (option_map suc (position (λ b. bytes_eq b.id id) bs)) = reach_cons b bs id ∙ rw t refl in
    at_reach bs id at d (less (position (λ b. bytes_eq b.id id) bs) at (sym r ∙ h)))
  where
    less : (o : Option ℕ) (n : ℕ) → above (option_map suc o) ≡ suc n + 1 → above o ≡ n + 1
    less None n e = absurd (omega (arith, e))
    less (Some i) n e = omega (arith, e)

-- a reach by the place of an entry
pub reach_seen : {T : Type 0} (pending : List (Entry T)) (id : List ℕ) → above (place_in pending id) ≡ reach (blocks_in pending) id
reach_seen pending id = λ j. above (cond (nat_lt (lens pending j) (sym (length-map pending (λ e. e.block)) j)) (Some (lens pending j)) None)
  where
    lens : {T : Type 0} (xs : List (Entry T)) → prefix_len (λ e. not (bytes_eq e.block.id id)) xs ≡ prefix_len (λ b. not (bytes_eq b.id id)) (blocks_in xs)
    lens [] = refl
    lens (x ∷ xs) =
        split_on (bytes_eq x.block.id id)
        (λ t. rw t refl)
        (λ t. rw t (ap (λ n. 1 + n) (lens xs)))
