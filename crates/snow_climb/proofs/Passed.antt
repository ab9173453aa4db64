-- Lemmas on votes that climb past the blocks, one after the other.
use Rattle.std.proofs.Common.{◌≡◌, ℕ, zero, suc, ◌+◌, ◌<◌, ◌≤◌, Bool, false, not, nat_lt, List, [], ◌∷◌, length, get_or, reverse, filter, sum_by, bytes_eq, All, Contains, refl, sym, ap, ◌∙◌, arith, if◌then◌else◌}
use Rattle.std.specs.Bool.{beq}
use Rattle.std.specs.List.{starts_with}
use Rattle.std.proofs.lemmas.Bool.{not-true}
use Rattle.std.proofs.lemmas.Grind.{common_steps}
use Rattle.std.proofs.lemmas.List.Sums.{sum_by-cons}
use Rattle.std.proofs.lemmas.List.Elements.{All-head, All-tail, All-filter, filter_passes, Contains-get_or, Contains-append_right}
use Rattle.snow_base.specs.declared.block.Header.{Header}
use Rattle.snow_base.specs.declared.block.Vote.{Vote}
use Rattle.snow_base.specs.Model.Identifier.{bits}
use Rattle.snow_base.specs.Model.Ancestry.{is_below}
use Rattle.snow_flake.specs.Model.Parameters.{Parameters}
use Rattle.snow_board.specs.declared.cursor.Cursor.{Cursor}
use Rattle.snow_board.specs.Kept.Cursors.{child_at, votes_at, votes_for as of_child}
use Rattle.snow_board.specs.Kept.Grown.{IsGrown}
use Rattle.snow_board.proofs.Cases.{split_on, clash, same_id, id_same, id_itself}
use Rattle.snow_tree.specs.Kept.Held.{children_of}
use Rattle.snow_climb.specs.Kept.Climbing.{reach, AreBelow, CameBy, is_for, votes_for, merged}
use Rattle.snow_climb.specs.Kept.Rising.{AreClimbing}
use Rattle.snow_climb.proofs.Reached.{not_below, reach_at, at_reach, below_at, parent_low}
use Rattle.snow_climb.proofs.Merged.{merged_sum, all_merged, total_merged}

-- before a place, or not
pub halves : {P : Type 0} (j top : ℕ) → (j < top → P) → (top ≤ j → P) → P
halves j top low high = split_on (nat_lt j top) (λ t. low (grind (arith, common_steps))) (λ t. high (grind (arith, common_steps)))

-- where no votes count, none are counted
none_for : (blocks : List Header) (parent : List ℕ) (front : List Bool) (cs : List Cursor) → All (λ c. is_for blocks parent front c ≡ false) cs → votes_for blocks cs parent front ≡ 0
none_for blocks parent front [] h = refl
none_for blocks parent front (c ∷ cs) h =
    let f : Cursor → ℕ = λ c. if is_for blocks parent front c then c.count else 0 in
    let own : f c ≡ 0 = rw (All-head (λ c. is_for blocks parent front c ≡ false) c cs h) refl in
    let rest = none_for blocks parent front cs (All-tail (λ c. is_for blocks parent front c ≡ false) c cs h) in
    omega (arith, sum_by-cons f c cs, own, rest)

-- votes that look for blocks up to a place are not for the children of the block there, if none looks for it
pub unsought : (last : List ℕ) (bs : List Header) (at : ℕ) (d : Header) (front : List Bool) (cs : List Cursor) → IsGrown last (reverse bs) → at < length bs → AreBelow bs at cs
    → votes_for bs cs (get_or bs at d).id front ≡ 0
unsought last bs at d front cs g h below =
    none_for bs (get_or bs at d).id front cs
    (λ k e l.
    let c = get_or cs k e in
    let b = get_or bs at d in
    let elsewhere : bytes_eq c.sought b.id ≡ false =
    split_on (bytes_eq c.sought b.id)
    (λ t. absurd (omega (arith, below k e l, reach_at last bs at d g h, ap (reach bs) (same_id c.sought b.id t))))
    (λ t. t)
    in
    rw elsewhere (not_below last bs at d c.sought front g h (below k e l)))

-- sums of what is the same are the same
pub sum_same : (f g : Cursor → ℕ) (cs : List Cursor) → All (λ c. f c ≡ g c) cs → sum_by f cs ≡ sum_by g cs
sum_same f g [] h = refl
sum_same f g (c ∷ cs) h =
    let rest = sum_same f g cs (All-tail (λ c. f c ≡ g c) c cs h) in
    let own = All-head (λ c. f c ≡ g c) c cs h in
    omega (arith, sum_by-cons f c cs, sum_by-cons g c cs, rest, own)

-- the votes that came to a block are those for its children
pub came_for : (last : List ℕ) (bs : List Header) (at : ℕ) (d : Header) (front : List Bool) (cs : List Cursor) → IsGrown last (reverse bs) → at < length bs → AreBelow bs (at + 1) cs
    → votes_at cs (get_or bs at d).id front ≡ votes_for bs cs (get_or bs at d).id front
came_for last bs at d front cs g h below =
    let b = get_or bs at d in
    sum_same (λ c. of_child (child_at b.id c) c.count front) (λ c. if is_for bs b.id front c then c.count else 0) cs
    (λ k e l.
    let c = get_or cs k e in
    split_on (bytes_eq c.sought b.id)
    (λ t. rw t (split_on (bytes_eq c.passed b.id) (λ s. rw s refl) (λ s. rw s refl)))
    (λ t.
    let low : reach bs c.sought ≤ at =
    halves at (reach bs c.sought)
    (λ u. let is : reach bs c.sought ≡ at + 1 = omega (arith, u, below k e l) in
    clash (bytes_eq c.sought b.id) (id_same c.sought b.id (sym (same_id b.id c.sought (at_reach bs c.sought at d is)))) t)
    (λ u. u)
    in
    let none = not_below last bs at d c.sought front g h low in
    rw (t, none) refl))

-- votes that look for another block
sought_off : (bs : List Header) (q : List ℕ) (front : List Bool) (c : Cursor) → bytes_eq c.sought q ≡ false → is_for bs q front c ≡ is_below bs q front c.sought
sought_off bs q front c t = rw t refl

-- votes that passed a block
on_way : (bs : List Header) (b : Header) (q : List ℕ) (front : List Bool) (n : ℕ) → bytes_eq b.id q ≡ false
    → is_for bs q front (record { sought = b.parent; passed = b.id; count = n }) ≡ (if bytes_eq b.parent q then starts_with beq (bits b.id) front else is_below bs q front b.parent)
on_way bs b q front n other = split_on (bytes_eq b.parent q) (λ t. rw (t, other) refl) (λ t. rw t refl)

-- a block is among the children of its parent
pub listed : (bs : List Header) (at : ℕ) (d : Header) → at < length bs → Contains (children_of bs (get_or bs at d).parent) (get_or bs at d).id
listed [] at d h = absurd (omega (arith, h))
listed (b ∷ bs) zero d h = rw (id_itself b.parent) (Contains-get_or (b.id ∷ children_of bs b.parent) 0 b.id (omega arith))
listed (b ∷ bs) (suc at) d h =
    let x = get_or bs at d in
    let rest = listed bs at d (omega (arith, h)) in
    split_on (bytes_eq b.parent x.parent)
    (λ t. rw t (Contains-append_right (b.id ∷ []) (children_of bs x.parent) x.id rest))
    (λ t. rw t rest)

-- votes that look for a block go on to its parent
pub climbed : (p : Parameters) (votes : List Vote) (last : List ℕ) (bs : List Header) (at : ℕ) (d : Header) (cs : List Cursor) → IsGrown last (reverse bs) → at < length bs
    → AreClimbing p votes bs (at + 1) cs → AreClimbing p votes bs at (merged (get_or bs at d) cs)
climbed p votes last bs at d cs g h climbing =
    let b = get_or bs at d in
    let stays : Cursor → Bool = λ c. not (bytes_eq c.sought b.id) in
    let here : reach bs b.id ≡ at + 1 = reach_at last bs at d g h in
    let low_parent : reach bs b.parent ≤ at = parent_low last bs at d g h in
    let goes : List ℕ → List Bool → Bool = λ q front. if bytes_eq b.parent q then starts_with beq (bits b.id) front else is_below bs q front b.parent in
    record {
      below = all_merged (λ c. reach bs c.sought ≤ at) b cs
          (λ k e l.
          let c = get_or (filter stays cs) k e in
          let up = All-filter stays (λ c. reach bs c.sought ≤ at + 1) cs climbing.below k e l in
          halves at (reach bs c.sought)
          (λ u. let is : reach bs c.sought ≡ at + 1 = omega (arith, u, up) in
          clash (bytes_eq c.sought b.id) (id_same c.sought b.id (sym (same_id b.id c.sought (at_reach bs c.sought at d is)))) (not-true (bytes_eq c.sought b.id) (filter_passes stays cs k e l)))
          (λ u. u))
          (λ some. low_parent);
      counted = λ q front low.
          let other : bytes_eq b.id q ≡ false = split_on (bytes_eq b.id q) (λ t. absurd (omega (arith, here, low, ap (reach bs) (same_id b.id q t)))) (λ t. t) in
          merged_sum (λ c. if is_for bs q front c then c.count else 0) b (goes q front) cs
          (λ c t.
          let elsewhere : bytes_eq c.sought q ≡ false = ap (λ x. bytes_eq x q) (same_id c.sought b.id t) ∙ other in
          let is : is_for bs q front c ≡ goes q front = sought_off bs q front c elsewhere ∙ ap (is_below bs q front) (same_id c.sought b.id t) ∙ below_at last bs at d q front g h in
          ap (λ u. if u then c.count else 0) is)
          (λ n. ap (λ u. if u then n else 0) (on_way bs b q front n other))
          ∙ climbing.counted q front (omega (arith, low));
      came = all_merged (CameBy bs) b cs (All-filter stays (CameBy bs) cs climbing.came) (λ some. listed bs at d h);
      counts = all_merged (λ c. 0 < c.count) b cs (All-filter stays (λ c. 0 < c.count) cs climbing.counts) (λ some. some);
      total = omega (arith, total_merged b cs, climbing.total);
    }
