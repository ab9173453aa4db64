-- Lemmas on votes that climb, with the places of the blocks for which they look.
use Rattle.std.proofs.Common.{◌≡◌, ℕ, zero, suc, ◌+◌, ◌<◌, ◌≤◌, Bool, true, false, not, List, [], ◌∷◌, ◌++◌, length, get_or, take, map, filter, slice_get, nat_lt, bytes_eq, Option, Some, None, IfSome, All, Contains, IsPermutation, refl, sym, ap, subst, ◌∙◌, arith, if◌then◌else◌, append-nil, length-append, reverse}
use Rattle.std.specs.Option.{option_map}
use Rattle.std.proofs.lemmas.List.{map-append, length-map, get_or-map}
use Rattle.std.proofs.lemmas.Grind.{common_steps}
use Rattle.std.proofs.lemmas.List.Sums.{sum_by-append, sum_by-cons, sum_by_more}
use Rattle.std.proofs.lemmas.List.Sorted.{IsPermutation-append_right, IsPermutation-filter_both, IsPermutation-sym, IsPermutation-trans, IsPermutation-to_front, IsPermutation-map, All-permutation, length_permutation, sum_by-IsPermutation}
use Rattle.std.proofs.lemmas.List.Elements.{All-cons, All-nil, All-filter, All-head, All-tail, All-map, filter_passes}
use Rattle.std.proofs.lemmas.Option.{none-some, slice_get-map, slice_get-get_or}
use Rattle.snow_base.specs.declared.block.Header.{Header}
use Rattle.snow_board.specs.declared.cursor.Cursor.{Cursor}
use Rattle.snow_board.specs.Kept.Cursors.{child_at, cursor_total, votes_at, votes_for as of_child}
use Rattle.snow_board.specs.Kept.Grown.{IsGrown}
use Rattle.snow_tree.specs.Kept.Held.{Entry, blocks_in, children_of, place_in}
use Rattle.snow_board.proofs.Cases.{split_on, same_id, id_same}
use Rattle.snow_climb.specs.declared.climber.Climber.{Climber}
use Rattle.snow_climb.specs.Kept.Climbing.{above, reach, parent_in, id_in, cursor_of, cursors_of, climber_total, passing, count_at, merged, ArePlaced, AreBelow, CameBy, HasCome}
use Rattle.snow_climb.specs.Kept.Ladder.{under, up_from}
use Rattle.snow_climb.proofs.Merged.{none_came, joined_at}
use Rattle.snow_climb.proofs.Reached.{reach_within, reach_seen, at_reach, not_own, parent_is_last}

-- a sum over their counts is one over their votes
pub same_total : (bs : List Header) (cs : List Climber) → cursor_total (cursors_of bs cs) ≡ climber_total cs
same_total bs [] = refl
same_total bs (c ∷ cs) =
    omega (arith, sum_by-cons (λ (c : Climber). c.count) c cs, sum_by-cons (λ (c : Cursor). c.count) (cursor_of bs c) (cursors_of bs cs), same_total bs cs)

-- what is so of all that are made from some
pub all_back : {X Y : Type 0} (P : X → Type 0) (f : Y → X) (ys : List Y) → All P (map f ys) → All (λ y. P (f y)) ys
all_back P f [] all = All-nil (λ y. P (f y))
all_back P f (y ∷ ys) all = All-cons (λ y. P (f y)) y ys (All-head P (f y) (map f ys) all) (all_back P f ys (All-tail P (f y) (map f ys) all))

-- the votes at a place
pub item_at : (bs : List Header) (cs : List Climber) (i : ℕ) (x : Climber) → i < length cs → x ≡ get_or cs i x
    → (i < length (cursors_of bs cs)) × (cursor_of bs x ≡ get_or (cursors_of bs cs) i (cursor_of bs x))
item_at bs cs i x h is = (
  omega (arith, h, length-map cs (cursor_of bs)),
  ap (cursor_of bs) is ∙ sym (get_or-map (cursor_of bs) cs i x (cursor_of bs x) h),
)

-- one more
pub more_total : (cs : List Climber) (i : ℕ) (x : Climber) → i < length cs → x ≡ get_or cs i x → climber_total (take (i + 1) cs) ≡ climber_total (take i cs) + x.count
more_total cs i x h is = sum_by_more (λ c. c.count) cs i x h ∙ ap (λ (c : Climber). climber_total (take i cs) + c.count) (sym is)

module _ {T : Type 0} where
  -- the child by which they came
  pub child_seen : (pending : List (Entry T)) (c : Climber) (child : List ℕ) → option_map (λ e. e.block.id) (slice_get pending c.passed) ≡ Some child → (cursor_of (blocks_in pending) c).passed ≡ child
  child_seen pending c child h = ap id_in (slice_get-map (λ e. e.block) pending c.passed) ∙ seen (slice_get pending c.passed) h
    where
      seen : (o : Option (Entry T)) → option_map (λ e. e.block.id) o ≡ Some child → id_in (option_map (λ e. e.block) o) ≡ child
      seen None h = absurd (none-some child h)
      seen (Some e) h = cc

  -- there is one
  pub child_there : (pending : List (Entry T)) (at : ℕ) → at < length pending → option_map (λ e. e.block.id) (slice_get pending at) ≡ None → ⊥
  child_there [] at h none = omega (arith, h)
  child_there (e ∷ pending) zero h none = none-some e.block.id (sym none)
  child_there (e ∷ pending) (suc at) h none = child_there pending at (omega (arith, h)) none

-- ---- votes that came by one child alone

-- all look below the highest
pub below_places : (bs : List Header) (top : ℕ) (cs : List Climber) → ArePlaced bs cs → All (λ c. c.place ≤ top) cs → AreBelow bs top (cursors_of bs cs)
below_places bs top cs placed all =
    All-map (λ c. reach bs c.sought ≤ top) (cursor_of bs) cs (λ k d h. subst (λ n. n ≤ top) (placed k d h).1 (all k d h))

-- which is within the blocks
pub within_places : (bs : List Header) (cs : List Climber) → ArePlaced bs cs → All (λ c. c.place ≤ length bs) cs
within_places bs cs placed = λ k d h. subst (λ n. n ≤ length bs) (sym (placed k d h).1) (reach_within bs (parent_in (slice_get bs (get_or cs k d).passed)))

-- ---- those that came to a block

-- votes that look for the parent of the block that they passed came to it by a child
pub has_come : (last : List ℕ) (bs : List Header) (d : Header) (id : List ℕ) (c : Climber) → IsGrown last (reverse bs) → c.passed < length bs
    → bytes_eq (cursor_of bs c).sought id ≡ true → CameBy bs (cursor_of bs c) → HasCome bs id (cursor_of bs c)
has_come last bs d id c g h at came =
    let seen = slice_get-get_or bs c.passed d h in
    let same : (cursor_of bs c).sought ≡ id = same_id (cursor_of bs c).sought id at in (
      at,
      ap (λ x. bytes_eq (id_in (slice_get bs c.passed)) x) (sym same) ∙ (λ i. bytes_eq (id_in (seen i)) (parent_in (seen i))) ∙ not_own last bs c.passed d g h,
      subst (λ x. Contains (children_of bs x) (cursor_of bs c).passed) same came,
    )

-- those that look behind the place below a block look for the block
pub have_come : (last : List ℕ) (bs : List Header) (at : ℕ) (d : Header) (cs : List Climber) → IsGrown last (reverse bs) → AreBelow bs (at + 1) (cursors_of bs cs) → All (CameBy bs) (cursors_of bs cs)
    → ArePlaced bs cs → All (λ c. at + 1 ≤ c.place) cs → All (HasCome bs (get_or bs at d).id) (cursors_of bs cs)
have_come last bs at d cs g below came placed high =
    All-map (HasCome bs (get_or bs at d).id) (cursor_of bs) cs
    (λ k e h.
    let c = get_or cs k e in
    let own = placed k e h in
    let low = all_back (λ c. reach bs c.sought ≤ at + 1) (cursor_of bs) cs below k e h in
    let is : reach bs (cursor_of bs c).sought ≡ at + 1 = omega (arith, own.1, low, high k e h) in
    let id = (get_or bs at d).id in
    let same : bytes_eq (cursor_of bs c).sought id ≡ true = id_same (cursor_of bs c).sought id (sym (same_id id (cursor_of bs c).sought (at_reach bs (cursor_of bs c).sought at d is))) in
    has_come last bs d id c g own.0 same (all_back (CameBy bs) (cursor_of bs) cs came k e h))

-- those that look for no pending block look for the last accepted one
have_come_last : (last : List ℕ) (bs : List Header) (d : Header) (cs : List Climber) → IsGrown last (reverse bs) → AreBelow bs 0 (cursors_of bs cs) → All (CameBy bs) (cursors_of bs cs) → ArePlaced bs cs
    → All (HasCome bs last) (cursors_of bs cs)
have_come_last last bs d cs g below came placed =
    All-map (HasCome bs last) (cursor_of bs) cs
    (λ k e h.
    let c = get_or cs k e in
    let inside = (placed k e h).0 in
    let seen = slice_get-get_or bs c.passed d inside in
    let low = all_back (λ c. reach bs c.sought ≤ 0) (cursor_of bs) cs below k e h in
    let at : bytes_eq (cursor_of bs c).sought last ≡ true =
    ap (λ o. bytes_eq (parent_in o) last) seen ∙ parent_is_last last bs c.passed d g inside (subst (λ o. reach bs (parent_in o) ≤ 0) seen low)
    in
    has_come last bs d last c g inside at (all_back (CameBy bs) (cursor_of bs) cs came k e h))

-- those that look no later than below a block look for others
look_lower : (bs : List Header) (b : Header) (at : ℕ) (cs : List Climber) → reach bs b.id ≡ at + 1 → ArePlaced bs cs → All (λ c. c.place ≤ at) cs
    → All (λ c. bytes_eq c.sought b.id ≡ false) (cursors_of bs cs)
look_lower bs b at cs here placed low =
    All-map (λ c. bytes_eq c.sought b.id ≡ false) (cursor_of bs) cs
    (λ k e h.
    let c = get_or cs k e in
    split_on (bytes_eq (cursor_of bs c).sought b.id)
    (λ t. absurd (omega (arith, here, (placed k e h).1, low k e h, ap (reach bs) (same_id (cursor_of bs c).sought b.id t))))
    (λ t. t))

-- ---- a group that was taken off a ladder, and those that stay on it

-- none looks behind the highest place for which they look
pub highest_place : (bs : List Header) (top : ℕ) (cs : List Climber) → ArePlaced bs cs → AreBelow bs top (cursors_of bs cs) → All (λ c. c.place ≤ top) cs
highest_place bs top cs placed below = λ k d h. omega (arith, (placed k d h).1, all_back (λ c. reach bs c.sought ≤ top) (cursor_of bs) cs below k d h)

-- what is so of all is so of the group
pub of_group : (P : Climber → Type 0) (rung : ℕ) (cs came : List Climber) → IsPermutation (up_from rung cs) came → All P cs → All P came
of_group P rung cs came same all = All-permutation P (up_from rung cs) came same (All-filter (λ c. not (nat_lt c.place rung)) P cs all)

-- and of those that stay
pub of_rest : (P : Climber → Type 0) (rung : ℕ) (cs : List Climber) → All P cs → All P (under rung cs)
of_rest P rung cs all = All-filter (λ c. nat_lt c.place rung) P cs all

-- the group looks high
group_high : (rung : ℕ) (cs came : List Climber) → IsPermutation (up_from rung cs) came → All (λ c. rung ≤ c.place) came
group_high rung cs came same =
    All-permutation (λ c. rung ≤ c.place) (up_from rung cs) came same (λ k d h. no_less (get_or (up_from rung cs) k d).place rung (filter_passes (λ c. not (nat_lt c.place rung)) cs k d h))
  where
    no_less : (m n : ℕ) → not (nat_lt m n) ≡ true → n ≤ m
    no_less m n h = grind (arith, common_steps)

-- and the rest low
pub rest_low : (at : ℕ) (cs : List Climber) → All (λ c. c.place ≤ at) (under (at + 1) cs)
rest_low at cs = λ k d h. no_more (get_or (under (at + 1) cs) k d).place at (filter_passes (λ c. nat_lt c.place (at + 1)) cs k d h)
  where
    no_more : (m n : ℕ) → nat_lt m (n + 1) ≡ true → m ≤ n
    no_more m n h = grind (arith, common_steps)

-- both are all
parted : (rung : ℕ) (cs came : List Climber) → IsPermutation (up_from rung cs) came → IsPermutation cs (under rung cs ++ came)
parted rung cs came same =
    IsPermutation-trans cs (under rung cs ++ up_from rung cs) (under rung cs ++ came)
    (IsPermutation-filter_both (λ c. nat_lt c.place rung) (λ c. not (nat_lt c.place rung)) (λ c. refl) cs)
    (IsPermutation-append_right (under rung cs) (up_from rung cs) came same)

-- as votes
cursors_parted : (bs : List Header) (rung : ℕ) (cs came : List Climber) → IsPermutation (up_from rung cs) came → IsPermutation (cursors_of bs cs) (cursors_of bs (under rung cs) ++ cursors_of bs came)
cursors_parted bs rung cs came same =
    subst (IsPermutation (cursors_of bs cs)) (map-append (cursor_of bs) (under rung cs) came)
    (IsPermutation-map (cursor_of bs) cs (under rung cs ++ came) (parted rung cs came same))

-- there are as many in all
pub group_total : (rung : ℕ) (cs came : List Climber) → IsPermutation (up_from rung cs) came → climber_total (under rung cs) + climber_total came ≡ climber_total cs
group_total rung cs came same =
    omega (arith, sum_by-append (λ (c : Climber). c.count) (under rung cs) came, sum_by-IsPermutation (λ (c : Climber). c.count) cs (under rung cs ++ came) (parted rung cs came same))

pub group_few : (rung : ℕ) (cs came : List Climber) → IsPermutation (up_from rung cs) came → length came ≤ length cs
group_few rung cs came same = omega (arith, length_permutation cs (under rung cs ++ came) (parted rung cs came same), length-append (under rung cs) came)

-- those that stay look for other blocks
pub rest_others : (bs : List Header) (b : Header) (at : ℕ) (cs : List Climber) → reach bs b.id ≡ at + 1 → ArePlaced bs cs → All (λ c. bytes_eq c.sought b.id ≡ false) (cursors_of bs (under (at + 1) cs))
rest_others bs b at cs here placed =
    look_lower bs b at (under (at + 1) cs) here (of_rest (λ c. (c.passed < length bs) × (c.place ≡ reach bs (parent_in (slice_get bs c.passed)))) (at + 1) cs placed) (rest_low at cs)

-- the group came to the block
pub group_came : (last : List ℕ) (bs : List Header) (at : ℕ) (d : Header) (cs came : List Climber) → IsGrown last (reverse bs) → AreBelow bs (at + 1) (cursors_of bs cs) → All (CameBy bs) (cursors_of bs cs)
    → ArePlaced bs cs → IsPermutation (up_from (at + 1) cs) came → All (HasCome bs (get_or bs at d).id) (cursors_of bs came)
group_came last bs at d cs came g below by placed same =
    have_come last bs at d came g
    (All-map (λ c. reach bs c.sought ≤ at + 1) (cursor_of bs) came (of_group (λ c. reach bs (cursor_of bs c).sought ≤ at + 1) (at + 1) cs came same (all_back (λ c. reach bs c.sought ≤ at + 1) (cursor_of bs) cs below)))
    (All-map (CameBy bs) (cursor_of bs) came (of_group (λ c. CameBy bs (cursor_of bs c)) (at + 1) cs came same (all_back (CameBy bs) (cursor_of bs) cs by)))
    (of_group (λ c. (c.passed < length bs) × (c.place ≡ reach bs (parent_in (slice_get bs c.passed)))) (at + 1) cs came same placed)
    (group_high (at + 1) cs came same)

-- the votes at the block are those of the group
pub votes_of_group : (bs : List Header) (b : Header) (rung : ℕ) (cs came : List Climber) → IsPermutation (up_from rung cs) came → All (λ c. bytes_eq c.sought b.id ≡ false) (cursors_of bs (under rung cs))
    → votes_at (cursors_of bs cs) b.id ≡ votes_at (cursors_of bs came) b.id
votes_of_group bs b rung cs came same others =
    λ i front.
    (sym (sum_by-IsPermutation (λ c. of_child (child_at b.id c) c.count front) (cursors_of bs cs) (cursors_of bs (under rung cs) ++ cursors_of bs came) (cursors_parted bs rung cs came same))
    ∙ none_came b.id (cursors_of bs (under rung cs)) (cursors_of bs came) front others) i

-- those that look for other blocks than this one are those that stay
still : (bs : List Header) (id : List ℕ) (rung : ℕ) (cs : List Climber) → All (λ c. bytes_eq (cursor_of bs c).sought id ≡ false) (under rung cs) → All (λ c. bytes_eq (cursor_of bs c).sought id ≡ true) (up_from rung cs)
    → filter (λ c. not (bytes_eq c.sought id)) (cursors_of bs cs) ≡ cursors_of bs (under rung cs)
still bs id rung [] others here = refl
still bs id rung (c ∷ cs) others here =
    let P : Climber → Type 0 = λ c. bytes_eq (cursor_of bs c).sought id ≡ false in
    let Q : Climber → Type 0 = λ c. bytes_eq (cursor_of bs c).sought id ≡ true in
    split_on (nat_lt c.place rung)
    (λ t.
    let o = rw t at others in
    let h = rw t at here in
    let own : bytes_eq (cursor_of bs c).sought id ≡ false = All-head P c (under rung cs) o in
    let rest = still bs id rung cs (All-tail P c (under rung cs) o) h in
    rw (t, own) (ap (λ l. cursor_of bs c ∷ l) rest))
    (λ t.
    let o = rw t at others in
    let h = rw t at here in
    let own : bytes_eq (cursor_of bs c).sought id ≡ true = All-head Q c (up_from rung cs) h in
    let rest = still bs id rung cs o (All-tail Q c (up_from rung cs) h) in
    rw (t, own) rest)

-- what is so of votes that climb when a group goes on
abbrev pub passed_on : List Header → ℕ → List Climber → List Climber → List Climber
passed_on bs at rest came =
    let n = climber_total came in
    if nat_lt 0 n then passing bs at n ∷ rest else rest

pub merged_on : (bs : List Header) (b : Header) (at : ℕ) (old came new : List Climber) → slice_get bs at ≡ Some b → All (λ c. bytes_eq c.sought b.id ≡ false) (cursors_of bs (under (at + 1) old))
    → All (HasCome bs b.id) (cursors_of bs came) → IsPermutation (up_from (at + 1) old) came → IsPermutation (passed_on bs at (under (at + 1) old) came) new → IsPermutation (merged b (cursors_of bs old)) (cursors_of bs new)
merged_on bs b at old came new there others come taken same =
    let n = climber_total came in
    let front = cursors_of bs (under (at + 1) old) in
    let group = cursors_of bs came in
    let next : Cursor = record { sought = b.parent; passed = b.id; count = n } in
    let at_end : All (λ c. bytes_eq c.sought b.id ≡ true) group = λ k e h. (come k e h).0 in
    let counted : count_at b.id (cursors_of bs old) ≡ n =
    sym (sum_by-IsPermutation (λ c. if bytes_eq c.sought b.id then c.count else 0) (cursors_of bs old) (front ++ group) (cursors_parted bs (at + 1) old came taken))
    ∙ joined_at b.id front group others at_end ∙ same_total bs came
    in
    let high : All (λ c. bytes_eq (cursor_of bs c).sought b.id ≡ true) (up_from (at + 1) old) =
    All-permutation (λ c. bytes_eq (cursor_of bs c).sought b.id ≡ true) came (up_from (at + 1) old) (IsPermutation-sym (up_from (at + 1) old) came taken) (all_back (λ c. bytes_eq c.sought b.id ≡ true) (cursor_of bs) came at_end)
    in
    let left : filter (λ c. not (bytes_eq c.sought b.id)) (cursors_of bs old) ≡ front =
    still bs b.id (at + 1) old (all_back (λ c. bytes_eq c.sought b.id ≡ false) (cursor_of bs) (under (at + 1) old) others) high
    in
    let whole : merged b (cursors_of bs old) ≡ front ++ (if nat_lt 0 n then next ∷ [] else []) =
    λ i. left i ++ (if nat_lt 0 (counted i) then record { sought = b.parent; passed = b.id; count = counted i } ∷ [] else [])
    in
    let moved = IsPermutation-map (cursor_of bs) (passed_on bs at (under (at + 1) old) came) new same in
    subst (λ l. IsPermutation l (cursors_of bs new)) (sym whole)
    (split_on (nat_lt 0 n)
    (λ t.
    let more : cursors_of bs (passed_on bs at (under (at + 1) old) came) ≡ next ∷ front =
    rw t (λ i. record { sought = parent_in (there i); passed = id_in (there i); count = n } ∷ front)
    in
    rw t (IsPermutation-trans (front ++ next ∷ []) (next ∷ front) (cursors_of bs new) (IsPermutation-to_front front next) (subst (λ l. IsPermutation l (cursors_of bs new)) more moved)))
    (λ t.
    let more : cursors_of bs (passed_on bs at (under (at + 1) old) came) ≡ front = rw t refl in
    rw t (subst (λ l. IsPermutation l (cursors_of bs new)) (more ∙ sym (append-nil front)) moved)))

pub placed_on : (bs : List Header) (at : ℕ) (old came new : List Climber) → at < length bs → ArePlaced bs old → IsPermutation (passed_on bs at (under (at + 1) old) came) new → ArePlaced bs new
placed_on bs at old came new h placed same =
    let P : Climber → Type 0 = λ c. (c.passed < length bs) × (c.place ≡ reach bs (parent_in (slice_get bs c.passed))) in
    let n = climber_total came in
    let left = of_rest P (at + 1) old placed in
    All-permutation P (passed_on bs at (under (at + 1) old) came) new same
    (split_on (nat_lt 0 n)
    (λ t. rw t (All-cons P (passing bs at n) (under (at + 1) old) (h, refl) left))
    (λ t. rw t left))

-- some are more than none
pub some_count : (n : ℕ) → 0 < n → nat_lt 0 n ≡ true
some_count n h = grind (arith, common_steps)

-- votes that passed a block and go on to its parent are put in behind the others
pub put_last : (bs : List Header) (at count place : ℕ) (cs new : List Climber) → place ≡ reach bs (parent_in (slice_get bs at)) → new ≡ cs ++ record { place = place; passed = at; count = count } ∷ []
    → IsPermutation (passing bs at count ∷ cs) new
put_last bs at count place cs new is put =
    let all : new ≡ cs ++ passing bs at count ∷ [] = put ∙ (λ i. cs ++ record { place = is i; passed = at; count = count } ∷ []) in
    subst (IsPermutation (passing bs at count ∷ cs)) (sym all)
    (IsPermutation-sym (cs ++ passing bs at count ∷ []) (passing bs at count ∷ cs) (IsPermutation-to_front cs (passing bs at count)))

-- the place of a parent that was found
pub parent_placed : {T : Type 0} (pending : List (Entry T)) (at : ℕ) (o : Option ℕ) → at < length pending → IfSome (slice_get pending at) (λ e. o ≡ place_in pending e.block.parent)
    → above o ≡ reach (blocks_in pending) (parent_in (slice_get (blocks_in pending) at))
parent_placed {T = T} pending at o within found =
    by (slice_get pending at) refl found
  where
    by : (e : Option (Entry T)) → slice_get pending at ≡ e → IfSome e (λ x. o ≡ place_in pending x.block.parent) → above o ≡ reach (blocks_in pending) (parent_in (slice_get (blocks_in pending) at))
    by None is found = absurd (child_there pending at within (ap (option_map (λ (x : Entry T). x.block.id)) is))
    by (Some x) is found =
        ap above found ∙ reach_seen pending x.block.parent
        ∙ sym (ap (λ b. reach (blocks_in pending) (parent_in b)) (slice_get-map (λ (y : Entry T). y.block) pending at ∙ ap (option_map (λ (y : Entry T). y.block)) is))

-- ---- the group of the lowest rung, which is all

pub none_under : (cs : List Climber) → under 0 cs ≡ []
none_under [] = refl
none_under (c ∷ cs) = rw (no_less c.place) (none_under cs)
  where
    no_less : (n : ℕ) → nat_lt n 0 ≡ false
    no_less n = grind (arith, common_steps)

-- it came to the last accepted block
pub group_come_last : (last : List ℕ) (bs : List Header) (d : Header) (cs came : List Climber) → IsGrown last (reverse bs) → AreBelow bs 0 (cursors_of bs cs) → All (CameBy bs) (cursors_of bs cs) → ArePlaced bs cs
    → IsPermutation (up_from 0 cs) came → All (HasCome bs last) (cursors_of bs came)
group_come_last last bs d cs came g below by placed same =
    All-map (HasCome bs last) (cursor_of bs) came (of_group (λ c. HasCome bs last (cursor_of bs c)) 0 cs came same (all_back (HasCome bs last) (cursor_of bs) cs (have_come_last last bs d cs g below by placed)))

-- with all votes
pub votes_of_all : (bs : List Header) (id : List ℕ) (cs came : List Climber) (front : List Bool) → IsPermutation (up_from 0 cs) came → votes_at (cursors_of bs cs) id front ≡ votes_at (cursors_of bs came) id front
votes_of_all bs id cs came front same =
    let f : Cursor → ℕ = λ c. of_child (child_at id c) c.count front in
    let all : IsPermutation (cursors_of bs cs) (cursors_of bs came) = subst (λ l. IsPermutation (cursors_of bs cs) (cursors_of bs l ++ cursors_of bs came)) (none_under cs) (cursors_parted bs 0 cs came same) in
    sym (sum_by-IsPermutation f (cursors_of bs cs) (cursors_of bs came) all)
