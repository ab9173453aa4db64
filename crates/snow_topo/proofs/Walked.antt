-- Lemmas on the walk by the answers, from child to child.
use Rattle.std.proofs.Common.{◌≡◌, ℕ, zero, suc, ◌<◌, Bool, true, false, List, [], ◌∷◌, ◌++◌, length, get_or, filter, reverse, bytes_eq, Contains, Some, None, slice_get, refl, sym, ap, subst, ◌∙◌, append_assoc, arith}
use mathlib.Core.List.{reverse-cons}
use Rattle.std.specs.Bool.{beq}
use Rattle.std.specs.Cmp.Lexicographic.{pointwise}
use Rattle.std.proofs.lemmas.Bool.{or_parts, and_parts}
use Rattle.std.proofs.lemmas.List.{get_or_default, length-map, map-append, reverse-append}
use Rattle.std.proofs.lemmas.List.Elements.{All-head, All-tail, All-map, All-filter, All-nil, All-cons, filter_passes, All-contains, All-contains_itself}
use Rattle.std.proofs.lemmas.Option.{none-some, slice_get_within, same_Some}
use Rattle.snow_base.specs.declared.block.Header.{Header}
use Rattle.snow_base.specs.Model.Identifier.{bits}
use Rattle.snow_base.proofs.Bits.{get_or-bits, bit_cmp-same, same_from_bit_cmp}
use Rattle.snow_flake.specs.Model.Parameters.{Parameters, AreGood}
use Rattle.snow_flake.specs.Model.Rule.{Answer}
use Rattle.snow_board.specs.Model.Conflict.{Pending}
use Rattle.snow_board.specs.Model.Conflict.{Counters, Blank, chosen, leads_to}
use Rattle.snow_board.specs.Kept.Grown.{has_block, IsGrown}
use Rattle.snow_board.specs.Model.Preference.{path_from}
use Rattle.snow_board.proofs.Cases.{split_on, clash, same_id, id_same}
use Rattle.snow_board.proofs.Grown.{grown_new, grown_before, has_child, latest_childless, has_block-reverse}
use Rattle.snow_board.proofs.Kept.{has_own}
use Rattle.snow_board.proofs.Standing.{any-reverse}
use Rattle.snow_tree.specs.Kept.Held.{Entry, blocks_in, children_of}
use Rattle.snow_tree.proofs.Left.{one_block}
use Rattle.snow_topo.specs.Kept.Children.{Conflict, Kept, counters_in, ids_in, shown, IsFit}
use Rattle.snow_topo.specs.Kept.View.{pending_of, all_pending}
use Rattle.snow_base.specs.Clauses.Gathered.{IsNamed}
use Rattle.snow_topo.specs.Kept.Walking.{AreNamed}
use Rattle.snow_topo.proofs.Gained.{block_there}
use Rattle.snow_topo.proofs.Stamped.{shown_none}
use Rattle.snow_topo.proofs.Steady.{chosen_shown}

-- ---- identifiers

-- identifiers of the same bits are one
pub same_bits : (a b : List ℕ) → IsNamed a → IsNamed b → bits a ≡ bits b → a ≡ b
same_bits a b m n same =
    same_from_bit_cmp a b m.long n.long m.bytes n.bytes
    (bit_cmp-same a b (λ k h. sym (get_or-bits a k false h) ∙ ap (λ l. get_or l k false) same ∙ get_or-bits b k false h))

-- lists of bits that are found equal are one
pub same_list : (xs ys : List Bool) → pointwise beq xs ys ≡ true → xs ≡ ys
same_list [] [] h = refl
same_list [] (y ∷ ys) h = absurd cc
same_list (x ∷ xs) [] h = absurd cc
same_list (x ∷ xs) (y ∷ ys) h =
    let parts = and_parts (beq x y) (pointwise beq xs ys) h in
    let first = same_bit x y parts.0 in
    let rest = same_list xs ys parts.1 in
    λ i. first i ∷ rest i
  where
    same_bit : (x y : Bool) → beq x y ≡ true → x ≡ y
    same_bit true true h = refl
    same_bit true false h = cc
    same_bit false true h = cc
    same_bit false false h = refl

-- and a list is found equal to itself
pub list_itself : (xs : List Bool) → pointwise beq xs xs ≡ true
list_itself [] = refl
list_itself (true ∷ xs) = list_itself xs
list_itself (false ∷ xs) = list_itself xs

-- ---- where the walk goes

-- no counters lead nowhere
stuck : (answer : Answer) (id : List ℕ) → leads_to answer Blank id ≡ false
unfolding chosen bits
stuck answer id = refl

pub path_blank : (answer : Answer) (at : List ℕ) (qs : List Pending) → path_from answer at Blank qs ≡ []
unfolding path_from
path_blank answer at [] = refl
path_blank answer at (q ∷ later) =
    split_on (bytes_eq q.block.parent at)
    (λ t. rw (t, stuck answer q.block.id) (path_blank answer at later))
    (λ t. rw t (path_blank answer at later))

-- it passes by blocks of other identifiers than the one to which the counters lead
others_passed : (answer : Answer) (p : Parameters) (polls : ℕ) (at : List ℕ) (c : Counters) (id : List ℕ) (front : List (Entry Kept)) (back : List Pending)
    → AreNamed (blocks_in front) → IsNamed id → chosen answer c ≡ bits id → has_block (blocks_in front) id ≡ false
    → path_from answer at c (all_pending p polls front ++ back) ≡ path_from answer at c back
unfolding path_from
others_passed answer p polls at c id [] back named n leads off = refl
others_passed answer p polls at c id (x ∷ front) back named n leads off =
    let parts = or_parts (bytes_eq x.block.id id) (has_block (blocks_in front) id) off in
    let own : IsNamed x.block.id = All-head (λ (b : Header). IsNamed b.id) x.block (blocks_in front) named in
    let rest = others_passed answer p polls at c id front back (All-tail (λ (b : Header). IsNamed b.id) x.block (blocks_in front) named) n leads parts.1 in
    let elsewhere : leads_to answer c x.block.id ≡ false =
    split_on (leads_to answer c x.block.id)
    (λ t. clash (bytes_eq x.block.id id) (id_same x.block.id id (same_bits x.block.id id own n (sym (same_list (chosen answer c) (bits x.block.id) t) ∙ leads))) parts.0)
    (λ t. t)
    in
    split_on (bytes_eq x.block.parent at)
    (λ t. rw (t, elsewhere) rest)
    (λ t. rw t rest)

-- and by blocks that are no children
strangers_passed : (answer : Answer) (p : Parameters) (polls : ℕ) (at : List ℕ) (c : Counters) (front : List (Entry Kept)) (back : List Pending)
    → has_child (blocks_in front) at ≡ false → path_from answer at c (all_pending p polls front ++ back) ≡ path_from answer at c back
unfolding path_from
strangers_passed answer p polls at c [] back none = refl
strangers_passed answer p polls at c (x ∷ front) back none =
    let parts = or_parts (bytes_eq x.block.parent at) (has_child (blocks_in front) at) none in
    rw parts.0 (strangers_passed answer p polls at c front back parts.1)

-- the order makes no difference to whether there is a child
has_child-reverse : (blocks : List Header) (id : List ℕ) → has_child (reverse blocks) id ≡ has_child blocks id
has_child-reverse blocks id = any-reverse (λ b. bytes_eq b.parent id) blocks

-- one step
step_around : (answer : Answer) (p : Parameters) (polls : ℕ) (last at : List ℕ) (c : Counters) (front back : List (Entry Kept)) (e : Entry Kept)
    → IsGrown last (reverse (blocks_in (front ++ e ∷ back))) → AreNamed (blocks_in front) → IsNamed e.block.id → e.block.parent ≡ at → chosen answer c ≡ bits e.block.id
    → path_from answer at c (all_pending p polls (front ++ e ∷ back)) ≡ e.block.id ∷ path_from answer e.block.id (shown p polls e.load) (all_pending p polls (front ++ e ∷ back))
unfolding path_from
step_around answer p polls last at c front back e g named n parent leads =
    let id = e.block.id in
    let d = shown p polls e.load in
    let rest = all_pending p polls back in
    let around : reverse (blocks_in (front ++ e ∷ back)) ≡ reverse (blocks_in back) ++ e.block ∷ reverse (blocks_in front) =
    ap reverse (map-append (λ x. x.block) front (e ∷ back)) ∙ reverse-append (blocks_in front) (e.block ∷ blocks_in back)
    ∙ ap (λ l. l ++ reverse (blocks_in front)) (reverse-cons e.block (blocks_in back)) ∙ append_assoc (reverse (blocks_in back)) (e.block ∷ []) (reverse (blocks_in front))
    in
    let here : IsGrown last (e.block ∷ reverse (blocks_in front)) =
    grown_before last (reverse (blocks_in back)) (e.block ∷ reverse (blocks_in front)) (subst (IsGrown last) around g)
    in
    let off : has_block (blocks_in front) id ≡ false =
    sym (has_block-reverse (blocks_in front) id) ∙ (or_parts (bytes_eq last id) (has_block (reverse (blocks_in front)) id) (grown_new here)).1
    in
    let lonely = or_parts (bytes_eq e.block.parent id) (has_child (reverse (blocks_in front)) id) (latest_childless last e.block (reverse (blocks_in front)) here) in
    let none : has_child (blocks_in front) id ≡ false = sym (has_child-reverse (blocks_in front) id) ∙ lonely.1 in
    let parted : (l : List ℕ) (k : Counters) → path_from answer l k (all_pending p polls (front ++ e ∷ back)) ≡ path_from answer l k (all_pending p polls front ++ pending_of p polls e ∷ rest) =
    λ l k. ap (path_from answer l k) (map-append (pending_of p polls) front (e ∷ back))
    in
    let to : leads_to answer c id ≡ true = ap (λ l. pointwise beq l (bits id)) leads ∙ list_itself (bits id) in
    let on : path_from answer at c (pending_of p polls e ∷ rest) ≡ id ∷ path_from answer id d rest = rw (id_same e.block.parent at parent, to) refl in
    let over : path_from answer id d (pending_of p polls e ∷ rest) ≡ path_from answer id d rest = rw lonely.0 refl in
    parted at c ∙ others_passed answer p polls at c id front (pending_of p polls e ∷ rest) named n leads off ∙ on
    ∙ ap (λ l. id ∷ l) (sym (parted id d ∙ strangers_passed answer p polls id d front (pending_of p polls e ∷ rest) none ∙ over))

-- a list around one of its elements
parted_at : {X : Type 0} (xs : List X) (j : ℕ) (x : X) → slice_get xs j ≡ Some x → (front : List X) × (back : List X) × (xs ≡ front ++ x ∷ back)
parted_at [] j x h = absurd (none-some x h)
parted_at (y ∷ xs) zero x h = ([], xs, ap (λ z. z ∷ xs) (same_Some y x h))
parted_at (y ∷ xs) (suc j) x h =
    let rest = parted_at xs j x h in
    (y ∷ rest.0, rest.1, ap (λ l. y ∷ l) rest.2)

-- the same of a block by its place
step_there : (answer : Answer) (p : Parameters) (polls : ℕ) (last at : List ℕ) (c : Counters) (pending : List (Entry Kept)) (j : ℕ) (e : Entry Kept)
    → IsGrown last (reverse (blocks_in pending)) → AreNamed (blocks_in pending) → slice_get pending j ≡ Some e → e.block.parent ≡ at → chosen answer c ≡ bits e.block.id
    → path_from answer at c (all_pending p polls pending) ≡ e.block.id ∷ path_from answer e.block.id (shown p polls e.load) (all_pending p polls pending)
step_there answer p polls last at c pending j e g named there parent leads =
    let cut = parted_at pending j e there in
    let whole = sym cut.2 in
    let all : AreNamed (blocks_in (cut.0 ++ e ∷ cut.1)) = subst (λ l. AreNamed (blocks_in l)) (sym whole) named in
    let names = all_of cut.0 (e ∷ cut.1) all in
    subst (λ l. path_from answer at c (all_pending p polls l) ≡ e.block.id ∷ path_from answer e.block.id (shown p polls e.load) (all_pending p polls l)) whole
    (step_around answer p polls last at c cut.0 cut.1 e (subst (λ l. IsGrown last (reverse (blocks_in l))) (sym whole) g) names.0
    (All-head (λ (b : Header). IsNamed b.id) e.block (blocks_in cut.1) names.1) parent leads)
  where
    all_of : (xs ys : List (Entry Kept)) → AreNamed (blocks_in (xs ++ ys)) → AreNamed (blocks_in xs) × AreNamed (blocks_in ys)
    all_of [] ys h = (All-nil _, h)
    all_of (x ∷ xs) ys h =
        let rest = all_of xs ys (All-tail (λ (b : Header). IsNamed b.id) x.block (blocks_in (xs ++ ys)) h) in
        (All-cons (λ (b : Header). IsNamed b.id) x.block (blocks_in xs) (All-head (λ (b : Header). IsNamed b.id) x.block (blocks_in (xs ++ ys)) h) rest.0, rest.1)

-- ---- children

-- a child is a block with that parent
child_there : (bs : List Header) (at id : List ℕ) → Contains (children_of bs at) id → (b : Header) × (b.id ≡ id) × (b.parent ≡ at) × Contains bs b
child_there bs at id has =
    let of : Header → Bool = λ b. bytes_eq b.parent at in
    let Is : List ℕ → Type 0 = λ id. (b : Header) × (b.id ≡ id) × (b.parent ≡ at) × Contains bs b in
    All-contains Is (children_of bs at) id
    (All-map Is (λ b. b.id) (filter of bs)
    (λ k d l. let b = get_or (filter of bs) k d in (b, refl, same_id b.parent at (filter_passes of bs k d l), All-filter of (Contains bs) bs (All-contains_itself bs) k d l)))
    has

-- so it is there
pub child_on : (bs : List Header) (at id : List ℕ) → Contains (children_of bs at) id → has_block bs id ≡ true
child_on bs at id has =
    let found = child_there bs at id has in
    ap (has_block bs) (sym found.1) ∙ All-contains (λ (b : Header). has_block bs b.id ≡ true) bs found.0 (has_own bs) found.3

-- and the entry of its identifier has that parent
pub child_parent : (last at : List ℕ) (pending : List (Entry Kept)) (j : ℕ) (e : Entry Kept) → IsGrown last (reverse (blocks_in pending)) → slice_get pending j ≡ Some e
    → Contains (children_of (blocks_in pending) at) e.block.id → e.block.parent ≡ at
child_parent last at pending j e g there has =
    let bs = blocks_in pending in
    let found = child_there bs at e.block.id has in
    let b = found.0 in
    let k = found.3.0 in
    let within : j < length bs = omega (arith, slice_get_within pending j e there, length-map pending (λ x. x.block)) in
    let mine : get_or bs j b ≡ e.block = get_or_default bs j b e.block within ∙ block_there pending j e there in
    let same : get_or bs j b ≡ get_or bs k b = one_block last bs j k b g within found.3.1 (ap (λ (x : Header). x.id) mine ∙ sym found.1 ∙ ap (λ (x : Header). x.id) (sym found.3.2)) in
    ap (λ (x : Header). x.parent) (sym mine ∙ same ∙ found.3.2) ∙ found.2

-- the walk goes to the child to which the answers lead
pub walk_on : (answer : Answer) (p : Parameters) (polls : ℕ) (last at : List ℕ) (kept : Kept) (pending : List (Entry Kept)) (j : ℕ) (e : Entry Kept) (t : Conflict) → AreGood p
    → IsGrown last (reverse (blocks_in pending)) → AreNamed (blocks_in pending) → IsFit p polls (children_of (blocks_in pending) at) kept → kept.conflict ≡ Some t
    → slice_get pending j ≡ Some e → Contains t.ids e.block.id → chosen answer t.counters ≡ bits e.block.id
    → path_from answer at (shown p polls kept) (all_pending p polls pending) ≡ e.block.id ∷ path_from answer e.block.id (shown p polls e.load) (all_pending p polls pending)
walk_on answer p polls last at kept pending j e t good g named fit is there given leads =
    let bs = blocks_in pending in
    let has : Contains (children_of bs at) e.block.id = subst (λ l. Contains l e.block.id) (sym (ap ids_in is) ∙ fit.ids) given in
    step_there answer p polls last at (shown p polls kept) pending j e g named there (child_parent last at pending j e g there has)
    (chosen_shown answer p polls kept good ∙ ap (λ o. chosen answer (counters_in o)) is ∙ leads)

-- and ends where there is no tree
pub walk_ends : (answer : Answer) (p : Parameters) (polls : ℕ) (at : List ℕ) (kept : Kept) (qs : List Pending) → kept.conflict ≡ None → path_from answer at (shown p polls kept) qs ≡ []
walk_ends answer p polls at kept qs none = ap (λ c. path_from answer at c qs) (shown_none p polls kept none) ∙ path_blank answer at qs

-- the child to which the answers lead is there
pub given_there : (p : Parameters) (polls : ℕ) (bs : List Header) (at : List ℕ) (kept : Kept) (t : Conflict) (id : List ℕ) → IsFit p polls (children_of bs at) kept
    → kept.conflict ≡ Some t → Contains t.ids id → has_block bs id ≡ true
given_there p polls bs at kept t id fit is given = child_on bs at id (subst (λ l. Contains l id) (sym (ap ids_in is) ∙ fit.ids) given)
