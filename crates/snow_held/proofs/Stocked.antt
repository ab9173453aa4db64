-- Lemmas on entries whose numbers rise: what a look-up finds, the first that isn't quiet, and the heap of their numbers.
use Rattle.std.proofs.Common.{◌≡◌, ℕ, ◌<◌, ◌≤◌, ◌+◌, Bool, true, false, ◌&&◌, ◌||◌, cond, List, [], ◌∷◌, ◌++◌, length, get_or, map, All, Option, Some, None, Less, Equal, Greater, refl, sym, ap, ◌∙◌, subst, arith, ⊎_elim}
use Rattle.std.specs.BinaryHeap.{IsHeap, IsUpperBound}
use Rattle.std.specs.BTreeMap.{is_at}
use Rattle.std.specs.Cmp.{nat_cmp_is}
use Rattle.std.specs.List.{sum_by, AllByRecursion}
use Rattle.std.specs.List.Sorted.{IsStrictlySortedBy, IsPermutation}
use Rattle.std.specs.Map.{keys_of, values_of, set_value, remove_entry}
use Rattle.std.specs.Option.{IsSome}
use Rattle.std.specs.Ordering.{nat_cmp, is_eq}
use Rattle.std.specs.Str.{bytes_eq}
use Rattle.std.proofs.lemmas.Bool.{both_ways, false_from_ne_true, eqb-true, eq-eqb, cases_order}
use Rattle.std.proofs.lemmas.List.Elements.{All-cons, All-head, All-tail}
use Rattle.std.proofs.lemmas.List.Sorted.{list_any-IsPermutation, le_from_greatest, length_permutation}
use Rattle.std.proofs.lemmas.List.Sums.{sum_by-append, sum_by-cons}
use Rattle.std.proofs.lemmas.List.{map-append}
use Rattle.std.proofs.lemmas.Map.Entries.{sum_by-remove_entry, sum_by-set_value}
use Rattle.std.proofs.lemmas.Map.Steps.{set_value_same}
use Rattle.std.proofs.lemmas.Map.{keys-set_value, lookup-set_value, lookup-remove_entry}
use Rattle.std.proofs.lemmas.Map.Keys.{IsDistinct-from_sorted}
use Rattle.std.proofs.lemmas.Cmp.{eq_by_cmp_equiv, nat_cmp_total}
use Rattle.snow_held.specs.declared.backlog.Kept.{Kept}
use Rattle.snow_held.specs.declared.held.Held.{Held}
use Rattle.snow_held.specs.Kept.Arrivals.{Entries, at_arrival, loud, woken_among, stands_for, is_noted, weight, IsBacklog, IsFirst}
use Rattle.snow_map.proofs.Booleans.{or_true}

-- ---- numbers

pub same_number : (a b : ℕ) → is_at (nat_cmp a) b ≡ true → a ≡ b
same_number a b h =
    ⊎_elim
    (λ (same : a ≡ b). same)
    (λ apart. ⊎_elim
    (λ (less : a < b). absurd (both_ways (is_at (nat_cmp a) b) (ap is_eq (sym (nat_cmp_is a b Less less))) h))
    (λ (more : b < a). absurd (both_ways (is_at (nat_cmp a) b) (ap is_eq (sym (nat_cmp_is a b Greater more))) h))
    apart)
    (cases_order a b)

pub number_itself : (a : ℕ) → is_at (nat_cmp a) a ≡ true
number_itself a = ap is_eq (sym (nat_cmp_is a a Equal refl))

pub number_below : (a b : ℕ) → nat_cmp a b ≡ Less → a < b
number_below a b h =
    ⊎_elim
    (λ (same : a ≡ b). let e = nat_cmp_is a b Equal same in absurd cc)
    (λ apart. ⊎_elim
    (λ (less : a < b). less)
    (λ (more : b < a). let e = nat_cmp_is a b Greater more in absurd cc)
    apart)
    (cases_order a b)

pub number_apart : (a b : ℕ) → (a ≡ b → ⊥) → is_at (nat_cmp a) b ≡ false
number_apart a b h = false_from_ne_true (is_at (nat_cmp a) b) (λ t. h (same_number a b t))

pub at_turned : (a b : ℕ) → is_at (nat_cmp a) b ≡ is_at (nat_cmp b) a
at_turned a b =
    let Goal : Bool → Type 0 = λ t. is_at (nat_cmp a) b ≡ t → t ≡ is_at (nat_cmp b) a in
    elim (is_at (nat_cmp a) b) as Goal [
      | true ↦ λ t. sym (number_itself b) ∙ ap (λ n. is_at (nat_cmp b) n) (sym (same_number a b t))
      | false ↦ λ t. sym (number_apart b a (λ same. both_ways (is_at (nat_cmp a) b) t (ap (λ n. is_at (nat_cmp a) n) same ∙ number_itself a)))
    ] refl

-- ---- look-ups

-- no number is below those of all entries
pub none_before : (es : Entries) (a b : ℕ) → AllByRecursion (λ y. nat_cmp b y ≡ Less) (keys_of es) → a ≤ b → at_arrival es a ≡ None
none_before [] a b h le = refl
none_before (e ∷ es) a b h le =
    let less : b < e.0 = number_below b e.0 h.0 in
    ap (λ t. cond t (Some e.1) (at_arrival es a)) (number_apart a e.0 (λ same. omega (arith, same, less, le))) ∙ none_before es a b h.1 le

-- a number that is found behind the first entry isn't that of the first
pub behind_first : (e : ℕ × Kept) (es : Entries) (a : ℕ) (k : Kept) → IsStrictlySortedBy nat_cmp (keys_of (e ∷ es)) → at_arrival es a ≡ Some k → at_arrival (e ∷ es) a ≡ Some k
unfolding IsStrictlySortedBy
behind_first e es a k sorted found =
    ap (λ t. cond t (Some e.1) (at_arrival es a)) (number_apart a e.0 (λ same.
    let none = none_before es a e.0 sorted.0 (omega (arith, same)) in absurd cc))
    ∙ found

pub first_there : (e : ℕ × Kept) (es : Entries) → at_arrival (e ∷ es) e.0 ≡ Some e.1
first_there e es = ap (λ t. cond t (Some e.1) (at_arrival es e.0)) (number_itself e.0)

-- what holds of whatever is found holds of each entry
pub each : (P : ℕ × Kept → Type 0) (es : Entries) → IsStrictlySortedBy nat_cmp (keys_of es) → ((a : ℕ) (k : Kept) → at_arrival es a ≡ Some k → P (a, k)) → All P es
unfolding IsStrictlySortedBy
each P [] sorted h = λ k d within. absurd (omega (arith, within))
each P (e ∷ es) sorted h =
    All-cons P e es (h e.0 e.1 (first_there e es)) (each P es sorted.1 (λ a k found. h a k (behind_first e es a k sorted found)))

-- the same where one entry more stands at the end, where one changes, and where one goes
pub appended_there : (es : Entries) (n : ℕ) (v : Kept) → ((a : ℕ) (k : Kept) → at_arrival es a ≡ Some k → a < n) → (q : ℕ) → at_arrival (es ++ (n, v) ∷ []) q ≡ cond (is_at (nat_cmp n) q) (Some v) (at_arrival es q)
appended_there [] n v h q = ap (λ t. cond t (Some v) None) (at_turned q n)
appended_there (e ∷ es) n v h q =
    let below : e.0 < n = h e.0 e.1 (first_there e es) in
    let rest = appended_there es n v (λ a k found.
    let Goal : Bool → Type 0 = λ t. is_at (nat_cmp a) e.0 ≡ t → a < n in
    elim (is_at (nat_cmp a) e.0) as Goal [
      | true ↦ λ t. h a e.1 (ap (λ t. cond t (Some e.1) (at_arrival es a)) t)
      | false ↦ λ t. h a k (ap (λ t. cond t (Some e.1) (at_arrival es a)) t ∙ found)
    ] refl) q in
    let Goal : Bool → Type 0 = λ t. is_at (nat_cmp q) e.0 ≡ t → cond t (Some e.1) (at_arrival (es ++ (n, v) ∷ []) q) ≡ cond (is_at (nat_cmp n) q) (Some v) (cond t (Some e.1) (at_arrival es q)) in
    elim (is_at (nat_cmp q) e.0) as Goal [
      | true ↦ λ t. let same = same_number q e.0 t in sym (ap (λ b. cond b (Some v) (Some e.1)) (number_apart n q (λ e. omega (arith, e, same, below))))
      | false ↦ λ t. rest
    ] refl

pub changed_there : (es : Entries) (n : ℕ) (w : Kept) → IsSome (at_arrival es n) → (q : ℕ) → at_arrival (set_value (is_at (nat_cmp n)) es w) q ≡ cond (is_at (nat_cmp n) q) (Some w) (at_arrival es q)
changed_there es n w found q = lookup-set_value (eq_by_cmp_equiv nat_cmp_total) (is_at (nat_cmp n)) (λ x y h. ap (λ m. is_at (nat_cmp m) y) (same_number n x h)) q w es found

pub left_there : (es : Entries) (n : ℕ) → IsStrictlySortedBy nat_cmp (keys_of es) → (q : ℕ) → at_arrival (remove_entry (is_at (nat_cmp n)) es) q ≡ cond (is_at (nat_cmp n) q) None (at_arrival es q)
left_there es n sorted q =
    lookup-remove_entry (eq_by_cmp_equiv nat_cmp_total) (is_at (nat_cmp n)) (λ x y h. ap (λ m. is_at (nat_cmp m) y) (same_number n x h)) q es (IsDistinct-from_sorted nat_cmp (keys_of es) sorted)

-- ---- how much room replies take up

light : (k : Kept) → weight k ≤ 1
light k =
    let Goal : Bool → Type 0 = λ b. cond b 1 0 ≤ 1 in
    elim k.quiet as Goal [ true ↦ omega arith | false ↦ omega arith ]

pub all_light : (es : Entries) → sum_by weight (values_of es) ≤ length es
all_light [] = omega arith
all_light (e ∷ es) = let h = light e.1 in let rest = all_light es in let s = sum_by-cons weight e.1 (values_of es) in omega (arith, h, rest, s)

-- ---- the heap

pub noted_more : (x a : ℕ) (heap after : List ℕ) → IsPermutation (x ∷ heap) after → is_noted heap a ≡ true → is_noted after a ≡ true
noted_more x a heap after moved h = sym (list_any-IsPermutation (stands_for a) (x ∷ heap) after moved) ∙ ap (λ b. stands_for a x || b) h ∙ or_true (stands_for a x)

pub noted_itself : (x a : ℕ) (heap after : List ℕ) → IsPermutation (x ∷ heap) after → x + a ≡ 18446744073709551615 → is_noted after a ≡ true
noted_itself x a heap after moved h = sym (list_any-IsPermutation (stands_for a) (x ∷ heap) after moved) ∙ ap (λ b. b || is_noted heap a) (eq-eqb (x + a) 18446744073709551615 h)

-- a number stays noted where another one left
pub noted_still : (x a : ℕ) (heap after : List ℕ) → IsPermutation heap (x ∷ after) → is_noted heap a ≡ true → (x + a ≡ 18446744073709551615 → ⊥) → is_noted after a ≡ true
noted_still x a heap after moved h apart =
    ap (λ b. b || is_noted after a) (sym (false_from_ne_true (stands_for a x) (λ t. apart (eqb-true (x + a) 18446744073709551615 t))))
    ∙ sym (list_any-IsPermutation (stands_for a) heap (x ∷ after) moved) ∙ h

-- a noted number isn't below that of the top
pub noted_least : (x a : ℕ) (heap : List ℕ) → All (λ y. y ≤ x) heap → is_noted heap a ≡ true → 18446744073709551615 ≤ x + a
noted_least x a [] h noted = absurd cc
noted_least x a (y ∷ heap) h noted =
    let Goal : Bool → Type 0 = λ b. stands_for a y ≡ b → (b || is_noted heap a) ≡ true → 18446744073709551615 ≤ x + a in
    let low : y ≤ x = All-head (λ y. y ≤ x) y heap h in
    elim (stands_for a y) as Goal [
      | true ↦ λ t n. let e = eqb-true (y + a) 18446744073709551615 t in omega (arith, e, low)
      | false ↦ λ t n. noted_least x a heap (All-tail (λ y. y ≤ x) y heap h) n
    ] refl noted

-- ---- one reply more

pub stocked_nothing : (es : Entries) (heap : List ℕ) (len room : ℕ) → es ≡ [] → IsHeap nat_cmp heap → len ≡ 0 → IsBacklog es heap len room
unfolding IsStrictlySortedBy
stocked_nothing es heap len room empty order none = record {
  sorted = rw empty tt;
  order = order;
  noted = λ a k found quiet. let e = ap (λ l. at_arrival l a) empty in absurd cc;
  enough = rw empty (omega (arith, none));
}

-- the room grows
pub stocked_wider : (es : Entries) (before after : List ℕ) (len now room wide : ℕ) → IsBacklog es before len room → after ≡ before → now ≡ len → room ≤ wide → IsBacklog es after now wide
stocked_wider es before after len now room wide is same long wider = record {
  sorted = is.sorted;
  order = subst (IsHeap nat_cmp) (sym same) is.order;
  noted = λ a k found quiet. ap (λ l. is_noted l a) same ∙ is.noted a k found quiet;
  enough = let h = is.enough in omega (arith, h, long, wider);
}

-- its number comes to the heap, unless it is quiet
pub stocked_pushed : (es now : Entries) (before after : List ℕ) (len count room mid wide n : ℕ) (kept : Kept) → IsBacklog es before len room
    → now ≡ es ++ (n, kept) ∷ [] → IsStrictlySortedBy nat_cmp (keys_of now)
    → ((q : ℕ) → at_arrival now q ≡ cond (is_at (nat_cmp n) q) (Some kept) (at_arrival es q))
    → (IsHeap nat_cmp before → IsHeap nat_cmp after) → (kept.quiet ≡ false → is_noted after n ≡ true) → ((a : ℕ) → is_noted before a ≡ true → is_noted after a ≡ true)
    → count + weight kept ≤ len + 1 → len + (length es + 1) ≤ mid → mid ≤ wide → IsBacklog now after count wide
stocked_pushed es now before after len count room mid wide n kept is end sorted change order itself others more enough wider = record {
  sorted = sorted;
  order = order is.order;
  noted = λ a k found quiet.
      let Goal : Bool → Type 0 = λ t. is_at (nat_cmp n) a ≡ t → is_noted after a ≡ true in
      elim (is_at (nat_cmp n) a) as Goal [
        | true ↦ λ t.
            let is_kept : at_arrival now a ≡ Some kept = change a ∙ ap (λ t. cond t (Some kept) (at_arrival es a)) t in
            let same : kept ≡ k = cc in
            ap (is_noted after) (sym (same_number n a t)) ∙ itself (ap (λ (k : Kept). k.quiet) same ∙ quiet)
        | false ↦ λ t. others a (is.noted a k (sym (change a ∙ ap (λ t. cond t (Some kept) (at_arrival es a)) t) ∙ found) quiet)
      ] refl;
  enough =
      let last : List (ℕ × Kept) = (n, kept) ∷ [] in
      let parts : values_of now ≡ values_of es ++ kept ∷ [] = ap values_of end ∙ map-append (λ (e : ℕ × Kept). e.1) es last in
      let sum = ap (sum_by weight) parts ∙ sum_by-append weight (values_of es) (kept ∷ []) ∙ ap (λ k. sum_by weight (values_of es) + k) (sum_by-cons weight kept []) in
      let most = all_light es in
      omega (arith, sum, more, most, enough, wider);
}

-- ---- one reply less

pub stocked_taken : (es now : Entries) (heap : List ℕ) (len room n : ℕ) → IsBacklog es heap len room → now ≡ remove_entry (is_at (nat_cmp n)) es → IsStrictlySortedBy nat_cmp (keys_of now)
    → ((q : ℕ) → at_arrival now q ≡ cond (is_at (nat_cmp n) q) None (at_arrival es q)) → IsBacklog now heap len room
stocked_taken es now heap len room n is left sorted change = record {
  sorted = sorted;
  order = is.order;
  noted = λ a k found quiet.
      let Goal : Bool → Type 0 = λ t. is_at (nat_cmp n) a ≡ t → is_noted heap a ≡ true in
      elim (is_at (nat_cmp n) a) as Goal [
        | true ↦ λ t. let none : at_arrival now a ≡ None = change a ∙ ap (λ t. cond t None (at_arrival es a)) t in absurd cc
        | false ↦ λ t. is.noted a k (sym (change a ∙ ap (λ t. cond t None (at_arrival es a)) t) ∙ found) quiet
      ] refl;
  enough =
      let sum = sum_by-remove_entry weight (is_at (nat_cmp n)) es in
      let same = ap (λ l. sum_by weight (values_of l)) left in
      let enough = is.enough in
      omega (arith, sum, same, enough);
}

-- ---- a reply is woken

pub room_for : (es : Entries) (heap : List ℕ) (len room n : ℕ) (k : Kept) → IsBacklog es heap len room → at_arrival es n ≡ Some k → k.quiet ≡ true → len < room
room_for es heap len room n k is found quiet =
    let sum = sum_by-set_value weight (is_at (nat_cmp n)) es k (loud k) found in
    let heavy : weight k ≡ 1 = ap (λ b. cond b 1 0) quiet in
    let enough = is.enough in
    omega (arith, sum, heavy, enough)

pub stocked_woken : (es now : Entries) (before after : List ℕ) (len room wide n : ℕ) (k : Kept) → IsBacklog es before len room → at_arrival es n ≡ Some k → k.quiet ≡ true
    → now ≡ set_value (is_at (nat_cmp n)) es (loud k)
    → ((q : ℕ) → at_arrival now q ≡ cond (is_at (nat_cmp n) q) (Some (loud k)) (at_arrival es q))
    → (IsHeap nat_cmp before → IsHeap nat_cmp after) → is_noted after n ≡ true → ((a : ℕ) → is_noted before a ≡ true → is_noted after a ≡ true)
    → room ≤ wide → IsBacklog now after (len + 1) wide
stocked_woken es now before after len room wide n k is found quiet set change order itself others wider = record {
  sorted = subst (IsStrictlySortedBy nat_cmp) (sym (ap keys_of set ∙ keys-set_value (is_at (nat_cmp n)) es (loud k))) is.sorted;
  order = order is.order;
  noted = λ a j there new.
      let Goal : Bool → Type 0 = λ t. is_at (nat_cmp n) a ≡ t → is_noted after a ≡ true in
      elim (is_at (nat_cmp n) a) as Goal [
        | true ↦ λ t. ap (is_noted after) (sym (same_number n a t)) ∙ itself
        | false ↦ λ t. others a (is.noted a j (sym (change a ∙ ap (λ t. cond t (Some (loud k)) (at_arrival es a)) t) ∙ there) new)
      ] refl;
  enough =
      let sum = sum_by-set_value weight (is_at (nat_cmp n)) es k (loud k) found in
      let same = ap (λ l. sum_by weight (values_of l)) set in
      let heavy : weight k ≡ 1 = ap (λ b. cond b 1 0) quiet in
      let enough = is.enough in
      omega (arith, sum, same, heavy, enough, wider);
}

apart_woken : (e : ℕ × Kept) (n : ℕ) (id : List ℕ) → is_at (nat_cmp n) e.0 ≡ false → e ≡ woken_among (n ∷ []) id e
apart_woken e n id apart = ap (λ t. (e.0, cond ((t || false) && bytes_eq id e.1.reply.id) (loud e.1) e.1)) (sym (at_turned e.0 n ∙ apart))

pub missing_woken : (es : Entries) (n : ℕ) (id : List ℕ) → at_arrival es n ≡ None → es ≡ map (woken_among (n ∷ []) id) es
missing_woken [] n id none = refl
missing_woken (e ∷ es) n id none =
    let Goal : Bool → Type 0 = λ t. is_at (nat_cmp n) e.0 ≡ t → cond t (Some e.1) (at_arrival es n) ≡ None → e ∷ es ≡ woken_among (n ∷ []) id e ∷ map (woken_among (n ∷ []) id) es in
    elim (is_at (nat_cmp n) e.0) as Goal [
      | true ↦ λ t h. absurd cc
      | false ↦ λ t h. ap (λ x. x ∷ es) (apart_woken e n id t) ∙ ap (λ l. woken_among (n ∷ []) id e ∷ l) (missing_woken es n id h)
    ] refl none

pub woken_there : (es : Entries) (n : ℕ) (k : Kept) (id : List ℕ) → IsStrictlySortedBy nat_cmp (keys_of es) → at_arrival es n ≡ Some k
    → set_value (is_at (nat_cmp n)) es (cond (bytes_eq id k.reply.id) (loud k) k) ≡ map (woken_among (n ∷ []) id) es
unfolding IsStrictlySortedBy
woken_there [] n k id sorted found = absurd cc
woken_there (e ∷ es) n k id sorted found =
    let w : Kept = cond (bytes_eq id k.reply.id) (loud k) k in
    let Goal : Bool → Type 0 = λ t. is_at (nat_cmp n) e.0 ≡ t → cond t (Some e.1) (at_arrival es n) ≡ Some k
    → cond t ((e.0, w) ∷ es) (e ∷ set_value (is_at (nat_cmp n)) es w) ≡ woken_among (n ∷ []) id e ∷ map (woken_among (n ∷ []) id) es in
    elim (is_at (nat_cmp n) e.0) as Goal [
      | true ↦ λ t h.
          let is : e.1 ≡ k = cc in
          let rest = missing_woken es n id (none_before es n e.0 sorted.0 (let same = same_number n e.0 t in omega (arith, same))) in
          let head : (e.0, w) ≡ woken_among (n ∷ []) id e =
          ap (λ k. (e.0, cond (bytes_eq id k.reply.id) (loud k) k)) (sym is)
          ∙ ap (λ t. (e.0, cond ((t || false) && bytes_eq id e.1.reply.id) (loud e.1) e.1)) (sym (at_turned e.0 n ∙ t)) in
          ap (λ x. x ∷ es) head ∙ ap (λ l. woken_among (n ∷ []) id e ∷ l) rest
      | false ↦ λ t h. ap (λ x. x ∷ set_value (is_at (nat_cmp n)) es w) (apart_woken e n id t) ∙ ap (λ l. woken_among (n ∷ []) id e ∷ l) (woken_there es n k id sorted.1 h)
    ] refl found

-- one that is awake, or names another block, stays
pub woken_same : (es : Entries) (n : ℕ) (k : Kept) (id : List ℕ) → IsStrictlySortedBy nat_cmp (keys_of es) → at_arrival es n ≡ Some k
    → k ≡ cond (bytes_eq id k.reply.id) (loud k) k → es ≡ map (woken_among (n ∷ []) id) es
woken_same es n k id sorted found same =
    sym (set_value_same (is_at (nat_cmp n)) es k found) ∙ ap (set_value (is_at (nat_cmp n)) es) same ∙ woken_there es n k id sorted found

-- ---- the first one that isn't quiet

pub is_first : (es : Entries) (heap : List ℕ) (len room x n : ℕ) (reply : Held) → IsBacklog es heap len room → IsUpperBound nat_cmp x heap → x + n ≡ 18446744073709551615
    → at_arrival es n ≡ Some (record { reply = reply; quiet = false }) → IsFirst es n reply
is_first es heap len room x n reply is top sum found = record {
  there = found;
  least = λ b k there quiet. let low = noted_least x b heap (le_from_greatest x heap top) (is.noted b k there quiet) in omega (arith, low, sum);
}

-- the top of the heap goes, which isn't the number of a reply that is to be looked at
pub stocked_popped : (es : Entries) (before after : List ℕ) (len now room wide x n : ℕ) → IsBacklog es before len room → IsHeap nat_cmp after → IsPermutation before (x ∷ after)
    → now + 1 ≡ len → wide ≡ room → x + n ≡ 18446744073709551615 → ((k : Kept) → at_arrival es n ≡ Some k → k.quiet ≡ true) → IsBacklog es after now wide
stocked_popped es before after len now room wide x n is order moved less same sum stale = record {
  sorted = is.sorted;
  order = order;
  noted = λ a k found quiet.
      noted_still x a before after moved (is.noted a k found quiet)
      (λ e. let at : a ≡ n = omega (arith, e, sum) in both_ways k.quiet quiet (stale k (ap (at_arrival es) (sym at) ∙ found)));
  enough = let h = is.enough in omega (arith, h, less, same);
}

-- the same where that reply becomes quiet
pub stocked_quieted : (es now : Entries) (before after : List ℕ) (len short room wide x n : ℕ) (k w : Kept) → IsBacklog es before len room → IsHeap nat_cmp after → IsPermutation before (x ∷ after)
    → short + 1 ≡ len → wide ≡ room → x + n ≡ 18446744073709551615 → at_arrival es n ≡ Some k → k.quiet ≡ false → w.quiet ≡ true
    → now ≡ set_value (is_at (nat_cmp n)) es w → ((q : ℕ) → at_arrival now q ≡ cond (is_at (nat_cmp n) q) (Some w) (at_arrival es q))
    → IsBacklog now after short wide
stocked_quieted es now before after len short room wide x n k w is order moved less same sum found new old set change = record {
  sorted = subst (IsStrictlySortedBy nat_cmp) (sym (ap keys_of set ∙ keys-set_value (is_at (nat_cmp n)) es w)) is.sorted;
  order = order;
  noted = λ a j there loud.
      let Goal : Bool → Type 0 = λ t. is_at (nat_cmp n) a ≡ t → is_noted after a ≡ true in
      elim (is_at (nat_cmp n) a) as Goal [
        | true ↦ λ t.
            let is_w : at_arrival now a ≡ Some w = change a ∙ ap (λ t. cond t (Some w) (at_arrival es a)) t in
            let same_w : j ≡ w = cc in
            absurd (both_ways j.quiet loud (ap (λ (k : Kept). k.quiet) same_w ∙ old))
        | false ↦ λ t.
            noted_still x a before after moved (is.noted a j (sym (change a ∙ ap (λ t. cond t (Some w) (at_arrival es a)) t) ∙ there) loud)
            (λ e. let at : n ≡ a = omega (arith, e, sum) in both_ways (is_at (nat_cmp n) a) t (ap (λ b. is_at (nat_cmp n) b) (sym at) ∙ number_itself n))
      ] refl;
  enough =
      let sum = sum_by-set_value weight (is_at (nat_cmp n)) es k w found in
      let now_is = ap (λ l. sum_by weight (values_of l)) set in
      let heavy : weight w ≡ 1 = ap (λ b. cond b 1 0) old in
      let h = is.enough in
      omega (arith, sum, now_is, heavy, h, less, same);
}

-- ---- the top of the heap

pub some_is : (o : Option ℕ) → IsSome o → (x : ℕ) × (o ≡ Some x)
some_is None h = absurd cc
some_is (Some x) h = (x, refl)

pub same_top : (heap after : List ℕ) (x y : ℕ) → x ≡ get_or heap 0 x → y ≡ get_or heap 0 y → IsPermutation heap (x ∷ after) → x ≡ y
same_top [] after x y h e moved = let n = length_permutation [] (x ∷ after) moved in absurd (omega (arith, n))
same_top (z ∷ heap) after x y h e moved = h ∙ sym e
