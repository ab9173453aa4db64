-- Lemmas on places in which numbers rise: what a look-up finds, and the entries when a reply comes, changes or leaves.
use Rattle.std.proofs.Common.{◌≡◌, ℕ, zero, suc, ◌<◌, ◌≤◌, ◌+◌, ltb, Bool, true, false, not, cond, List, [], ◌∷◌, ◌++◌, length, get_or, set, map, filter, All, ◌-◌, Some, None, Less, refl, sym, ap, ◌∙◌, subst, arith, ⊎_elim}
use Rattle.std.specs.BTreeMap.{is_at}
use Rattle.std.specs.Cmp.{nat_cmp_is}
use Rattle.std.specs.List.{AllByRecursion}
use Rattle.std.specs.List.Sorted.{IsStrictlySortedBy, IsPartitionedBy, IsPartitionPoint}
use Rattle.std.specs.Map.{keys_of, set_value, remove_entry}
use Rattle.std.specs.Ordering.{nat_cmp}
use Rattle.std.proofs.lemmas.Bool.{cases_lt, ltb-true, ltb-false, lt-ltb}
use Rattle.std.proofs.lemmas.List.{length-set, map-append, get_or_default}
use Rattle.std.proofs.lemmas.List.Elements.{filter-append}
use Rattle.std.proofs.lemmas.List.Quantifiers.{all_pairs_push}
use Rattle.snow_held.specs.declared.backlog.Kept.{Kept}
use Rattle.snow_held.specs.declared.roll.Place.{Place}
use Rattle.snow_held.specs.Kept.Arrivals.{Entries, at_arrival}
use Rattle.snow_held.specs.Kept.Roll.{entry_of, is_here, entries_of, Rises}
use Rattle.snow_held.proofs.Stocked.{number_itself, number_apart}

-- ---- numbers rise

tail_rises : (p : Place) (ps : List Place) → Rises (p ∷ ps) → Rises ps
tail_rises p ps rises i j d less within = rises (suc i) (suc j) d (omega (arith, less)) (omega (arith, within))

head_below : (p : Place) (ps : List Place) → Rises (p ∷ ps) → (k : ℕ) (d : Place) → k < length ps → p.arrival < (get_or ps k d).arrival
head_below p ps rises k d within = rises 0 (suc k) d (omega arith) (omega (arith, within))

-- ---- look-ups

pub missing : (ps : List Place) (a : ℕ) → ((k : ℕ) (d : Place) → k < length ps → (get_or ps k d).arrival ≡ a → ⊥) → at_arrival (entries_of ps) a ≡ None
missing [] a none = refl
missing (p ∷ ps) a none =
    let rest = missing ps a (λ k d within same. none (suc k) d (omega (arith, within)) same) in
    let apart = number_apart a p.arrival (λ same. none 0 p (omega arith) (sym same)) in
    let Goal : Bool → Type 0 = λ b. at_arrival (map entry_of (cond b (p ∷ filter is_here ps) (filter is_here ps))) a ≡ None in
    elim (is_here p) as Goal [
      | true ↦ ap (λ t. cond t (Some p.kept) (at_arrival (entries_of ps) a)) apart ∙ rest
      | false ↦ rest
    ]

head_found : (x : Place) (ps : List Place) → Rises (x ∷ ps) → at_arrival (entries_of (x ∷ ps)) x.arrival ≡ cond x.left None (Some x.kept)
head_found x ps rises =
    let Goal : Bool → Type 0 = λ b. at_arrival (map entry_of (cond (not b) (x ∷ filter is_here ps) (filter is_here ps))) x.arrival ≡ cond b None (Some x.kept) in
    elim x.left as Goal [
      | true ↦ missing ps x.arrival (λ k d within same. let l = head_below x ps rises k d within in omega (arith, l, same))
      | false ↦ ap (λ t. cond t (Some x.kept) (at_arrival (entries_of ps) x.arrival)) (number_itself x.arrival)
    ]

skipped : (x : Place) (ps : List Place) (a : ℕ) → is_at (nat_cmp a) x.arrival ≡ false → at_arrival (entries_of (x ∷ ps)) a ≡ at_arrival (entries_of ps) a
skipped x ps a apart =
    let Goal : Bool → Type 0 = λ b. at_arrival (map entry_of (cond b (x ∷ filter is_here ps) (filter is_here ps))) a ≡ at_arrival (entries_of ps) a in
    elim (is_here x) as Goal [
      | true ↦ ap (λ t. cond t (Some x.kept) (at_arrival (entries_of ps) a)) apart
      | false ↦ refl
    ]

-- the number of a later place isn't that of the first
behind_apart : (x : Place) (ps : List Place) (at : ℕ) (p : Place) → Rises (x ∷ ps) → at < length ps → p ≡ get_or ps at p → is_at (nat_cmp p.arrival) x.arrival ≡ false
behind_apart x ps at p rises within is =
    let l = head_below x ps rises at p within in
    let e = ap (λ (q : Place). q.arrival) is in
    number_apart p.arrival x.arrival (λ same. omega (arith, l, e, same))

found : (ps : List Place) (at : ℕ) (p : Place) → Rises ps → at < length ps → p ≡ get_or ps at p → at_arrival (entries_of ps) p.arrival ≡ cond p.left None (Some p.kept)
found [] at p rises there is = absurd (omega (arith, there))
found (x ∷ ps) zero p rises there is =
    subst (λ (q : Place). at_arrival (entries_of (x ∷ ps)) q.arrival ≡ cond q.left None (Some q.kept)) (sym is) (head_found x ps rises)
found (x ∷ ps) (suc at) p rises there is =
    let inside : at < length ps = omega (arith, there) in
    skipped x ps p.arrival (behind_apart x ps at p rises inside is) ∙ found ps at p (tail_rises x ps rises) inside is

pub found_at : (ps : List Place) (at a : ℕ) (d : Place) → Rises ps → at < length ps → (get_or ps at d).arrival ≡ a → at_arrival (entries_of ps) a ≡ cond (get_or ps at d).left None (Some (get_or ps at d).kept)
found_at ps at a d rises there is =
    let p = get_or ps at d in
    ap (at_arrival (entries_of ps)) (sym is) ∙ found ps at p rises there (get_or_default ps at d p there)

-- ---- a reply changes

head_changed : (x : Place) (ps : List Place) (k : Kept) → x.left ≡ false → entries_of (record x { kept = k } ∷ ps) ≡ set_value (is_at (nat_cmp x.arrival)) (entries_of (x ∷ ps)) k
head_changed x ps k here =
    let e : Entries = entries_of ps in
    let Goal : Bool → Type 0 = λ b. map entry_of (cond (not b) (record x { kept = k } ∷ filter is_here ps) (filter is_here ps))
    ≡ set_value (is_at (nat_cmp x.arrival)) (map entry_of (cond (not b) (x ∷ filter is_here ps) (filter is_here ps))) k in
    subst Goal (sym here) (sym (ap (λ t. cond t ((x.arrival, k) ∷ e) ((x.arrival, x.kept) ∷ set_value (is_at (nat_cmp x.arrival)) e k)) (number_itself x.arrival)))

pub changed : (ps : List Place) (at : ℕ) (p : Place) (k : Kept) → Rises ps → at < length ps → p ≡ get_or ps at p → p.left ≡ false
    → entries_of (set ps at (record p { kept = k })) ≡ set_value (is_at (nat_cmp p.arrival)) (entries_of ps) k
changed [] at p k rises there is here = absurd (omega (arith, there))
changed (x ∷ ps) zero p k rises there is here =
    subst (λ (q : Place). q.left ≡ false → entries_of (record q { kept = k } ∷ ps) ≡ set_value (is_at (nat_cmp q.arrival)) (entries_of (x ∷ ps)) k) (sym is) (head_changed x ps k) here
changed (x ∷ ps) (suc at) p k rises there is here =
    let inside : at < length ps = omega (arith, there) in
    let rest = changed ps at p k (tail_rises x ps rises) inside is here in
    let apart = behind_apart x ps at p rises inside is in
    let after : List Place = set ps at (record p { kept = k }) in
    let Goal : Bool → Type 0 = λ b. map entry_of (cond b (x ∷ filter is_here after) (filter is_here after))
    ≡ set_value (is_at (nat_cmp p.arrival)) (map entry_of (cond b (x ∷ filter is_here ps) (filter is_here ps))) k in
    elim (is_here x) as Goal [
      | true ↦ ap (λ (l : Entries). entry_of x ∷ l) rest
          ∙ sym (ap (λ t. cond t ((x.arrival, k) ∷ entries_of ps) (entry_of x ∷ set_value (is_at (nat_cmp p.arrival)) (entries_of ps) k)) apart)
      | false ↦ rest
    ]

-- ---- a reply leaves

head_taken : (x : Place) (ps : List Place) → x.left ≡ false → entries_of (record x { left = true } ∷ ps) ≡ remove_entry (is_at (nat_cmp x.arrival)) (entries_of (x ∷ ps))
head_taken x ps here =
    let e : Entries = entries_of ps in
    let Goal : Bool → Type 0 = λ b. e ≡ remove_entry (is_at (nat_cmp x.arrival)) (map entry_of (cond (not b) (x ∷ filter is_here ps) (filter is_here ps))) in
    subst Goal (sym here) (sym (ap (λ t. cond t e (entry_of x ∷ remove_entry (is_at (nat_cmp x.arrival)) e)) (number_itself x.arrival)))

pub taken : (ps : List Place) (at : ℕ) (p : Place) → Rises ps → at < length ps → p ≡ get_or ps at p → p.left ≡ false
    → entries_of (set ps at (record p { left = true })) ≡ remove_entry (is_at (nat_cmp p.arrival)) (entries_of ps)
taken [] at p rises there is here = absurd (omega (arith, there))
taken (x ∷ ps) zero p rises there is here =
    subst (λ (q : Place). q.left ≡ false → entries_of (record q { left = true } ∷ ps) ≡ remove_entry (is_at (nat_cmp q.arrival)) (entries_of (x ∷ ps))) (sym is) (head_taken x ps) here
taken (x ∷ ps) (suc at) p rises there is here =
    let inside : at < length ps = omega (arith, there) in
    let rest = taken ps at p (tail_rises x ps rises) inside is here in
    let apart = behind_apart x ps at p rises inside is in
    let after : List Place = set ps at (record p { left = true }) in
    let Goal : Bool → Type 0 = λ b. map entry_of (cond b (x ∷ filter is_here after) (filter is_here after))
    ≡ remove_entry (is_at (nat_cmp p.arrival)) (map entry_of (cond b (x ∷ filter is_here ps) (filter is_here ps))) in
    elim (is_here x) as Goal [
      | true ↦ ap (λ (l : Entries). entry_of x ∷ l) rest
          ∙ sym (ap (λ t. cond t (entries_of ps) (entry_of x ∷ remove_entry (is_at (nat_cmp p.arrival)) (entries_of ps))) apart)
      | false ↦ rest
    ]

-- an entry that isn't there needn't go
pub none_taken : (es : Entries) (a : ℕ) → at_arrival es a ≡ None → es ≡ remove_entry (is_at (nat_cmp a)) es
none_taken [] a none = refl
none_taken (e ∷ es) a none =
    let Goal : Bool → Type 0 = λ t. cond t (Some e.1) (at_arrival es a) ≡ None → e ∷ es ≡ cond t es (e ∷ remove_entry (is_at (nat_cmp a)) es) in
    elim (is_at (nat_cmp a) e.0) as Goal [
      | true ↦ λ h. absurd cc
      | false ↦ λ h. ap (λ l. e ∷ l) (none_taken es a h)
    ] none

-- ---- how many there are

pub few : (ps : List Place) → length (entries_of ps) ≤ length ps
few [] = omega arith
few (x ∷ ps) =
    let rest = few ps in
    let Goal : Bool → Type 0 = λ b. length (map entry_of (cond b (x ∷ filter is_here ps) (filter is_here ps))) ≤ length (x ∷ ps) in
    elim (is_here x) as Goal [ true ↦ omega (arith, rest) | false ↦ omega (arith, rest) ]

pub one_fewer : (es : Entries) (a : ℕ) (k : Kept) → at_arrival es a ≡ Some k → length (remove_entry (is_at (nat_cmp a)) es) + 1 ≡ length es
one_fewer [] a k found = absurd cc
one_fewer (e ∷ es) a k found =
    let Goal : Bool → Type 0 = λ t. cond t (Some e.1) (at_arrival es a) ≡ Some k → length (cond t es (e ∷ remove_entry (is_at (nat_cmp a)) es)) + 1 ≡ length (e ∷ es) in
    elim (is_at (nat_cmp a) e.0) as Goal [
      | true ↦ λ h. omega arith
      | false ↦ λ h. let rest = one_fewer es a k h in omega (arith, rest)
    ] found

-- ---- the numbers after a change

same_arrival : (ps : List Place) (at : ℕ) (q : Place) → at < length ps → q.arrival ≡ (get_or ps at q).arrival → (k : ℕ) (d : Place) → (get_or (set ps at q) k d).arrival ≡ (get_or ps k d).arrival
same_arrival [] at q there same k d = absurd (omega (arith, there))
same_arrival (x ∷ ps) zero q there same zero d = same
same_arrival (x ∷ ps) zero q there same (suc k) d = refl
same_arrival (x ∷ ps) (suc at) q there same zero d = refl
same_arrival (x ∷ ps) (suc at) q there same (suc k) d = same_arrival ps at q (omega (arith, there)) same k d

pub rises_still : (ps : List Place) (at : ℕ) (p q : Place) → Rises ps → at < length ps → p ≡ get_or ps at p → q.arrival ≡ p.arrival → Rises (set ps at q)
rises_still ps at p q rises there is same i j d less within =
    let one = same ∙ ap (λ (x : Place). x.arrival) (is ∙ get_or_default ps at p q there) in
    let a = same_arrival ps at q there one i d in
    let b = same_arrival ps at q there one j d in
    let l = rises i j d less (omega (arith, within, length-set ps at q)) in
    omega (arith, a, b, l)

-- ---- the replies in order

above : (ps : List Place) (a : ℕ) → ((k : ℕ) (d : Place) → k < length ps → a < (get_or ps k d).arrival) → AllByRecursion (λ y. nat_cmp a y ≡ Less) (keys_of (entries_of ps))
above [] a h = tt
above (x ∷ ps) a h =
    let rest = above ps a (λ k d within. h (suc k) d (omega (arith, within))) in
    let Goal : Bool → Type 0 = λ b. AllByRecursion (λ y. nat_cmp a y ≡ Less) (keys_of (map entry_of (cond b (x ∷ filter is_here ps) (filter is_here ps)))) in
    elim (is_here x) as Goal [ true ↦ (sym (nat_cmp_is a x.arrival Less (h 0 x (omega arith))), rest) | false ↦ rest ]

pub in_order : (ps : List Place) → Rises ps → IsStrictlySortedBy nat_cmp (keys_of (entries_of ps))
unfolding IsStrictlySortedBy
in_order [] rises = tt
in_order (x ∷ ps) rises =
    let rest = in_order ps (tail_rises x ps rises) in
    let Goal : Bool → Type 0 = λ b. IsStrictlySortedBy nat_cmp (keys_of (map entry_of (cond b (x ∷ filter is_here ps) (filter is_here ps)))) in
    elim (is_here x) as Goal [ true ↦ (above ps x.arrival (head_below x ps rises), rest) | false ↦ rest ]

-- ---- places that are left go

pub cleared : (ps : List Place) → entries_of (filter is_here ps) ≡ entries_of ps
cleared [] = refl
cleared (x ∷ ps) =
    let f : List Place = filter is_here ps in
    let Goal : Bool → Type 0 = λ b. is_here x ≡ b → entries_of (cond b (x ∷ f) f) ≡ map entry_of (cond b (x ∷ f) f) in
    elim (is_here x) as Goal [
      | true ↦ λ e. ap (λ b. map entry_of (cond b (x ∷ filter is_here f) (filter is_here f))) e ∙ ap (λ (l : Entries). entry_of x ∷ l) (cleared ps)
      | false ↦ λ e. cleared ps
    ] refl

-- ---- a place is searched for

pub partitioned : (ps : List Place) (a : ℕ) → Rises ps → IsPartitionedBy (λ p. ltb p.arrival a) ps
partitioned ps a rises i j d le within below =
    ⊎_elim
    (λ (less : i < j). let l = rises i j d less within in lt-ltb (get_or ps i d).arrival a (let b = ltb-true (get_or ps j d).arrival a below in omega (arith, l, b)))
    (λ (more : j ≤ i). let same : j ≡ i = omega (arith, le, more) in subst (λ k. ltb (get_or ps k d).arrival a ≡ true) same below)
    (cases_lt i j)

-- where the first place that isn't below the number hasn't it, none has
pub missing_behind : (ps : List Place) (a at : ℕ) → Rises ps → IsPartitionPoint (λ p. ltb p.arrival a ≡ true) (λ p. ltb p.arrival a ≡ false) ps at
    → ((d : Place) → at < length ps → (get_or ps at d).arrival ≡ a → ⊥) → (k : ℕ) (d : Place) → k < length ps → (get_or ps k d).arrival ≡ a → ⊥
missing_behind ps a at rises point here k d within same =
    ⊎_elim
    (λ (less : k < at). let l = ltb-true (get_or ps k d).arrival a (point.0 k d (omega arith) less) in omega (arith, l, same))
    (λ (more : at ≤ k). ⊎_elim
    (λ (less : at < k).
    let l = rises at k d less within in
    let b = ltb-false (get_or ps at d).arrival a (point.1 at d (omega arith) (omega (arith, less, within))) in
    omega (arith, l, b, same))
    (λ (le : k ≤ at). let e : k ≡ at = omega (arith, le, more) in here d (omega (arith, e, within)) (ap (λ k. (get_or ps k d).arrival) (sym e) ∙ same))
    (cases_lt at k))
    (cases_lt k at)

-- ---- one more place

pub one_more : (ps : List Place) (a : ℕ) (k : Kept) → entries_of (ps ++ record { arrival = a; kept = k; left = false } ∷ []) ≡ entries_of ps ++ (a, k) ∷ []
one_more ps a k =
    let last : List Place = record { arrival = a; kept = k; left = false } ∷ [] in
    ap (map entry_of) (filter-append is_here ps last) ∙ map-append entry_of (filter is_here ps) last

-- where the last number is below one, all are
pub all_below : (ps : List Place) (a : ℕ) → Rises ps → ((k : ℕ) (d : Place) → k + 1 ≡ length ps → (get_or ps k d).arrival < a) → All (λ p. p.arrival < a) ps
all_below ps a rises last k d within =
    ⊎_elim
    (λ (less : k + 1 < length ps).
    let l = rises k (length ps - 1) d (omega (arith, less)) (omega (arith, less)) in
    let b = last (length ps - 1) d (omega (arith, less)) in
    omega (arith, l, b))
    (λ (more : length ps ≤ k + 1). last k d (omega (arith, within, more)))
    (cases_lt (k + 1) (length ps))

-- where no place is left, all are below what is above the replies
pub here_below : (ps : List Place) (a : ℕ) → Rises ps → All (λ p. is_here p ≡ true) ps → ((n : ℕ) (k : Kept) → at_arrival (entries_of ps) n ≡ Some k → n < a) → All (λ p. p.arrival < a) ps
here_below ps a rises here below k d within =
    let p = get_or ps k d in
    let Goal : Bool → Type 0 = λ b. p.left ≡ b → not b ≡ true → p.arrival < a in
    elim p.left as Goal [
      | true ↦ λ e h. absurd cc
      | false ↦ λ e h. below p.arrival p.kept (found_at ps k p.arrival d rises within refl ∙ ap (λ b. cond b None (Some p.kept)) e)
    ] refl (here k d within)

pub rises_more : (ps : List Place) (p : Place) → Rises ps → All (λ q. q.arrival < p.arrival) ps → Rises (ps ++ p ∷ [])
rises_more ps p rises below = all_pairs_push (λ (p q : Place). p.arrival < q.arrival) ps p rises below
