-- What a target misses once one block more is kept, or was found too low.
use Rattle.std.proofs.Common.{◌≡◌, ℕ, zero, suc, ◌+◌, ◌<◌, ◌≤◌, Bool, true, false, ◌==◌, ◌&&◌, ◌||◌, not, List, [], ◌∷◌, Option, Some, None, bytes_eq, nat_le, if◌then◌else◌, ◌⊎◌, inl, inr, refl, sym, ap, ◌∙◌, arith, eq-eqb, eqb-true, length, ◌++◌}
use Rattle.std.specs.Prelude.{is_some, Ok, Err, Result}
use Rattle.std.proofs.lemmas.Bool.{ne_eqb, lt-ltb, leb-true}
use Rattle.std.proofs.lemmas.List.Folds.{list_any-append}
use Rattle.std.specs.Option.{option_map}
use Rattle.snow_interval.specs.Model.Heights.{Heights, lowest}
use Rattle.snow_base.specs.declared.block.Header.{Header}
use Rattle.snow_base.specs.declared.limits.TheConstants.{MOST_KEPT}
use Rattle.snow_store.specs.declared.store.KeptBlock.{KeptBlock}
use Rattle.snow_store.specs.declared.stop.BootStop.{BootStop}
use Rattle.snow_store.specs.declared.stop.BootStop.TheVariants as stop
use Rattle.snow_store.specs.declared.stop.Verdict.{Verdict}
use Rattle.snow_store.specs.declared.stop.Verdict.TheVariants as verdict
use Rattle.snow_store.specs.Model.Keeping.{Store, held, highest, higher, lower, strays, stray, unless, child_stop, misplaced, placed, taken, keeping}
use Rattle.snow_store.specs.Laws.Linking.{IsLinked, held_heights}
use Rattle.snow_store.specs.Model.Needing.{need_at, names}
use Rattle.snow_store.specs.Model.Paths.{Fetch, wanted_below, has_id, missed_from, missed}
use Rattle.snow_store.specs.Clauses.Coming.{noted}
use Rattle.snow_store.proofs.Cases.{split_on, clash, same_id, id_same, id_turned, none_not, picked, passed, or_false}
use Rattle.snow_store.proofs.Holding.{held_height, held_above, held_later, highest_held}
use Rattle.snow_store.proofs.Linked.{IsPlaced, keeps_facts, linked_above, kept_linked}
use Rattle.snow_store.proofs.Storing.{more_heights, missed_kept}
use Rattle.snow_store.proofs.Walking.{run_held, at_most}

-- ---- runs of heights, with one height more

run_here : (held : Heights) (below : ℕ) → held below ≡ true → lowest held (suc below) ≡ lowest held below
unfolding lowest
run_here held below e = rw e refl

run_starts : (held : Heights) (below : ℕ) → held below ≡ false → lowest held (suc below) ≡ suc below
unfolding lowest
run_starts held below e = rw e refl

-- a run that doesn't begin right above the height stays
same_run : (was is : Heights) (more h : ℕ) → ((k : ℕ) → is k ≡ ((more == k) || was k)) → (lowest was h ≡ more + 1 → ⊥) → lowest is h ≡ lowest was h
unfolding lowest
same_run was is more zero grown other = refl
same_run was is more (suc below) grown other =
    split_on (was below)
    (λ e.
    let now : is below ≡ true = grown below ∙ ap (λ t. (more == below) || t) e ∙ or_true (more == below) in
    run_here is below now
    ∙ same_run was is more below grown (λ at. other (run_here was below e ∙ at))
    ∙ sym (run_here was below e))
    (λ e.
    let apart : (more == below) ≡ false = ne_eqb more below (λ same. other (let at : lowest was (suc below) ≡ more + 1 = omega (arith, run_starts was below e, same) in at)) in
    let now : is below ≡ false = grown below ∙ ap (λ t. t || was below) apart ∙ e in
    run_starts is below now ∙ sym (run_starts was below e))
  where
    or_true : (b : Bool) → (b || true) ≡ true
    or_true true = refl
    or_true false = refl

-- one that begins there goes on with the run of the height
joined_run : (was is : Heights) (more h : ℕ) → ((k : ℕ) → is k ≡ ((more == k) || was k)) → lowest was h ≡ more + 1 → lowest is h ≡ lowest is more
unfolding lowest
joined_run was is more zero grown at = absurd (omega (arith, at))
joined_run was is more (suc below) grown at =
    split_on (was below)
    (λ e.
    let now : is below ≡ true = grown below ∙ ap (λ t. (more == below) || t) e ∙ or_true (more == below) in
    run_here is below now ∙ joined_run was is more below grown (sym (run_here was below e) ∙ at))
    (λ e.
    let begins : suc below ≡ more + 1 = sym (run_starts was below e) ∙ at in
    let same : more ≡ below = omega (arith, begins) in
    let now : is below ≡ true = grown below ∙ ap (λ n. (n == below) || was below) same ∙ or_same below in
    run_here is below now ∙ ap (lowest is) (sym same))
  where
    or_true : (b : Bool) → (b || true) ≡ true
    or_true true = refl
    or_true false = refl

    or_same : (n : ℕ) → ((n == n) || was n) ≡ true
    or_same n = ap (λ t. t || was n) (eq-eqb n n refl)

-- ---- children that stray

-- a block that names a parent of which no child strays is right above it
pub right_above : (kept : List KeptBlock) (id : List ℕ) (h l : ℕ) (x : KeptBlock) → stray kept id h ≡ None → held kept l ≡ Some x → x.header.parent ≡ id → x.header.height ≡ h + 1
unfolding stray held
right_above [] id h l x none is named = none_not x is
right_above (c ∷ kept) id h l x none is named =
    let p = passed (strays id h c) (lower c (stray kept id h)) (stray kept id h) none in
    elim (picked (c.header.height == l) c x (held kept l) is) [
      | inl q ↦ ap (λ (y : KeptBlock). y.header.height) (sym q.1) ∙ not_strayed c p.0 (ap (λ (y : KeptBlock). y.header.parent) q.1 ∙ named)
      | inr q ↦ right_above kept id h l x p.1 q.1 named
    ]
  where
    by_tests : (t u : Bool) → t ≡ true → (t && not u) ≡ false → u ≡ true
    by_tests true true s e = refl
    by_tests true false s e = clash true refl e
    by_tests false u s e = clash false s refl

    not_strayed : (c : KeptBlock) → strays id h c ≡ false → c.header.parent ≡ id → c.header.height ≡ h + 1
    not_strayed c e same = eqb-true c.header.height (h + 1) (by_tests (bytes_eq c.header.parent id) (c.header.height == h + 1) (id_same c.header.parent id same) e)

-- ---- what a target misses

-- a kept target misses what its run misses
pub missed_top : (f : Fetch) (t : List ℕ) (c : KeptBlock) → IsLinked f.store → highest f.store.kept t ≡ Some c → missed f t ≡ need_at f.store c.header.height
unfolding missed
missed_top f t c l is =
    missed_kept f.store f.found t c.header.height (lowest (held_heights f.store.kept) c.header.height) (held_heights f.store.kept) l (λ h. refl) (ap (option_map (λ (b : KeptBlock). b.header.height)) is) refl

-- one that isn't kept misses itself, unless it was found
pub missed_none : (f : Fetch) (t : List ℕ) → highest f.store.kept t ≡ None → missed f t ≡ (if bytes_eq t f.store.last || has_id f.found t then None else Some t)
unfolding missed
missed_none f t none = ap (missed_from f.store f.found t) none

-- the lowest block of a run
pub record IsBottom (s : Store) (h : ℕ) (x : KeptBlock) : Type 0 where
  pub there : held s.kept (lowest (held_heights s.kept) h) ≡ Some x
  pub low : x.header.height ≡ lowest (held_heights s.kept) h
  pub within : lowest (held_heights s.kept) h ≤ h
  pub above : s.height < x.header.height

bottom_of : (s : Store) (h : ℕ) → IsLinked s → held_heights s.kept h ≡ true → (x : KeptBlock) × IsBottom s h x
bottom_of s h l is =
    let low = lowest (held_heights s.kept) h in
    let within = at_most (held_heights s.kept) h in
    let x = some_of (held s.kept low) (run_held (held_heights s.kept) h is low (omega arith) within) in (
      x.0,
      record {
        there = x.1;
        low = held_height s.kept low x.0 x.1;
        within = within;
        above = held_above s.height s.kept low x.0 l.above x.1;
      },
    )
  where
    some_of : (o : Option KeptBlock) → is_some o ≡ true → (c : KeptBlock) × (o ≡ Some c)
    some_of None e = clash true refl (sym e)
    some_of (Some c) e = (c, refl)

-- what a run misses is the parent of its lowest block
pub need_named : (s : Store) (h : ℕ) (x : KeptBlock) (id : List ℕ) → IsBottom s h x → names (need_at s h) id ≡ true → (x.header.parent ≡ id) × (x.header.height ≡ s.height + 1 → ⊥)
need_named s h x id b e = by_test (x.header.height == s.height + 1) refl (sym (ap (λ o. names (wanted_below s.height o) id) b.there) ∙ e)
  where
    by_test : (t : Bool) → (x.header.height == s.height + 1) ≡ t → names (if t then None else Some x.header.parent) id ≡ true → (x.header.parent ≡ id) × (x.header.height ≡ s.height + 1 → ⊥)
    by_test true at e = clash true refl (sym e)
    by_test false at e = (same_id x.header.parent id e, λ is. clash (x.header.height == s.height + 1) (eq-eqb x.header.height (s.height + 1) is) at)

-- and it does miss it where that block isn't right above the last accepted one
need_is : (s : Store) (h : ℕ) (x : KeptBlock) (id : List ℕ) → IsBottom s h x → x.header.parent ≡ id → (x.header.height ≡ s.height + 1 → ⊥) → names (need_at s h) id ≡ true
need_is s h x id b named other =
    ap (λ o. names (wanted_below s.height o) id) b.there
    ∙ ap (λ (t : Bool). names (if t then None else Some x.header.parent) id) (ne_eqb x.header.height (s.height + 1) other)
    ∙ id_same x.header.parent id named

-- a kept target has a run
pub run_of : (s : Store) (t : List ℕ) (c : KeptBlock) → IsLinked s → highest s.kept t ≡ Some c → (x : KeptBlock) × IsBottom s c.header.height x
run_of s t c l is = bottom_of s c.header.height l (ap is_some (highest_held s.kept t c l.apart is).0)

pub option_cases : {X : Type 0} (o : Option X) → (o ≡ None) ⊎ ((x : X) × (o ≡ Some x))
option_cases None = inl refl
option_cases (Some x) = inr (x, refl)

-- the highest block of an identifier, with a block more
highest_other : (kept : List KeptBlock) (b : KeptBlock) (t : List ℕ) → bytes_eq b.header.id t ≡ false → highest (b ∷ kept) t ≡ highest kept t
unfolding highest
highest_other kept b t e = rw e refl

highest_first : (kept : List KeptBlock) (b : KeptBlock) (t : List ℕ) → bytes_eq b.header.id t ≡ true → highest kept t ≡ None → highest (b ∷ kept) t ≡ Some b
unfolding highest
highest_first kept b t e none = rw (e, none) refl

highest_stays : (kept : List KeptBlock) (b c : KeptBlock) (t : List ℕ) → b.header.height < c.header.height → highest kept t ≡ Some c → highest (b ∷ kept) t ≡ Some c
unfolding highest
highest_stays kept b c t less is = by_test (bytes_eq b.header.id t)
  where
    higher_one : higher b (highest kept t) ≡ c
    higher_one = ap (higher b) is ∙ ap (λ (u : Bool). if u then c else b) (lt-ltb b.header.height c.header.height less)

    by_test : (u : Bool) → (if u then Some (higher b (highest kept t)) else highest kept t) ≡ Some c
    by_test true = ap (λ x. Some x) higher_one
    by_test false = is

abbrev pub with_kept : Fetch → KeptBlock → Fetch
with_kept f b = record { store = keeping f.store b; targets = f.targets; found = f.found }

grown : (kept : List KeptBlock) (b : KeptBlock) (k : ℕ) → held_heights (b ∷ kept) k ≡ ((b.header.height == k) || held_heights kept k)
grown kept b k = more_heights kept b k

-- a run that misses a block which is kept begins right above it
begins_above : (f : Fetch) (b : KeptBlock) (t : List ℕ) (c x : KeptBlock) → IsLinked f.store → IsPlaced f.store b.header → highest f.store.kept t ≡ Some c → IsBottom f.store c.header.height x
    → names (missed f t) b.header.id ≡ true → lowest (held_heights f.store.kept) c.header.height ≡ b.header.height + 1
begins_above f b t c x l p is bottom e =
    let n = need_named f.store c.header.height x b.header.id bottom (sym (ap (λ o. names o b.header.id) (missed_top f t c l is)) ∙ e) in
    sym bottom.low ∙ right_above f.store.kept b.header.id b.header.height (lowest (held_heights f.store.kept) c.header.height) x p.child bottom.there n.0

-- whoever missed the block misses what its own run misses
pub keep_moves : (f : Fetch) (b : KeptBlock) (t : List ℕ) → IsLinked f.store → taken f.store b.header ≡ Ok verdict.Keeps → names (missed f t) b.header.id ≡ true
    → missed (with_kept f b) t ≡ need_at (keeping f.store b) b.header.height
keep_moves f b t l fits e =
    let s = f.store in
    let p = keeps_facts s b.header fits in
    let linked = kept_linked s b l fits in
    elim (option_cases (highest s.kept t)) [
      | inl none ↦
          let self : b.header.id ≡ t = itself none in
          missed_top (with_kept f b) t b linked (highest_first s.kept b t (id_same b.header.id t self) none)
      | inr there ↦
          let c = there.0 in
          let x = run_of s t c l there.1 in
          let at = begins_above f b t c x.0 l p there.1 x.1 e in
          let less : b.header.height < c.header.height = omega (arith, at, x.1.within) in
          missed_top (with_kept f b) t c linked (highest_stays s.kept b c t less there.1)
          ∙ ap (λ n. wanted_below s.height (held (b ∷ s.kept) n)) (joined_run (held_heights s.kept) (held_heights (b ∷ s.kept)) b.header.height c.header.height (grown s.kept b) at)
    ]
  where
    by_test : (u : Bool) → names (if u then None else Some t) b.header.id ≡ true → b.header.id ≡ t
    by_test true e = clash true refl (sym e)
    by_test false e = sym (same_id t b.header.id e)

    itself : highest f.store.kept t ≡ None → b.header.id ≡ t
    itself none = by_test (bytes_eq t f.store.last || has_id f.found t) (sym (ap (λ o. names o b.header.id) (missed_none f t none)) ∙ e)

-- all others miss what they missed, but for the block itself where it was known before
pub keep_stays : (f : Fetch) (b : KeptBlock) (t : List ℕ) → IsLinked f.store → taken f.store b.header ≡ Ok verdict.Keeps → names (missed f t) b.header.id ≡ false
    → (b.header.id ≡ t → names (missed f t) b.header.id ≡ true) → missed (with_kept f b) t ≡ missed f t
keep_stays f b t l fits e new =
    let s = f.store in
    let p = keeps_facts s b.header fits in
    let linked = kept_linked s b l fits in
    let other : bytes_eq b.header.id t ≡ false = another in
    elim (option_cases (highest s.kept t)) [
      | inl none ↦ missed_none (with_kept f b) t (highest_other s.kept b t other ∙ none) ∙ sym (missed_none f t none)
      | inr there ↦
          let c = there.0 in
          let x = run_of s t c l there.1 in
          let low = lowest (held_heights s.kept) c.header.height in
          let apart : low ≡ b.header.height + 1 → ⊥ = λ at. begins_there p c x.0 x.1 there.1 at in
          let free : (b.header.height == low) ≡ false = ne_eqb b.header.height low (λ same. none_not x.0 (sym p.free ∙ ap (held s.kept) same ∙ x.1.there)) in
          missed_top (with_kept f b) t c linked (highest_other s.kept b t other ∙ there.1)
          ∙ ap (λ n. wanted_below s.height (held (b ∷ s.kept) n)) (same_run (held_heights s.kept) (held_heights (b ∷ s.kept)) b.header.height c.header.height (grown s.kept b) apart)
          ∙ ap (wanted_below s.height) (held_later s.kept b low free)
          ∙ sym (missed_top f t c l there.1)
    ]
  where
    another : bytes_eq b.header.id t ≡ false
    another = split_on (bytes_eq b.header.id t) (λ same. clash (names (missed f t) b.header.id) (new (same_id b.header.id t same)) e) (λ other. other)

    -- a run that begins right above the block misses it
    begins_there : IsPlaced f.store b.header → (c x : KeptBlock) → IsBottom f.store c.header.height x → highest f.store.kept t ≡ Some c
        → lowest (held_heights f.store.kept) c.header.height ≡ b.header.height + 1 → ⊥
    begins_there p c x bottom is at =
        let there : held f.store.kept (b.header.height + 1) ≡ Some x = ap (held f.store.kept) (sym at) ∙ bottom.there in
        let named : x.header.parent ≡ b.header.id = linked_above b.header x (held f.store.kept (b.header.height + 1)) p.next there in
        let above = p.above in
        let low = bottom.low in
        let far : x.header.height ≡ f.store.height + 1 → ⊥ = λ near. omega (arith, near, low, at, above) in
        clash (names (missed f t) b.header.id) (ap (λ o. names o b.header.id) (missed_top f t c l is) ∙ need_is f.store c.header.height x b.header.id bottom named far) e

-- ---- a block that is too low

-- what is known of it
pub record IsLow (s : Store) (b : Header) : Type 0 where
  pub child : stray s.kept b.id b.height ≡ None
  pub low : b.height ≤ s.height

pub low_facts : (s : Store) (b : Header) → taken s b ≡ Ok verdict.Low → IsLow s b
unfolding taken
low_facts s b e =
    let p = no_stop (child_stop (stray s.kept b.id b.height)) (if nat_le b.height s.height then Ok verdict.Low else placed s b (held s.kept b.height)) e in
    record { child = no_child (stray s.kept b.id b.height) p.0; low = leb-true b.height s.height (is_low (nat_le b.height s.height) (held s.kept b.height) p.1) }
  where
    no_stop : (why : Option BootStop) (v : Result Verdict BootStop) → unless why v ≡ Ok verdict.Low → (why ≡ None) × (v ≡ Ok verdict.Low)
    no_stop None v e = (refl, e)
    no_stop (Some why) v e = cc

    no_child : (child : Option KeptBlock) → child_stop child ≡ None → child ≡ None
    no_child None e = refl
    no_child (Some c) e = cc

    not_there : (same : Bool) (why : BootStop) {P : Type 0} → (if same then Ok verdict.Known else Err why) ≡ Ok verdict.Low → P
    not_there true why e = cc
    not_there false why e = cc

    not_fitting : (why : Option BootStop) {P : Type 0} → unless why (Ok verdict.Keeps) ≡ Ok verdict.Low → P
    not_fitting None e = cc
    not_fitting (Some why) e = cc

    not_full : (full : Bool) (why : Option BootStop) {P : Type 0} → (if full then Err stop.Full else unless why (Ok verdict.Keeps)) ≡ Ok verdict.Low → P
    not_full true why e = cc
    not_full false why e = not_fitting why e

    not_placed : (o : Option KeptBlock) {P : Type 0} → placed s b o ≡ Ok verdict.Low → P
    not_placed None e = not_full (nat_le MOST_KEPT (length s.kept)) (misplaced s b) e
    not_placed (Some other) e = not_there (bytes_eq other.header.id b.id) (stop.Conflict b.height other.header.id b.id) e

    is_low : (t : Bool) (o : Option KeptBlock) → (if t then Ok verdict.Low else placed s b o) ≡ Ok verdict.Low → t ≡ true
    is_low true o e = refl
    is_low false o e = not_placed o e

-- no kept target misses it
pub low_unmissed : (f : Fetch) (b : KeptBlock) (t : List ℕ) (c : KeptBlock) → IsLinked f.store → IsLow f.store b.header → highest f.store.kept t ≡ Some c → names (missed f t) b.header.id ≡ false
low_unmissed f b t c l p is = split_on (names (missed f t) b.header.id) missing (λ e. e)
  where
    missing : names (missed f t) b.header.id ≡ true → names (missed f t) b.header.id ≡ false
    missing e =
        let x = run_of f.store t c l is in
        let n = need_named f.store c.header.height x.0 b.header.id x.1 (sym (ap (λ o. names o b.header.id) (missed_top f t c l is)) ∙ e) in
        let at = right_above f.store.kept b.header.id b.header.height (lowest (held_heights f.store.kept) c.header.height) x.0 p.child x.1.there n.0 in
        let above = x.1.above in
        let low = p.low in
        absurd (n.1 (let same : x.0.header.height ≡ f.store.height + 1 = omega (arith, at, above, low) in same))

abbrev pub with_found : Fetch → KeptBlock → Fetch
with_found f b = record { store = f.store; targets = f.targets; found = noted f.targets f.found b.header.id }

-- nobody misses it then, and all else is missed as before
pub low_names : (f : Fetch) (b : KeptBlock) (t id : List ℕ) → IsLinked f.store → taken f.store b.header ≡ Ok verdict.Low → has_id f.targets t ≡ true
    → names (missed (with_found f b) t) id ≡ (names (missed f t) id && not (bytes_eq b.header.id id))
low_names f b t id l fits among =
    elim (option_cases (highest f.store.kept t)) [
      | inl none ↦ ap (λ o. names o id) (missed_none (with_found f b) t none) ∙ found_or none ∙ sym (ap (λ o. names o id && not (bytes_eq b.header.id id)) (missed_none f t none))
      | inr there ↦
          ap (λ o. names o id) (missed_top (with_found f b) t there.0 l there.1 ∙ sym (missed_top f t there.0 l there.1))
          ∙ another (missed f t) (low_unmissed f b t there.0 l (low_facts f.store b.header fits) there.1)
    ]
  where
    another : (o : Option (List ℕ)) → names o b.header.id ≡ false → names o id ≡ (names o id && not (bytes_eq b.header.id id))
    another o e = by_test (bytes_eq b.header.id id) refl
      where
        and_true : (u : Bool) → u ≡ (u && true)
        and_true true = refl
        and_true false = refl

        and_false : (u : Bool) → u ≡ false → u ≡ (u && false)
        and_false true e = clash true refl e
        and_false false e = refl

        by_test : (u : Bool) → bytes_eq b.header.id id ≡ u → names o id ≡ (names o id && not u)
        by_test true same = and_false (names o id) (ap (names o) (sym (same_id b.header.id id same)) ∙ e)
        by_test false other = and_true (names o id)

    noted_has : (u v : Bool) → has_id f.targets b.header.id ≡ u → has_id f.found b.header.id ≡ v → u ≡ true
        → has_id (if u && not v then f.found ++ b.header.id ∷ [] else f.found) b.header.id ≡ true
    noted_has true true p q e = q
    noted_has true false p q e = list_any-append (λ x. bytes_eq x b.header.id) f.found (b.header.id ∷ []) ∙ rw (q, id_same b.header.id b.header.id refl) refl
    noted_has false v p q e = clash true refl (sym e)

    noted_other : (u : Bool) → bytes_eq b.header.id t ≡ false → has_id (if u then f.found ++ b.header.id ∷ [] else f.found) t ≡ has_id f.found t
    noted_other true e = list_any-append (λ x. bytes_eq x t) f.found (b.header.id ∷ []) ∙ rw e (or_false (has_id f.found t))
    noted_other false e = refl

    or_one : (u : Bool) → (u || true) ≡ true
    or_one true = refl
    or_one false = refl

    gone : (u : Bool) → false ≡ (names (let o : Option (List ℕ) = if u then None else Some t in o) id && not (bytes_eq t id))
    gone true = refl
    gone false = by_test (bytes_eq t id)
      where
        by_test : (v : Bool) → false ≡ (v && not v)
        by_test true = refl
        by_test false = refl

    found_or : highest f.store.kept t ≡ None
        → names (if bytes_eq t f.store.last || has_id (noted f.targets f.found b.header.id) t then None else Some t) id
        ≡ (names (if bytes_eq t f.store.last || has_id f.found t then None else Some t) id && not (bytes_eq b.header.id id))
    found_or none =
        split_on (bytes_eq b.header.id t)
        (λ same.
        let is : b.header.id ≡ t = same_id b.header.id t same in
        let there : has_id (noted f.targets f.found b.header.id) t ≡ true =
        ap (has_id (noted f.targets f.found b.header.id)) (sym is) ∙ noted_has (has_id f.targets b.header.id) (has_id f.found b.header.id) refl refl (ap (has_id f.targets) is ∙ among) in
        ap (λ (v : Bool). names (if bytes_eq t f.store.last || v then None else Some t) id) there
        ∙ ap (λ (v : Bool). names (if v then None else Some t) id) (or_one (bytes_eq t f.store.last))
        ∙ gone (bytes_eq t f.store.last || has_id f.found t)
        ∙ ap (λ i. names (if bytes_eq t f.store.last || has_id f.found t then None else Some t) id && not (bytes_eq i id)) (sym is))
        (λ other.
        ap (λ (v : Bool). names (if bytes_eq t f.store.last || v then None else Some t) id) (noted_other (has_id f.targets b.header.id && not (has_id f.found b.header.id)) other)
        ∙ another (if bytes_eq t f.store.last || has_id f.found t then None else Some t) (not_named (bytes_eq t f.store.last || has_id f.found t) other))
      where
        not_named : (u : Bool) → bytes_eq b.header.id t ≡ false → names (if u then None else Some t) b.header.id ≡ false
        not_named true e = refl
        not_named false e = id_turned t b.header.id ∙ e
