-- A block that a target misses advances it.
use Rattle.std.proofs.Common.{◌≡◌, ℕ, zero, suc, Bool, true, false, ◌==◌, ◌||◌, ◌&&◌, not, List, [], ◌∷◌, length, Option, Some, None, bytes_eq, nat_le, if◌then◌else◌, inl, inr, refl, sym, ap, ◌∙◌, arith}
use Rattle.std.specs.Prelude.{is_some, Result, Ok, Err}
use Rattle.snow_interval.specs.Model.Heights.{Heights, lowest}
use Rattle.snow_base.specs.declared.block.Header.{Header}
use Rattle.snow_base.specs.declared.limits.TheConstants.{MOST_KEPT}
use Rattle.snow_store.specs.declared.store.KeptBlock.{KeptBlock}
use Rattle.snow_store.specs.declared.stop.BootStop.{BootStop}
use Rattle.snow_store.specs.declared.stop.BootStop.TheVariants as stop
use Rattle.snow_store.specs.declared.stop.Verdict.{Verdict}
use Rattle.snow_store.specs.declared.stop.Verdict.TheVariants as verdict
use Rattle.snow_store.specs.Model.Keeping.{Store, held, highest, higher, stray, unless, child_stop, misplaced, placed, taken}
use Rattle.snow_store.specs.Laws.Linking.{IsLinked, held_heights}
use Rattle.snow_store.specs.Model.Needing.{need_at, names}
use Rattle.snow_store.specs.Model.Paths.{Fetch, has_id, missed}
use Rattle.snow_store.specs.Laws.ProgressLaw.{Advances}
use Rattle.snow_store.specs.Clauses.Coming.{if_taken, came}
use Rattle.snow_store.proofs.Cases.{clash, same_id, id_same, same_some, not_none, none_not, picked}
use Rattle.snow_store.proofs.Needed.{with_kept, with_found, keep_moves, low_facts, low_unmissed, low_names, missed_none, need_named, missed_top, run_of, right_above, option_cases}

-- the height below a run isn't held
ends_free : (is : Heights) (h k : ℕ) → lowest is h ≡ suc k → is k ≡ false
unfolding lowest
ends_free is zero k e = cc
ends_free is (suc below) k e = by_test (is below) refl e (ends_free is below k)
  where
    by_test : (t : Bool) → is below ≡ t → (if t then lowest is below else suc below) ≡ suc k → (lowest is below ≡ suc k → is k ≡ false) → is k ≡ false
    by_test true at e more = more e
    by_test false at e more = ap is (let same : k ≡ below = omega (arith, e) in same) ∙ at

-- what is known of a block that is kept already
record IsThere (s : Store) (b : Header) : Type 0 where
  pub other : KeptBlock
  pub child : stray s.kept b.id b.height ≡ None
  pub there : held s.kept b.height ≡ Some other
  pub named : other.header.id ≡ b.id

known_facts : (s : Store) (b : Header) → taken s b ≡ Ok verdict.Known → IsThere s b
unfolding taken
known_facts s b e =
    let p = no_stop (child_stop (stray s.kept b.id b.height)) (if nat_le b.height s.height then Ok verdict.Low else placed s b (held s.kept b.height)) e in
    by_place (held s.kept b.height) refl (no_child (stray s.kept b.id b.height) p.0) (not_low (nat_le b.height s.height) (placed s b (held s.kept b.height)) p.1)
  where
    no_stop : (why : Option BootStop) (v : Result Verdict BootStop) → unless why v ≡ Ok verdict.Known → (why ≡ None) × (v ≡ Ok verdict.Known)
    no_stop None v e = (refl, e)
    no_stop (Some why) v e = cc

    no_child : (child : Option KeptBlock) → child_stop child ≡ None → child ≡ None
    no_child None e = refl
    no_child (Some c) e = cc

    not_low : (t : Bool) (v : Result Verdict BootStop) → (if t then Ok verdict.Low else v) ≡ Ok verdict.Known → v ≡ Ok verdict.Known
    not_low true v e = cc
    not_low false v e = e

    not_fitting : (why : Option BootStop) {P : Type 0} → unless why (Ok verdict.Keeps) ≡ Ok verdict.Known → P
    not_fitting None e = cc
    not_fitting (Some why) e = cc

    not_free : (full : Bool) (why : Option BootStop) {P : Type 0} → (if full then Err stop.Full else unless why (Ok verdict.Keeps)) ≡ Ok verdict.Known → P
    not_free true why e = cc
    not_free false why e = not_fitting why e

    same_there : (t : Bool) (why : BootStop) → (if t then Ok verdict.Known else Err why) ≡ Ok verdict.Known → t ≡ true
    same_there true why e = refl
    same_there false why e = cc

    by_place : (o : Option KeptBlock) → held s.kept b.height ≡ o → stray s.kept b.id b.height ≡ None → placed s b o ≡ Ok verdict.Known → IsThere s b
    by_place None is child e = not_free (nat_le MOST_KEPT (length s.kept)) (misplaced s b) e
    by_place (Some other) is child e = record {
      other = other;
      child = child;
      there = is;
      named = same_id other.header.id b.id (same_there (bytes_eq other.header.id b.id) (stop.Conflict b.height other.header.id b.id) e);
    }

-- an identifier that is kept has a highest block
some_highest : (kept : List KeptBlock) (h : ℕ) (x : KeptBlock) {P : Type 0} → held kept h ≡ Some x → highest kept x.header.id ≡ None → P
unfolding held highest
some_highest [] h x is none = none_not x is
some_highest (c ∷ kept) h x {P = P} is none =
    elim (picked (c.header.height == h) c x (held kept h) is) [
      | inl q ↦ at_first (bytes_eq c.header.id x.header.id) (id_same c.header.id x.header.id (ap (λ (y : KeptBlock). y.header.id) q.1)) none
      | inr q ↦ at_later (bytes_eq c.header.id x.header.id) (some_highest kept h x q.1) none
    ]
  where
    at_first : (t : Bool) → t ≡ true → (if t then Some (higher c (highest kept x.header.id)) else highest kept x.header.id) ≡ None → P
    at_first true e none = not_none (higher c (highest kept x.header.id)) none
    at_first false e none = clash true refl (sym e)

    at_later : (t : Bool) → (highest kept x.header.id ≡ None → P) → (if t then Some (higher c (highest kept x.header.id)) else highest kept x.header.id) ≡ None → P
    at_later true more none = not_none (higher c (highest kept x.header.id)) none
    at_later false more none = more none

-- no target misses a block that is kept already
known_unmissed : (f : Fetch) (b : KeptBlock) (t : List ℕ) {P : Type 0} → IsLinked f.store → taken f.store b.header ≡ Ok verdict.Known → missed f t ≡ Some b.header.id → P
known_unmissed f b t l fits e =
    let s = f.store in
    let k = known_facts s b.header fits in
    elim (option_cases (highest s.kept t)) [
      | inl none ↦ some_highest s.kept b.header.height k.other k.there (ap (highest s.kept) (k.named ∙ itself (bytes_eq t s.last || has_id f.found t) (sym (missed_none f t none) ∙ e)) ∙ none)
      | inr there ↦
          let c = there.0 in
          let x = run_of s t c l there.1 in
          let n = need_named s c.header.height x.0 b.header.id x.1 (ap (λ o. names o b.header.id) (sym (missed_top f t c l there.1) ∙ e) ∙ id_same b.header.id b.header.id refl) in
          let at = right_above s.kept b.header.id b.header.height (lowest (held_heights s.kept) c.header.height) x.0 k.child x.1.there n.0 in
          let low = x.1.low in
          let begins : lowest (held_heights s.kept) c.header.height ≡ suc b.header.height = omega (arith, at, low) in
          clash (held_heights s.kept b.header.height) (ap is_some k.there) (ends_free (held_heights s.kept) c.header.height b.header.height begins)
    ]
  where
    itself : (u : Bool) → (if u then None else Some t) ≡ Some b.header.id → b.header.id ≡ t
    itself true e = none_not b.header.id e
    itself false e = sym (same_some t b.header.id e)

-- where it is too low, the target is found
low_found : (f : Fetch) (b : KeptBlock) (t : List ℕ) → IsLinked f.store → has_id f.targets t ≡ true → taken f.store b.header ≡ Ok verdict.Low → missed f t ≡ Some b.header.id
    → (t ≡ b.header.id) × (missed (with_found f b) t ≡ None)
low_found f b t l among fits e =
    elim (option_cases (highest f.store.kept t)) [
      | inl none ↦
          let same : t ≡ b.header.id = itself (bytes_eq t f.store.last || has_id f.found t) (sym (missed_none f t none) ∙ e) in
          (same, unnamed (bytes_eq t f.store.last || has_id (with_found f b).found t) (missed_none (with_found f b) t none) (nobody same))
      | inr there ↦ clash (names (missed f t) b.header.id) named (low_unmissed f b t there.0 l (low_facts f.store b.header fits) there.1)
    ]
  where
    named : names (missed f t) b.header.id ≡ true
    named = ap (λ o. names o b.header.id) e ∙ id_same b.header.id b.header.id refl

    itself : (u : Bool) → (if u then None else Some t) ≡ Some b.header.id → t ≡ b.header.id
    itself true e = none_not b.header.id e
    itself false e = same_some t b.header.id e

    never : (u v : Bool) → v ≡ true → (u && not v) ≡ false
    never true true e = refl
    never false v e = refl
    never true false e = clash true refl (sym e)

    nobody : t ≡ b.header.id → names (missed (with_found f b) t) t ≡ false
    nobody same = low_names f b t t l fits among ∙ never (names (missed f t) t) (bytes_eq b.header.id t) (id_same b.header.id t (sym same))

    unnamed : (u : Bool) → missed (with_found f b) t ≡ (if u then None else Some t) → names (missed (with_found f b) t) t ≡ false → missed (with_found f b) t ≡ None
    unnamed true is none = is
    unnamed false is none = clash (names (missed (with_found f b) t) t) (ap (λ o. names o t) is ∙ id_same t t refl) none

-- a block that a target misses stops the run or advances the target
pub advances : (f g : Fetch) (b : KeptBlock) (t : List ℕ) → IsLinked f.store → has_id f.targets t ≡ true → missed f t ≡ Some b.header.id → came f b ≡ Ok g → Advances f g b t
advances f g b t l among misses e = by_verdict (taken f.store b.header) refl e
  where
    named : names (missed f t) b.header.id ≡ true
    named = ap (λ o. names o b.header.id) misses ∙ id_same b.header.id b.header.id refl

    same_ok : (x : Fetch) → (let r : Result Fetch BootStop = Ok x in r) ≡ Ok g → g ≡ x
    same_ok x e = cc

    by_verdict : (r : Result Verdict BootStop) → taken f.store b.header ≡ r → if_taken f b r ≡ Ok g → Advances f g b t
    by_verdict (Err why) is e = cc
    by_verdict (Ok verdict.Keeps) is e = let made = same_ok (with_kept f b) e in inl (made, ap (λ x. missed x t) made ∙ keep_moves f b t l is named ∙ ap (λ (x : Fetch). need_at x.store b.header.height) (sym made))
    by_verdict (Ok verdict.Low) is e = let made = same_ok (with_found f b) e in let m = low_found f b t l among is misses in inr (m.0, ap (λ x. missed x t) made ∙ m.1)
    by_verdict (Ok verdict.Known) is e = known_unmissed f b t l is misses
