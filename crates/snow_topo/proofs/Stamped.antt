-- Lemmas on what trees show after so many polls.
use Rattle.std.proofs.Common.{◌≡◌, ℕ, ◌+◌, ◌<◌, ◌≤◌, Bool, true, false, not, List, ◌==◌, Some, None, IfSome, refl, sym, ap, subst, ◌∙◌, arith, if◌then◌else◌}
use Rattle.std.proofs.lemmas.Grind.{common_steps}
use Rattle.snow_flake.specs.Model.Parameters.{Parameters, AreGood}
use Rattle.snow_board.specs.Model.Conflict.{Counters, Blank, all_polled}
use Rattle.snow_board.specs.Laws.FailingLaw.{failed}
use Rattle.snow_board.proofs.Cases.{split_on}
use Rattle.snow_board.proofs.Failing.{fails_once}
use Rattle.snow_topo.specs.Kept.Children.{Conflict, Kept, counters_in, shown, IsFit}

-- a number is found equal to itself
pub same_number : (n : ℕ) → (n == n) ≡ true
same_number n = grind (arith, common_steps)

-- and a later one different from an earlier one
pub other_number : (n m : ℕ) → n < m → (n == m) ≡ false
other_number n m h = grind (arith, common_steps)

pub differs : (n m : ℕ) → (n ≡ m → ⊥) → (n == m) ≡ false
differs n m h = grind (arith, common_steps)

-- the parameters of a tree that fits
of_tree : (p : Parameters) (polls : ℕ) (children : List (List ℕ)) (kept : Kept) (t : Conflict) → IsFit p polls children kept → kept.conflict ≡ Some t → t.parameters ≡ p
of_tree p polls children kept t fit is = subst (λ o. IfSome o (λ t. t.parameters ≡ p)) is fit.parameters

-- a tree that took the poll, after it failed where it was behind
pub recorded_some : (p : Parameters) (polls : ℕ) (children : List (List ℕ)) (kept new : Kept) (t u : Conflict) (votes : List Bool → ℕ) → IsFit p polls children kept
    → kept.conflict ≡ Some t → new.conflict ≡ Some u → new.recorded ≡ polls + 1
    → u.counters ≡ all_polled t.parameters votes (if not (kept.recorded == polls) then failed t.parameters t.counters else t.counters)
    → shown p (polls + 1) new ≡ all_polled p votes (shown p polls kept)
recorded_some p polls children kept new t u votes fit is now stamp took =
    let own = of_tree p polls children kept t fit is in
    let before : (if not (kept.recorded == polls) then failed p t.counters else t.counters) ≡ shown p polls kept =
    turned (kept.recorded == polls) t.counters (failed p t.counters)
    ∙ ap (λ o. if kept.recorded == polls then counters_in o else failed p (counters_in o)) (sym is)
    in
    ap (λ n. if n == polls + 1 then counters_in new.conflict else failed p (counters_in new.conflict)) stamp
    ∙ ap (λ b. if b then counters_in new.conflict else failed p (counters_in new.conflict)) (same_number (polls + 1))
    ∙ ap counters_in now ∙ took
    ∙ ap (λ q. all_polled q votes (if not (kept.recorded == polls) then failed q t.counters else t.counters)) own
    ∙ ap (all_polled p votes) before
  where
    turned : (b : Bool) (x y : Counters) → (if not b then y else x) ≡ (if b then x else y)
    turned true x y = refl
    turned false x y = refl

-- where there is no tree there are no counters
pub shown_none : (p : Parameters) (polls : ℕ) (kept : Kept) → kept.conflict ≡ None → shown p polls kept ≡ Blank
unfolding all_polled
shown_none p polls kept none =
    ap (λ o. if kept.recorded == polls then counters_in o else failed p (counters_in o)) none ∙ either (kept.recorded == polls)
  where
    either : (b : Bool) → (if b then Blank else Blank) ≡ Blank
    either true = refl
    either false = refl

-- nothing came to where nothing is
pub recorded_none : (p : Parameters) (polls now : ℕ) (kept new : Kept) (votes : List Bool → ℕ) → kept.conflict ≡ None → new.conflict ≡ None
    → shown p now new ≡ all_polled p votes (shown p polls kept)
unfolding all_polled
recorded_none p polls now kept new votes old none = shown_none p now new none ∙ ap (all_polled p votes) (sym (shown_none p polls kept old))

-- a tree that doesn't record a poll has failed after it
pub later : (p : Parameters) (polls : ℕ) (kept : Kept) → AreGood p → kept.recorded ≤ polls → shown p (polls + 1) kept ≡ failed p (shown p polls kept)
later p polls kept good past =
    let c = counters_in kept.conflict in
    ap (λ b. if b then c else failed p c) (other_number kept.recorded (polls + 1) (omega arith))
    ∙ split_on (kept.recorded == polls)
    (λ t. rw t refl)
    (λ t. rw t (sym (fails_once p c good)))
