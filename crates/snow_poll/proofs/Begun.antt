-- Lemmas on a new poll: its nodes are awaited, each with its draws.
use Rattle.std.proofs.Common.{◌≡◌, ℕ, zero, suc, ◌+◌, ◌^◌, ◌<◌, ◌≤◌, Bool, true, false, not, cond, ◌&&◌, ◌||◌, List, [], ◌∷◌, ◌++◌, length, get_or, take, filter, bytes_eq, if◌then◌else◌, All, Option, None, Some, refl, sym, ap, ◌∙◌, arith}
use Rattle.std.proofs.lemmas.Bool.{cond-false, false_from_ne_true}
use Rattle.std.proofs.lemmas.List.{take_more}
use Rattle.std.proofs.lemmas.List.Folds.{list_any-append}
use Rattle.std.proofs.lemmas.List.Sums.{sum_by-cons, sum_by_push}
use Rattle.std.proofs.lemmas.Slice.Eq.{bytes_eq-Decides}
use Rattle.snow_base.specs.Model.Votes.{Votes}
use Rattle.snow_sample.specs.declared.draws.Draw.{Draw}
use Rattle.snow_sample.specs.Model.Sampling.{draw_count, AreOfDistinctNodes}
use Rattle.snow_poll.specs.Model.Poll.{times_drawn, is_drawn, has_replied, unanswered}
use Rattle.snow_poll.specs.Model.Table.{new_poll}
use Rattle.snow_poll.specs.Kept.Tallied.{HasTimes, IsKept}

-- ---- a draw more

-- the draws of a node that weigh
abbrev at_node : List ℕ → Draw → ℕ
at_node node d = if bytes_eq d.node node then d.count else 0

-- a node that is drawn later was not drawn before
none_before : (draws : List Draw) (i : ℕ) (d : Draw) → i < length draws → d ≡ get_or draws i d → AreOfDistinctNodes draws
    → (is_drawn (take i draws) d.node ≡ false) × (times_drawn (take i draws) d.node ≡ 0)
none_before [] i d h is distinct = absurd (omega arith)
none_before (e ∷ draws) zero d h is distinct = (refl, refl)
none_before (e ∷ draws) (suc i) d h is distinct =
    let rest = none_before draws i d (omega arith) is (λ a b f p q. distinct (suc a) (suc b) f (omega arith) (omega arith)) in
    let other : bytes_eq e.node d.node ≡ false = false_from_ne_true _ (λ same.
    distinct 0 (suc i) d (omega arith) (omega arith) ((bytes_eq-Decides e.node d.node).0 same ∙ ap (λ (x : Draw). x.node) is)) in (
      ap (λ b. b || is_drawn (take i draws) d.node) other ∙ rest.0,
      omega (arith, sum_by-cons (at_node d.node) e (take i draws), cond-false _ e.count 0 other, rest.1),
    )

-- the times, with the next draw
pub times_more : (draws : List Draw) (i : ℕ) (d : Draw) (times more : List ℕ → Option ℕ) → i < length draws → d ≡ get_or draws i d → AreOfDistinctNodes draws
    → HasTimes times (take i draws) → ((node : List ℕ) → more node ≡ cond (bytes_eq d.node node) (Some d.count) (times node)) → HasTimes more (take (i + 1) draws)
times_more draws i d times more h is distinct has updates node =
    let front = take i draws in
    let whole : take (i + 1) draws ≡ front ++ d ∷ [] = take_more draws i d h ∙ ap (λ e. front ++ e ∷ []) (sym is) in
    let fresh = none_before draws i d h is distinct in
    let drawn : is_drawn (front ++ d ∷ []) node ≡ (is_drawn front node || (bytes_eq d.node node || false)) = list_any-append (λ (e : Draw). bytes_eq e.node node) front (d ∷ []) in
    let count : times_drawn (front ++ d ∷ []) node ≡ times_drawn front node + (if bytes_eq d.node node then d.count else 0) = sum_by_push (at_node node) front d in
    let now : more node ≡ cond (bytes_eq d.node node) (Some d.count) (if is_drawn front node then Some (times_drawn front node) else None) =
    updates node ∙ ap (cond (bytes_eq d.node node) (Some d.count)) (has node) in
    now ∙ each (bytes_eq d.node node) (is_drawn front node) (times_drawn front node) d.count
    (λ same. let one = (bytes_eq-Decides d.node node).0 same in (ap (is_drawn front) (sym one) ∙ fresh.0, ap (times_drawn front) (sym one) ∙ fresh.1))
    ∙ sym (ap (λ l. if is_drawn l node then Some (times_drawn l node) else None) whole ∙ ap (λ b. if b then Some (times_drawn (front ++ d ∷ []) node) else None) drawn
    ∙ ap (λ n. if is_drawn front node || (bytes_eq d.node node || false) then Some n else None) count)
  where
    each : (same was : Bool) (n m : ℕ) → (same ≡ true → (was ≡ false) × (n ≡ 0))
        → cond same (Some m) (if was then Some n else None) ≡ (if was || (same || false) then Some (n + (if same then m else 0)) else None)
    each true was n m new = let sum : m ≡ n + m = omega (arith, (new refl).1) in rw ((new refl).0) (ap Some sum)
    each false true n m new = rw (plus n) refl
      where
        plus : (n : ℕ) → n + 0 ≡ n
        plus n = omega arith
    each false false n m new = refl

-- the draws, with the next one
pub drawn_more : (draws : List Draw) (i : ℕ) (d : Draw) (drawn more : List Draw) → i < length draws → d ≡ get_or draws i d → drawn ≡ take i draws → more ≡ drawn ++ d ∷ []
    → more ≡ take (i + 1) draws
drawn_more draws i d drawn more h is were are =
    are ∙ ap (λ l. l ++ d ∷ []) were ∙ ap (λ e. take i draws ++ e ∷ []) is ∙ sym (take_more draws i d h)

-- ---- what is kept of a new poll

-- no node has replied
unreplied : (draws : List Draw) → filter (λ d. not (has_replied [] d.node)) draws ≡ draws
unreplied [] = refl
unreplied (d ∷ draws) = ap (λ l. d ∷ l) (unreplied draws)

pub kept_new : (number : ℕ) (draws : List Draw) (waiting : List ℕ → Option ℕ) (bag : Votes) (to_come room : ℕ)
    → HasTimes waiting draws → bag.list ≡ [] → draw_count draws ≡ to_come → to_come < 2 ^ 32 → All (λ d. 1 ≤ d.count) draws
    → length draws ≤ bag.room → length draws ≤ room → IsKept (new_poll number draws) waiting bag 0 to_come room
kept_new number draws waiting bag to_come room has empty count small counts places fits =
    let whole = unreplied draws in
    let left : draw_count (unanswered (new_poll number draws)) ≡ draw_count draws = ap draw_count whole in
    let long : length (unanswered (new_poll number draws)) ≡ length draws = ap (λ (l : List Draw). length l) whole in
    record {
      awaited = λ node. has node ∙ ap (λ b. if b then Some (times_drawn draws node) else None) (sym (both (is_drawn draws node)));
      votes = empty;
      most = refl;
      left = omega (arith, left, count);
      within = omega (arith, left);
      small = omega (arith, count, small);
      counts = counts;
      places = omega (arith, long, places);
      replies_fit = omega (arith, long, fits);
    }
  where
    both : (b : Bool) → (b && true) ≡ b
    both true = refl
    both false = refl
