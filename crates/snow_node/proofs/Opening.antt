-- Lemmas on a poll that begins: it is open.
use Rattle.std.proofs.Common.{◌≡◌, ℕ, zero, suc, ◌+◌, ◌-◌, ◌==◌, Bool, true, false, not, nat_lt, List, [], ◌∷◌, ◌++◌, map, fold, filter, length, bytes_eq, Option, Some, None, Result, Ok, Err, if◌then◌else◌, refl, sym, ap, ◌∙◌, arith}
use Rattle.std.specs.Option.{option_and_then}
use Rattle.std.proofs.lemmas.Bool.{le-ltb, ne_eqb}
use Rattle.std.proofs.lemmas.List.Sums.{sum_by-cons}
use Rattle.std.proofs.lemmas.Option.{none-some, same_Some}
use Rattle.snow_flake.specs.Model.Parameters.{Parameters, AreGood}
use Rattle.snow_sample.specs.declared.draws.Draw.{Draw}
use Rattle.snow_sample.specs.declared.roster.Node.{Node}
use Rattle.snow_sample.specs.declared.sampling.SampleFault.{SampleFault}
use Rattle.snow_sample.specs.declared.sampling.SampleFault.TheVariants as fault
use Rattle.snow_sample.specs.Model.Roster.{total_weight, owner}
use Rattle.snow_sample.specs.Model.Sampling.{swapped, with_unit, drawn_from, drawn, counted, draws_of, or_out, sample_of, draw_count}
use Rattle.snow_sample.specs.Model.Words.{choice}
use Rattle.snow_poll.specs.Model.Poll.{Poll, has_replied, outstanding}
use Rattle.snow_poll.specs.Model.Closing.{is_closed}
use Rattle.snow_poll.specs.Model.Table.{new_poll, finished}
use Rattle.snow_board.proofs.Cases.{split_on}

-- ---- a sample has as many draws as were asked for

-- what follows once a number was chosen
abbrev after_choice : ℕ → ℕ → ℕ → (ℕ → ℕ) → ℕ × List ℕ → Option (List ℕ × List ℕ)
after_choice k total j units (r, left) = with_unit (swapped units (j + r) j j) (drawn_from k total (j + 1) (swapped units (j + r) j) left)

-- as many units
units_drawn : (k total j : ℕ) (units : ℕ → ℕ) (words taken left : List ℕ) → drawn_from k total j units words ≡ Some (taken, left) → length taken ≡ k
unfolding drawn_from
units_drawn zero total j units words taken left e = sym (ap (λ (r : List ℕ × List ℕ). length r.0) (same_Some ([], words) (taken, left) e))
units_drawn (suc k) total j units words taken left e =
    by_choice (λ next rest later end. units_drawn k total (j + 1) next rest later end) (choice (total - 1 - j) words) e
  where
    by_rest : (unit : ℕ) (o : Option (List ℕ × List ℕ)) → ((later end : List ℕ) → o ≡ Some (later, end) → length later ≡ k) → with_unit unit o ≡ Some (taken, left)
        → length taken ≡ suc k
    by_rest unit None rest e = absurd (none-some (taken, left) e)
    by_rest unit (Some (later, end)) rest e =
        sym (ap (λ (r : List ℕ × List ℕ). length r.0) (same_Some (unit ∷ later, end) (taken, left) e)) ∙ ap suc (rest later end refl)

    by_choice : ((next : ℕ → ℕ) (rest later end : List ℕ) → drawn_from k total (j + 1) next rest ≡ Some (later, end) → length later ≡ k)
        → (o : Option (ℕ × List ℕ)) → option_and_then (after_choice k total j units) o ≡ Some (taken, left) → length taken ≡ suc k
    by_choice again None e = absurd (none-some (taken, left) e)
    by_choice again (Some (r, rest)) e =
        let next : ℕ → ℕ = swapped units (j + r) j in
        by_rest (next j) (drawn_from k total (j + 1) next rest) (again next rest) e

-- a draw more is one more in all
count_more : (draws : List Draw) (node : List ℕ) → draw_count (counted draws node) ≡ draw_count draws + 1
count_more [] node = omega arith
count_more (d ∷ draws) node =
    let here = sum_by-cons (λ (x : Draw). x.count) d draws in
    split_on (bytes_eq d.node node)
    (λ t. rw t (omega (arith, here, sum_by-cons (λ (x : Draw). x.count) (record { node = d.node; count = d.count + 1 }) draws)))
    (λ t. rw t (omega (arith, here, sum_by-cons (λ (x : Draw). x.count) d (counted draws node), count_more draws node)))

-- as many draws as units
units_counted : (draws : List Draw) (nodes : List Node) (units : List ℕ) → draw_count (fold counted draws (map (owner nodes) units)) ≡ draw_count draws + length units
units_counted draws nodes [] = omega arith
units_counted draws nodes (u ∷ units) = omega (arith, units_counted (counted draws (owner nodes u)) nodes units, count_more draws (owner nodes u))

-- the draws of a sample
abbrev draws_in : Result (List Draw × List ℕ) SampleFault → List Draw
draws_in (Ok r) = r.0
draws_in (Err f) = []

-- which are k
pub sample_counts : (nodes : List Node) (k : ℕ) (words : List ℕ) (draws : List Draw) (left : List ℕ) → sample_of nodes k words ≡ Ok (draws, left) → draw_count draws ≡ k
sample_counts nodes k words draws left e = by_weight (nat_lt (total_weight nodes) k) e
  where
    by_units : (o : Option (List ℕ × List ℕ)) → drawn k (total_weight nodes) words ≡ o → or_out nodes o ≡ Ok (draws, left) → draw_count draws ≡ k
    by_units None was e = absurd cc
    by_units (Some (units, rest)) was e =
        let same : draws_of nodes units ≡ draws = ap draws_in e in
        let long = units_drawn k (total_weight nodes) 0 (λ unit. unit) words units rest was in
        sym (ap draw_count same) ∙ omega (arith, units_counted [] nodes units, long)

    by_weight : (b : Bool) → (if b then Err (fault.TooFewUnits (total_weight nodes)) else or_out nodes (drawn k (total_weight nodes) words)) ≡ Ok (draws, left) → draw_count draws ≡ k
    by_weight true e = absurd cc
    by_weight false e = by_units (drawn k (total_weight nodes) words) refl e

-- ---- a poll without replies

-- all its draws are outstanding
all_outstanding : (number : ℕ) (draws : List Draw) → outstanding (new_poll number draws) ≡ draw_count draws
all_outstanding number draws = ap draw_count (none_replied draws)
  where
    none_replied : (draws : List Draw) → filter (λ d. not (has_replied [] d.node)) draws ≡ draws
    none_replied [] = refl
    none_replied (d ∷ draws) = ap (λ l. d ∷ l) (none_replied draws)

-- so it is open
new_open : (p : Parameters) (number : ℕ) (draws : List Draw) → AreGood p → draw_count draws ≡ p.k → is_closed p (new_poll number draws) ≡ false
new_open p number draws good count =
    let n = outstanding (new_poll number draws) in
    let all : n ≡ p.k = all_outstanding number draws ∙ count in
    let some : (n == 0) ≡ false = ne_eqb n 0 (λ e. absurd (omega (arith, all, e, good.majority, good.in_order, good.reachable))) in
    let reach : nat_lt (0 + n) p.alpha_preference ≡ false = le-ltb (0 + n) p.alpha_preference (omega (arith, all, good.in_order, good.reachable)) in
    rw (some, reach) refl

-- and where no closed poll stands in front, none does once it has begun
pub front_stays : (p : Parameters) (polls : List Poll) (number : ℕ) (draws : List Draw) → AreGood p → draw_count draws ≡ p.k → finished p polls ≡ None
    → finished p (polls ++ new_poll number draws ∷ []) ≡ None
front_stays p [] number draws good count h = rw (new_open p number draws good count) refl
front_stays p (q ∷ polls) number draws good count h = h
