-- Lemmas on votes of a poll that stand for all.
use Rattle.std.proofs.Common.{◌≡◌, ℕ, ◌+◌, ◌<◌, ◌≤◌, nat_lt, nat_le, Bool, true, false, List, [], ◌∷◌, All, length, bytes_eq, refl, sym, ap, ◌∙◌, arith, if◌then◌else◌}
use Rattle.std.specs.List.{list_any}
use Rattle.std.proofs.lemmas.Grind.{common_steps}
use Rattle.std.proofs.lemmas.List.Sums.{sum_by-cons}
use Rattle.snow_base.specs.declared.block.Vote.{Vote}
use Rattle.snow_base.specs.Clauses.Gathered.{IsNamed, one_each}
use Rattle.snow_flake.specs.Model.Parameters.{Parameters}
use Rattle.snow_flake.specs.Model.Counter.{class, Low, High}
use Rattle.snow_board.proofs.Cases.{split_on, same_id}
use Rattle.snow_climb.specs.Kept.Majority.{StandsForPoll, StandFor}
use Rattle.snow_climb.specs.Kept.Starting.{share, votes_by, ids_by}
use Rattle.snow_climb.proofs.Started.{each_passes}

-- one for each that passes
abbrev one_of : (List ℕ → Bool) → List ℕ → ℕ
one_of test id = if test id then 1 else 0

most_one : (test : List ℕ → Bool) (id : List ℕ) → one_of test id ≤ 1
most_one test id = split_on (test id) (λ t. rw t (omega arith)) (λ t. rw t (omega arith))

-- no more are for one than there are
pub ids_few : (test : List ℕ → Bool) (ids : List (List ℕ)) → ids_by test ids ≤ length ids
ids_few test [] = omega arith
ids_few test (x ∷ ids) = omega (arith, most_one test x, ids_few test ids, sum_by-cons (one_of test) x ids)

-- where it passes a test, all that are for it do
pub main_passes : (test : List ℕ → Bool) (main : List ℕ) (ids : List (List ℕ)) → test main ≡ true → ids_by (λ id. bytes_eq id main) ids ≤ ids_by test ids
main_passes test main [] t = omega arith
main_passes test main (x ∷ ids) t =
    let own : one_of (λ id. bytes_eq id main) x ≤ one_of test x =
    split_on (bytes_eq x main)
    (λ s. let here : test x ≡ true = ap test (same_id x main s) ∙ t in
    rw (s, here) (omega arith))
    (λ s. rw s (omega arith))
    in
    omega (arith, own, main_passes test main ids t, sum_by-cons (one_of (λ id. bytes_eq id main)) x ids, sum_by-cons (one_of test) x ids)

-- where it doesn't, none of them do
pub main_fails : (test : List ℕ → Bool) (main : List ℕ) (ids : List (List ℕ)) → test main ≡ false → ids_by test ids + ids_by (λ id. bytes_eq id main) ids ≤ length ids
main_fails test main [] t = omega arith
main_fails test main (x ∷ ids) t =
    let own : one_of test x + one_of (λ id. bytes_eq id main) x ≤ 1 =
    split_on (bytes_eq x main)
    (λ s. let here : test x ≡ false = ap test (same_id x main s) ∙ t in
    rw (s, here) (omega arith))
    (λ s. let most = most_one test x in rw s (omega (arith, most)))
    in
    omega (arith, own, main_fails test main ids t, sum_by-cons (one_of (λ id. bytes_eq id main)) x ids, sum_by-cons (one_of test) x ids)

-- ---- classes

high_class : (p : Parameters) (n : ℕ) → p.alpha_preference ≤ p.alpha_confidence → p.alpha_confidence ≤ n → class p n ≡ High
high_class p n order high =
    let no : nat_lt n p.alpha_preference ≡ false = not_less n p.alpha_preference (omega (arith, order, high)) in
    let yes : nat_le p.alpha_confidence n ≡ true = no_more p.alpha_confidence n high in
    rw (no, yes) refl
  where
    not_less : (a b : ℕ) → b ≤ a → nat_lt a b ≡ false
    not_less a b h = grind (arith, common_steps)

    no_more : (a b : ℕ) → a ≤ b → nat_le a b ≡ true
    no_more a b h = grind (arith, common_steps)

low_class : (p : Parameters) (n : ℕ) → n < p.alpha_preference → class p n ≡ Low
low_class p n low =
    let yes : nat_lt n p.alpha_preference ≡ true = less n p.alpha_preference low in
    rw yes refl
  where
    less : (a b : ℕ) → a < b → nat_lt a b ≡ true
    less a b h = grind (arith, common_steps)

-- ---- one vote for all

alone : (test : List ℕ → Bool) (one : Vote) → votes_by test (one ∷ []) ≡ share test one
alone test one = omega (arith, sum_by-cons (share test) one [])

-- by each test it is no more
one_fewer : (p : Parameters) (ids : List (List ℕ)) (one : Vote) (test : List ℕ → Bool) → StandsForPoll p ids one → votes_by test (one ∷ []) ≤ ids_by test ids
one_fewer p ids one test stands =
    split_on (test one.id)
    (λ t. let own : share test one ≡ one.count = rw t refl in omega (arith, alone test one, own, stands.count, main_passes test one.id ids t))
    (λ t. let own : share test one ≡ 0 = rw t refl in omega (arith, alone test one, own))

-- and of the same class
one_class : (p : Parameters) (ids : List (List ℕ)) (one : Vote) (test : List ℕ → Bool) → StandsForPoll p ids one → class p (votes_by test (one ∷ [])) ≡ class p (ids_by test ids)
one_class p ids one test stands =
    split_on (test one.id)
    (λ t.
    let own : share test one ≡ one.count = rw t refl in
    high_class p (votes_by test (one ∷ [])) stands.order (omega (arith, alone test one, own, stands.high))
    ∙ sym (high_class p (ids_by test ids) stands.order (omega (arith, main_passes test one.id ids t, stands.count, stands.high))))
    (λ t.
    let own : share test one ≡ 0 = rw t refl in
    let low : ids_by test ids < p.alpha_preference = omega (arith, main_fails test one.id ids t, stands.count, stands.low) in
    low_class p (votes_by test (one ∷ [])) (omega (arith, alone test one, own, low))
    ∙ sym (low_class p (ids_by test ids) low))

-- so it stands for the poll
pub one_for_all : (p : Parameters) (ids : List (List ℕ)) (one : Vote) → All IsNamed ids → StandsForPoll p ids one → StandFor p (one ∷ []) (one_each ids)
one_for_all p ids one named stands = record {
  alike = λ list.
      let test : List ℕ → Bool = λ id. list_any (λ other. bytes_eq other id) list in
      one_class p ids one test stands ∙ ap (class p) (each_passes ids named test);
  fewer = λ test. omega (arith, one_fewer p ids one test stands, each_passes ids named test);
}

-- votes stand for themselves
pub all_for_all : (p : Parameters) (votes : List Vote) → StandFor p votes votes
all_for_all p votes = record { alike = λ list. refl; fewer = λ test. omega arith }
