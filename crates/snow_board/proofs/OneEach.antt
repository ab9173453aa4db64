-- Lemmas on one vote for each of some identifiers: how many there are, and how many pass a test.
use Rattle.std.proofs.Common.{◌≡◌, ℕ, ◌+◌, Bool, true, false, List, [], ◌∷◌, length, All, fold, sum_by, refl, ap, arith, if◌then◌else◌}
use Rattle.std.specs.declared.cmp.Ordering.{Ordering}
use Rattle.std.specs.declared.cmp.Ordering.TheVariants.{Less, Equal, Greater}
use Rattle.std.proofs.lemmas.List.Elements.{All-nil, All-cons, All-head, All-tail}
use Rattle.std.proofs.lemmas.List.Sums.{sum_by-cons}
use Rattle.snow_base.specs.declared.block.Vote.{Vote}
use Rattle.snow_base.specs.Model.Identifier.{bit_cmp}
use Rattle.snow_base.specs.Clauses.Gathered.{IsNamed, one_each}
use Rattle.snow_base.specs.Model.Votes.{added, total_count}
use Rattle.snow_base.proofs.Adding.{step, total_added}
use Rattle.snow_base.proofs.Bits.{same_from_bit_cmp}
use Rattle.snow_board.proofs.Same.{votes_by}

abbrev gathered : List Vote → List (List ℕ) → List Vote
gathered votes ids = fold (λ votes id. added votes id 1) votes ids

-- ---- how many there are

gathered_total : (votes : List Vote) (ids : List (List ℕ)) → total_count (gathered votes ids) ≡ total_count votes + length ids
gathered_total votes [] = omega arith
gathered_total votes (id ∷ ids) = omega (arith, gathered_total (added votes id 1) ids, total_added votes id 1)

pub total_each : (ids : List (List ℕ)) → total_count (one_each ids) ≡ length ids
total_each ids = omega (arith, gathered_total [] ids)

-- ---- how many pass a test

-- one vote's share
abbrev share : (List ℕ → Bool) → Vote → ℕ
share test v = if test v.id then v.count else 0

share_more : (t : Bool) (m n : ℕ) → (if t then m + n else 0) ≡ (if t then m else 0) + (if t then n else 0)
share_more true m n = refl
share_more false m n = refl

placed_by : (test : List ℕ → Bool) (o : Ordering) (v : Vote) (votes : List Vote) (id : List ℕ) (n : ℕ) → bit_cmp v.id id ≡ o → IsNamed v.id → IsNamed id
    → votes_by test (added votes id n) ≡ votes_by test votes + (if test id then n else 0)
    → votes_by test (step o v votes id n) ≡ votes_by test (v ∷ votes) + (if test id then n else 0)
placed_by test Less v votes id n e own named rest =
    omega (arith, sum_by-cons (share test) v (added votes id n), sum_by-cons (share test) v votes, rest)
placed_by test Equal v votes id n e own named rest =
    let same : v.id ≡ id = same_from_bit_cmp v.id id own.long named.long own.bytes named.bytes e in
    let here : (if test v.id then n else 0) ≡ (if test id then n else 0) = ap (λ x. if test x then n else 0) same in
    omega (
      arith,
      sum_by-cons (share test) (record { id = v.id; count = v.count + n }) votes,
      sum_by-cons (share test) v votes,
      share_more (test v.id) v.count n,
      here,
    )
placed_by test Greater v votes id n e own named rest = omega (arith, sum_by-cons (share test) (record { id = id; count = n }) (v ∷ votes))

-- adding votes counts them, by each test
added_by : (test : List ℕ → Bool) (votes : List Vote) (id : List ℕ) (n : ℕ) → All (λ v. IsNamed v.id) votes → IsNamed id
    → votes_by test (added votes id n) ≡ votes_by test votes + (if test id then n else 0)
unfolding added
added_by test [] id n all named = omega arith
added_by test (v ∷ votes) id n all named =
    placed_by test (bit_cmp v.id id) v votes id n refl (All-head (λ v. IsNamed v.id) v votes all) named (added_by test votes id n (All-tail (λ v. IsNamed v.id) v votes all) named)

-- identifiers of votes are named, and stay so

abbrev AreNamed : List Vote → Type 0
AreNamed votes = All (λ v. IsNamed v.id) votes

named_step : (o : Ordering) (v : Vote) (votes : List Vote) (id : List ℕ) (n : ℕ) → AreNamed (v ∷ votes) → IsNamed id → AreNamed (added votes id n) → AreNamed (step o v votes id n)
named_step Less v votes id n all own rest = All-cons (λ v. IsNamed v.id) v (added votes id n) (All-head (λ v. IsNamed v.id) v votes all) rest
named_step Equal v votes id n all own rest =
    All-cons (λ v. IsNamed v.id) (record { id = v.id; count = v.count + n }) votes (All-head (λ v. IsNamed v.id) v votes all) (All-tail (λ v. IsNamed v.id) v votes all)
named_step Greater v votes id n all own rest = All-cons (λ v. IsNamed v.id) (record { id = id; count = n }) (v ∷ votes) own all

named_added : (votes : List Vote) (id : List ℕ) (n : ℕ) → AreNamed votes → IsNamed id → AreNamed (added votes id n)
unfolding added
named_added [] id n all own = All-cons (λ v. IsNamed v.id) (record { id = id; count = n }) [] own all
named_added (v ∷ votes) id n all own = named_step (bit_cmp v.id id) v votes id n all own (named_added votes id n (All-tail (λ v. IsNamed v.id) v votes all) own)

gathered_by : (test : List ℕ → Bool) (votes : List Vote) (ids : List (List ℕ)) → All (λ v. IsNamed v.id) votes → All IsNamed ids
    → votes_by test (gathered votes ids) ≡ votes_by test votes + sum_by (λ id. if test id then 1 else 0) ids
gathered_by test votes [] all named = omega arith
gathered_by test votes (id ∷ ids) all named =
    let own = All-head IsNamed id ids named in
    omega (
      arith,
      gathered_by test (added votes id 1) ids (named_added votes id 1 all own) (All-tail IsNamed id ids named),
      added_by test votes id 1 all own,
      sum_by-cons (λ id. if test id then 1 else 0) id ids,
    )

-- as many of the votes as of the identifiers pass
pub each_by : (test : List ℕ → Bool) (ids : List (List ℕ)) → All IsNamed ids → votes_by test (one_each ids) ≡ sum_by (λ id. if test id then 1 else 0) ids
each_by test ids named = omega (arith, gathered_by test [] ids (All-nil (λ v. IsNamed v.id)) named)
