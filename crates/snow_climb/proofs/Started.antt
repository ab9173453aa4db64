-- Lemmas on the votes of a poll before they climb: those that wait are counted with those that began.
use Rattle.std.proofs.Common.{◌≡◌, ℕ, ◌+◌, ◌<◌, ◌≤◌, Bool, true, false, List, [], ◌∷◌, ◌++◌, length, get_or, set, take, drop, reverse, All, IsPermutation, refl, sym, ap, ◌∙◌, arith, rules, if◌then◌else◌}
use Rattle.std.specs.Option.{option_to_list}
use Rattle.std.proofs.lemmas.List.{drop_all}
use Rattle.std.proofs.lemmas.List.Elements.{All-nil, All-cons}
use Rattle.std.proofs.lemmas.List.Sums.{sum_by-cons, sum_by-set, sum_by-drop_more, sum_by_more, get_or-le-sum_by}
use Rattle.std.proofs.lemmas.List.Sorted.{length_permutation}
use Rattle.snow_base.specs.declared.block.Vote.{Vote}
use Rattle.snow_base.specs.Model.Ancestry.{is_below}
use Rattle.snow_base.specs.Clauses.Gathered.{IsNamed, one_each}
use Rattle.snow_base.specs.Model.Votes.{total_count}
use Rattle.snow_flake.specs.Model.Parameters.{Parameters}
use Rattle.snow_board.specs.Kept.Grown.{IsGrown}
use Rattle.snow_board.proofs.OneEach.{each_by}
use Rattle.snow_board.proofs.Polled.{few_votes}
use Rattle.snow_tree.specs.Kept.Held.{Entry, blocks_in}
use Rattle.snow_climb.specs.declared.climber.Climber.{Climber}
use Rattle.snow_climb.specs.Kept.Climbing.{begun, ArePlaced}
use Rattle.snow_climb.specs.Kept.Ladder.{Rungs}
use Rattle.snow_climb.specs.Kept.Starting.{share, votes_by, ids_by, HaveStarted, HaveBegun}
use Rattle.snow_climb.proofs.Begun.{begun_at, begun_few, begun_first, placed_at}

-- ---- at the beginning nobody waits, and nothing is counted

nothing : (t : Bool) (n : ℕ) → n ≡ 0 → (if t then n else 0) ≡ 0
nothing true n e = e
nothing false n e = refl

-- all wait
pub none_started : {T : Type 0} (pending : List (Entry T)) (waiting : (List ℕ → Bool) → ℕ) → HaveStarted pending waiting waiting []
none_started pending waiting = record {
  votes = [];
  placed = search rules;
  some = All-nil (λ v. 0 < v.count);
  same = λ test. omega arith;
}

-- the same numbers
pub same_started : {T : Type 0} (pending : List (Entry T)) (waiting next counted now : (List ℕ → Bool) → ℕ) (cs : List Climber) → ((test : List ℕ → Bool) → waiting test ≡ next test) → ((test : List ℕ → Bool) → counted test ≡ now test)
    → HaveStarted pending waiting counted cs → HaveStarted pending next now cs
same_started pending waiting next counted now cs w n h = record { votes = h.votes; placed = h.placed; some = h.some; same = λ test. omega (arith, h.same test, w test, n test) }

-- ---- one begins, or one more waits

-- votes that waited begin
pub one_started : {T : Type 0} (pending : List (Entry T)) (v : Vote) (others counted : (List ℕ → Bool) → ℕ) (cs ds : List Climber) → 0 < v.count → IsPermutation (option_to_list (begun pending v) ++ cs) ds
    → HaveStarted pending (λ test. share test v + others test) counted cs → HaveStarted pending others counted ds
one_started pending v others counted cs ds some next h = record {
  votes = v ∷ h.votes;
  placed = begun_first pending v h.votes cs ds h.placed next;
  some = All-cons (λ v. 0 < v.count) v h.votes some h.some;
  same = λ test. omega (arith, h.same test, sum_by-cons (share test) v h.votes);
}

-- the first of many begins
pub next_waits : {T : Type 0} (pending : List (Entry T)) (votes : List Vote) (i : ℕ) (v : Vote) (counted : (List ℕ → Bool) → ℕ) (cs : List Climber) → i < length votes → v ≡ get_or votes i v
    → HaveStarted pending (λ test. votes_by test (drop i votes)) counted cs → HaveStarted pending (λ test. share test v + votes_by test (drop (i + 1) votes)) counted cs
next_waits pending votes i v counted cs h is started =
    record { votes = started.votes; placed = started.placed; some = started.some; same = λ test. omega (arith, started.same test, sum_by-drop_more (share test) votes i v h, ap (share test) is) }

-- until none is left
pub all_started : {T : Type 0} (pending : List (Entry T)) (votes : List Vote) (i : ℕ) (counted : (List ℕ → Bool) → ℕ) (cs : List Climber) → length votes ≤ i
    → HaveStarted pending (λ test. votes_by test (drop i votes)) counted cs → HaveStarted pending (λ test. 0) counted cs
all_started pending votes i counted cs past started =
    record { votes = started.votes; placed = started.placed; some = started.some; same = λ test. omega (arith, started.same test, ap (votes_by test) (drop_all i votes past)) }

-- ---- places where votes wait

-- those that wait at the other places
abbrev pub beside : List Vote → ℕ → Vote → (List ℕ → Bool) → ℕ
beside waiting at v test = votes_by test (set waiting at (record { id = v.id; count = 0 }))

without : (waiting : List Vote) (at : ℕ) (v : Vote) (test : List ℕ → Bool) → at < length waiting → v ≡ get_or waiting at v
    → votes_by test waiting ≡ share test v + beside waiting at v test
without waiting at v test h is =
    omega (arith, sum_by-set (share test) waiting at (record { id = v.id; count = 0 }) v h, ap (share test) is, nothing (test v.id) 0 refl)

with_other : (waiting : List Vote) (at : ℕ) (v w : Vote) (test : List ℕ → Bool) → at < length waiting → v ≡ get_or waiting at v
    → votes_by test (set waiting at w) ≡ share test w + beside waiting at v test
with_other waiting at v w test h is = omega (arith, without waiting at v test h is, sum_by-set (share test) waiting at w v h, ap (share test) is)

-- one place is taken out
pub seat_taken : {T : Type 0} (pending : List (Entry T)) (waiting : List Vote) (at : ℕ) (v : Vote) (counted : (List ℕ → Bool) → ℕ) (cs : List Climber) → at < length waiting → v ≡ get_or waiting at v
    → HaveStarted pending (λ test. votes_by test waiting) counted cs → HaveStarted pending (λ test. share test v + beside waiting at v test) counted cs
seat_taken pending waiting at v counted cs h is started =
    record { votes = started.votes; placed = started.placed; some = started.some; same = λ test. omega (arith, started.same test, without waiting at v test h is) }

-- and put back, with one identifier more counted
pub seat_back : {T : Type 0} (pending : List (Entry T)) (waiting : List Vote) (at : ℕ) (v w : Vote) (ids : List (List ℕ)) (i : ℕ) (id : List ℕ) (counted : (List ℕ → Bool) → ℕ) (cs : List Climber)
    → at < length waiting → v ≡ get_or waiting at v → i < length ids → id ≡ get_or ids i id
    → HaveStarted pending (λ test. share test w + beside waiting at v test) (λ test. (if test id then 1 else 0) + (ids_by test (take i ids) + counted test)) cs
    → HaveStarted pending (λ test. votes_by test (set waiting at w)) (λ test. ids_by test (take (i + 1) ids) + counted test) cs
seat_back pending waiting at v w ids i id counted cs h is k seen started =
    record {
      votes = started.votes;
      placed = started.placed;
      some = started.some;
      same = λ test.
          omega (
            arith,
            started.same test,
            with_other waiting at v w test h is,
            sum_by_more (λ id. if test id then 1 else 0) ids i id k,
            ap (λ x. ids_by test (x ∷ [])) seen,
          );
    }

-- how many wait
pub total_set : (waiting : List Vote) (at : ℕ) (v w : Vote) → at < length waiting → v ≡ get_or waiting at v → total_count (set waiting at w) + v.count ≡ total_count waiting + w.count
total_set waiting at v w h is = omega (arith, sum_by-set (λ (v : Vote). v.count) waiting at w v h, ap (λ (v : Vote). v.count) is)

pub one_of_total : (waiting : List Vote) (at : ℕ) (v : Vote) → at < length waiting → v ≡ get_or waiting at v → v.count ≤ total_count waiting
one_of_total waiting at v h is = omega (arith, get_or-le-sum_by (λ (v : Vote). v.count) waiting at v h, ap (λ (v : Vote). v.count) is)

-- ---- once all began

-- they stand past their own blocks
pub begun_from : {T : Type 0} (p : Parameters) (votes : List Vote) (last : List ℕ) (pending : List (Entry T)) (ladder : Rungs) → IsGrown last (reverse (blocks_in pending))
    → HaveStarted pending (λ test. 0) (λ test. votes_by test votes) ladder.climbers → total_count votes ≤ p.k → HaveBegun p votes pending ladder
begun_from p votes last pending ladder g started few =
    let all : total_count started.votes ≡ total_count votes = omega (arith, started.same (λ _. true)) in
    let climbing = begun_at p started.votes last pending ladder.climbers g started.placed started.some (omega (arith, all, few)) in
    record {
      below = climbing.below;
      counted = λ q front low. climbing.counted q front low ∙ omega (arith, started.same (is_below (blocks_in pending) q front));
      came = climbing.came;
      counts = climbing.counts;
      total = climbing.total;
    }

-- there are no more than votes
pub begun_fewer : {T : Type 0} (votes : List Vote) (pending : List (Entry T)) (cs : List Climber) → HaveStarted pending (λ test. 0) (λ test. votes_by test votes) cs → length cs ≤ total_count votes
begun_fewer votes pending cs started =
    omega (arith, length_permutation _ _ started.placed, begun_few pending started.votes, few_votes started.votes started.some, started.same (λ _. true))

-- each goes with the place of its parent
pub begun_places : {T : Type 0} (pending : List (Entry T)) (waiting counted : (List ℕ → Bool) → ℕ) (cs : List Climber) → HaveStarted pending waiting counted cs → ArePlaced (blocks_in pending) cs
begun_places pending waiting counted cs started = placed_at pending started.votes cs started.placed

-- as many of the votes as of the identifiers pass a test
pub each_passes : (ids : List (List ℕ)) → All IsNamed ids → (test : List ℕ → Bool) → ids_by test ids ≡ votes_by test (one_each ids)
each_passes ids named test = sym (each_by test ids named)
