-- Lemmas on polls without a quorum.
use Rattle.std.proofs.Common.{◌≡◌, ℕ, ◌<◌, Bool, true, false, List, [], ◌∷◌, length, map, nat_le, if◌then◌else◌, refl, sym, ◌∙◌, arith}
use Rattle.std.proofs.lemmas.Bool.{lt-ltb, lt-leb}
use Rattle.snow_base.specs.declared.block.Vote.{Vote}
use Rattle.snow_base.specs.Model.Ancestry.{votes_below}
use Rattle.snow_flake.specs.Model.Parameters.{Parameters, AreGood}
use Rattle.snow_flake.specs.Model.Counter.{Counter, Decided, Undecided, Low, class, fresh, stepped, admits}
use Rattle.snow_board.specs.Model.Conflict.{Counters, Blank, At, with_child, all_polled}
use Rattle.snow_board.specs.Model.Board.{Board, blocks_of, with_counters}
use Rattle.snow_board.specs.Model.Poll.{with_votes, counted, settled, poll}
use Rattle.snow_board.specs.Laws.FailingLaw.{failed}
use Rattle.snow_board.proofs.Same.{same_counters}

-- fewer votes than the quorum for preference are few
pub few : (p : Parameters) (n : ℕ) → n < p.alpha_preference → class p n ≡ Low
few p n h = rw (lt-ltb n p.alpha_preference h) refl

-- so they are of the class of no votes
as_none : (p : Parameters) (n : ℕ) → n < p.alpha_preference → class p n ≡ class p 0
as_none p n h = few p n h ∙ sym (few p 0 (omega arith))

-- few votes on every side fail the counters
pub few_fail : (p : Parameters) (votes : List Bool → ℕ) (counters : Counters) → ((front : List Bool) → votes front < p.alpha_preference)
    → all_polled p votes counters ≡ failed p counters
few_fail p votes counters h = same_counters p votes (λ front. 0) counters (λ front. as_none p (votes front) (h front))

-- and those of the whole board
pub few_fail_all : (board : Board) (votes : List Vote)
    → ((block : List ℕ) (front : List Bool) → votes_below (blocks_of board.pending) votes block front < board.parameters.alpha_preference)
    → poll board votes ≡ poll board []
unfolding poll counted
few_fail_all board votes h =
    let blocks = blocks_of board.pending in
    let change : with_votes board.parameters blocks votes ≡ with_votes board.parameters blocks [] =
    λ i id counters. few_fail board.parameters (votes_below blocks votes id) counters (h id) i
    in
    λ i. settled (length board.pending) (record board {
      counters = change i board.last board.counters;
      pending = map (with_counters (change i)) board.pending;
    })

-- ---- what failing does to a counter

-- an undecided counter loses its confidence
abbrev pub quiet : Counter → Counter
quiet (Decided bit) = Decided bit
quiet (Undecided s) = Undecided (record s { confidence = 0 })

-- no votes do just that
pub fails : (p : Parameters) (c : Counter) → AreGood p → stepped p c 0 0 ≡ quiet c
fails p (Decided bit) good = refl
fails p (Undecided s) good =
    let none : class p 0 ≡ Low = few p 0 (omega (arith, good.majority)) in
    let late : nat_le p.beta 0 ≡ false = lt-leb p.beta 0 good.decides_late in
    rw (none, late) refl

-- which leaves open what was
pub admits-quiet : (c : Counter) (b : Bool) → admits (quiet c) b ≡ admits c b
admits-quiet (Decided bit) b = refl
admits-quiet (Undecided s) b = refl

-- a counter without confidence is as it was
quiet-quiet : (c : Counter) → quiet (quiet c) ≡ quiet c
quiet-quiet (Decided bit) = refl
quiet-quiet (Undecided s) = refl

-- the counters below one side after failing
abbrev below : Parameters → Bool → Counters → Counters
below p is_open counters = if is_open then failed p counters else Blank

-- failing one side twice
below_once : (p : Parameters) (is_open : Bool) (counters : Counters) → failed p (failed p counters) ≡ failed p counters → below p is_open (below p is_open counters) ≡ below p is_open counters
below_once p true counters h = h
below_once p false counters h = refl

-- failing twice is failing once
pub fails_once : (p : Parameters) (counters : Counters) → AreGood p → failed p (failed p counters) ≡ failed p counters
unfolding all_polled
fails_once p Blank good = refl
fails_once p (At c z o) good =
    let zeros = below_once p (admits c false) z (fails_once p z good) in
    let ones = below_once p (admits c true) o (fails_once p o good) in
    rw (fails p c good, fails p (quiet c) good, quiet-quiet c, admits-quiet c false, admits-quiet c true)
    (λ i. At (quiet c) (zeros i) (ones i))

-- failing one side and adding to it
added_below : (p : Parameters) (rest : List Bool) (is_open : Bool) (counters : Counters) → failed p (with_child rest counters) ≡ with_child rest (failed p counters)
    → below p is_open (if is_open then with_child rest counters else counters) ≡ (if is_open then with_child rest (below p is_open counters) else below p is_open counters)
added_below p rest true counters h = h
added_below p rest false counters h = refl

-- failing and adding a child may change places
pub fails_or_adds : (p : Parameters) (child : List Bool) (counters : Counters) → AreGood p → failed p (with_child child counters) ≡ with_child child (failed p counters)
unfolding with_child all_polled
fails_or_adds p [] counters good = refl
fails_or_adds p (false ∷ rest) Blank good =
    let deeper = fails_or_adds p rest Blank good in
    rw (fails p (fresh false) good) (λ i. At (fresh false) (deeper i) Blank)
fails_or_adds p (true ∷ rest) Blank good =
    let deeper = fails_or_adds p rest Blank good in
    rw (fails p (fresh true) good) (λ i. At (fresh true) Blank (deeper i))
fails_or_adds p (false ∷ rest) (At c z o) good =
    let zeros = added_below p rest (admits c false) z (fails_or_adds p rest z good) in
    rw (fails p c good, admits-quiet c false, admits-quiet c true) (λ i. At (quiet c) (zeros i) (below p (admits c true) o))
fails_or_adds p (true ∷ rest) (At c z o) good =
    let ones = added_below p rest (admits c true) o (fails_or_adds p rest o good) in
    rw (fails p c good, admits-quiet c false, admits-quiet c true) (λ i. At (quiet c) (below p (admits c false) z) (ones i))
