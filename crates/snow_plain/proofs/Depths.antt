-- Lemmas on how deep the counters of a conflict stand.
use Rattle.std.proofs.Common.{◌≡◌, ℕ, ◌≤◌, max, Bool, true, false, List, [], ◌∷◌, length, if◌then◌else◌, Result, Ok, Err, OnOk, OnErr, arith}
use Rattle.snow_base.specs.Model.Identifier.{bits}
use Rattle.snow_base.proofs.Bits.{length-bits}
use Rattle.snow_flake.specs.Model.Parameters.{Parameters}
use Rattle.snow_flake.specs.Model.Counter.{stepped, admits}
use Rattle.snow_board.specs.Model.Conflict.{Counters, Blank, At, with_child, all_polled}
use Rattle.snow_board.specs.Kept.Walk.{depth}

-- a choice of two is no deeper than both
either_within : (n : ℕ) (b : Bool) (x y : Counters) → depth x ≤ n → depth y ≤ n → depth (if b then x else y) ≤ n
either_within n true x y p q = p
either_within n false x y p q = q

-- a child adds counters no deeper than its bits
depth_grown : (front : List Bool) (counters : Counters) → depth (with_child front counters) ≤ max (depth counters) (length front)
unfolding with_child
depth_grown [] counters = omega arith
depth_grown (false ∷ rest) Blank = let below = depth_grown rest Blank in omega arith
depth_grown (true ∷ rest) Blank = let below = depth_grown rest Blank in omega arith
depth_grown (false ∷ rest) (At c z o) =
    let below = either_within (max (depth z) (length rest)) (admits c false) (with_child rest z) z (depth_grown rest z) (omega arith) in omega arith
depth_grown (true ∷ rest) (At c z o) =
    let below = either_within (max (depth o) (length rest)) (admits c true) (with_child rest o) o (depth_grown rest o) (omega arith) in omega arith

-- so it adds none behind the last bit
pub depth_with_child : (id : List ℕ) (counters : Counters) → depth counters ≤ 256 → depth (with_child (bits id) counters) ≤ 256
depth_with_child id counters h = omega (arith, depth_grown (bits id) counters, length-bits id)

-- a poll adds no counters
pub depth_polled : (p : Parameters) (votes : List Bool → ℕ) (counters : Counters) → depth (all_polled p votes counters) ≤ depth counters
unfolding all_polled
depth_polled p votes Blank = omega arith
depth_polled p votes (At c z o) =
    let next = stepped p c (votes (false ∷ [])) (votes (true ∷ [])) in
    let zeros = either_within (depth z) (admits next false) (all_polled p (λ front. votes (false ∷ front)) z) Blank (depth_polled p (λ front. votes (false ∷ front)) z) (omega arith) in
    let ones = either_within (depth o) (admits next true) (all_polled p (λ front. votes (true ∷ front)) o) Blank (depth_polled p (λ front. votes (true ∷ front)) o) (omega arith) in
    omega arith

-- nor where memory may have been wanting
pub depth_added : {T E : Type 0} (result : Result T E) (id : List ℕ) (old new : Counters) → depth old ≤ 256
    → OnOk result (new ≡ with_child (bits id) old) → OnErr result (new ≡ old) → depth new ≤ 256
depth_added (Ok x) id old new h ok err = rw ok (depth_with_child id old h)
depth_added (Err e) id old new h ok err = rw err h
