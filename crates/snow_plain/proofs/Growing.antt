-- Lemmas on the counters that a child adds.
use Rattle.std.proofs.Common.{◌≡◌, ℕ, ◌+◌, ◌<◌, ◌≤◌, Bool, true, false, List, ◌∷◌, drop, Result, Ok, Err, OnOk, if◌then◌else◌, refl, sym}
use Rattle.snow_base.specs.Model.Identifier.{bit, bits}
use Rattle.snow_base.proofs.Bits.{drop-bits}
use Rattle.snow_flake.specs.Model.Counter.{Counter, fresh, admits}
use Rattle.snow_board.specs.Model.Conflict.{Counters, Blank, At, with_child}
use Rattle.snow_board.proofs.Walking.{drop-bits_end}

-- behind the last bit no counter is added
pub grown_end : (id : List ℕ) (n : ℕ) (counters : Counters) → 256 ≤ n → with_child (drop n (bits id)) counters ≡ counters
unfolding with_child
grown_end id n counters h = rw (drop-bits_end id n h) refl

-- a fresh counter over the counters on its side
abbrev pub linked : Bool → Counters → Counters
linked side below = if side then At (fresh side) Blank below else At (fresh side) below Blank

-- the same for one bit and those behind it
linked_first : (b : Bool) (rest : List Bool) → with_child (b ∷ rest) Blank ≡ linked b (with_child rest Blank)
unfolding with_child
linked_first true rest = refl
linked_first false rest = refl

-- where nothing stands, a child's counters are a fresh one for the next bit and those behind it
pub grown_fresh : (id : List ℕ) (n : ℕ) → n < 256 → with_child (drop n (bits id)) Blank ≡ linked (bit id n) (with_child (drop (n + 1) (bits id)) Blank)
grown_fresh id n h = rw (drop-bits id n h) (linked_first (bit id n) (drop (n + 1) (bits id)))

-- the counters stay where the first bit is ruled out
stays : (c : Counter) (z o : Counters) (b : Bool) (rest : List Bool) → admits c b ≡ false → with_child (b ∷ rest) (At c z o) ≡ At c z o
unfolding with_child
stays c z o true rest e = rw e refl
stays c z o false rest e = rw e refl

-- behind a decided counter of the other bit nothing is added
pub grown_dead : (c : Counter) (z o : Counters) (id : List ℕ) (n : ℕ) → n < 256 → admits c (bit id n) ≡ false
    → with_child (drop n (bits id)) (At c z o) ≡ At c z o
grown_dead c z o id n h e = rw (drop-bits id n h) (stays c z o (bit id n) (drop (n + 1) (bits id)) e)

-- where a 0 is possible, what is below it grows
at_zero : (c : Counter) (z o : Counters) (id : List ℕ) (n : ℕ) → n < 256 → bit id n ≡ false → admits c (bit id n) ≡ true
    → with_child (drop n (bits id)) (At c z o) ≡ At c (with_child (drop (n + 1) (bits id)) z) o
unfolding with_child
at_zero c z o id n h is e = let free : admits c false ≡ true = rw is at e in rw (drop-bits id n h, is, free) refl

-- where a 1 is possible, what is below it grows
at_one : (c : Counter) (z o : Counters) (id : List ℕ) (n : ℕ) → n < 256 → bit id n ≡ true → admits c (bit id n) ≡ true
    → with_child (drop n (bits id)) (At c z o) ≡ At c z (with_child (drop (n + 1) (bits id)) o)
unfolding with_child
at_one c z o id n h is e = let free : admits c true ≡ true = rw is at e in rw (drop-bits id n h, is, free) refl

-- a child with a 0 was added below the 0, unless memory was wanting
pub grown_zero : {T E : Type 0} (result : Result T E) (c : Counter) (z o grown : Counters) (id : List ℕ) (n : ℕ) → n < 256
    → bit id n ≡ false → admits c (bit id n) ≡ true → OnOk result (grown ≡ with_child (drop (n + 1) (bits id)) z)
    → OnOk result (At c grown o ≡ with_child (drop n (bits id)) (At c z o))
grown_zero (Ok x) c z o grown id n h is e below = rw below (sym (at_zero c z o id n h is e))
grown_zero (Err x) c z o grown id n h is e below = tt

-- a child with a 1 was added below the 1, unless memory was wanting
pub grown_one : {T E : Type 0} (result : Result T E) (c : Counter) (z o grown : Counters) (id : List ℕ) (n : ℕ) → n < 256
    → bit id n ≡ true → admits c (bit id n) ≡ true → OnOk result (grown ≡ with_child (drop (n + 1) (bits id)) o)
    → OnOk result (At c z grown ≡ with_child (drop n (bits id)) (At c z o))
grown_one (Ok x) c z o grown id n h is e below = rw below (sym (at_one c z o id n h is e))
grown_one (Err x) c z o grown id n h is e below = tt
