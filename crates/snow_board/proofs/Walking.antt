-- Lemmas on the walk down the counters of a conflict along the bits of an identifier.
use Rattle.std.proofs.Common.{◌≡◌, ℕ, ◌+◌, ◌<◌, ◌≤◌, Bool, true, false, nat_eq, List, [], ◌∷◌, drop, Option, Some, None, if◌then◌else◌, refl, inl, inr, arith}
use Rattle.std.specs.Bool.{beq}
use Rattle.std.specs.Option.{option_map, option_map_or}
use Rattle.std.specs.Cmp.Lexicographic.{pointwise}
use Rattle.std.proofs.Math.ListN.{drop_of_length-le}
use Rattle.std.proofs.lemmas.Bool.{cases_lt, eq-eqb, ne_eqb}
use Rattle.snow_base.specs.Model.Identifier.{bit, bits}
use Rattle.snow_base.proofs.Bits.{length-bits, drop-bits}
use Rattle.snow_flake.specs.Model.Counter.{Counter, Decided, Undecided}
use Rattle.snow_flake.specs.Model.Rule.{Answer, answer_of}
use Rattle.snow_board.specs.Model.Conflict.{Counters, At, chosen, decided_path}
use Rattle.snow_board.specs.Kept.Walk.{is_decided_as}

-- behind its last bit an identifier has no bits
pub drop-bits_end : (id : List ℕ) (n : ℕ) → 256 ≤ n → drop n (bits id) ≡ []
drop-bits_end id n h = drop_of_length-le (bits id) (omega (arith, length-bits id))

-- no bits are all that is left exactly at the end
pub ends : (id : List ℕ) (n : ℕ) → n ≤ 256 → nat_eq n 256 ≡ pointwise beq [] (drop n (bits id))
ends id n h =
    elim (cases_lt n 256) [
      | inl less ↦ rw (drop-bits id n less) (ne_eqb n 256 (λ e. omega arith))
      | inr more ↦ rw (drop-bits_end id n more) (eq-eqb n 256 (omega arith))
    ]

-- a first bit that is the same is passed
pub same_first : (x b : Bool) (path rest : List Bool) → beq x b ≡ true → pointwise beq (x ∷ path) (b ∷ rest) ≡ pointwise beq path rest
same_first true true path rest e = refl
same_first true false path rest e = cc
same_first false true path rest e = cc
same_first false false path rest e = refl

-- a first bit that differs ends it
pub other_first : (x b : Bool) (path rest : List Bool) → beq x b ≡ false → pointwise beq (x ∷ path) (b ∷ rest) ≡ false
other_first true true path rest e = cc
other_first true false path rest e = refl
other_first false true path rest e = refl
other_first false false path rest e = cc

-- ---- by answers

-- a path that turns off at its first bit
turns : (x b : Bool) (ones zeros rest : List Bool) → beq x b ≡ false → pointwise beq (if x then true ∷ ones else false ∷ zeros) (b ∷ rest) ≡ false
turns true b ones zeros rest e = other_first true b ones rest e
turns false b ones zeros rest e = other_first false b zeros rest e

-- the answer isn't the next bit
pub leads_apart : (answer : Answer) (c : Counter) (z o : Counters) (id : List ℕ) (n : ℕ) → n < 256 → beq (answer_of answer c) (bit id n) ≡ false
    → pointwise beq (chosen answer (At c z o)) (drop n (bits id)) ≡ false
unfolding chosen
leads_apart answer c z o id n h apart = rw (drop-bits id n h) (turns (answer_of answer c) (bit id n) (chosen answer o) (chosen answer z) (drop (n + 1) (bits id)) apart)

-- the answer is the next bit, a 0
pub leads_zero : (answer : Answer) (c : Counter) (z o : Counters) (id : List ℕ) (n : ℕ) → n < 256 → answer_of answer c ≡ false → beq (answer_of answer c) (bit id n) ≡ true
    → pointwise beq (chosen answer (At c z o)) (drop n (bits id)) ≡ pointwise beq (chosen answer z) (drop (n + 1) (bits id))
unfolding chosen
leads_zero answer c z o id n h says same =
    rw (drop-bits id n h, says) (same_first false (bit id n) (chosen answer z) (drop (n + 1) (bits id)) (rw says at same))

-- the answer is the next bit, a 1
pub leads_one : (answer : Answer) (c : Counter) (z o : Counters) (id : List ℕ) (n : ℕ) → n < 256 → answer_of answer c ≡ true → beq (answer_of answer c) (bit id n) ≡ true
    → pointwise beq (chosen answer (At c z o)) (drop n (bits id)) ≡ pointwise beq (chosen answer o) (drop (n + 1) (bits id))
unfolding chosen
leads_one answer c z o id n h says same =
    rw (drop-bits id n h, says) (same_first true (bit id n) (chosen answer o) (drop (n + 1) (bits id)) (rw says at same))

-- ---- by decided counters

-- whether there is a path, and it is these bits
abbrev is_path : Option (List Bool) → List Bool → Bool
is_path found rest = option_map_or (λ path. pointwise beq path rest) found false

-- a path whose first bit is the same is one where its rest is
same_path : (x b : Bool) (found : Option (List Bool)) (rest : List Bool) → beq x b ≡ true → is_path (option_map (λ path. x ∷ path) found) (b ∷ rest) ≡ is_path found rest
same_path x b None rest e = refl
same_path x b (Some path) rest e = same_first x b path rest e

-- a path whose first bit differs isn't
other_path : (x b : Bool) (found : Option (List Bool)) (rest : List Bool) → beq x b ≡ false → is_path (option_map (λ path. x ∷ path) found) (b ∷ rest) ≡ false
other_path x b None rest e = refl
other_path x b (Some path) rest e = other_first x b path rest e

-- a counter that isn't decided with the first bit leads to no path with it
decides_other : (c : Counter) (z o : Counters) (b : Bool) (rest : List Bool) → is_decided_as c b ≡ false → is_path (decided_path (At c z o)) (b ∷ rest) ≡ false
unfolding decided_path
decides_other (Undecided s) z o b rest e = refl
decides_other (Decided false) z o b rest e = other_path false b (decided_path z) rest e
decides_other (Decided true) z o b rest e = other_path true b (decided_path o) rest e

-- one that is leads on to that side
decides_same : (c : Counter) (z o : Counters) (b : Bool) (rest : List Bool) → is_decided_as c b ≡ true
    → is_path (decided_path (At c z o)) (b ∷ rest) ≡ is_path (decided_path (if b then o else z)) rest
unfolding decided_path
decides_same (Undecided s) z o b rest e = cc
decides_same (Decided false) z o false rest e = same_path false false (decided_path z) rest e
decides_same (Decided false) z o true rest e = cc
decides_same (Decided true) z o false rest e = cc
decides_same (Decided true) z o true rest e = same_path true true (decided_path o) rest e

-- the counter isn't decided with the next bit
pub decides_apart : (c : Counter) (z o : Counters) (id : List ℕ) (n : ℕ) → n < 256 → is_decided_as c (bit id n) ≡ false
    → option_map_or (λ path. pointwise beq path (drop n (bits id))) (decided_path (At c z o)) false ≡ false
decides_apart c z o id n h e = rw (drop-bits id n h) (decides_other c z o (bit id n) (drop (n + 1) (bits id)) e)

-- the counter is decided with the next bit
pub decides_along : (c : Counter) (z o : Counters) (id : List ℕ) (n : ℕ) → n < 256 → is_decided_as c (bit id n) ≡ true
    → option_map_or (λ path. pointwise beq path (drop n (bits id))) (decided_path (At c z o)) false
    ≡ option_map_or (λ path. pointwise beq path (drop (n + 1) (bits id))) (decided_path (if bit id n then o else z)) false
decides_along c z o id n h e = rw (drop-bits id n h) (decides_same c z o (bit id n) (drop (n + 1) (bits id)) e)
