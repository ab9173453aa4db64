-- Runs and pieces hold the bytes that they were made of.
use Rattle.std.proofs.Common.{◌≡◌, ℕ, zero, suc, ◌+◌, ◌<◌, ◌≤◌, ◌==◌, ◌&&◌, nat_lt, if◌then◌else◌, Bool, true, false, List, [], ◌∷◌, ◌++◌, length, replicate, refl, sym, ap, ◌∙◌, append_assoc, add-one, arith}
use Rattle.std.proofs.lemmas.Bool.{and_parts, eqb-true, ltb-true}
use Rattle.std.proofs.lemmas.List.{length-append}
use Rattle.snow_wire.specs.Model.Reading.{IsBytes}
use Rattle.snow_text_model.specs.Model.Bytes.{led_by, runs_of, Piece, Plain, Again, onto, pieces_of}

-- ---- bytes

pub bytes_both : (a b : List ℕ) → IsBytes a → IsBytes b → IsBytes (a ++ b)
bytes_both [] b ha hb i = hb i
bytes_both (x ∷ a) b ha hb zero = ha 0
bytes_both (x ∷ a) b ha hb (suc k) = bytes_both a b (λ j. ha (suc j)) hb k

pub bytes_front : (a b : List ℕ) → IsBytes (a ++ b) → IsBytes a
bytes_front [] b h i = omega arith
bytes_front (x ∷ a) b h zero = h 0
bytes_front (x ∷ a) b h (suc k) = bytes_front a b (λ j. h (suc j)) k

pub bytes_again : (n b : ℕ) → b < 256 → IsBytes (replicate n b)
bytes_again zero b h i = omega arith
bytes_again (suc n) b h zero = h
bytes_again (suc n) b h (suc k) = bytes_again n b h k

-- ---- runs

-- a run of a number below the limit stands at least once
abbrev pub IsRun : ℕ → ℕ × ℕ → Type 0
IsRun limit run = (run.0 < limit) × (0 < run.1) × (run.1 ≤ 4194304)

abbrev pub AreRuns : ℕ → List (ℕ × ℕ) → Type 0
AreRuns limit [] = Unit {0}
AreRuns limit (run ∷ runs) = IsRun limit run × AreRuns limit runs

-- numbers below the limit
abbrev pub AreBelow : ℕ → List ℕ → Type 0
AreBelow limit [] = Unit {0}
AreBelow limit (x ∷ xs) = (x < limit) × AreBelow limit xs

pub bytes_below : (xs : List ℕ) → IsBytes xs → AreBelow 256 xs
bytes_below [] h = tt
bytes_below (x ∷ xs) h = (h 0, bytes_below xs (λ i. h (suc i)))

-- the elements of runs
abbrev pub spread : List (ℕ × ℕ) → List ℕ
spread [] = []
spread (run ∷ runs) = replicate run.1 run.0 ++ spread runs

once_more : (n b : ℕ) → replicate (n + 1) b ≡ b ∷ replicate n b
once_more n b = rw (add-one n) refl

led_spread_if : (t : Bool) (x : ℕ) (run : ℕ × ℕ) (runs : List (ℕ × ℕ)) → (t ≡ true → x ≡ run.0)
    → spread (if t then (run.0, run.1 + 1) ∷ runs else (x, 1) ∷ run ∷ runs) ≡ x ∷ spread (run ∷ runs)
led_spread_if true x run runs h =
    ap (λ (l : List ℕ). l ++ spread runs) (once_more run.1 run.0) ∙ ap (λ (y : ℕ). y ∷ spread (run ∷ runs)) (sym (h refl))
led_spread_if false x run runs h = refl

led_spread : (x : ℕ) (runs : List (ℕ × ℕ)) → spread (led_by x runs) ≡ x ∷ spread runs
led_spread x [] = refl
led_spread x (run ∷ runs) =
    led_spread_if (x == run.0 && nat_lt run.1 4194304) x run runs (λ e. eqb-true x run.0 (and_parts (x == run.0) (nat_lt run.1 4194304) e).0)

-- runs hold their elements
pub runs_spread : (xs : List ℕ) → spread (runs_of xs) ≡ xs
unfolding runs_of
runs_spread [] = refl
runs_spread (x ∷ xs) = led_spread x (runs_of xs) ∙ ap (λ (l : List ℕ). x ∷ l) (runs_spread xs)

led_runs_if : (limit : ℕ) (t : Bool) (x : ℕ) (run : ℕ × ℕ) (runs : List (ℕ × ℕ)) → (t ≡ true → run.1 < 4194304) → x < limit → AreRuns limit (run ∷ runs)
    → AreRuns limit (if t then (run.0, run.1 + 1) ∷ runs else (x, 1) ∷ run ∷ runs)
led_runs_if limit true x run runs h small are = let k = h refl in ((are.0.0, omega (arith, k), omega (arith, k)), are.1)
led_runs_if limit false x run runs h small are = ((small, omega arith, omega arith), are)

led_runs : (limit x : ℕ) (runs : List (ℕ × ℕ)) → x < limit → AreRuns limit runs → AreRuns limit (led_by x runs)
led_runs limit x [] small are = ((small, omega arith, omega arith), tt)
led_runs limit x (run ∷ runs) small are =
    led_runs_if limit (x == run.0 && nat_lt run.1 4194304) x run runs (λ e. ltb-true run.1 4194304 (and_parts (x == run.0) (nat_lt run.1 4194304) e).1) small are

-- runs of numbers below a limit
pub runs_are : (limit : ℕ) (xs : List ℕ) → AreBelow limit xs → AreRuns limit (runs_of xs)
unfolding runs_of
runs_are limit [] h = tt
runs_are limit (x ∷ xs) h = led_runs limit x (runs_of xs) h.0 (runs_are limit xs h.1)

-- ---- pieces

-- the bytes of a piece
abbrev pub bytes_in : Piece → List ℕ
bytes_in (Plain bytes) = bytes
bytes_in (Again byte times) = replicate times byte

abbrev pub IsPiece : Piece → Type 0
IsPiece (Plain bytes) = IsBytes bytes × (0 < length bytes)
IsPiece (Again byte times) = (byte < 256) × (times < 4194305)

abbrev pub ArePieces : List Piece → Type 0
ArePieces [] = Unit {0}
ArePieces (piece ∷ pieces) = IsPiece piece × ArePieces pieces

-- the bytes of pieces
abbrev pub bytes_through : List Piece → List ℕ
bytes_through [] = []
bytes_through (piece ∷ pieces) = bytes_in piece ++ bytes_through pieces

onto_through : (bytes : List ℕ) (pieces : List Piece) → bytes_through (onto bytes pieces) ≡ bytes ++ bytes_through pieces
onto_through bytes [] = refl
onto_through bytes (Plain more ∷ pieces) = append_assoc bytes more (bytes_through pieces)
onto_through bytes (Again byte times ∷ pieces) = refl

onto_are : (bytes : List ℕ) (pieces : List Piece) → IsBytes bytes → 0 < length bytes → ArePieces pieces → ArePieces (onto bytes pieces)
onto_are bytes [] h k are = ((h, k), tt)
onto_are bytes (Plain more ∷ pieces) h k are = ((bytes_both bytes more h are.0.0, omega (arith, k, length-append bytes more)), are.1)
onto_are bytes (Again byte times ∷ pieces) h k are = ((h, k), are)

laid_through_if : (t : Bool) (run : ℕ × ℕ) (pieces : List Piece)
    → bytes_through (if t then onto (replicate run.1 run.0) pieces else Again run.0 run.1 ∷ pieces) ≡ replicate run.1 run.0 ++ bytes_through pieces
laid_through_if true run pieces = onto_through (replicate run.1 run.0) pieces
laid_through_if false run pieces = refl

-- how often a number stands
pub length_again : (n b : ℕ) → length (replicate n b) ≡ n
length_again zero b = refl
length_again (suc n) b = ap suc (length_again n b)

laid_are_if : (t : Bool) (run : ℕ × ℕ) (pieces : List Piece) → IsRun 256 run → ArePieces pieces → ArePieces (if t then onto (replicate run.1 run.0) pieces else Again run.0 run.1 ∷ pieces)
laid_are_if true run pieces is are =
    let some = is.1 in
    onto_are (replicate run.1 run.0) pieces (bytes_again run.1 run.0 is.0) (omega (arith, some, length_again run.1 run.0)) are
laid_are_if false run pieces is are = let most = is.2 in ((is.0, omega (arith, most)), are)

-- pieces hold the elements of their runs
pub pieces_through : (runs : List (ℕ × ℕ)) → bytes_through (pieces_of runs) ≡ spread runs
unfolding pieces_of
pieces_through [] = refl
pieces_through (run ∷ runs) =
    laid_through_if (nat_lt run.1 3) run (pieces_of runs) ∙ ap (λ (l : List ℕ). replicate run.1 run.0 ++ l) (pieces_through runs)

-- pieces of runs
pub pieces_are : (runs : List (ℕ × ℕ)) → AreRuns 256 runs → ArePieces (pieces_of runs)
unfolding pieces_of
pieces_are [] are = tt
pieces_are (run ∷ runs) are = laid_are_if (nat_lt run.1 3) run (pieces_of runs) are.0 (pieces_are runs are.1)
