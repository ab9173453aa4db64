-- The short form of bytes, run by run from the front.
use Rattle.std.proofs.Common.{◌≡◌, ℕ, zero, suc, ◌+◌, ◌-◌, ◌%◌, ◌<◌, ◌≤◌, ◌==◌, ◌&&◌, nat_lt, if◌then◌else◌, Bool, true, false, List, [], ◌∷◌, ◌++◌, length, map, take, drop, get_or, replicate, slice_index, refl, sym, ap, ◌∙◌, append_assoc, append-nil, add-one, subst, arith}
use Rattle.std.specs.List.{join_with_byte}
use Rattle.std.proofs.lemmas.Bool.{eqb-true, eq-eqb, ltb-false, ltb-true, ne_eqb}
use Rattle.std.proofs.lemmas.List.{drop_all, drop_more, length-map}
use Rattle.hex.specs.Hex.{encode_lower, encode_with}
use Rattle.snow_show.specs.declared.bytes.Last.{Last}
use Rattle.snow_show.specs.declared.bytes.Last.TheVariants as last
use Rattle.snow_text_model.specs.Model.Bytes.{Piece, Plain, Again, kept, led_by, onto, piece_text, pieces_of, runs_of, short, some_of, trimmed}
use Rattle.snow_show.specs.Kept.Shortening.{behind_run, plus_before_digits, plus_before_times, run_text, runs_text, times_in_front}

-- ---- the first run

next_if : (t : Bool) (x n m : ℕ) (xs : List ℕ) (others : List (ℕ × ℕ)) → (t ≡ true → n % 4194304 + 1 < 4194304) → (t ≡ false → 4194304 ≤ n % 4194304 + 1) → m ≡ n + 1
    → runs_of (x ∷ xs) ≡ (x, n % 4194304 + 1) ∷ runs_of (drop (n % 4194304) xs)
    → (if t then (x, n % 4194304 + 1 + 1) ∷ runs_of (drop (n % 4194304) xs) else (x, 1) ∷ (x, n % 4194304 + 1) ∷ runs_of (drop (n % 4194304) xs)) ≡ (x, m % 4194304 + 1) ∷ runs_of (drop (m % 4194304) (x ∷ xs))
next_if true x n m xs others h k e same =
    let more = h refl in
    let one : m % 4194304 ≡ suc (n % 4194304) = omega (arith, more, e) in
    rw (one, add-one (n % 4194304)) (rw (add-one (suc (n % 4194304))) refl)
next_if false x n m xs others h k e same =
    let full = k refl in
    let none : m % 4194304 ≡ 0 = omega (arith, full, e) in
    rw none (ap (λ (l : List (ℕ × ℕ)). (x, 1) ∷ l) (sym same))

led_if : (t u : Bool) (x y k : ℕ) (runs : List (ℕ × ℕ)) → t ≡ true → (if t && u then (y, k + 1) ∷ runs else (x, 1) ∷ (y, k) ∷ runs) ≡ (if u then (y, k + 1) ∷ runs else (x, 1) ∷ (y, k) ∷ runs)
led_if true u x y k runs h = refl
led_if false u x y k runs h = absurd cc

led_not : (t u : Bool) (x y k : ℕ) (runs : List (ℕ × ℕ)) → t ≡ false → (if t && u then (y, k + 1) ∷ runs else (x, 1) ∷ (y, k) ∷ runs) ≡ (x, 1) ∷ (y, k) ∷ runs
led_not true u x y k runs h = absurd cc
led_not false u x y k runs h = refl

-- how a first run goes on
abbrev Runs : ℕ → List ℕ → ℕ → Type 0
Runs x xs n = runs_of (x ∷ xs) ≡ (x, n % 4194304 + 1) ∷ runs_of (drop (n % 4194304) xs)

below_or : (n : ℕ) → nat_lt (n % 4194304 + 1) 4194304 ≡ false → 4194304 ≤ n % 4194304 + 1
below_or n e = ltb-false (n % 4194304 + 1) 4194304 e

-- another number comes first
other_first : (x y n : ℕ) (ys : List ℕ) → y == x ≡ false → Runs y ys n → Runs x (y ∷ ys) 0
unfolding runs_of
other_first x y n ys e h =
    let apart : x == y ≡ false = other_too x y e in
    ap (led_by x) h ∙ led_not (x == y) (nat_lt (n % 4194304 + 1) 4194304) x y (n % 4194304 + 1) (runs_of (drop (n % 4194304) ys)) apart ∙ ap (λ (l : List (ℕ × ℕ)). (x, 1) ∷ l) (sym h)
  where
    other_too : (x y : ℕ) → y == x ≡ false → x == y ≡ false
    other_too x y e = grind (arith, e)

-- the same comes first
same_first : (x n m : ℕ) (ys : List ℕ) → m ≡ n + 1 → Runs x ys n → Runs x (x ∷ ys) m
unfolding runs_of
same_first x n m ys e h =
    let t = nat_lt (n % 4194304 + 1) 4194304 in
    ap (led_by x) h
    ∙ led_if (x == x) t x x (n % 4194304 + 1) (runs_of (drop (n % 4194304) ys)) (eq-eqb x x refl)
    ∙ next_if t x n m ys [] (ltb-true (n % 4194304 + 1) 4194304) (below_or n) e h

first_cases : (t : Bool) (x y n m : ℕ) (ys : List ℕ) → (y == x ≡ t) → Runs y ys n → Runs x ys m → Runs x (y ∷ ys) (if t then m + 1 else 0)
first_cases true x y n m ys e h k =
    let same : y ≡ x = eqb-true y x e in
    subst (λ (z : ℕ). Runs x (z ∷ ys) (m + 1)) (sym same) (same_first x m (m + 1) ys refl k)
first_cases false x y n m ys e h k = other_first x y n ys e h

-- the first run, and those behind it
first_runs : (x : ℕ) (xs : List ℕ) → Runs x xs (times_in_front x xs)
unfolding runs_of times_in_front
first_runs x [] = refl
first_runs x (y ∷ ys) = first_cases (y == x) x y (times_in_front y ys) (times_in_front x ys) ys refl (first_runs y ys) (first_runs x ys)

-- the same where the number stands in front
pub first_of_runs : (xs : List ℕ) (times run : ℕ) → 0 < length xs → times ≡ times_in_front (slice_index xs 0) xs → run ≡ (times - 1) % 4194304 + 1 → runs_of xs ≡ (slice_index xs 0, run) ∷ runs_of (drop run xs)
unfolding times_in_front
first_of_runs [] times run some e k = absurd (omega (arith, some))
first_of_runs (x ∷ xs) times run some e k =
    let once : times ≡ times_in_front x xs + 1 = e ∙ once_if (x == x) (times_in_front x xs) (eq-eqb x x refl) in
    let n = times_in_front x xs in
    let more : run ≡ suc (n % 4194304) = omega (arith, once, k) in
    rw more (first_runs x xs ∙ rw (add-one (n % 4194304)) refl)
  where
    once_if : (t : Bool) (n : ℕ) → t ≡ true → (if t then n + 1 else 0) ≡ n + 1
    once_if true n h = refl
    once_if false n h = absurd cc

-- ---- how often a number stands in front

drop_index : (i : ℕ) (xs : List ℕ) → i < length xs → drop i xs ≡ slice_index xs i ∷ drop (i + 1) xs
drop_index i xs h = drop_more xs i 0 h

pub front_more : (x i : ℕ) (xs : List ℕ) → i < length xs → slice_index xs i ≡ x → times_in_front x (drop i xs) ≡ times_in_front x (drop (i + 1) xs) + 1
unfolding times_in_front
front_more x i xs h e = rw (drop_index i xs h, eq-eqb (slice_index xs i) x e) refl

pub front_ends : (x i : ℕ) (xs : List ℕ) → i < length xs → (slice_index xs i ≡ x → ⊥) → times_in_front x (drop i xs) ≡ 0
unfolding times_in_front
front_ends x i xs h e = rw (drop_index i xs h, ne_eqb (slice_index xs i) x e) refl

pub front_none : (x i : ℕ) (xs : List ℕ) → length xs ≤ i → times_in_front x (drop i xs) ≡ 0
unfolding times_in_front
front_none x i xs h = rw (drop_all i xs h) refl

-- ---- texts

abbrev joined : List Piece → List ℕ
joined ps = join_with_byte 43 (map piece_text ps)

-- pieces behind others
abbrev tail : List Piece → List ℕ
tail [] = []
tail (p ∷ ps) = 43 ∷ joined (p ∷ ps)

joined_tail : (p : Piece) (ps : List Piece) → joined (p ∷ ps) ≡ piece_text p ++ tail ps
joined_tail p [] = sym (append-nil (piece_text p))
joined_tail p (q ∷ ps) = refl

-- pieces behind what stands there
abbrev behind : Last → List Piece → List ℕ
behind at [] = []
behind at (Plain bytes ∷ ps) = plus_before_digits at ++ (encode_lower bytes ++ tail ps)
behind at (Again byte times ∷ ps) = plus_before_times at ++ (piece_text (Again byte times) ++ tail ps)

behind_times : (ps : List Piece) → behind last.Times ps ≡ tail ps
behind_times [] = refl
behind_times (Plain bytes ∷ ps) = ap (λ (l : List ℕ). 43 ∷ l) (sym (joined_tail (Plain bytes) ps))
behind_times (Again byte times ∷ ps) = ap (λ (l : List ℕ). 43 ∷ l) (sym (joined_tail (Again byte times) ps))

behind_nothing : (ps : List Piece) → behind last.Nothing ps ≡ joined ps
behind_nothing [] = refl
behind_nothing (Plain bytes ∷ ps) = sym (joined_tail (Plain bytes) ps)
behind_nothing (Again byte times ∷ ps) = sym (joined_tail (Again byte times) ps)

-- the digits of bytes one behind another
pub digits_both : (a b : List ℕ) → encode_lower (a ++ b) ≡ encode_lower a ++ encode_lower b
unfolding encode_with
digits_both [] b = refl
digits_both (x ∷ a) b = rw (digits_both a b) refl

digits_laid : (mark bytes : List ℕ) (at : Last) (ps : List Piece) → mark ≡ plus_before_digits at → (mark ++ encode_lower bytes) ++ behind last.Digits ps ≡ behind at (onto bytes ps)
digits_laid mark bytes at [] e = rw e (append_assoc (plus_before_digits at) (encode_lower bytes) [])
digits_laid mark bytes at (Plain more ∷ ps) e =
    rw e (append_assoc (plus_before_digits at) (encode_lower bytes) (encode_lower more ++ tail ps)
    ∙ ap (λ (l : List ℕ). plus_before_digits at ++ l) (sym (append_assoc (encode_lower bytes) (encode_lower more) (tail ps)) ∙ ap (λ (l : List ℕ). l ++ tail ps) (sym (digits_both bytes more))))
digits_laid mark bytes at (Again byte times ∷ ps) e =
    rw e (append_assoc (plus_before_digits at) (encode_lower bytes) (43 ∷ (piece_text (Again byte times) ++ tail ps))
    ∙ ap (λ (l : List ℕ). plus_before_digits at ++ (encode_lower bytes ++ 43 ∷ l)) (sym (joined_tail (Again byte times) ps)))

laid_if : (t : Bool) (at : Last) (run : ℕ × ℕ) (ps : List Piece)
    → (if t then plus_before_digits at ++ encode_lower (replicate run.1 run.0) else plus_before_times at ++ piece_text (Again run.0 run.1)) ++ behind (if t then last.Digits else last.Times) ps
    ≡ behind at (if t then onto (replicate run.1 run.0) ps else Again run.0 run.1 ∷ ps)
laid_if true at run ps = digits_laid (plus_before_digits at) (replicate run.1 run.0) at ps refl
laid_if false at run ps =
    append_assoc (plus_before_times at) (piece_text (Again run.0 run.1)) (behind last.Times ps) ∙ ap (λ (l : List ℕ). plus_before_times at ++ (piece_text (Again run.0 run.1) ++ l)) (behind_times ps)

runs_behind : (at : Last) (runs : List (ℕ × ℕ)) → runs_text at runs ≡ behind at (pieces_of runs)
unfolding runs_text pieces_of
runs_behind at [] = refl
runs_behind at (run ∷ runs) =
    ap (λ (l : List ℕ). run_text at run ++ l) (runs_behind (behind_run run.1) runs) ∙ laid_if (nat_lt run.1 3) at run (pieces_of runs)

-- the short form is the text of its runs
pub short_runs : (bytes : List ℕ) → runs_text last.Nothing (runs_of bytes) ≡ short bytes
unfolding short
short_runs bytes = runs_behind last.Nothing (runs_of bytes) ∙ behind_nothing (pieces_of (runs_of bytes))

pub runs_none : (at : Last) (bytes : List ℕ) → length bytes ≤ 0 → runs_text at (runs_of bytes) ≡ []
unfolding runs_text runs_of
runs_none at [] h = refl
runs_none at (b ∷ bytes) h = absurd (omega (arith, h))

pub runs_next : (at : Last) (bytes more : List ℕ) (run : ℕ × ℕ) → runs_of bytes ≡ run ∷ runs_of more → runs_text at (runs_of bytes) ≡ run_text at run ++ runs_text (behind_run run.1) (runs_of more)
unfolding runs_text
runs_next at bytes more run e = rw e refl

-- a byte that stands twice
pub twice : (at : Last) (byte times : ℕ) → times ≡ 2 → (plus_before_digits at ++ encode_lower (byte ∷ [])) ++ encode_lower (byte ∷ []) ≡ run_text at (byte, times)
unfolding encode_with
twice at byte times e = rw e (append_assoc (plus_before_digits at) (encode_lower (byte ∷ [])) (encode_lower (byte ∷ [])))

-- ---- zeros at the end

kept_more : (b x : ℕ) (a : List ℕ) → kept b (a ++ x ∷ []) ≡ b ∷ (a ++ x ∷ [])
kept_more b x [] = refl
kept_more b x (c ∷ a) = refl

trimmed_zero : (a : List ℕ) → trimmed (a ++ 0 ∷ []) ≡ trimmed a
unfolding trimmed
trimmed_zero [] = refl
trimmed_zero (b ∷ a) = ap (kept b) (trimmed_zero a)

trimmed_other : (x : ℕ) (a : List ℕ) → x == 0 ≡ false → trimmed (a ++ x ∷ []) ≡ a ++ x ∷ []
unfolding trimmed
trimmed_other x [] e = rw e refl
trimmed_other x (b ∷ a) e = ap (kept b) (trimmed_other x a e) ∙ kept_more b x a

taken_last : (n : ℕ) (bytes : List ℕ) → n < length bytes → take (suc n) bytes ≡ take n bytes ++ slice_index bytes n ∷ []
taken_last n [] h = absurd (omega (arith, h))
taken_last zero (b ∷ bytes) h = refl
taken_last (suc n) (b ∷ bytes) h = ap (λ (l : List ℕ). b ∷ l) (taken_last n bytes (omega (arith, h)))

-- a zero at the end
pub trimmed_less : (n end : ℕ) (bytes : List ℕ) → end ≡ suc n → end ≤ length bytes → slice_index bytes n ≡ 0 → trimmed (take n bytes) ≡ trimmed (take end bytes)
trimmed_less n end bytes next h e =
    sym (ap (λ (k : ℕ). trimmed (take k bytes)) next ∙ ap trimmed (taken_last n bytes (omega (arith, next, h)) ∙ ap (λ (x : ℕ). take n bytes ++ x ∷ []) e) ∙ trimmed_zero (take n bytes))

-- no zero at the end
pub trimmed_whole : (n end : ℕ) (bytes : List ℕ) → end ≡ suc n → end ≤ length bytes → (slice_index bytes n ≡ 0 → ⊥) → trimmed (take end bytes) ≡ take end bytes
trimmed_whole n end bytes next h e =
    let last = taken_last n bytes (omega (arith, next, h)) in
    ap (λ (k : ℕ). trimmed (take k bytes)) next ∙ ap trimmed last ∙ trimmed_other (slice_index bytes n) (take n bytes) (ne_eqb (slice_index bytes n) 0 e) ∙ sym last ∙ ap (λ (k : ℕ). take k bytes) (sym next)

pub some_taken : (n : ℕ) (bytes : List ℕ) → 0 < n → 0 < length bytes → some_of (take n bytes) ≡ take n bytes
some_taken zero bytes some h = absurd (omega (arith, some))
some_taken (suc n) [] some h = absurd (omega (arith, h))
some_taken (suc n) (b ∷ bytes) some h = refl

one_if : (t : Bool) (b : ℕ) → (t ≡ true → b ≡ 0) → some_of (if t then [] else b ∷ []) ≡ b ∷ []
one_if true b h = ap (λ (x : ℕ). x ∷ []) (sym (h refl))
one_if false b h = refl

-- one byte is kept
pub one_kept : (bytes : List ℕ) → 0 < length bytes → some_of (trimmed (take 1 bytes)) ≡ take 1 bytes
unfolding trimmed
one_kept [] some = absurd (omega (arith, some))
one_kept (b ∷ bytes) some = one_if (b == 0) b (eqb-true b 0)

-- ---- numbers in so many bytes

mapped : {A : Type 0} (f : A → ℕ) (xs : List A) (i : ℕ) (d : A) → i < length xs → slice_index (map f xs) i ≡ f (get_or xs i d)
mapped f [] i d h = absurd (omega (arith, h))
mapped f (x ∷ xs) zero d h = refl
mapped f (x ∷ xs) (suc i) d h = mapped f xs i d (omega (arith, h))

pub mapped_more : {A : Type 0} (f : A → ℕ) (x i : ℕ) (xs : List A) (d : A) → i < length xs → f (get_or xs i d) ≡ x → times_in_front x (drop i (map f xs)) ≡ times_in_front x (drop (i + 1) (map f xs)) + 1
mapped_more f x i xs d h e = front_more x i (map f xs) (rw (length-map xs f) h) (mapped f xs i d h ∙ e)

pub mapped_ends : {A : Type 0} (f : A → ℕ) (x i : ℕ) (xs : List A) (d : A) → i < length xs → (f (get_or xs i d) ≡ x → ⊥) → times_in_front x (drop i (map f xs)) ≡ 0
mapped_ends f x i xs d h e = front_ends x i (map f xs) (rw (length-map xs f) h) (λ same. e (sym (mapped f xs i d h) ∙ same))

pub mapped_none : {A : Type 0} (f : A → ℕ) (x i : ℕ) (xs : List A) → length xs ≤ i → times_in_front x (drop i (map f xs)) ≡ 0
mapped_none f x i xs h = front_none x i (map f xs) (rw (length-map xs f) h)

pub mapped_first : {A : Type 0} (f : A → ℕ) (xs : List A) (d : A) → 0 < length xs → slice_index (map f xs) 0 ≡ f (get_or xs 0 d)
mapped_first f xs d h = mapped f xs 0 d h
