-- Lemmas on the equality of bytes, eight after eight.
use Rattle.std.proofs.Common.{◌≡◌, ℕ, ◌+◌, ◌-◌, ◌<◌, ◌≤◌, Bool, ◌&&◌, List, length, get_or, nat_eq, bytes_eq, sym, ap, ◌∙◌, inl, inr, arith, ext_get_or}
use Rattle.std.specs.Bool.{Decides}
use Rattle.std.proofs.lemmas.Bool.{cases_lt}
use Rattle.std.proofs.lemmas.Bool.Decides.{Decides-and, Decides-eqb, same_from_decides}
use Rattle.std.proofs.lemmas.Slice.Eq.{bytes_eq-Decides}
use Rattle.snow_base.specs.Kept.Words.{high_first}
use Rattle.snow_base.proofs.Words.{high_same, same_high}

-- bytes agree up to a place
abbrev AgreeTo : List ℕ → List ℕ → ℕ → Type 0
AgreeTo a b n = (k : ℕ) → k < n → k < length a → get_or a k 0 ≡ get_or b k 0

-- the word from a place on, the first byte the lowest
abbrev word_at : List ℕ → ℕ → ℕ
word_at s from = high_first (λ k. get_or s (from + (7 - k)) 0) 8

-- words that are equal have the same bytes
word_agrees : (a b : List ℕ) (from : ℕ) → ((k : ℕ) → get_or a k 0 < 256) → ((k : ℕ) → get_or b k 0 < 256)
    → word_at a from ≡ word_at b from → (k : ℕ) → from ≤ k → k < from + 8 → get_or a k 0 ≡ get_or b k 0
word_agrees a b from bytes_a bytes_b e k low high =
    let place : from + (7 - (from + 7 - k)) ≡ k = omega arith in
    let here : get_or a (from + (7 - (from + 7 - k))) 0 ≡ get_or b (from + (7 - (from + 7 - k))) 0 =
    same_high (λ k. get_or a (from + (7 - k)) 0) (λ k. get_or b (from + (7 - k)) 0) 8 (λ k. bytes_a (from + (7 - k))) (λ k. bytes_b (from + (7 - k))) e (from + 7 - k) (omega arith) in
    ap (λ j. get_or a j 0) (sym place) ∙ here ∙ ap (λ j. get_or b j 0) place

-- one word more, which has all bytes up to the next place
pub equal_more : (a b : List ℕ) (n m from x y : ℕ) (same : Bool) → from + 8 ≤ length a → from ≤ n → n ≤ m → from + 8 ≤ m
    → ((k : ℕ) → k < m → k < length a → k < from + 8) → ((k : ℕ) → get_or a k 0 < 256) → ((k : ℕ) → get_or b k 0 < 256)
    → x ≡ word_at a from → y ≡ word_at b from
    → Decides same (AgreeTo a b n) → Decides (same && nat_eq x y) (AgreeTo a b m)
equal_more a b n m from x y same long start more end covers bytes_a bytes_b is_x is_y so_far =
    let both = Decides-and same (nat_eq x y) so_far (Decides-eqb x y) in (
      λ h k below inside.
          elim (cases_lt k from) [
            | inl l ↦ (both.0 h).0 k (omega arith) inside
            | inr l ↦ word_agrees a b from bytes_a bytes_b (sym is_x ∙ (both.0 h).1 ∙ is_y) k l (covers k below inside)
          ],
      λ agree.
          both.1 (
            λ k below inside. agree k (omega arith) inside,
            is_x ∙ high_same (λ k. get_or a (from + (7 - k)) 0) (λ k. get_or b (from + (7 - k)) 0) 8 (λ k l. agree (from + (7 - k)) (omega arith) (omega arith)) ∙ sym is_y,
          ),
    )

-- where all agree the bytes are equal
pub all_equal : (a b : List ℕ) (n : ℕ) (same : Bool) → length a ≡ length b → length a ≤ n → Decides same (AgreeTo a b n) → same ≡ bytes_eq a b
all_equal a b n same long all agree =
    same_from_decides same (bytes_eq a b)
    (λ h. ext_get_or 0 a b long (λ k inside. agree.0 h k (omega arith) inside), λ e. agree.1 (λ k below inside. ap (λ s. get_or s k 0) e))
    (bytes_eq-Decides a b)
