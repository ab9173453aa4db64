-- Digits: a number of 64 bits has at most twenty, and a mark stands before them.
use Rattle.std.proofs.Common.{◌≡◌, ℕ, ◌+◌, ◌-◌, ◌^◌, ◌<◌, ◌≤◌, List, ◌∷◌, ◌++◌, length, take, drop, slice_set, decimal, ap, ◌∙◌, append-nil, arith}
use Rattle.std.proofs.lemmas.Fmt.{length-decimal-le}
use Rattle.std.proofs.lemmas.List.{drop-set, drop_all, take_all}

-- a number of 64 bits is short
pub decimal_short : (n : ℕ) → n < 2 ^ 64 → length (decimal n) ≤ 20
decimal_short n h = length-decimal-le 20 n (omega arith) (omega (arith, h)) h

-- and one of 32 bits
pub decimal_shorter : (n : ℕ) → n < 2 ^ 32 → length (decimal n) ≤ 10
decimal_shorter n h = length-decimal-le 10 n (omega arith) (omega (arith, h)) (omega (arith, h))

-- a mark was written before the digits that end a buffer of n bytes
pub mark_before : (old buf digits : List ℕ) (n start mark k : ℕ) → 0 < start → start + length digits ≡ n → length buf ≡ n → length old ≡ n → n ≤ start - 1 + k
    → drop start buf ≡ digits ++ drop n old → take k (drop (start - 1) (slice_set buf (start - 1) mark)) ≡ mark ∷ digits
mark_before old buf digits n start mark k some len long same fits e =
    let next : start - 1 + 1 ≡ start = omega arith in
    let within : start - 1 < length buf = omega arith in
    let none = drop_all n old (omega arith) in
    let whole : drop start buf ≡ digits = e ∙ ap (λ l. digits ++ l) none ∙ append-nil digits in
    let both : drop (start - 1) (slice_set buf (start - 1) mark) ≡ mark ∷ digits = drop-set buf (start - 1) mark within ∙ ap (λ n. mark ∷ drop n buf) next ∙ ap (λ l. mark ∷ l) whole in
    ap (take k) both ∙ take_all k (mark ∷ digits) (omega arith)
