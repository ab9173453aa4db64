-- The first bytes of a piece that was put behind others whole.
use Rattle.std.proofs.Common.{◌≡◌, ℕ, ◌+◌, ◌-◌, ◌≤◌, List, ◌++◌, length, take, ap, ◌∙◌, arith}
use Rattle.std.proofs.lemmas.List.{length-append}
use Rattle.std.proofs.Math.Seq.{take-append-add}

-- the others were taken off the end
pub shortened : (xs piece : List ℕ) (n : ℕ) → n ≤ length piece → take (length (xs ++ piece) - (length piece - n)) (xs ++ piece) ≡ xs ++ take n piece
shortened xs piece n h =
    let left : length (xs ++ piece) - (length piece - n) ≡ length xs + n = omega (arith, length-append xs piece) in
    ap (λ m. take m (xs ++ piece)) left ∙ take-append-add xs piece n
