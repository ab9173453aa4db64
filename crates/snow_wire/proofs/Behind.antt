-- Lemmas on bytes in front of a list that is filled beyond them, and of what is put behind them.
use Rattle.std.proofs.Common.{◌≡◌, ℕ, ◌+◌, ◌-◌, ◌≤◌, List, ◌++◌, length, take, drop, Option, sym, ap, ◌∙◌, arith}
use Rattle.std.specs.List.{copy_within}
use Rattle.std.specs.Io.KnownBytes.{Consumes}
use Rattle.std.proofs.Math.Seq.{take-append-add, take-append_seam}
use Rattle.std.proofs.lemmas.List.{take_all, take-append-le, length-drop, length-take-le, drop-take}
use Rattle.std.proofs.lemmas.List.Edits.{take-paste}
use borrow.Rule.Slice.PartMut.{put_mid, post_of}
use Rattle.snow_wire.specs.Clauses.Filling.{TakesIn}

-- a front stays where the list grows
pub grown : (xs ys : List ℕ) (end n : ℕ) → end ≤ length xs → length xs ≤ n → take end (take n xs ++ ys) ≡ take end xs
grown xs ys end n h k =
    let whole : take n xs ≡ xs = take_all n xs k in
    ap (λ l. take end (l ++ ys)) whole ∙ take-append-le end xs ys h

-- what is behind n came to the front
pub moved : (xs : List ℕ) (n len : ℕ) → n ≤ len → len ≤ length xs → take (len - n) (copy_within xs n len 0) ≡ drop n (take len xs)
moved xs n len h k =
    let whole : n + (len - n) ≡ len = omega arith in
    let none : len - n ≡ 0 + (len - n) = omega arith in
    ap (λ m. take m (copy_within xs n len 0)) none
    ∙ take-paste xs 0 (drop n xs) (len - n) (omega arith) (omega (arith, length-drop n xs))
    ∙ sym (drop-take n (len - n) xs)
    ∙ ap (λ m. drop n (take m xs)) whole

-- what was read in place stands behind the bytes before it
pub read_front : (xs buf : List ℕ) (a k n : ℕ) → a ≤ length xs → n ≤ length buf → take (a + n) (put_mid a k xs buf) ≡ take a xs ++ take n buf
read_front xs buf a k n h fits =
    let long : length (take a xs) ≡ a = length-take-le a xs h in
    ap (λ m. take (m + n) (put_mid a k xs buf)) (sym long)
    ∙ take-append-add (take a xs) (buf ++ post_of a k xs) n
    ∙ ap (λ l. take a xs ++ l) (take-append-le n buf (post_of a k xs) fits)

-- so it came behind them
pub read_behind : (left_before left_now : Option (List ℕ)) (xs buf : List ℕ) (a k n : ℕ) → a ≤ length xs → n ≤ length buf → Consumes left_before left_now (take n buf)
    → TakesIn left_before left_now (take a xs) (take (a + n) (put_mid a k xs buf)) n
read_behind left_before left_now xs buf a k n h fits took = record {
  piece = take n buf;
  consumed = took;
  behind = read_front xs buf a k n h fits;
  long = length-take-le n buf fits;
}

-- a list that was written back whole
pub written_back : (items ys : List ℕ) (m : ℕ) → m ≡ length ys → take m (ys ++ drop (length ys) items) ≡ ys
written_back items ys m e = ap (λ n. take n (ys ++ drop (length ys) items)) e ∙ take-append_seam ys (drop (length ys) items)
