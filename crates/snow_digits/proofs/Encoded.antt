-- The digits of bytes, some at a time.
use Rattle.std.proofs.Common.{◌≡◌, ℕ, List, [], ◌∷◌, ◌++◌, ◌*◌, length, take, drop, refl, sym, ap, ◌∙◌, arith}
use Rattle.std.proofs.lemmas.List.{drop_at, drop-drop, length-take-le, take-append-drop}
use Rattle.hex.specs.Hex.{encode_lower, encode_with, lower_digits}
use Rattle.hex.proofs.HexLemmas.{length-encode_with}

-- the digits of bytes and of others behind them
pub digits_append : (xs ys : List ℕ) → encode_lower (xs ++ ys) ≡ encode_lower xs ++ encode_lower ys
unfolding encode_with
digits_append [] ys = refl
digits_append (b ∷ xs) ys = ap (λ l. encode_lower (b ∷ []) ++ l) (digits_append xs ys)

-- there are two of a byte
pub digits_long : (xs : List ℕ) → length (encode_lower xs) ≡ 2 * length xs
digits_long xs = length-encode_with lower_digits xs

-- the digits of the last four of sixteen bytes are the last eight of all
pub last_four : (v front back : List ℕ) → length v ≡ 16 → length front ≡ 16 → front ++ back ≡ encode_lower v → drop 8 back ≡ encode_lower (drop 12 v)
last_four v front back long half all =
    let few : length (encode_lower (take 12 v)) ≡ 24 = omega (arith, digits_long (take 12 v), length-take-le 12 v (omega (arith, long))) in
    ap (drop 8) (sym (drop_at front back 16 half)) ∙ drop-drop 8 16 (front ++ back)
    ∙ ap (drop 24) (all ∙ ap encode_lower (sym (take-append-drop 12 v)) ∙ digits_append (take 12 v) (drop 12 v))
    ∙ drop_at (encode_lower (take 12 v)) (encode_lower (drop 12 v)) 24 few

-- the digits of the first sixteen of twenty bytes, and of the last four of the last sixteen
pub node_parts : (node : List ℕ) → encode_lower (take 16 node) ++ encode_lower (drop 12 (drop 4 node)) ≡ encode_lower node
node_parts node =
    ap (λ l. encode_lower (take 16 node) ++ encode_lower l) (drop-drop 12 4 node)
    ∙ sym (digits_append (take 16 node) (drop 16 node)) ∙ ap encode_lower (take-append-drop 16 node)
