-- The digits of bytes that are appended, some at a time.
use Rattle.std.proofs.Common.{◌≡◌, List, [], ◌++◌, ℕ, Option, refl, sym, ap, ◌∙◌, append_assoc}
use Rattle.hex.specs.Hex.{encode_lower, encode_with}
use Rattle.snow_base.specs.Clauses.Outside.{AppendsFront}
use Rattle.snow_base.proofs.Known.{front_of_more}
use Rattle.snow_digits.proofs.Encoded.{digits_append}
use Rattle.snow_page.specs.Kept.Gathered.{Gathers}
use Rattle.snow_page.proofs.Waiting.{gathers_none, gathers_then, gathers_then_front}

-- no bytes have no digits
digits_none : encode_lower [] ≡ []
unfolding encode_with
digits_none = refl

-- nothing came yet
pub encoded_none : (a : Option (List ℕ)) (t : List ℕ) → Gathers a t a t (encode_lower [])
encoded_none a t = rw digits_none (gathers_none a t)

-- the digits so far, and those of some bytes more
pub encoded_next : (a b c : Option (List ℕ)) (t u v front some : List ℕ) → Gathers a t b u (encode_lower front) → Gathers b u c v (encode_lower some)
    → Gathers a t c v (encode_lower (front ++ some))
encoded_next a b c t u v front some p q = gathers_then a b c t u v _ _ _ p q (sym (digits_append front some))

-- the digits so far, and those of some bytes more in front
pub encoded_failed : (a b c : Option (List ℕ)) (t u front some behind bytes : List ℕ) → Gathers a t b u (encode_lower front)
    → AppendsFront b c (u ++ encode_lower some) → front ++ (some ++ behind) ≡ bytes → AppendsFront a c (t ++ encode_lower bytes)
encoded_failed a b c t u front some behind bytes p q e =
    gathers_then_front a b c t u (encode_lower front) (encode_lower some ++ encode_lower behind) _ p
    (front_of_more b c (u ++ encode_lower some) (encode_lower behind) _ q (append_assoc u (encode_lower some) (encode_lower behind)))
    (ap (λ l. t ++ l) (ap (λ l. encode_lower front ++ l) (sym (digits_append some behind)) ∙ sym (digits_append front (some ++ behind)) ∙ ap encode_lower e))
