-- Bytes that stand in no number and in no digits, and texts that are cut at them.
use Rattle.std.proofs.Common.{◌≡◌, ℕ, zero, suc, ◌/◌, ◌%◌, ◌<◌, ◌≤◌, ◌^◌, ◌==◌, ◌⊎◌, inl, inr, true, false, not, List, [], ◌∷◌, ◌++◌, All, slice_index, decimal, refl, ap, ◌∙◌, arith}
use Rattle.std.specs.List.{list_all, join_with_byte}
use Rattle.std.specs.Str.Parse.{AllDigits}
use Rattle.std.proofs.lemmas.Bool.{and_parts, not-true, ne_eqb, eq-eqb}
use Rattle.std.proofs.lemmas.Fmt.{decimal_is_IsNumeral}
use Rattle.std.proofs.lemmas.List.Elements.{All-nil, All-cons, All-append}
use Rattle.std.proofs.lemmas.List.Splits.{slice_split_none, slice_split_at}
use Rattle.std.proofs.lemmas.Str.Parse.{digit_from_value}
use Rattle.hex.specs.Hex.{encode_lower, encode_with, lower_digits}
use Rattle.snow_text_model.specs.Model.Words.{parts}

-- no byte is c
abbrev pub Lacks : ℕ → List ℕ → Type 0
Lacks c text = All (λ b. b == c ≡ false) text

pub lacks_nil : (c : ℕ) → Lacks c []
lacks_nil c = All-nil (λ b. b == c ≡ false)

pub lacks_cons : (c b : ℕ) (text : List ℕ) → b == c ≡ false → Lacks c text → Lacks c (b ∷ text)
lacks_cons c b text h hs = All-cons (λ b. b == c ≡ false) b text h hs

pub lacks_both : (c : ℕ) (a b : List ℕ) → Lacks c a → Lacks c b → Lacks c (a ++ b)
lacks_both c a b h k = All-append (λ b. b == c ≡ false) a b h k

-- a text that passes a test
pub lacks_from : (c : ℕ) (text : List ℕ) → list_all (λ b. not (b == c)) text ≡ true → Lacks c text
lacks_from c [] h = lacks_nil c
lacks_from c (b ∷ text) h =
    let both = and_parts (not (b == c)) (list_all (λ b. not (b == c)) text) h in
    lacks_cons c b text (not-true (b == c) both.0) (lacks_from c text both.1)

-- ---- texts that are cut

-- one part
pub parts_one : (c : ℕ) (text : List ℕ) → Lacks c text → parts c text ≡ text ∷ []
parts_one c text h = slice_split_none (λ b. b == c) text h

-- a part, and others behind it
pub parts_more : (c : ℕ) (part more : List ℕ) → Lacks c part → parts c (part ++ c ∷ more) ≡ part ∷ parts c more
parts_more c part more h = slice_split_at (λ b. b == c) part c more h (eq-eqb c c refl)

abbrev pub AllLack : ℕ → List (List ℕ) → Type 0
AllLack c [] = Unit {0}
AllLack c (part ∷ more) = Lacks c part × AllLack c more

-- parts that were joined
pub parts_joined : (c : ℕ) (part : List ℕ) (more : List (List ℕ)) → AllLack c (part ∷ more) → parts c (join_with_byte c (part ∷ more)) ≡ part ∷ more
parts_joined c part [] h = parts_one c part h.0
parts_joined c part (next ∷ more) h =
    parts_more c part (join_with_byte c (next ∷ more)) h.0 ∙ ap (λ (ws : List (List ℕ)). part ∷ ws) (parts_joined c next more h.1)

-- parts that were joined at another byte
pub lacks_joined : (c d : ℕ) → d == c ≡ false → (ws : List (List ℕ)) → AllLack c ws → Lacks c (join_with_byte d ws)
lacks_joined c d apart [] h = lacks_nil c
lacks_joined c d apart (w ∷ []) h = h.0
lacks_joined c d apart (w ∷ v ∷ ws) h =
    lacks_both c w (d ∷ join_with_byte d (v ∷ ws)) h.0 (lacks_cons c d (join_with_byte d (v ∷ ws)) apart (lacks_joined c d apart (v ∷ ws) h.1))

-- ---- marks

-- a byte that is no digit
pub record IsMark (c : ℕ) : Type 0 where
  pub table : list_all (λ b. not (b == c)) lower_digits ≡ true
  pub zero_too : 0 == c ≡ false
  pub outside : (c < 48) ⊎ (57 < c)

place_apart : (c : ℕ) (table : List ℕ) (d : ℕ) → 0 == c ≡ false → list_all (λ b. not (b == c)) table ≡ true → slice_index table d == c ≡ false
place_apart c [] d z h = z
place_apart c (b ∷ table) zero z h =
    let both = and_parts (not (b == c)) (list_all (λ b. not (b == c)) table) h in not-true (b == c) both.0
place_apart c (b ∷ table) (suc d) z h =
    let both = and_parts (not (b == c)) (list_all (λ b. not (b == c)) table) h in place_apart c table d z both.1

-- the digits of bytes
pub hex_lacks : (c : ℕ) → IsMark c → (bytes : List ℕ) → Lacks c (encode_lower bytes)
unfolding encode_with
hex_lacks c mark [] = lacks_nil c
hex_lacks c mark (b ∷ bytes) =
    lacks_cons c (slice_index lower_digits (b / 16)) (slice_index lower_digits (b % 16) ∷ encode_lower bytes) (place_apart c lower_digits (b / 16) mark.zero_too mark.table)
    (lacks_cons c (slice_index lower_digits (b % 16)) (encode_lower bytes) (place_apart c lower_digits (b % 16) mark.zero_too mark.table) (hex_lacks c mark bytes))

digit_apart : (c b : ℕ) → (c < 48) ⊎ (57 < c) → 48 ≤ b → b ≤ 57 → b == c ≡ false
digit_apart c b (inl low) h k = ne_eqb b c (λ e. omega (arith, low, h, k, e))
digit_apart c b (inr high) h k = ne_eqb b c (λ e. omega (arith, high, h, k, e))

digits_lack : (c : ℕ) → IsMark c → (ds : List ℕ) → AllDigits 10 ds → Lacks c ds
digits_lack c mark [] h = lacks_nil c
digits_lack c mark (d ∷ ds) h =
    let range = digit_from_value d h.0 in lacks_cons c d ds (digit_apart c d mark.outside range.0 range.1) (digits_lack c mark ds h.1)

-- a number
pub decimal_lacks : (c : ℕ) → IsMark c → (n : ℕ) → n < 2 ^ 64 → Lacks c (decimal n)
decimal_lacks c mark n h = digits_lack c mark (decimal n) (decimal_is_IsNumeral n h).0.1

pub newline : IsMark 10
newline = record { table = refl; zero_too = refl; outside = inl (omega arith) }

pub space : IsMark 32
space = record { table = refl; zero_too = refl; outside = inl (omega arith) }

pub hash : IsMark 35
hash = record { table = refl; zero_too = refl; outside = inl (omega arith) }

pub dollar : IsMark 36
dollar = record { table = refl; zero_too = refl; outside = inl (omega arith) }

pub star : IsMark 42
star = record { table = refl; zero_too = refl; outside = inl (omega arith) }

pub plus : IsMark 43
plus = record { table = refl; zero_too = refl; outside = inl (omega arith) }

pub comma : IsMark 44
comma = record { table = refl; zero_too = refl; outside = inl (omega arith) }

pub full_stop : IsMark 46
full_stop = record { table = refl; zero_too = refl; outside = inl (omega arith) }

pub colon : IsMark 58
colon = record { table = refl; zero_too = refl; outside = inr (omega arith) }

pub equals : IsMark 61
equals = record { table = refl; zero_too = refl; outside = inr (omega arith) }
