-- A field that is read is the field that was spelled, and what was spelled is read again.
use Rattle.std.proofs.Common.{◌≡◌, ℕ, zero, suc, ◌^◌, ◌<◌, ◌≤◌, Bool, true, false, cond, nat_le, nat_lt, ◌==◌, List, [], ◌∷◌, ◌++◌, length, take, drop, All, Result, Ok, Err, refl, sym, ap, subst, ◌∙◌, append_assoc, arith}
use Rattle.std.specs.List.{flat_map, AllByRecursion}
use Rattle.std.proofs.lemmas.Bool.Decides.{nat_tests}
use Rattle.std.proofs.lemmas.List.{take_at, drop_at, take-append-drop, length-append, length-take}
use Rattle.std.proofs.lemmas.List.Concat.{flat_map-cons}
use Rattle.std.proofs.lemmas.List.Elements.{All-from_recursion, recursion_from_All}
use Rattle.byteorder.specs.Endian.{big_number}
use Rattle.byteorder.specs.Numbers.{big_number-reads_back, big_from-lt, length-bytes_high_first}
use Rattle.snow_wire.specs.declared.skip.Fault.{Fault}
use Rattle.snow_wire.specs.declared.skip.Fault.TheVariants.{Short, Count}
use Rattle.snow_wire.specs.Model.Spelling.{number, sized, counted, weighed, flag, IsWeighed}
use Rattle.snow_wire.specs.Model.Reading.{IsBytes, Read, ◌>>=◌, bytes_at, number_at, limited_at, flag_at, sized_at, items_at, counted_at, weighed_at}
use Rattle.snow_wire.proofs.Numbers.{IsBytes-behind, IsWidth, width1, width2, width4, width8, front_spells}

-- ---- what all fields have in common

-- the value of a step that didn't fail
pub bind_ok : {A B : Type 0} (r : Result A Fault) (f : A → Result B Fault) (y : B) → (r >>= f) ≡ Ok y → (x : A) × (r ≡ Ok x) × (f x ≡ Ok y)
bind_ok (Ok x) f y e = (x, refl, e)
bind_ok (Err d) f y e = absurd cc

-- a value that was read
abbrev pub done : {A : Type 0} → A → Result A Fault
done x = Ok x

-- what is read is one value
pub ok_is : {A : Type 0} (x y : A) → done x ≡ done y → x ≡ y
ok_is x y e = cc

-- a test that didn't fail
pub unless : {A : Type 0} (b : Bool) (d : Fault) (x y : A) → cond b (Err d) (Ok x) ≡ Ok y → (b ≡ false) × (x ≡ y)
unless true d x y e = absurd cc
unless false d x y e = (refl, cc)

-- a test that held
pub when : {A : Type 0} (b : Bool) (d : Fault) (x y : A) → cond b (Ok x) (Err d) ≡ Ok y → (b ≡ true) × (x ≡ y)
when true d x y e = (refl, cc)
when false d x y e = absurd cc

-- reading takes from the front what spell spells of a good value, and nothing else
pub record IsField {A : Type 0} (at : List ℕ → Read A) (spell : A → List ℕ) (Good : A → Type 0) : Type 0 where
  pub taken : (bytes : List ℕ) (x : A) (rest : List ℕ) → IsBytes bytes → at bytes ≡ Ok (x, rest) → (bytes ≡ spell x ++ rest) × Good x
  pub again : (x : A) (rest : List ℕ) → Good x → at (spell x ++ rest) ≡ Ok (x, rest)

-- a field that was read, and how reading went on
pub record Step {A B : Type 0} (spell : A → List ℕ) (Good : A → Type 0) (bytes : List ℕ) (f : A × List ℕ → Result B Fault) (y : B) : Type 0 where
  pub value : A
  pub rest : List ℕ
  pub parts : bytes ≡ spell value ++ rest
  pub good : Good value
  pub fits : IsBytes rest
  pub goes_on : f (value, rest) ≡ Ok y

-- the first field of what was read
pub step : {A B : Type 0} {at : List ℕ → Read A} {spell : A → List ℕ} {Good : A → Type 0} → IsField at spell Good
    → (bytes : List ℕ) (f : A × List ℕ → Result B Fault) (y : B) → IsBytes bytes → (at bytes >>= f) ≡ Ok y → Step spell Good bytes f y
step {at = at} {spell = spell} field bytes f y fits e =
    let b = bind_ok (at bytes) f y e in
    let t = field.taken bytes b.0.0 b.0.1 fits b.1 in
    record { value = b.0.0; rest = b.0.1; parts = t.0; good = t.1; fits = IsBytes-behind (spell b.0.0) b.0.1 (subst IsBytes t.0 fits); goes_on = b.2 }

-- the first field of what was read, for what is to be shown of the rest
pub by_step : {A B P : Type 0} {at : List ℕ → Read A} {spell : A → List ℕ} {Good : A → Type 0} → IsField at spell Good
    → (bytes : List ℕ) (f : A × List ℕ → Result B Fault) (y : B) → IsBytes bytes → (at bytes >>= f) ≡ Ok y
    → ((x : A) (rest : List ℕ) → bytes ≡ spell x ++ rest → Good x → IsBytes rest → f (x, rest) ≡ Ok y → P) → P
by_step field bytes f y fits e shown =
    let s = step field bytes f y fits e in
    shown s.value s.rest s.parts s.good s.fits s.goes_on

-- a field that was spelled is read again, and reading goes on
pub again_then : {A B : Type 0} {at : List ℕ → Read A} {spell : A → List ℕ} {Good : A → Type 0} → IsField at spell Good
    → (x : A) (rest : List ℕ) (f : A × List ℕ → Result B Fault) → Good x → (at (spell x ++ rest) >>= f) ≡ f (x, rest)
again_then field x rest f good = ap (λ r. r >>= f) (field.again x rest good)

-- one field and then another
pub join : (bytes a x b y : List ℕ) → bytes ≡ a ++ x → x ≡ b ++ y → bytes ≡ (a ++ b) ++ y
join bytes a x b y p q = p ∙ ap (λ (l : List ℕ). a ++ l) q ∙ sym (append_assoc a b y)

-- ---- bytes and numbers

bytes_taken : (n : ℕ) (bytes x rest : List ℕ) → IsBytes bytes → bytes_at n bytes ≡ Ok (x, rest) → (bytes ≡ x ++ rest) × (length x ≡ n)
unfolding bytes_at
bytes_taken n bytes x rest fits e =
    let g = unless (nat_lt (length bytes) n) Short (take n bytes, drop n bytes) (x, rest) e in
    let long : n ≤ length bytes = grind (arith, nat_tests, g.0) in
    subst (λ (p : List ℕ × List ℕ). (bytes ≡ p.0 ++ p.1) × (length p.0 ≡ n)) g.1 (sym (take-append-drop n bytes), omega (arith, length-take n bytes))

bytes_again : (n : ℕ) (x rest : List ℕ) → length x ≡ n → bytes_at n (x ++ rest) ≡ Ok (x, rest)
unfolding bytes_at
bytes_again n x rest len =
    let long : nat_lt (length (x ++ rest)) n ≡ false = grind (arith, nat_tests, length-append x rest) in
    rw (long, take_at x rest n len, drop_at x rest n len) refl

-- so many bytes
pub bytes_field : (n : ℕ) → IsField (bytes_at n) (λ x. x) (λ x. length x ≡ n)
bytes_field n = record { taken = bytes_taken n; again = bytes_again n }

number_taken : (n : ℕ) → IsWidth n → (bytes : List ℕ) (x : ℕ) (rest : List ℕ) → IsBytes bytes → number_at n bytes ≡ Ok (x, rest) → (bytes ≡ number n x ++ rest) × (x < 256 ^ n)
unfolding number_at number
number_taken n width bytes x rest fits e =
    let g = unless (nat_lt (length bytes) n) Short (big_number n bytes, drop n bytes) (x, rest) e in
    let long : n ≤ length bytes = grind (arith, nat_tests, g.0) in
    let parts : bytes ≡ number n (big_number n bytes) ++ drop n bytes = sym (take-append-drop n bytes) ∙ ap (λ (front : List ℕ). front ++ drop n bytes) (sym (front_spells n width bytes long fits)) in
    subst (λ (p : ℕ × List ℕ). (bytes ≡ number n p.0 ++ p.1) × (p.0 < 256 ^ n)) g.1 (parts, big_from-lt 0 n bytes fits)

number_again : (n x : ℕ) (rest : List ℕ) → x < 256 ^ n → number_at n (number n x ++ rest) ≡ Ok (x, rest)
unfolding number_at number
number_again n x rest lt =
    let len = length-bytes_high_first n x in
    let long : nat_lt (length (number n x ++ rest)) n ≡ false = grind (arith, nat_tests, length-append (number n x) rest) in
    rw (long, big_number-reads_back n x rest lt, drop_at (number n x) rest n len) refl

-- a number of so many bytes
pub number_field : (n : ℕ) → IsWidth n → IsField (number_at n) (number n) (λ x. x < 256 ^ n)
number_field n width = record { taken = number_taken n width; again = number_again n }

limited_taken : (n limit : ℕ) → IsWidth n → (bytes : List ℕ) (x : ℕ) (rest : List ℕ) → IsBytes bytes → limited_at n limit bytes ≡ Ok (x, rest) → (bytes ≡ number n x ++ rest) × (x ≤ limit)
unfolding limited_at
limited_taken n limit width bytes x rest fits e =
    let s = step (number_field n width) bytes (λ x. cond (nat_le x.0 limit) (Ok x) (Err Count)) (x, rest) fits e in
    let g = when (nat_le s.value limit) Count (s.value, s.rest) (x, rest) s.goes_on in
    subst (λ (p : ℕ × List ℕ). (bytes ≡ number n p.0 ++ p.1) × (p.0 ≤ limit)) g.1 (s.parts, grind (arith, nat_tests, g.0))

limited_again : (n limit : ℕ) → IsWidth n → limit < 256 ^ n → (x : ℕ) (rest : List ℕ) → x ≤ limit → limited_at n limit (number n x ++ rest) ≡ Ok (x, rest)
unfolding limited_at
limited_again n limit width small x rest le =
    let within : nat_le x limit ≡ true = grind (arith, nat_tests) in
    again_then (number_field n width) x rest (λ x. cond (nat_le x.0 limit) (Ok x) (Err Count)) (omega arith) ∙ rw within refl

-- a number that is at most the limit
pub limited_field : (n limit : ℕ) → IsWidth n → limit < 256 ^ n → IsField (limited_at n limit) (number n) (λ x. x ≤ limit)
limited_field n limit width small = record { taken = limited_taken n limit width; again = limited_again n limit width small }

one_flag : (n : ℕ) → n ≤ 1 → number 1 n ≡ flag (n == 1) ∷ []
unfolding number
one_flag zero le = refl
one_flag (suc zero) le = refl
one_flag (suc (suc n)) le = absurd (omega arith)

flag_taken : (bytes : List ℕ) (x : Bool) (rest : List ℕ) → IsBytes bytes → flag_at bytes ≡ Ok (x, rest) → (bytes ≡ (flag x ∷ []) ++ rest) × Unit {0}
unfolding flag_at
flag_taken bytes x rest fits e =
    let s = step (limited_field 1 1 width1 (omega arith)) bytes (λ n. Ok (n.0 == 1, n.1)) (x, rest) fits e in
    subst (λ (p : Bool × List ℕ). (bytes ≡ (flag p.0 ∷ []) ++ p.1) × Unit {0}) (ok_is (s.value == 1, s.rest) (x, rest) s.goes_on) (s.parts ∙ ap (λ (b : List ℕ). b ++ s.rest) (one_flag s.value s.good), tt)

flag_again : (x : Bool) (rest : List ℕ) → Unit {0} → flag_at ((flag x ∷ []) ++ rest) ≡ Ok (x, rest)
unfolding flag_at number
flag_again false rest good = again_then (limited_field 1 1 width1 (omega arith)) 0 rest (λ n. Ok (n.0 == 1, n.1)) (omega arith)
flag_again true rest good = again_then (limited_field 1 1 width1 (omega arith)) 1 rest (λ n. Ok (n.0 == 1, n.1)) (omega arith)

-- a byte that is 0 or 1
pub flag_field : IsField flag_at (λ x. flag x ∷ []) (λ x. Unit {0})
flag_field = record { taken = flag_taken; again = flag_again }

-- ---- bytes behind their length

sized_taken : (limit : ℕ) → limit < 256 ^ 4 → (bytes x rest : List ℕ) → IsBytes bytes → sized_at limit bytes ≡ Ok (x, rest) → (bytes ≡ sized x ++ rest) × (length x ≤ limit)
unfolding sized_at
sized_taken limit small bytes x rest fits e =
    let len = step (limited_field 4 limit width4 small) bytes (λ n. bytes_at n.0 n.1) (x, rest) fits e in
    let t = bytes_taken len.value len.rest x rest len.fits len.goes_on in
    let first : bytes ≡ number 4 (length x) ++ len.rest = rw t.1 len.parts in
    (join bytes (number 4 (length x)) len.rest x rest first t.0, rw t.1 len.good)

sized_again : (limit : ℕ) → limit < 256 ^ 4 → (x rest : List ℕ) → length x ≤ limit → sized_at limit (sized x ++ rest) ≡ Ok (x, rest)
unfolding sized_at
sized_again limit small x rest le =
    ap (sized_at limit) (append_assoc (number 4 (length x)) x rest)
    ∙ again_then (limited_field 4 limit width4 small) (length x) (x ++ rest) (λ n. bytes_at n.0 n.1) le ∙ bytes_again (length x) x rest refl

-- four bytes of length, and so many bytes
pub sized_field : (limit : ℕ) → limit < 256 ^ 4 → IsField (sized_at limit) sized (λ x. length x ≤ limit)
sized_field limit small = record { taken = sized_taken limit small; again = sized_again limit small }

-- ---- lists behind their count

-- items that stand in front, all good
record Listed {A : Type 0} (spell : A → List ℕ) (Good : A → Type 0) (n : ℕ) (bytes : List ℕ) (p : List A × List ℕ) : Type 0 where
  parts : bytes ≡ flat_map spell p.0 ++ p.1
  count : length p.0 ≡ n
  good : AllByRecursion Good p.0

listed_first : {A : Type 0} (spell : A → List ℕ) (Good : A → Type 0) (n : ℕ) (bytes mid : List ℕ) (x : A) (p : List A × List ℕ) → bytes ≡ spell x ++ mid → Good x → Listed spell Good n mid p
    → Listed spell Good (suc n) bytes (x ∷ p.0, p.1)
listed_first spell Good n bytes mid x p first good others = record {
  parts = rw flat_map-cons (join bytes (spell x) mid (flat_map spell p.0) p.1 first others.parts);
  count = ap suc others.count;
  good = (good, others.good);
}

items_taken : {A : Type 0} {at : List ℕ → Read A} {spell : A → List ℕ} {Good : A → Type 0} → IsField at spell Good → (n : ℕ) (bytes : List ℕ) (p : List A × List ℕ) → IsBytes bytes
    → items_at at n bytes ≡ Ok p → Listed spell Good n bytes p
unfolding items_at
items_taken {spell = spell} {Good = Good} field zero bytes p fits e =
    subst (Listed spell Good 0 bytes) (ok_is ([], bytes) p e) (record { parts = refl; count = refl; good = tt })
items_taken {at = at} {spell = spell} {Good = Good} field (suc n) bytes p fits e =
    let first = step field bytes (λ x. items_at at n x.1 >>= λ others. Ok (x.0 ∷ others.0, others.1)) p fits e in
    let b = bind_ok (items_at at n first.rest) (λ others. Ok (first.value ∷ others.0, others.1)) p first.goes_on in
    let others = items_taken field n first.rest b.0 first.fits b.1 in
    subst (Listed spell Good (suc n) bytes) (ok_is (first.value ∷ b.0.0, b.0.1) p b.2) (listed_first spell Good n bytes first.rest first.value b.0 first.parts first.good others)

items_again : {A : Type 0} {at : List ℕ → Read A} {spell : A → List ℕ} {Good : A → Type 0} → IsField at spell Good → (xs : List A) (rest : List ℕ) → AllByRecursion Good xs
    → items_at at (length xs) (flat_map spell xs ++ rest) ≡ Ok (xs, rest)
unfolding items_at
items_again field [] rest good = refl
items_again {at = at} {spell = spell} field (x ∷ xs) rest good =
    let behind = flat_map spell xs ++ rest in
    let regrouped : flat_map spell (x ∷ xs) ++ rest ≡ spell x ++ behind = ap (λ l. l ++ rest) (flat_map-cons spell x xs) ∙ append_assoc (spell x) (flat_map spell xs) rest in
    ap (items_at at (suc (length xs))) regrouped
    ∙ again_then field x behind (λ y. items_at at (length xs) y.1 >>= λ others. Ok (y.0 ∷ others.0, others.1)) good.0
    ∙ ap (λ r. r >>= λ others. Ok (x ∷ others.0, others.1)) (items_again field xs rest good.1)

counted_taken : {A : Type 0} {at : List ℕ → Read A} {spell : A → List ℕ} {Good : A → Type 0} → IsField at spell Good → (limit : ℕ) → limit < 256 ^ 2 → (bytes : List ℕ) (xs : List A) (rest : List ℕ) → IsBytes bytes
    → counted_at at limit bytes ≡ Ok (xs, rest) → (bytes ≡ counted spell xs ++ rest) × (length xs ≤ limit) × All Good xs
unfolding counted_at
counted_taken {at = at} {spell = spell} {Good = Good} field limit small bytes xs rest fits e =
    let count = step (limited_field 2 limit width2 small) bytes (λ n. items_at at n.0 n.1) (xs, rest) fits e in
    let t = items_taken field count.value count.rest (xs, rest) count.fits count.goes_on in
    let first : bytes ≡ number 2 (length xs) ++ count.rest = rw t.count count.parts in
    (join bytes (number 2 (length xs)) count.rest (flat_map spell xs) rest first t.parts, rw t.count count.good, All-from_recursion Good xs t.good)

counted_again : {A : Type 0} {at : List ℕ → Read A} {spell : A → List ℕ} {Good : A → Type 0} → IsField at spell Good → (limit : ℕ) → limit < 256 ^ 2 → (xs : List A) (rest : List ℕ)
    → (length xs ≤ limit) × All Good xs → counted_at at limit (counted spell xs ++ rest) ≡ Ok (xs, rest)
unfolding counted_at
counted_again {at = at} {spell = spell} {Good = Good} field limit small xs rest good =
    ap (counted_at at limit) (append_assoc (number 2 (length xs)) (flat_map spell xs) rest)
    ∙ again_then (limited_field 2 limit width2 small) (length xs) (flat_map spell xs ++ rest) (λ n. items_at at n.0 n.1) good.0
    ∙ items_again field xs rest (recursion_from_All Good xs good.1)

-- two bytes of count, and so many items
pub counted_field : {A : Type 0} {at : List ℕ → Read A} {spell : A → List ℕ} {Good : A → Type 0} → IsField at spell Good → (limit : ℕ) → limit < 256 ^ 2
    → IsField (counted_at at limit) (counted spell) (λ xs. (length xs ≤ limit) × All Good xs)
counted_field field limit small = record { taken = λ bytes xs rest fits e. let t = counted_taken field limit small bytes xs rest fits e in (t.0, (t.1, t.2)); again = counted_again field limit small }

-- ---- a node and its weight

weighed_taken : (bytes : List ℕ) (x : List ℕ × ℕ) (rest : List ℕ) → IsBytes bytes → weighed_at bytes ≡ Ok (x, rest) → (bytes ≡ weighed x ++ rest) × IsWeighed x
unfolding weighed_at
weighed_taken bytes x rest fits e =
    let node = step (bytes_field 20) bytes (λ n. number_at 8 n.1 >>= λ w. Ok ((n.0, w.0), w.1)) (x, rest) fits e in
    let weight = step (number_field 8 width8) node.rest (λ w. Ok ((node.value, w.0), w.1)) (x, rest) node.fits node.goes_on in
    let parts : bytes ≡ weighed (node.value, weight.value) ++ weight.rest = join bytes node.value node.rest (number 8 weight.value) weight.rest node.parts weight.parts in
    let made : (List ℕ × ℕ) × List ℕ = ((node.value, weight.value), weight.rest) in
    subst (λ (p : (List ℕ × ℕ) × List ℕ). (bytes ≡ weighed p.0 ++ p.1) × IsWeighed p.0) (ok_is made (x, rest) weight.goes_on) (parts, (node.good, weight.good))

weighed_again : (x : List ℕ × ℕ) (rest : List ℕ) → IsWeighed x → weighed_at (weighed x ++ rest) ≡ Ok (x, rest)
unfolding weighed_at
weighed_again x rest good =
    ap weighed_at (append_assoc x.0 (number 8 x.1) rest)
    ∙ again_then (bytes_field 20) x.0 (number 8 x.1 ++ rest) (λ n. number_at 8 n.1 >>= λ w. Ok ((n.0, w.0), w.1)) good.0
    ∙ again_then (number_field 8 width8) x.1 rest (λ w. Ok ((x.0, w.0), w.1)) good.1

-- a node and its weight
pub weighed_field : IsField weighed_at weighed IsWeighed
weighed_field = record { taken = weighed_taken; again = weighed_again }
