-- Items of one width whose bytes are taken at once are those that are read one at a time.
use Rattle.std.proofs.Common.{◌≡◌, ℕ, zero, suc, ◌+◌, ◌*◌, ◌/◌, ◌<◌, ◌≤◌, Bool, true, false, cond, nat_lt, List, [], ◌∷◌, ◌++◌, length, take, drop, get_or, map, Result, Ok, Err, Bor, refl, sym, subst, ap, ◌∙◌, arith}
use Rattle.std.specs.Simd.{first_chunks}
use Rattle.std.proofs.Math.Nat.{mul_comm, mul-div_cancel_left}
use Rattle.std.proofs.lemmas.Bool.Decides.{nat_tests}
use Rattle.std.proofs.lemmas.List.{map_more, take-append-le, drop-append-le, take-append-drop, take-take, drop-take, drop-drop, length-append, length-drop}
use Rattle.byteorder.specs.Endian.{big_number}
use Rattle.byteorder.specs.Numbers.{big_from-take}
use Rattle.snow_wire.specs.declared.skip.Fault.{Fault}
use Rattle.snow_wire.specs.declared.skip.Fault.TheVariants.{Short}
use Rattle.snow_wire.specs.Model.Reading.{Read, ReadsAs, ◌>>=◌, bytes_at, number_at, weighed_at, limited_at, items_at, counted_at}
use Rattle.snow_wire.specs.Clauses.Spelled.{weighed_in}
use Rattle.snow_wire.proofs.Fields.{unless}

bytes_ok : (n : ℕ) (bytes : List ℕ) → n ≤ length bytes → bytes_at n bytes ≡ Ok (take n bytes, drop n bytes)
unfolding bytes_at
bytes_ok n bytes long = let fine : nat_lt (length bytes) n ≡ false = grind (arith, nat_tests) in rw fine refl

bytes_err : (n : ℕ) (bytes : List ℕ) → length bytes < n → bytes_at n bytes ≡ Err Short
unfolding bytes_at
bytes_err n bytes less = let short : nat_lt (length bytes) n ≡ true = grind (arith, nat_tests) in rw short refl

first_chunk : (width : ℕ) (front rest : List ℕ) → width ≤ length front → bytes_at width (front ++ rest) ≡ Ok (take width front, drop width front ++ rest)
first_chunk width front rest long =
    rw (bytes_ok width (front ++ rest) (omega (arith, length-append front rest)), take-append-le width front rest long, drop-append-le width front rest long) refl

all_chunks : (width count : ℕ) (front rest : List ℕ) → length front ≡ count * width → items_at (bytes_at width) count (front ++ rest) ≡ Ok (first_chunks width count front, rest)
unfolding items_at
all_chunks width zero [] rest len = refl
all_chunks width zero (b ∷ front) rest len = absurd (omega arith)
all_chunks width (suc count) front rest len =
    let long : width ≤ length front = omega arith in
    let others : length (drop width front) ≡ count * width = omega (arith, length-drop width front) in
    rw (first_chunk width front rest long, all_chunks width count (drop width front) rest others) refl

parted : (n : ℕ) (bytes front rest : List ℕ) → bytes_at n bytes ≡ Ok (front, rest) → bytes ≡ front ++ rest
unfolding bytes_at
parted n bytes front rest e =
    let g = unless (nat_lt (length bytes) n) Short (take n bytes, drop n bytes) (front, rest) e in
    subst (λ (p : List ℕ × List ℕ). bytes ≡ p.0 ++ p.1) g.1 (sym (take-append-drop n bytes))

-- the bytes of so many items were taken
pub list_taken : (width limit count size : ℕ) (bytes after front rest : List ℕ) → 0 < width → size ≡ count → limited_at 2 limit bytes ≡ Ok (count, after) → bytes_at (width * size) after ≡ Ok (front, rest)
    → length front ≡ width * size → counted_at (bytes_at width) limit bytes ≡ Ok (first_chunks width (length front / width) front, rest)
unfolding counted_at
list_taken width limit count size bytes after front rest some same counts e long =
    let len : length front ≡ width * count = long ∙ ap (λ (n : ℕ). width * n) same in
    let many : length front / width ≡ count = ap (λ (n : ℕ). n / width) len ∙ mul-div_cancel_left count some in
    rw (counts, many, parted (width * size) after front rest e) (all_chunks width count front rest (len ∙ mul_comm width count))

-- ---- too few

too_few_behind : (width : ℕ) (test : Bool) (count : ℕ) (bytes : List ℕ) → nat_lt (length bytes) width ≡ test → length bytes < suc count * width
    → (length (drop width bytes) < count * width → items_at (bytes_at width) count (drop width bytes) ≡ Err Short) → items_at (bytes_at width) (suc count) bytes ≡ Err Short
unfolding items_at bytes_at
too_few_behind width true count bytes test less behind = rw test refl
too_few_behind width false count bytes test less behind =
    let long : width ≤ length bytes = grind (arith, nat_tests) in
    let others : length (drop width bytes) < count * width = omega (arith, length-drop width bytes) in
    rw (test, behind others) refl

too_few : (width count : ℕ) (bytes : List ℕ) → length bytes < count * width → items_at (bytes_at width) count bytes ≡ Err Short
too_few width zero bytes less = absurd (omega arith)
too_few width (suc count) bytes less = too_few_behind width (nat_lt (length bytes) width) count bytes refl less (too_few width count (drop width bytes))

failed : {A : Type 0} (b : Bool) (d f : Fault) (x : A) → cond b (Err d) (Ok x) ≡ Err f → (b ≡ true) × (d ≡ f)
failed true d f x e = (refl, cc)
failed false d f x e = absurd cc

-- their bytes were refused
pub list_refused : (width limit count size : ℕ) (bytes after : List ℕ) (f : Fault) → size ≡ count → limited_at 2 limit bytes ≡ Ok (count, after) → bytes_at (width * size) after ≡ Err f
    → counted_at (bytes_at width) limit bytes ≡ Err f
unfolding bytes_at counted_at
list_refused width limit count size bytes after f same counts e =
    let g = failed (nat_lt (length after) (width * size)) Short f (take (width * size) after, drop (width * size) after) e in
    let wanted : width * size ≡ count * width = ap (λ (n : ℕ). width * n) same ∙ mul_comm width count in
    let less : length after < count * width = grind (arith, nat_tests, g.0, wanted) in
    rw counts (subst (λ (d : Fault). items_at (bytes_at width) count after ≡ Err d) g.1 (too_few width count after less))

-- ---- items that are made of their bytes

-- what is made of each item's bytes
abbrev made_of : {A B : Type 0} → (A → B) → Read A → Read B
made_of made read = read >>= λ x. Ok (made x.0, x.1)

-- an item of so many bytes, which is made of them
abbrev IsWide : {A : Type 0} → ℕ → (List ℕ → Read A) → (List ℕ → A) → Type 0
IsWide width item made = (bytes : List ℕ) → item bytes ≡ made_of made (bytes_at width bytes)

one_more : {A : Type 0} (made : List ℕ → A) (x : List ℕ) (read : Read (List (List ℕ)))
    → (made_of (map made) read >>= λ others. Ok (made x ∷ others.0, others.1)) ≡ made_of (map made) (read >>= λ others. Ok (x ∷ others.0, others.1))
one_more made x (Ok others) = refl
one_more made x (Err f) = refl

items_first : {A : Type 0} (item : List ℕ → Read A) (made : List ℕ → A) (width n : ℕ) (read : Read (List ℕ)) → ((bytes : List ℕ) → items_at item n bytes ≡ made_of (map made) (items_at (bytes_at width) n bytes))
    → (made_of made read >>= λ first. items_at item n first.1 >>= λ others. Ok (first.0 ∷ others.0, others.1))
    ≡ made_of (map made) (read >>= λ first. items_at (bytes_at width) n first.1 >>= λ others. Ok (first.0 ∷ others.0, others.1))
items_first item made width n (Ok x) others = rw (others x.1) (one_more made x.0 (items_at (bytes_at width) n x.1))
items_first item made width n (Err f) others = refl

items_made : {A : Type 0} (width : ℕ) (item : List ℕ → Read A) (made : List ℕ → A) → IsWide width item made → (count : ℕ) (bytes : List ℕ)
    → items_at item count bytes ≡ made_of (map made) (items_at (bytes_at width) count bytes)
unfolding items_at
items_made width item made wide zero bytes = refl
items_made width item made wide (suc n) bytes =
    rw (wide bytes) (items_first item made width n (bytes_at width bytes) (λ b. items_made width item made wide n b))

counted_made : {A : Type 0} (width : ℕ) (item : List ℕ → Read A) (made : List ℕ → A) → IsWide width item made → (count : Read ℕ)
    → (count >>= λ n. items_at item n.0 n.1) ≡ made_of (map made) (count >>= λ n. items_at (bytes_at width) n.0 n.1)
counted_made width item made wide (Ok n) = items_made width item made wide n.0 n.1
counted_made width item made wide (Err f) = refl

as_made : {A : Type 0} (made : List ℕ → A) (r : Result (Bor (List (List ℕ))) Fault) (left : List ℕ) (read : Read (List (List ℕ))) (all : Read (List A)) → all ≡ made_of (map made) read
    → ReadsAs (λ list. list.now) r left read → ReadsAs (λ list. map made list.now) r left all
as_made made (Ok list) left read all same e = same ∙ ap (made_of (map made)) e
as_made made (Err f) left read all same e = same ∙ ap (made_of (map made)) e

-- a list whose items are made of their bytes
list_made : {A : Type 0} (width : ℕ) (item : List ℕ → Read A) (made : List ℕ → A) → IsWide width item made → (r : Result (Bor (List (List ℕ))) Fault) (left : List ℕ) (limit : ℕ) (bytes : List ℕ)
    → ReadsAs (λ list. list.now) r left (counted_at (bytes_at width) limit bytes) → ReadsAs (λ list. map made list.now) r left (counted_at item limit bytes)
unfolding counted_at
list_made width item made wide r left limit bytes e = as_made made r left _ _ (counted_made width item made wide (limited_at 2 limit bytes)) e

word_when : (test : Bool) (bytes : List ℕ) → cond test (Err Short) (Ok (big_number 8 bytes, drop 8 bytes)) ≡ made_of (big_number 8) (cond test (Err Short) (Ok (take 8 bytes, drop 8 bytes)))
word_when true bytes = refl
word_when false bytes = rw (big_from-take 0 8 8 bytes (omega arith)) refl

word_wide : IsWide 8 (number_at 8) (big_number 8)
unfolding number_at bytes_at
word_wide bytes = word_when (nat_lt (length bytes) 8) bytes

-- a list of numbers
pub words_made : (r : Result (Bor (List (List ℕ))) Fault) (left : List ℕ) (limit : ℕ) (bytes : List ℕ)
    → ReadsAs (λ list. list.now) r left (counted_at (bytes_at 8) limit bytes) → ReadsAs (λ words. map (big_number 8) words.now) r left (counted_at (number_at 8) limit bytes)
words_made r left limit bytes e = list_made 8 (number_at 8) (big_number 8) word_wide r left limit bytes e

word_ok : (bytes : List ℕ) → 8 ≤ length bytes → number_at 8 bytes ≡ Ok (big_number 8 bytes, drop 8 bytes)
unfolding number_at
word_ok bytes long = let fine : nat_lt (length bytes) 8 ≡ false = grind (arith, nat_tests) in rw fine refl

word_err : (bytes : List ℕ) → length bytes < 8 → number_at 8 bytes ≡ Err Short
unfolding number_at
word_err bytes less = let short : nat_lt (length bytes) 8 ≡ true = grind (arith, nat_tests) in rw short refl

-- the weight behind a node
abbrev weight_behind : List ℕ × List ℕ → Read (List ℕ × ℕ)
weight_behind node = number_at 8 node.1 >>= λ weight. Ok ((node.0, weight.0), weight.1)

weighed_whole : (bytes : List ℕ) → 28 ≤ length bytes → weighed_at bytes ≡ made_of weighed_in (bytes_at 28 bytes)
unfolding weighed_at
weighed_whole bytes long =
    let node = bytes_ok 20 bytes (omega arith) in
    let weight = word_ok (drop 20 bytes) (omega (arith, length-drop 20 bytes)) in
    ap (λ (r : Read (List ℕ)). r >>= weight_behind) node ∙ rw (weight, bytes_ok 28 bytes long, take-take 20 28 bytes (omega arith), drop-take 20 8 bytes, big_from-take 0 8 8 (drop 20 bytes) (omega arith), drop-drop 8 20 bytes) refl

weighed_short : (bytes : List ℕ) → length bytes < 28 → (test : Bool) → nat_lt (length bytes) 20 ≡ test → weighed_at bytes ≡ Err Short
unfolding weighed_at
weighed_short bytes less true test =
    let short : length bytes < 20 = grind (arith, nat_tests) in
    ap (λ (r : Read (List ℕ)). r >>= weight_behind) (bytes_err 20 bytes short)
weighed_short bytes less false test =
    let long : 20 ≤ length bytes = grind (arith, nat_tests) in
    ap (λ (r : Read (List ℕ)). r >>= weight_behind) (bytes_ok 20 bytes long) ∙ rw (word_err (drop 20 bytes) (omega (arith, length-drop 20 bytes))) refl

weighed_when : (bytes : List ℕ) (test : Bool) → nat_lt (length bytes) 28 ≡ test → weighed_at bytes ≡ made_of weighed_in (bytes_at 28 bytes)
weighed_when bytes true test =
    let less : length bytes < 28 = grind (arith, nat_tests) in
    weighed_short bytes less (nat_lt (length bytes) 20) refl ∙ sym (ap (made_of weighed_in) (bytes_err 28 bytes less))
weighed_when bytes false test = weighed_whole bytes (grind (arith, nat_tests))

weighed_wide : IsWide 28 weighed_at weighed_in
weighed_wide bytes = weighed_when bytes (nat_lt (length bytes) 28) refl

-- a list of nodes
pub nodes_made : (r : Result (Bor (List (List ℕ))) Fault) (left : List ℕ) (limit : ℕ) (bytes : List ℕ)
    → ReadsAs (λ list. list.now) r left (counted_at (bytes_at 28) limit bytes) → ReadsAs (λ nodes. map weighed_in nodes.now) r left (counted_at weighed_at limit bytes)
nodes_made r left limit bytes e = list_made 28 weighed_at weighed_in weighed_wide r left limit bytes e

-- one item more is made
pub one_made : {A : Type 0} (made : List ℕ → A) (chunks : List (List ℕ)) (i : ℕ) (d : List ℕ) → i < length chunks
    → map made (take (i + 1) chunks) ≡ map made (take i chunks) ++ made (get_or chunks i d) ∷ []
one_made made chunks i d lt = map_more made chunks i d lt
