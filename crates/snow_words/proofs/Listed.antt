-- Items of lists that words say, appended to others.
use Rattle.std.proofs.Common.{◌≡◌, ℕ, zero, suc, ◌+◌, ◌^◌, ◌<◌, List, [], ◌∷◌, ◌++◌, length, replicate, flat_map, Result, Ok, Err, refl, sym, ap, ◌∙◌, append_assoc, append-nil, add-one, arith}
use Rattle.snow_wire.specs.Model.Spelling.{number}
use Rattle.snow_text_model.specs.declared.refusal.Reason.{Reason}
use Rattle.snow_text_model.specs.declared.refusal.Reason.TheVariants as reason
use Rattle.snow_text_model.specs.Model.Words.{Word, ◌>>=◌, parts}
use Rattle.snow_text_model.specs.Model.Names.{Names}
use Rattle.snow_text_model.specs.Model.Bytes.{item_word, number_below, number_word}
use Rattle.snow_text_model.specs.Model.Events.{item, pair, times_of, times_word, transfer_word, weighed_word}
use Rattle.snow_words.specs.Clauses.Making.{onto, tallied}
use Rattle.snow_words.specs.Clauses.Listing.{both_told, numbers_told, transfer_bytes, transfer_last, transfer_numbers, transfer_to, weighed_bytes}
use Rattle.snow_words.proofs.Saying.{some_parts}

-- ---- bytes behind others

pub joined_more : (old mid : List ℕ) (a b : Result (List ℕ) Reason) → onto old a ≡ Ok mid → onto old (both_told a b) ≡ onto mid b
joined_more old mid (Ok x) (Ok y) h = let same : old ++ x ≡ mid = cc in ap Ok (sym (append_assoc old x y) ∙ ap (λ l. l ++ y) same)
joined_more old mid (Ok x) (Err e) h = refl
joined_more old mid (Err e) b h = cc h

pub joined_not : (old : List ℕ) (a b : Result (List ℕ) Reason) (why : Reason) → onto old a ≡ Err why → onto old (both_told a b) ≡ Err why
joined_not old (Ok x) b why h = cc h
joined_not old (Err e) b why h = h

-- what bytes one behind the other want
pub ruleset joining = (joined_more, joined_not)

-- ---- one item

pub tallied_one : (old new : List ℕ) (n : ℕ) (told : Result (List ℕ) Reason) → onto old told ≡ Ok new → tallied old n (item told) ≡ Ok (new, n + 1)
tallied_one old new n (Ok x) h = let same : old ++ x ≡ new = cc in ap (λ l. Ok (l, n + 1)) (ap (λ l. old ++ l) (append-nil x) ∙ same)
tallied_one old new n (Err e) h = cc h

pub tallied_not : (old : List ℕ) (n : ℕ) (told : Result (List ℕ) Reason) (why : Reason) → onto old told ≡ Err why → tallied old n (item told) ≡ Err why
tallied_not old n (Ok x) why h = cc h
tallied_not old n (Err e) why h = let same : e ≡ why = cc in ap Err same

weigh : (a b : Result (List ℕ) Reason) → (a >>= (λ node. b >>= (λ weight. Ok ((node ++ weight) ∷ [])))) ≡ item (both_told a b)
weigh (Ok x) (Ok y) = refl
weigh (Ok x) (Err e) = refl
weigh (Err e) b = refl

weighed_pair : (names : Names) (both : Result (Word × Word) Reason)
    → (both >>= (λ p. item_word names 20 p.0 >>= (λ node. number_word 8 p.1 >>= (λ weight. Ok ((node ++ weight) ∷ [])))))
    ≡ item (both >>= (λ p. both_told (item_word names 20 p.0) (number_word 8 p.1)))
weighed_pair names (Ok p) = weigh (item_word names 20 p.0) (number_word 8 p.1)
weighed_pair names (Err e) = refl

pub weighed_is : (names : Names) (word : Word) → weighed_word names word ≡ item (weighed_bytes names word)
unfolding weighed_word weighed_bytes
weighed_is names word = weighed_pair names (pair reason.Node (parts 58 word))

four : (a b c d : Result (List ℕ) Reason)
    → (a >>= (λ x. b >>= (λ y. c >>= (λ z. d >>= (λ w. Ok ((x ++ y ++ z ++ w) ∷ [])))))) ≡ item (both_told a (both_told b (both_told c d)))
four (Ok x) (Ok y) (Ok z) (Ok w) = ap (λ l. Ok (l ∷ [])) (append_assoc (x ++ y) z w ∙ append_assoc x y (z ++ w))
four (Ok x) (Ok y) (Ok z) (Err e) = refl
four (Ok x) (Ok y) (Err e) d = refl
four (Ok x) (Err e) c d = refl
four (Err e) b c d = refl

last_is : (a b : Word) (both : Result (Word × Word) Reason)
    → (both >>= (λ p. number_word 2 a >>= (λ x. number_word 2 b >>= (λ y. number_word 8 p.0 >>= (λ z. number_word 8 p.1 >>= (λ w. Ok ((x ++ y ++ z ++ w) ∷ [])))))))
    ≡ item (both >>= (λ p. transfer_numbers a b p.0 p.1))
last_is a b (Ok p) = four (number_word 2 a) (number_word 2 b) (number_word 8 p.0) (number_word 8 p.1)
last_is a b (Err e) = refl

to_is : (a : Word) (both : Result (Word × Word) Reason)
    → (both >>= (λ q. pair reason.Transfer (parts 64 q.1) >>= (λ p. number_word 2 a >>= (λ x. number_word 2 q.0 >>= (λ y. number_word 8 p.0 >>= (λ z. number_word 8 p.1 >>= (λ w. Ok ((x ++ y ++ z ++ w) ∷ []))))))))
    ≡ item (both >>= (λ q. transfer_last a q.0 q.1))
to_is a (Ok q) = last_is a q.0 (pair reason.Transfer (parts 64 q.1))
to_is a (Err e) = refl

from_is : (both : Result (Word × Word) Reason)
    → (both >>= (λ r. pair reason.Transfer (parts 58 r.1) >>= (λ q. pair reason.Transfer (parts 64 q.1) >>= (λ p. number_word 2 r.0 >>= (λ x. number_word 2 q.0 >>= (λ y. number_word 8 p.0 >>= (λ z. number_word 8 p.1 >>= (λ w. Ok ((x ++ y ++ z ++ w) ∷ [])))))))))
    ≡ item (both >>= (λ r. transfer_to r.0 r.1))
from_is (Ok r) = to_is r.0 (pair reason.Transfer (parts 58 r.1))
from_is (Err e) = refl

pub transfer_is : (word : Word) → transfer_word word ≡ item (transfer_bytes word)
unfolding transfer_word transfer_bytes
transfer_is word = from_is (pair reason.Transfer (parts 62 word))

-- a node or a transfer
pub weighed_one : (names : Names) (word : Word) (old new : List ℕ) (n : ℕ) → onto old (weighed_bytes names word) ≡ Ok new → tallied old n (weighed_word names word) ≡ Ok (new, n + 1)
weighed_one names word old new n h = ap (tallied old n) (weighed_is names word) ∙ tallied_one old new n (weighed_bytes names word) h

pub weighed_not : (names : Names) (word : Word) (old : List ℕ) (n : ℕ) (why : Reason) → onto old (weighed_bytes names word) ≡ Err why → tallied old n (weighed_word names word) ≡ Err why
weighed_not names word old n why h = ap (tallied old n) (weighed_is names word) ∙ tallied_not old n (weighed_bytes names word) why h

pub transfer_one : (word : Word) (old new : List ℕ) (n : ℕ) → onto old (transfer_bytes word) ≡ Ok new → tallied old n (transfer_word word) ≡ Ok (new, n + 1)
transfer_one word old new n h = ap (tallied old n) (transfer_is word) ∙ tallied_one old new n (transfer_bytes word) h

pub transfer_not : (word : Word) (old : List ℕ) (n : ℕ) (why : Reason) → onto old (transfer_bytes word) ≡ Err why → tallied old n (transfer_word word) ≡ Err why
transfer_not word old n why h = ap (tallied old n) (transfer_is word) ∙ tallied_not old n (transfer_bytes word) why h

-- what one item more wants
pub ruleset tallying = (tallied_one, tallied_not, weighed_one, weighed_not, transfer_one, transfer_not)

-- ---- numbers again and again

pub times_one : (word : Word) → parts 42 word ≡ word ∷ [] → times_word word ≡ item (number_word 8 word)
unfolding times_of
times_one word h = rw h refl

pub times_two : (n times : Word) → parts 42 times ≡ times ∷ [] → times_of (n ∷ parts 42 times) ≡ numbers_told (number_below (2 ^ 64) n) (number_below 4194305 times)
unfolding times_of number_word
times_two n times h = rw h refl

more_times : (a b : Word) (ps : List Word) → 0 < length ps → times_of (a ∷ b ∷ ps) ≡ Err reason.Number
unfolding times_of
more_times a b [] h = absurd (omega (arith, h))
more_times a b (p ∷ ps) h = refl

pub times_many : (n times front rest : List ℕ) → parts 42 times ≡ front ∷ parts 42 rest → times_of (n ∷ parts 42 times) ≡ Err reason.Number
times_many n times front rest h = rw h (more_times n front (parts 42 rest) (some_parts 42 rest))

length_same : (k : ℕ) (bytes : List ℕ) → length {A = List ℕ} (replicate k bytes) ≡ k
length_same zero bytes = refl
length_same (suc k) bytes = ap suc (length_same k bytes)

pub numbers_more : (old new : List ℕ) (count k n : ℕ) (told times : Result ℕ Reason) → told ≡ Ok n → times ≡ Ok k → new ≡ old ++ flat_map (λ x. x) (replicate k (number 8 n))
    → tallied old count (numbers_told told times) ≡ Ok (new, count + k)
numbers_more old new count k n told times h g e = rw (h, g, e) (ap (λ m. Ok (old ++ flat_map (λ x. x) (replicate k (number 8 n)), count + m)) (length_same k (number 8 n)))

pub numbers_none : (old : List ℕ) (count : ℕ) (told times : Result ℕ Reason) (why : Reason) → told ≡ Err why → tallied old count (numbers_told told times) ≡ Err why
numbers_none old count told times why h = rw h refl

pub numbers_uncounted : (old : List ℕ) (count n : ℕ) (told times : Result ℕ Reason) (why : Reason) → told ≡ Ok n → times ≡ Err why → tallied old count (numbers_told told times) ≡ Err why
numbers_uncounted old count n told times why h g = rw (h, g) refl

same_next : (k : ℕ) (bytes : List ℕ) → flat_map (λ x. x) (replicate (suc k) bytes) ≡ flat_map (λ x. x) (replicate k bytes) ++ bytes
same_next zero bytes = append-nil bytes
same_next (suc k) bytes = ap (λ l. bytes ++ l) (same_next k bytes) ∙ sym (append_assoc bytes (flat_map (λ x. x) (replicate k bytes)) bytes)

-- the same bytes once more
pub again_next : (k : ℕ) (bytes : List ℕ) → flat_map (λ x. x) (replicate (k + 1) bytes) ≡ flat_map (λ x. x) (replicate k bytes) ++ bytes
again_next k bytes = ap (λ m. flat_map (λ x. x) (replicate m bytes)) (add-one k) ∙ same_next k bytes

-- ---- two parts

pub halves_one : (why : Reason) (c : ℕ) (word : Word) → parts c word ≡ word ∷ [] → pair why (parts c word) ≡ Err why
halves_one why c word h = rw h refl

pub halves_more : (why : Reason) (c : ℕ) (word front rest : Word) → parts c word ≡ front ∷ parts c rest → pair why (parts c word) ≡ pair why (front ∷ parts c rest)
halves_more why c word front rest h = ap (pair why) h

pub halves_two : (why : Reason) (c : ℕ) (front rest : Word) → parts c rest ≡ rest ∷ [] → pair why (front ∷ parts c rest) ≡ Ok (front, rest)
halves_two why c front rest g = rw g refl

pair_many : (why : Reason) (a b : Word) (ps : List Word) → 0 < length ps → pair why (a ∷ b ∷ ps) ≡ Err why
pair_many why a b [] h = absurd (omega (arith, h))
pair_many why a b (p ∷ ps) h = refl

pub halves_many : (why : Reason) (c : ℕ) (front rest next more : Word) → parts c rest ≡ next ∷ parts c more → pair why (front ∷ parts c rest) ≡ Err why
halves_many why c front rest next more g = rw g (pair_many why front next (parts c more) (some_parts c more))
