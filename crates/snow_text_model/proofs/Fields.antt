-- Fields read the words that say them.
use Rattle.std.proofs.Common.{◌≡◌, ℕ, zero, suc, ◌<◌, ◌≤◌, ◌^◌, ◌==◌, if◌then◌else◌, Bool, true, false, List, [], ◌∷◌, ◌++◌, length, map, replicate, decimal, Result, Ok, Err, refl, sym, ap, ◌∙◌, append_assoc, append-nil, arith}
use Rattle.std.specs.List.{AllByRecursion, flat_map}
use Rattle.std.specs.Str.{bytes_eq}
use Rattle.std.proofs.lemmas.Bool.{lt-ltb, eqb-true}
use Rattle.std.proofs.lemmas.List.{length-map}
use Rattle.snow_wire.specs.Model.Reading.{IsBytes}
use Rattle.snow_wire.specs.Model.Spelling.{counted, number, sender}
use Rattle.snow_text_model.specs.declared.refusal.Reason.{Reason}
use Rattle.snow_text_model.specs.Model.Words.{Word, Field, Halt, ◌>>=◌, ◌&◌, all, all_of, at, each, ended, one}
use Rattle.snow_text_model.specs.Model.Bytes.{fixed_text, item_word, number_word, runs_of}
use Rattle.snow_text_model.specs.Model.Events.{if_some, list_field, list_word, listed, named, node_field, nodes_field, number_field, sent, tagged, times_of, times_word, value_word, weighed_word}
use Rattle.snow_text_model.specs.Model.Shown.{field, listed_text, some_field, some_word, times_text, times_texts, weighed_text}
use Rattle.snow_text_model.proofs.Marks.{AllLack, Lacks, colon, decimal_lacks, lacks_joined, parts_joined, parts_more, parts_one, star}
use Rattle.snow_text_model.proofs.Runs.{AreBelow, AreRuns, IsRun, runs_are, runs_spread, spread}
use Rattle.snow_text_model.proofs.Pieces.{number_again, same_bytes}
use Rattle.snow_text_model.proofs.Values.{item_says, number_says}

-- ---- fields in a row

-- a field reads these words, whatever stands behind them
pub record Fits (a : Field) (words : List Word) (bytes : List ℕ) : Type 0 where
  pub again : (more : List Word) → a (words ++ more) ≡ Ok (bytes, more)

-- a field reads these words to the end
pub record Fills (a : Field) (words : List Word) (bytes : List ℕ) : Type 0 where
  pub again : a words ≡ Ok (bytes, [])

pub one_fits : (of : Word → Result (List ℕ) Reason) (word : Word) (bytes : List ℕ) → of word ≡ Ok bytes → Fits (one of) (word ∷ []) bytes
unfolding one
one_fits of word bytes e = record { again = λ more. rw e refl }

pub both_fit : (a b : Field) (ws vs : List Word) (xs ys : List ℕ) → Fits a ws xs → Fits b vs ys → Fits (a & b) (ws ++ vs) (xs ++ ys)
unfolding ◌&◌
both_fit a b ws vs xs ys fa fb = record { again = λ more. rw (append_assoc ws vs more, fa.again (vs ++ more), fb.again more) refl }

pub then_fills : (a b : Field) (ws vs : List Word) (xs ys : List ℕ) → Fits a ws xs → Fills b vs ys → Fills (a & b) (ws ++ vs) (xs ++ ys)
unfolding ◌&◌
then_fills a b ws vs xs ys fa fb = record { again = rw (fa.again vs, fb.again) refl }

pub whole_fills : (a : Field) (ws : List Word) (xs : List ℕ) → Fits a ws xs → Fills a ws xs
whole_fills a ws xs fa = record { again = ap a (sym (append-nil ws)) ∙ fa.again [] }

-- all words are read to the end
pub all_fills : (of : List Word → Result (List ℕ) Halt) (ws : List Word) (xs : List ℕ) → of ws ≡ Ok xs → Fills (all of) ws xs
unfolding all
all_fills of ws xs e = record { again = rw e refl }

-- the fields behind a tag
pub tagged_says : (tag : ℕ) (a : Field) (ws : List Word) (xs : List ℕ) → Fills a ws xs → tagged tag a ws ≡ Ok (tag ∷ xs)
unfolding tagged ended
tagged_says tag a ws xs fills = rw fills.again refl

-- a node and a request, and fields behind
pub sent_fills : (a : Field) (node : List ℕ) (request : ℕ) (ws : List Word) (xs : List ℕ) → length node ≡ 20 → request < 2 ^ 32 → IsBytes node → Fills a ws xs
    → Fills (sent [] a) (fixed_text node ∷ decimal request ∷ ws) (sender node request ++ xs)
sent_fills a node request ws xs long small fits fills =
    let first = one_fits (item_word [] 20) (fixed_text node) node (item_says 20 node (omega arith) long fits).again in
    let second = one_fits (number_word 4) (decimal request) (number 4 request) (number_says 4 request (omega (arith, small)) (omega (arith, small))).again in
    let whole = then_fills (node_field []) (number_field 4 & a) (fixed_text node ∷ []) (decimal request ∷ ws) node (number 4 request ++ xs) first
    (then_fills (number_field 4) a (decimal request ∷ []) ws (number 4 request) xs second fills) in
    record { again = whole.again ∙ ap (λ (l : List ℕ). Ok (l, [])) (sym (append_assoc node (number 4 request) xs)) }

-- ---- lists

-- what each part says is what each word says
all_next : {A : Type 0} (of : Word → Result (List A) Reason) (words more : List Word) (r q : Result (List A) Reason) (ys : List A)
    → ((xs : List A) → q ≡ Ok xs → all_of of more ≡ Ok xs) → (r >>= λ x. q >>= λ xs. Ok (x ++ xs)) ≡ Ok ys
    → (at words r >>= λ x. all_of of more >>= λ xs. Ok (x ++ xs)) ≡ Ok ys
all_next of words more (Ok x) (Ok xs) ys h e = let same : x ++ xs ≡ ys = cc e in rw (h xs refl) (ap Ok same)
all_next of words more (Ok x) (Err why) ys h e = absurd cc
all_next of words more (Err why) q ys h e = absurd cc

pub all_each : {A : Type 0} (of : Word → Result (List A) Reason) (words : List Word) (ys : List A) → each of words ≡ Ok ys → all_of of words ≡ Ok ys
unfolding all_of each
all_each of [] ys e = let none : ys ≡ [] = cc e in ap Ok (sym none)
all_each of (word ∷ more) ys e = all_next of (word ∷ more) more (of word) (each of more) ys (all_each of more) e

-- each item has a word
pub each_again : {A : Type 0} {Good : A → Type 0} (of : Word → Result (List (List ℕ)) Reason) (text : A → Word) (spell : A → List ℕ)
    → ((x : A) → Good x → of (text x) ≡ Ok (spell x ∷ [])) → (xs : List A) → AllByRecursion Good xs → each of (map text xs) ≡ Ok (map spell xs)
unfolding each
each_again of text spell h [] good = refl
each_again of text spell h (x ∷ xs) good = rw (h x good.0, each_again of text spell h xs good.1) refl

flat_same : {A : Type 0} (spell : A → List ℕ) (xs : List A) → flat_map (λ (x : List ℕ). x) (map spell xs) ≡ flat_map spell xs
flat_same spell [] = refl
flat_same spell (x ∷ xs) = ap (λ (l : List ℕ). spell x ++ l) (flat_same spell xs)

-- the bytes of a list
pub listed_again : {A : Type 0} (spell : A → List ℕ) (xs : List A) → length xs < 65536 → listed (map spell xs) ≡ Ok (counted spell xs)
unfolding listed
listed_again spell xs few =
    let long : length (map spell xs) < 65536 = rw (length-map xs spell) few in
    rw (lt-ltb (length (map spell xs)) 65536 long)
    (ap (λ (n : ℕ). Ok (number 2 n ++ flat_map (λ (x : List ℕ). x) (map spell xs))) (length-map xs spell) ∙ ap (λ (l : List ℕ). Ok (number 2 (length xs) ++ l)) (flat_same spell xs))

-- a list of words
pub list_fills : {A : Type 0} (of : Word → Result (List (List ℕ)) Reason) (spell : A → List ℕ) (ws : List Word) (xs : List A) → length xs < 65536
    → each of ws ≡ Ok (map spell xs) → Fills (list_field of) ws (counted spell xs)
list_fills of spell ws xs few e =
    all_fills (λ words. all_of of words >>= λ items. at [] (listed items)) ws (counted spell xs) (rw (all_each of ws (map spell xs) e, listed_again spell xs few) refl)

-- a list in one word
pub list_again : {A : Type 0} (of : Word → Result (List (List ℕ)) Reason) (spell : A → List ℕ) (word : Word) (more : List Word) (xs : List A) → length xs < 65536 → AllLack 44 (word ∷ more)
    → each of (word ∷ more) ≡ Ok (map spell xs) → list_word of (listed_text (word ∷ more)) ≡ Ok (counted spell xs)
list_again of spell word more xs few lacks e = rw (parts_joined 44 word more lacks, e) (listed_again spell xs few)

-- ---- numbers again and again

map_again : (n x : ℕ) (xs : List ℕ) → map (number 8) (replicate n x ++ xs) ≡ replicate n (number 8 x) ++ map (number 8) xs
map_again zero x xs = refl
map_again (suc n) x xs = ap (λ (l : List (List ℕ)). number 8 x ∷ l) (map_again n x xs)

run_again_if : (t : Bool) (run : ℕ × ℕ) → (t ≡ true → run.1 ≡ 1) → IsRun (2 ^ 64) run
    → times_word (if t then decimal run.0 else decimal run.0 ++ 42 ∷ decimal run.1) ≡ Ok (replicate run.1 (number 8 run.0))
unfolding times_of
run_again_if true run h is =
    let small : run.0 < 2 ^ 64 = is.0 in
    rw (parts_one 42 (decimal run.0) (decimal_lacks 42 star run.0 small), (number_says 8 run.0 small small).again, h refl) refl
run_again_if false run h is =
    let small : run.0 < 2 ^ 64 = is.0 in
    let most : run.1 ≤ 4194304 = is.2 in
    let fits : run.1 < 2 ^ 64 = omega (arith, most) in
    rw (parts_more 42 (decimal run.0) (decimal run.1) (decimal_lacks 42 star run.0 small), parts_one 42 (decimal run.1) (decimal_lacks 42 star run.1 fits), (number_says 8 run.0 small small).again, number_again 4194305 run.1 (omega (arith, most)) fits) refl

runs_again : (runs : List (ℕ × ℕ)) → AreRuns (2 ^ 64) runs → each times_word (map times_text runs) ≡ Ok (map (number 8) (spread runs))
unfolding each
runs_again [] are = refl
runs_again (run ∷ runs) are =
    rw (run_again_if (run.1 == 1) run (eqb-true run.1 1) are.0, runs_again runs are.1) (ap Ok (sym (map_again run.1 run.0 (spread runs))))

-- numbers are read again
pub times_again : (ns : List ℕ) → AreBelow (2 ^ 64) ns → each times_word (times_texts ns) ≡ Ok (map (number 8) ns)
times_again ns below =
    runs_again (runs_of ns) (runs_are (2 ^ 64) ns below) ∙ ap (λ (xs : List ℕ). Ok (map (number 8) xs)) (runs_spread ns)

-- ---- fields with a name

-- the value of a field
value_again : (name value : Word) (of : Word → Result (List ℕ) Reason) (bytes : List ℕ) → Lacks 61 name → Lacks 61 value → of value ≡ Ok bytes → value_word name of (field name value) ≡ Ok bytes
unfolding value_word
value_again name value of bytes h k e = rw (parts_more 61 name value h, parts_one 61 value k, same_bytes name name refl) e

-- a field with a name
pub named_fits : (name value : Word) (of : Word → Result (List ℕ) Reason) (bytes : List ℕ) → Lacks 61 name → Lacks 61 value → of value ≡ Ok bytes → Fits (named name of) (field name value ∷ []) bytes
named_fits name value of bytes h k e = one_fits (value_word name of) (field name value) bytes (value_again name value of bytes h k e)

-- a list with a name
some_fits : {A : Type 0} (name : Word) (of : Word → Result (List (List ℕ)) Reason) (spell : A → List ℕ) (word : Word) (more : List Word) (xs : List A) → length xs < 65536 → Lacks 61 name
    → AllLack 44 (word ∷ more) → AllLack 61 (word ∷ more) → each of (word ∷ more) ≡ Ok (map spell xs) → Fits (if_some name of) (field name (listed_text (word ∷ more)) ∷ []) (counted spell xs)
unfolding if_some
some_fits name of spell word more xs few h commas marks e =
    let value = listed_text (word ∷ more) in
    let lacks = lacks_joined 61 44 refl (word ∷ more) marks in
    let fits = named_fits name value (list_word of) (counted spell xs) h lacks (list_again of spell word more xs few commas e) in
    record { again = λ others. rw (parts_more 61 name value h, same_bytes name name refl) (fits.again others) }

-- no items have no words
pub no_items : {A : Type 0} (spell : A → List ℕ) (xs : List A) → map spell xs ≡ [] → number 2 0 ≡ counted spell xs
no_items spell [] e = sym (append-nil (number 2 0))
no_items spell (x ∷ xs) e = absurd cc

-- a list with a name at the end, which stands where it isn't empty
pub some_fills : {A : Type 0} (name : Word) (of : Word → Result (List (List ℕ)) Reason) (spell : A → List ℕ) (ws : List Word) (xs : List A) → length xs < 65536 → Lacks 61 name
    → AllLack 44 ws → AllLack 61 ws → each of ws ≡ Ok (map spell xs) → Fills (if_some name of) (some_field name ws) (counted spell xs)
unfolding if_some each
some_fills name of spell [] xs few h commas marks e =
    let none : map spell xs ≡ [] = cc e in record { again = ap (λ (l : List ℕ). Ok (l, [])) (no_items spell xs none) }
some_fills name of spell (w ∷ ws) xs few h commas marks e =
    whole_fills (if_some name of) (field name (listed_text (w ∷ ws)) ∷ []) (counted spell xs) (some_fits name of spell w ws xs few h commas marks e)

-- another list stands in its place
passed : (name other : Word) (of : Word → Result (List (List ℕ)) Reason) (vs : List Word) → Lacks 61 other → AllLack 61 vs → bytes_eq other name ≡ false
    → if_some name of (some_field other vs) ≡ Ok (number 2 0, some_field other vs)
unfolding if_some
passed name other of [] h marks apart = refl
passed name other of (v ∷ vs) h marks apart =
    rw (parts_more 61 other (listed_text (v ∷ vs)) h, apart) refl

-- two lists at the end
pub two_fill : {A B : Type 0} (a b : Word) (of og : Word → Result (List (List ℕ)) Reason) (spell : A → List ℕ) (also : B → List ℕ) (ws vs : List Word) (xs : List A) (ys : List B)
    → length xs < 65536 → length ys < 65536 → Lacks 61 a → Lacks 61 b → bytes_eq b a ≡ false → AllLack 44 ws → AllLack 61 ws → AllLack 44 vs → AllLack 61 vs → each of ws ≡ Ok (map spell xs) → each og vs ≡ Ok (map also ys)
    → Fills (if_some a of & if_some b og) (some_field a ws ++ some_field b vs) (counted spell xs ++ counted also ys)
unfolding ◌&◌ each
two_fill a b of og spell also [] vs xs ys fx fy ha hb apart cw mw cv mv ew ev =
    let none : map spell xs ≡ [] = cc ew in
    let last = some_fills b og also vs ys fy hb cv mv ev in
    record { again = rw (passed a b of vs hb mv apart, last.again) (ap (λ (l : List ℕ). Ok (l ++ counted also ys, [])) (no_items spell xs none)) }
two_fill a b of og spell also (w ∷ ws) vs xs ys fx fy ha hb apart cw mw cv mv ew ev =
    then_fills (if_some a of) (if_some b og) (field a (listed_text (w ∷ ws)) ∷ []) (some_field b vs) (counted spell xs) (counted also ys) (some_fits a of spell w ws xs fx ha cw mw ew) (some_fills b og also vs ys fy hb cv mv ev)

-- ---- nodes

-- a node and its weight
pub weighed_again : (node : List ℕ) (weight : ℕ) → length node ≡ 20 → weight < 2 ^ 64 → IsBytes node → weighed_word [] (weighed_text (node, weight)) ≡ Ok ((node ++ number 8 weight) ∷ [])
unfolding weighed_word
weighed_again node weight long small fits =
    let says = item_says 20 node (omega arith) long fits in
    rw (parts_more 58 (fixed_text node) (decimal weight) (says.value.lacks 58 colon refl refl refl), parts_one 58 (decimal weight) (decimal_lacks 58 colon weight small), says.again, (number_says 8 weight small small).again) refl

-- nodes in one word, or none
pub nodes_fill : {A : Type 0} (spell : A → List ℕ) (ws : List Word) (xs : List A) → length xs < 65536 → AllLack 44 ws → each (weighed_word []) ws ≡ Ok (map spell xs) → Fills (nodes_field []) (some_word ws) (counted spell xs)
unfolding nodes_field each
nodes_fill spell [] xs few commas e = let none : map spell xs ≡ [] = cc e in record { again = ap (λ (l : List ℕ). Ok (l, [])) (no_items spell xs none) }
nodes_fill spell (w ∷ ws) xs few commas e =
    let fits = one_fits (list_word (weighed_word [])) (listed_text (w ∷ ws)) (counted spell xs) (list_again (weighed_word []) spell w ws xs few commas e) in
    record { again = fits.again [] }
