-- An event that is no line of a program is shown in its own words.
use Rattle.std.proofs.Common.{◌≡◌, ℕ, suc, ◌<◌, ◌≤◌, ◌^◌, ◌==◌, true, false, not, List, [], ◌∷◌, ◌++◌, All, length, map, codes, decimal, Ok, refl, sym, ap, ◌∙◌, subst, inr, arith}
use Rattle.std.specs.List.{AllByRecursion, flat_map, list_all}
use Rattle.std.specs.Str.{bytes_eq}
use Rattle.std.proofs.lemmas.Bool.{and_from, not_from_false, le-leb, false_from_ne_true, both_ways}
use Rattle.std.proofs.lemmas.List.Elements.{All-head, All-tail, recursion_from_All}
use Rattle.snow_wire.specs.Model.Frame.{IsPayload}
use Rattle.snow_wire.specs.Model.Reading.{IsBytes}
use Rattle.snow_wire.specs.Model.Spelling.{IsId, IsSender, IsWeighed, counted, number, sender, weighed}
use Rattle.snow_wire.proofs.Numbers.{IsBytes-behind}
use Rattle.snow_text_model.specs.Model.Words.{Word, Field, words_of}
use Rattle.snow_text_model.specs.Model.Bytes.{fixed_text, item_word}
use Rattle.snow_text_model.specs.Model.Events.{block_of, id_field, ids_word, list_field, nodes_field, none, payload_of, sent, tagged, times_word, weighed_word}
use Rattle.snow_text_model.specs.Model.Made.{Frame, say_words}
use Rattle.snow_text_model.specs.Model.Shown.{is_frame, line, say, sent_words, some_word, times_texts, weighed_text}
use Rattle.snow_text_model.proofs.Marks.{IsMark, Lacks, comma, decimal_lacks, lacks_both, lacks_cons, lacks_from, lacks_joined}
use Rattle.snow_text_model.proofs.Runs.{AreBelow, bytes_front}
use Rattle.snow_text_model.proofs.Pieces.{IsBytesWord, same_bytes, told_same}
use Rattle.snow_text_model.proofs.Framed.{words_again}
use Rattle.snow_text_model.proofs.Values.{decimal_value, item_says}
use Rattle.snow_text_model.proofs.Fields.{Fills, each_again, list_fills, nodes_fill, one_fits, sent_fills, tagged_says, times_again, weighed_again, whole_fills}
use Rattle.snow_text_model.proofs.Clean.{AreClean, IsClean, clean_at, clean_each, clean_some, clean_value, gaps_from, lack_each, lines_from, notes_from, times_clean, words_from}

-- ---- the test of words

passes : (text : List ℕ) → Lacks 10 text → list_all (λ c. not (c == 10)) text ≡ true
passes [] h = refl
passes (c ∷ text) h =
    and_from (not (c == 10)) (list_all (λ c. not (c == 10)) text) (not_from_false (c == 10) (All-head (λ b. b == 10 ≡ false) c text h)) (passes text (All-tail (λ b. b == 10 ≡ false) c text h))

-- a word that begins no rest and no name
abbrev pub IsOther : Word → Type 0
IsOther name = (bytes_eq (codes "rest") name ≡ false) × (bytes_eq (codes "name") name ≡ false)

words_frame : (name : Word) (more : List Word) (payload : List ℕ) → IsOther name → payload_of [] (name ∷ more) ≡ Ok payload → IsPayload payload → say_words [] (name ∷ more) ≡ Ok (Frame payload)
unfolding say_words
words_frame name more payload apart told small = rw (apart.0, apart.1, told, le-leb (length payload) 2097152 small) refl

-- clean words that say a payload pass
pub say_is : (name : Word) (more : List Word) (payload : List ℕ) → IsOther name → AreClean (name ∷ more) → IsPayload payload → payload_of [] (name ∷ more) ≡ Ok payload → say (name ∷ more) payload ≡ true
unfolding say
say_is name more payload apart clean small told =
    let ws = name ∷ more in
    let found : words_of (line ws) ≡ ws = words_again name more (words_from ws clean) (gaps_from ws clean) (notes_from ws clean) in
    let means : say_words [] (words_of (line ws)) ≡ Ok (Frame payload) = ap (say_words []) found ∙ words_frame name more payload apart told small in
    and_from (list_all (λ c. not (c == 10)) (line ws)) (is_frame payload (say_words [] (words_of (line ws))))
    (passes (line ws) (lacks_joined 10 32 refl ws (lines_from ws clean)))
    (ap (is_frame payload) means ∙ same_bytes payload payload refl)

-- a word that is written out
pub known : (word : Word) → 0 < length word → list_all (λ b. not (b == 10)) word ≡ true → list_all (λ b. not (b == 32)) word ≡ true → list_all (λ b. not (b == 35)) word ≡ true → IsClean word
known word some line gap note = record { some = some; line = lacks_from 10 word line; gap = lacks_from 32 word gap; note = lacks_from 35 word note }

-- ---- facts of items

pub behind_one : (x : ℕ) (xs : List ℕ) → IsBytes (x ∷ xs) → IsBytes xs
behind_one x xs h i = h (suc i)

flat_bytes : {A : Type 0} (spell : A → List ℕ) (xs : List A) → IsBytes (flat_map spell xs) → AllByRecursion (λ x. IsBytes (spell x)) xs
flat_bytes spell [] h = tt
flat_bytes spell (x ∷ xs) h = (bytes_front (spell x) (flat_map spell xs) h, flat_bytes spell xs (IsBytes-behind (spell x) (flat_map spell xs) h))

-- the bytes of each item
pub items_bytes : {A : Type 0} (spell : A → List ℕ) (xs : List A) → IsBytes (counted spell xs) → AllByRecursion (λ x. IsBytes (spell x)) xs
items_bytes spell xs h = flat_bytes spell xs (IsBytes-behind (number 2 (length xs)) (flat_map spell xs) h)

both_all : {A : Type 0} (P Q : A → Type 0) (xs : List A) → AllByRecursion P xs → AllByRecursion Q xs → AllByRecursion (λ x. P x × Q x) xs
both_all P Q [] h k = tt
both_all P Q (x ∷ xs) h k = ((h.0, k.0), both_all P Q xs h.1 k.1)

pub below_from : (ns : List ℕ) → AllByRecursion (λ n. n < 2 ^ 64) ns → AreBelow (2 ^ 64) ns
below_from [] h = tt
below_from (n ∷ ns) h = (h.0, below_from ns h.1)

-- ---- messages

-- a field with its words
pub record Worded (a : Field) (words : List Word) (bytes : List ℕ) : Type 0 where
  pub fills : Fills a words bytes
  pub clean : AreClean words

pub sent_says : (name : Word) (tag : ℕ) (a : Field) (node : List ℕ) (request : ℕ) (ws : List Word) (xs : List ℕ) → IsOther name → IsClean name → IsSender node request → IsBytes (tag ∷ (sender node request ++ xs))
    → IsPayload (tag ∷ (sender node request ++ xs)) → ((more : List Word) → payload_of [] (name ∷ more) ≡ tagged tag (sent [] a) more) → Worded a ws xs → say (sent_words name node request ws) (tag ∷ (sender node request ++ xs)) ≡ true
sent_says name tag a node request ws xs apart clean is fits small form worded =
    let own = bytes_front node (number 4 request) (bytes_front (sender node request) xs (behind_one tag (sender node request ++ xs) fits)) in
    let request_fits : request < 2 ^ 64 = let h : request < 2 ^ 32 = is.1 in omega (arith, h) in
    say_is name (fixed_text node ∷ decimal request ∷ ws) (tag ∷ (sender node request ++ xs)) apart
    (clean, (clean_value (fixed_text node) (item_says 20 node (omega arith) is.0 own).value, (clean_value (decimal request) (decimal_value request request_fits), worded.clean)))
    small
    (form (fixed_text node ∷ decimal request ∷ ws) ∙ tagged_says tag (sent [] a) (fixed_text node ∷ decimal request ∷ ws) (sender node request ++ xs) (sent_fills a node request ws xs is.0 is.1 own worded.fills))

-- an event without a node
pub lone_says : (name : Word) (tag : ℕ) (a : Field) (ws : List Word) (xs : List ℕ) → IsOther name → IsClean name → IsPayload (tag ∷ xs) → ((more : List Word) → payload_of [] (name ∷ more) ≡ tagged tag a more)
    → Worded a ws xs → say (name ∷ ws) (tag ∷ xs) ≡ true
lone_says name tag a ws xs apart clean small form worded =
    say_is name ws (tag ∷ xs) apart (clean, worded.clean) small (form ws ∙ tagged_says tag a ws xs worded.fills)

-- ---- fields

pub none_worded : Worded none [] []
none_worded = record { fills = record { again = refl }; clean = tt }

pub id_worded : (id : List ℕ) → IsId id → IsBytes id → Worded (id_field []) (fixed_text id ∷ []) id
id_worded id long fits =
    let says = item_says 32 id (omega arith) long fits in
    record { fills = whole_fills (id_field []) (fixed_text id ∷ []) id (one_fits (item_word [] 32) (fixed_text id) id says.again); clean = (clean_value (fixed_text id) says.value, tt) }

abbrev GoodId : List ℕ → Type 0
GoodId id = IsId id × IsBytes id

id_again : (id : List ℕ) → GoodId id → ids_word [] (fixed_text id) ≡ Ok (id ∷ [])
id_again id good = rw (item_says 32 id (omega arith) good.0 good.1).again refl

pub ids_worded : (ids : List (List ℕ)) → length ids ≤ 4096 → All IsId ids → IsBytes (counted (λ id. id) ids) → Worded (list_field (ids_word [])) (map fixed_text ids) (counted (λ id. id) ids)
ids_worded ids few are fits =
    let good : AllByRecursion GoodId ids = both_all IsId IsBytes ids (recursion_from_All IsId ids are) (items_bytes (λ id. id) ids fits) in
    record {
      fills = list_fills (ids_word []) (λ (id : List ℕ). id) (map fixed_text ids) ids (omega (arith, few)) (each_again (ids_word []) fixed_text (λ (id : List ℕ). id) id_again ids good);
      clean = clean_each {Good = GoodId} fixed_text (λ id g. clean_value (fixed_text id) (item_says 32 id (omega arith) g.0 g.1).value) ids good;
    }

pub times_worded : (ns : List ℕ) → length ns ≤ 4096 → All (λ n. n < 2 ^ 64) ns → Worded (list_field times_word) (times_texts ns) (counted (number 8) ns)
times_worded ns few are =
    let below = below_from ns (recursion_from_All (λ n. n < 2 ^ 64) ns are) in
    record { fills = list_fills times_word (number 8) (times_texts ns) ns (omega (arith, few)) (times_again ns below); clean = times_clean ns below }

abbrev pub GoodNode : List ℕ × ℕ → Type 0
GoodNode n = IsWeighed n × IsBytes (weighed n)

pub node_again : (n : List ℕ × ℕ) → GoodNode n → weighed_word [] (weighed_text n) ≡ Ok (weighed n ∷ [])
node_again n good = weighed_again n.0 n.1 good.0.0 good.0.1 (bytes_front n.0 (number 8 n.1) good.1)

pub node_clean : (n : List ℕ × ℕ) → GoodNode n → IsClean (weighed_text n)
node_clean n good =
    clean_at 58 (fixed_text n.0) (decimal n.1) refl refl refl (clean_value (fixed_text n.0) (item_says 20 n.0 (omega arith) good.0.0 (bytes_front n.0 (number 8 n.1) good.1)).value) (clean_value (decimal n.1) (decimal_value n.1 good.0.1))

pub node_lacks : (c : ℕ) → IsMark c → 42 == c ≡ false → 43 == c ≡ false → 46 == c ≡ false → 58 == c ≡ false → (n : List ℕ × ℕ) → GoodNode n → Lacks c (weighed_text n)
node_lacks c mark star plus stop colon n good =
    lacks_both c (fixed_text n.0) (58 ∷ decimal n.1) ((item_says 20 n.0 (omega arith) good.0.0 (bytes_front n.0 (number 8 n.1) good.1)).value.lacks c mark star plus stop) (lacks_cons c 58 (decimal n.1) colon (decimal_lacks c mark n.1 good.0.1))

pub good_nodes : (nodes : List (List ℕ × ℕ)) → All IsWeighed nodes → IsBytes (counted weighed nodes) → AllByRecursion GoodNode nodes
good_nodes nodes are fits = both_all IsWeighed (λ n. IsBytes (weighed n)) nodes (recursion_from_All IsWeighed nodes are) (items_bytes weighed nodes fits)

pub nodes_worded : (nodes : List (List ℕ × ℕ)) → length nodes ≤ 4096 → All IsWeighed nodes → IsBytes (counted weighed nodes) → Worded (nodes_field []) (some_word (map weighed_text nodes)) (counted weighed nodes)
nodes_worded nodes few are fits =
    let good = good_nodes nodes are fits in
    record {
      fills = nodes_fill weighed (map weighed_text nodes) nodes (omega (arith, few)) (lack_each {Good = GoodNode} 44 weighed_text (node_lacks 44 comma refl refl refl refl) nodes good) (each_again (weighed_word []) weighed_text weighed node_again nodes good);
      clean = clean_some (map weighed_text nodes) (clean_each {Good = GoodNode} weighed_text node_clean nodes good);
    }

-- ---- blocks

-- a word that lacks the first letter of a name isn't that name
other_name : (c : ℕ) (rest word : List ℕ) → Lacks c word → c == c ≡ true → bytes_eq (c ∷ rest) word ≡ false
other_name c rest word lacks own = false_from_ne_true (bytes_eq (c ∷ rest) word) (named_so c rest word lacks own)
  where
    named_so : (c : ℕ) (rest word : List ℕ) → Lacks c word → c == c ≡ true → bytes_eq (c ∷ rest) word ≡ true → ⊥
    named_so c rest word lacks own told =
        let all = subst (λ (w : List ℕ). Lacks c w) (sym (told_same (c ∷ rest) word told)) lacks in
        both_ways (c == c) (All-head (λ b. b == c ≡ false) c rest all) own

letter_p : IsMark 112
letter_p = record { table = refl; zero_too = refl; outside = inr (omega arith) }

letter_t : IsMark 116
letter_t = record { table = refl; zero_too = refl; outside = inr (omega arith) }

letter_l : IsMark 108
letter_l = record { table = refl; zero_too = refl; outside = inr (omega arith) }

-- the bytes of a block
pub block_again : (word : Word) (bytes : List ℕ) → IsBytesWord word bytes → block_of [] (word ∷ []) ≡ Ok bytes
unfolding block_of
block_again word bytes is =
    rw (other_name 112 (codes "lain") word (is.lacks 112 letter_p refl refl refl) refl, other_name 116 (codes "ally") word (is.lacks 116 letter_t refl refl refl) refl, other_name 108 (codes "edger") word (is.lacks 108 letter_l refl refl refl) refl) is.again
