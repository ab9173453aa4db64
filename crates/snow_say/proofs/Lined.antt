-- The text of a line, word by word.
use Rattle.std.proofs.Common.{◌≡◌, ℕ, ◌+◌, ◌<◌, ◌≤◌, ◌==◌, Bool, true, false, List, [], ◌∷◌, ◌++◌, All, length, take, drop, get_or, map, find, reverse, Option, Some, None, Result, Ok, Err, refl, sym, ap, ◌∙◌, subst, eq-eqb, append_assoc, append-nil, add-one, take-append-drop, drop-cons, arith}
use Rattle.std.specs.List.{join_with_byte, onto_first}
use Rattle.std.specs.Str.{bytes_eq}
use Rattle.std.proofs.lemmas.List.{reverse-append}
use Rattle.std.proofs.lemmas.List.Elements.{All-nil, All-cons}
use Rattle.std.proofs.lemmas.List.Splits.{slice_split_none, slice_split-cons_yes, slice_split-cons_no, join_with_byte-slice_split}
use Rattle.std.proofs.Math.ListN.{drop_of_length-le}
use Rattle.hex.specs.Hex.{encode_lower}
use Rattle.snow_wire.specs.Model.Spelling.{sized}
use Rattle.snow_text_model.specs.declared.refusal.Reason.{Reason}
use Rattle.snow_say.specs.declared.kind.Kind.{Kind as WordKind}
use Rattle.snow_words.specs.declared.stop.Why.{Why}
use Rattle.snow_words.specs.declared.stop.Why.TheVariants as fault
use Rattle.snow_words.specs.declared.stop.Stop.{Stop}
use Rattle.snow_words.specs.declared.stop.Stop.TheVariants as stop
use Rattle.snow_text_model.specs.Model.Words.{Word, Halt, ◌>>=◌, at, parts}
use Rattle.snow_text_model.specs.Model.Names.{Names}
use Rattle.snow_text_model.specs.Model.Bytes.{item_word}
use Rattle.snow_text_model.specs.Model.Events.{text_of}
use Rattle.snow_text_model.specs.Model.Lines.{Kind, Draw, digits, kinds_of, kinds_in, later_kinds, line_of, long_as, long_words, next_kind}
use Rattle.snow_words.specs.Clauses.Cutting.{first, stopping}
use Rattle.snow_words.specs.Clauses.Making.{Reads, Tells, onto}
use Rattle.snow_say.specs.Clauses.Payload.{trailed}
use Rattle.snow_say.specs.Clauses.Lined.{Entry, answering_kinds, asking_kinds, drawn_as, kind_in, kinds_or, sized_line, telling_kinds, trailing}
use Rattle.snow_words.proofs.Cutting.{taken_shorter}
use Rattle.snow_words.proofs.Appended.{none_left, unerr}
use Rattle.snow_words.proofs.Saying.{some_parts}
use Rattle.snow_say.proofs.Sized.{joined_trail}

-- ---- kinds

-- the kinds in three parts
pub kinds_are : (name : Word) → kinds_of name ≡ kinds_in (find (λ k. bytes_eq k.0 name) (asking_kinds (telling_kinds (answering_kinds []))))
unfolding kinds_of
kinds_are name = refl

pub later_more : (kinds : List WordKind) → 1 < length kinds → map kind_in (drop 1 kinds) ≡ later_kinds (map kind_in kinds)
later_more [] h = absurd (omega (arith, h))
later_more (k ∷ []) h = absurd (omega (arith, h))
later_more (k ∷ l ∷ kinds) h = refl

pub later_same : (kinds : List WordKind) → length kinds ≤ 1 → map kind_in kinds ≡ later_kinds (map kind_in kinds)
later_same [] h = refl
later_same (k ∷ []) h = refl
later_same (k ∷ l ∷ kinds) h = absurd (omega (arith, h))

-- ---- the line

line_more : (old new : List ℕ) (told : Result (List ℕ) Halt) → onto (old ++ 17 ∷ []) (told >>= (λ text. Ok (sized text))) ≡ Ok new → onto old (told >>= (λ text. Ok (17 ∷ sized text))) ≡ Ok new
line_more old new (Ok text) h = sym (ap Ok (append_assoc old (17 ∷ []) (sized text))) ∙ h
line_more old new (Err e) h = cc h

line_none : (old front : List ℕ) (told : Result (List ℕ) Halt) (halt : Halt) → onto front (told >>= (λ text. Ok (sized text))) ≡ Err halt → onto old (told >>= (λ text. Ok (17 ∷ sized text))) ≡ Err halt
line_none old front (Ok text) halt h = cc h
line_none old front (Err e) halt h = ap Err (unerr e halt h)

pub line_told : (names : Names) (words : List Word) (old new : List ℕ) → onto (old ++ 17 ∷ []) (sized_line names words) ≡ Ok new → onto old (text_of names words) ≡ Ok new
line_told names words old new h = line_more old new (line_of names words) h

pub line_not : (names : Names) (words : List Word) (old : List ℕ) (halt : Halt) → onto (old ++ 17 ∷ []) (sized_line names words) ≡ Err halt → onto old (text_of names words) ≡ Err halt
line_not names words old halt h = line_none old (old ++ 17 ∷ []) (line_of names words) halt h

-- what a line wants
pub ruleset lining = (line_told, line_not)

-- ---- its words

text_more : (old new : List ℕ) (name : Word) (told : Result (List Word) Halt) → trailing (old ++ name) told ≡ Ok new → onto old (told >>= (λ others. Ok (join_with_byte 32 (name ∷ others)))) ≡ Ok new
text_more old new name (Ok others) h = ap (λ l. Ok (old ++ l)) (joined_trail name others) ∙ sym (ap Ok (append_assoc old name (trailed others))) ∙ h
text_more old new name (Err e) h = cc h

text_none : (old front : List ℕ) (name : Word) (told : Result (List Word) Halt) (halt : Halt) → trailing front told ≡ Err halt → onto old (told >>= (λ others. Ok (join_with_byte 32 (name ∷ others)))) ≡ Err halt
text_none old front name (Ok others) halt h = cc h
text_none old front name (Err e) halt h = ap Err (unerr e halt h)

pub text_empty : (names : Names) (words : List Word) → None ≡ first words → line_of names words ≡ Ok []
unfolding line_of
text_empty names [] f = refl
text_empty names (w ∷ ws) f = cc f

pub text_nothing : (names : Names) (old : List ℕ) (words : List Word) → None ≡ first words → onto old (line_of names words) ≡ Ok old
text_nothing names old words f = ap (onto old) (text_empty names words f) ∙ ap Ok (append-nil old)

pub text_told : (names : Names) (words : List Word) (name : Word) (kinds : List Kind) (old new : List ℕ) → Some name ≡ first words → kinds ≡ kinds_of name
    → trailing (old ++ name) (long_words names kinds (drop 1 words)) ≡ Ok new → onto old (line_of names words) ≡ Ok new
unfolding line_of
text_told names [] name kinds old new f k h = cc f
text_told names (w ∷ ws) name kinds old new f k h =
    let same : w ≡ name = cc in
    text_more old new w (long_words names (kinds_of w) ws) (ap (λ v. trailing (old ++ v) (long_words names (kinds_of v) ws)) same ∙ ap (λ ks. trailing (old ++ name) (long_words names ks ws)) (sym k) ∙ h)

pub text_not : (names : Names) (words : List Word) (name : Word) (kinds : List Kind) (old : List ℕ) (halt : Halt) → Some name ≡ first words → kinds ≡ kinds_of name
    → trailing (old ++ name) (long_words names kinds (drop 1 words)) ≡ Err halt → onto old (line_of names words) ≡ Err halt
unfolding line_of
text_not names [] name kinds old halt f k h = cc f
text_not names (w ∷ ws) name kinds old halt f k h =
    let same : w ≡ name = cc in
    text_none old (old ++ name) w (long_words names (kinds_of w) ws) halt
    (ap (λ v. trailing (old ++ name) (long_words names (kinds_of v) ws)) same ∙ ap (λ ks. trailing (old ++ name) (long_words names ks ws)) (sym k) ∙ h)

-- what the text of a line wants
pub ruleset texting = (text_nothing, text_told, text_not)

long_told : (old new : List ℕ) (ws : List Word) (told : Result Word Reason) (rest : Result (List Word) Halt) → onto (old ++ 32 ∷ []) told ≡ Ok new
    → trailing old (at ws told >>= (λ x. rest >>= (λ xs. Ok (x ∷ xs)))) ≡ trailing new rest
long_told old new ws (Ok x) (Ok xs) h =
    let same : (old ++ 32 ∷ []) ++ x ≡ new = cc in
    ap Ok (sym (append_assoc old (32 ∷ []) (x ++ trailed xs)) ∙ sym (append_assoc (old ++ 32 ∷ []) x (trailed xs)) ∙ ap (λ l. l ++ trailed xs) same)
long_told old new ws (Ok x) (Err e) h = refl
long_told old new ws (Err e) rest h = cc h

long_none : (old front : List ℕ) (ws : List Word) (told : Result Word Reason) (rest : Result (List Word) Halt) (why : Reason) → onto front told ≡ Err why
    → trailing old (at ws told >>= (λ x. rest >>= (λ xs. Ok (x ∷ xs)))) ≡ Err (record { why = why; left = length ws })
long_none old front ws (Ok x) rest why h = cc h
long_none old front ws (Err e) rest why h = let same : e ≡ why = cc in ap (λ f. Err (record { why = f; left = length ws })) same

pub long_next : (names : Names) (kinds : List Kind) (old new : List ℕ) (ws : List Word) (w : Word) → Some w ≡ first ws → onto (old ++ 32 ∷ []) (long_as names (next_kind kinds) w) ≡ Ok new
    → trailing old (long_words names kinds ws) ≡ trailing new (long_words names (later_kinds kinds) (drop 1 ws))
unfolding long_words
long_next names kinds old new [] w f h = cc f
long_next names kinds old new (q ∷ ws) w f h =
    let same : q ≡ w = cc in
    long_told old new (q ∷ ws) (long_as names (next_kind kinds) q) (long_words names (later_kinds kinds) ws) (ap (λ v. onto (old ++ 32 ∷ []) (long_as names (next_kind kinds) v)) same ∙ h)

long_first : (names : Names) (kinds : List Kind) (old : List ℕ) (ws : List Word) (w : Word) (why : Reason) → Some w ≡ first ws → onto (old ++ 32 ∷ []) (long_as names (next_kind kinds) w) ≡ Err why
    → trailing old (long_words names kinds ws) ≡ Err (record { why = why; left = length (drop 1 ws) + 1 })
unfolding long_words
long_first names kinds old [] w why f h = cc f
long_first names kinds old (q ∷ ws) w why f h =
    let same : q ≡ w = cc in
    long_none old (old ++ 32 ∷ []) (q ∷ ws) (long_as names (next_kind kinds) q) (long_words names (later_kinds kinds) ws) why (ap (λ v. onto (old ++ 32 ∷ []) (long_as names (next_kind kinds) v)) same ∙ h)
    ∙ ap (λ k. Err (record { why = why; left = k })) (sym (add-one (length ws)))

long_halt : (names : Names) (kinds : List Kind) (old : List ℕ) (ws : List Word) (w : Word) (now : List ℕ) (told : Result (Unit {0}) Why) → Some w ≡ first ws
    → Tells told now (onto (old ++ 32 ∷ []) (long_as names (next_kind kinds) w)) → (e : Stop) → stopping told (length (drop 1 ws) + 1) ≡ Err e
    → (later : List ℕ) → Reads (Err e) later (trailing old (long_words names kinds ws))
long_halt names kinds old ws w now (Ok u) f h e g later = cc g
long_halt names kinds old ws w now (Err fault.Memory) f h stop.Memory g later = tt
long_halt names kinds old ws w now (Err fault.Memory) f h (stop.At r k) g later = cc g
long_halt names kinds old ws w now (Err (fault.Not reason)) f h stop.Memory g later = cc g
long_halt names kinds old ws w now (Err (fault.Not reason)) f h (stop.At r k) g later =
    let one : reason ≡ r = cc in
    let two : length (drop 1 ws) + 1 ≡ k = cc in
    long_first names kinds old ws w reason f h ∙ rw (one, two) refl

pub long_stop : (names : Names) (kinds : List Kind) (old : List ℕ) (ws : List Word) (w : Word) (now : List ℕ) (told : Result (Unit {0}) Why) → Some w ≡ first ws
    → Tells told now (onto (old ++ 32 ∷ []) (long_as names (next_kind kinds) w)) → (e : Stop) → stopping told (length (drop 1 ws) + 1) ≡ Err e
    → (later : List ℕ) (all : Result (List ℕ) Halt) → trailing old (long_words names kinds ws) ≡ all → Reads (Err e) later all
long_stop names kinds old ws w now told f h e g later all k = subst (λ r. Reads (Err e) later r) k (long_halt names kinds old ws w now told f h e g later)

pub long_done : (names : Names) (kinds : List Kind) (old : List ℕ) (ws : List Word) → None ≡ first ws → trailing old (long_words names kinds ws) ≡ Ok old
unfolding long_words
long_done names kinds old [] f = ap Ok (append-nil old)
long_done names kinds old (w ∷ ws) f = cc f

-- what going through the words of a line wants
pub ruleset wording = (long_next, long_stop, long_done, none_left, taken_shorter)

-- ---- a word

pub digits_told : (old bytes : List ℕ) (told : Result (List ℕ) Reason) → onto [] told ≡ Ok bytes → onto old (digits told) ≡ Ok (old ++ encode_lower bytes)
digits_told old bytes (Ok b) h = let same : b ≡ bytes = cc in ap (λ l. Ok (old ++ encode_lower l)) same
digits_told old bytes (Err e) h = cc h

pub digits_not : (old : List ℕ) (told : Result (List ℕ) Reason) (why : Reason) → onto [] told ≡ Err why → onto old (digits told) ≡ Err why
digits_not old (Ok b) why h = cc h
digits_not old (Err e) why h = ap Err (unerr e why h)

-- what digits want
pub ruleset digiting = (digits_told, digits_not)

pub drawn_more : (old mid : List ℕ) (told : Result Word Reason) (times : Word) → onto old told ≡ Ok mid → onto old (drawn_as told times) ≡ Ok ((mid ++ 42 ∷ []) ++ times)
unfolding drawn_as
drawn_more old mid (Ok d) times h =
    let same : old ++ d ≡ mid = cc in
    ap Ok (sym (append_assoc old d (42 ∷ times)) ∙ ap (λ l. l ++ (42 ∷ times)) same ∙ sym (append_assoc mid (42 ∷ []) times))
drawn_more old mid (Err e) times h = cc h

pub drawn_not : (old : List ℕ) (told : Result Word Reason) (times : Word) (why : Reason) → onto old told ≡ Err why → onto old (drawn_as told times) ≡ Err why
unfolding drawn_as
drawn_not old (Ok d) times why h = cc h
drawn_not old (Err e) times why h = ap Err (unerr e why h)

pub reverse_twice : (xs : List Word) → reverse (reverse xs) ≡ xs
reverse_twice [] = refl
reverse_twice (x ∷ xs) = ap reverse (reverse-append (x ∷ []) xs) ∙ reverse-append (reverse xs) (x ∷ []) ∙ ap (λ l. x ∷ l) (reverse_twice xs)

-- a node that was drawn so often
pub draw_two : (names : Names) (word node times : Word) → reverse (parts 42 word) ≡ times ∷ reverse (parts 42 node) → long_as names Draw word ≡ drawn_as (digits (item_word names 20 node)) times
unfolding long_as drawn_as
draw_two names word node times h =
    let back : join_with_byte 42 (reverse (reverse (parts 42 node))) ≡ node = ap (join_with_byte 42) (reverse_twice (parts 42 node)) ∙ join_with_byte-slice_split 42 node in
    rw h (ap (λ n. drawn_as (digits (item_word names 20 n)) times) back)

pub draw_one : (names : Names) (word : Word) → reverse (parts 42 word) ≡ word ∷ [] → long_as names Draw word ≡ drawn_as (digits (item_word names 20 [])) word
unfolding long_as drawn_as
draw_one names word h = rw h refl

-- what a node that was drawn wants
pub ruleset drawing = (draw_one, draw_two)

-- ---- the last mark

pub last_end : (c : ℕ) (text : List ℕ) → All (λ b. b == c ≡ false) text → reverse (parts c text) ≡ text ∷ []
last_end c text none = ap reverse (slice_split_none (λ b. b == c) text none)

first_onto : (x : ℕ) (ps : List Word) (back : List ℕ) → 0 < length ps → onto_first x (ps ++ back ∷ []) ≡ onto_first x ps ++ back ∷ []
first_onto x [] back h = absurd (omega (arith, h))
first_onto x (p ∷ ps) back h = refl

by_mark : (c x : ℕ) (front back : List ℕ) (test : Bool) → x == c ≡ test → parts c (front ++ c ∷ back) ≡ parts c front ++ back ∷ [] → parts c (x ∷ (front ++ c ∷ back)) ≡ parts c (x ∷ front) ++ back ∷ []
by_mark c x front back true e h =
    slice_split-cons_yes (λ b. b == c) x (front ++ c ∷ back) e ∙ ap (λ ps. [] ∷ ps) h ∙ ap (λ ps. ps ++ back ∷ []) (sym (slice_split-cons_yes (λ b. b == c) x front e))
by_mark c x front back false e h =
    slice_split-cons_no (λ b. b == c) x (front ++ c ∷ back) e ∙ ap (onto_first x) h ∙ first_onto x (parts c front) back (some_parts c front)
    ∙ ap (λ ps. ps ++ back ∷ []) (sym (slice_split-cons_no (λ b. b == c) x front e))

two_parts : (c : ℕ) (front back : List ℕ) → All (λ b. b == c ≡ false) back → parts c (front ++ c ∷ back) ≡ parts c front ++ back ∷ []
two_parts c [] back none = slice_split-cons_yes (λ b. b == c) c back (eq-eqb c c refl) ∙ ap (λ ps. [] ∷ ps) (slice_split_none (λ b. b == c) back none)
two_parts c (x ∷ front) back none = by_mark c x front back (x == c) refl (two_parts c front back none)

-- a mark at i, and none behind it
pub last_at : (c : ℕ) (text : List ℕ) (i : ℕ) → i < length text → get_or text i 0 ≡ c → All (λ b. b == c ≡ false) (drop (i + 1) text)
    → reverse (parts c text) ≡ drop (i + 1) text ∷ reverse (parts c (take i text))
last_at c text i h e none =
    let here : drop i text ≡ get_or text i 0 ∷ drop (i + 1) text = rw add-one (drop-cons text i 0 h) in
    let whole : text ≡ take i text ++ c ∷ drop (i + 1) text = sym (take-append-drop i text) ∙ ap (λ l. take i text ++ l) (here ∙ ap (λ b. b ∷ drop (i + 1) text) e) in
    ap (λ t. reverse (parts c t)) whole ∙ ap reverse (two_parts c (take i text) (drop (i + 1) text) none) ∙ reverse-append (parts c (take i text)) (drop (i + 1) text ∷ [])

-- a byte before others that is no mark
pub no_mark_behind : (c : ℕ) (text : List ℕ) (i : ℕ) → i < length text → get_or text i 0 == c ≡ false → All (λ b. b == c ≡ false) (drop (i + 1) text) → All (λ b. b == c ≡ false) (drop i text)
no_mark_behind c text i h e none =
    let here : drop i text ≡ get_or text i 0 ∷ drop (i + 1) text = rw add-one (drop-cons text i 0 h) in
    subst (All (λ b. b == c ≡ false)) (sym here) (All-cons (λ b. b == c ≡ false) (get_or text i 0) (drop (i + 1) text) e none)

pub none_behind : (c : ℕ) (text : List ℕ) → All (λ b. b == c ≡ false) (drop (length text) text)
none_behind c text = subst (All (λ b. b == c ≡ false)) (sym (drop_of_length-le text (omega arith))) (All-nil (λ b. b == c ≡ false))

-- ---- kinds, found in three parts

-- kinds are found among some, or else among those behind them
abbrev pub IsAmong : Word → (List Entry → List Entry) → Option (List WordKind) → Type 0
IsAmong name some found = (more : List Entry) → kinds_in (find (λ k. bytes_eq k.0 name) (some more)) ≡ kinds_or found (kinds_in (find (λ k. bytes_eq k.0 name) more))

pub found_first : (name : Word) (a : Option (List WordKind)) (kinds : List WordKind) → IsAmong name asking_kinds a → a ≡ Some kinds → map kind_in kinds ≡ kinds_of name
found_first name a kinds f e = sym (kinds_are name ∙ f (telling_kinds (answering_kinds [])) ∙ ap (λ r. kinds_or r (kinds_in (find (λ k. bytes_eq k.0 name) (telling_kinds (answering_kinds []))))) e)

behind_first : (name : Word) (a : Option (List WordKind)) → IsAmong name asking_kinds a → a ≡ None → kinds_of name ≡ kinds_in (find (λ k. bytes_eq k.0 name) (telling_kinds (answering_kinds [])))
behind_first name a f e = kinds_are name ∙ f (telling_kinds (answering_kinds [])) ∙ ap (λ r. kinds_or r (kinds_in (find (λ k. bytes_eq k.0 name) (telling_kinds (answering_kinds []))))) e

pub found_second : (name : Word) (a b : Option (List WordKind)) (kinds : List WordKind) → IsAmong name asking_kinds a → a ≡ None → IsAmong name telling_kinds b → b ≡ Some kinds → map kind_in kinds ≡ kinds_of name
found_second name a b kinds f e g h =
    sym (behind_first name a f e ∙ g (answering_kinds []) ∙ ap (λ r. kinds_or r (kinds_in (find (λ k. bytes_eq k.0 name) (answering_kinds [])))) h)

behind_second : (name : Word) (a b : Option (List WordKind)) → IsAmong name asking_kinds a → a ≡ None → IsAmong name telling_kinds b → b ≡ None → kinds_of name ≡ kinds_in (find (λ k. bytes_eq k.0 name) (answering_kinds []))
behind_second name a b f e g h = behind_first name a f e ∙ g (answering_kinds []) ∙ ap (λ r. kinds_or r (kinds_in (find (λ k. bytes_eq k.0 name) (answering_kinds [])))) h

pub found_third : (name : Word) (a b c : Option (List WordKind)) (kinds : List WordKind) → IsAmong name asking_kinds a → a ≡ None → IsAmong name telling_kinds b → b ≡ None → IsAmong name answering_kinds c → c ≡ Some kinds
    → map kind_in kinds ≡ kinds_of name
found_third name a b c kinds f e g h k l = sym (behind_second name a b f e g h ∙ k [] ∙ ap (λ r. kinds_or r []) l)

pub found_none : (name : Word) (a b c : Option (List WordKind)) → IsAmong name asking_kinds a → a ≡ None → IsAmong name telling_kinds b → b ≡ None → IsAmong name answering_kinds c → c ≡ None
    → [] ≡ kinds_of name
found_none name a b c f e g h k l = sym (behind_second name a b f e g h ∙ k [] ∙ ap (λ r. kinds_or r []) l)
