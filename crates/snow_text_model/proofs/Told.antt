-- Each event but a line of a program is shown in its own words.
use Rattle.std.proofs.Common.{◌≡◌, ℕ, ◌*◌, ◌<◌, ◌≤◌, ◌^◌, Bool, true, false, List, [], ◌∷◌, ◌++◌, length, map, codes, decimal, Result, Ok, refl, sym, ap, ◌∙◌, append_assoc, append-nil, subst, arith}
use Rattle.std.proofs.lemmas.List.Elements.{recursion_from_All}
use Rattle.snow_wire.specs.declared.event.Event.{Event}
use Rattle.snow_wire.specs.declared.event.Event.TheVariants as event
use Rattle.snow_wire.specs.declared.event.Start.{Start}
use Rattle.snow_wire.specs.Model.Frame.{IsPayload}
use Rattle.snow_wire.specs.Model.Reading.{IsBytes, event_of}
use Rattle.snow_wire.specs.Model.Spelling.{IsInRange, IsSender, IsSizedStart, counted, flag, number, parameters, sender, sized, spelling, start, weighed}
use Rattle.snow_wire.proofs.Numbers.{IsBytes-behind}
use Rattle.snow_wire.proofs.Events.{event_taken}
use Rattle.snow_text_model.specs.declared.refusal.Reason.{Reason}
use Rattle.snow_text_model.specs.declared.block_form.BlockForm.{BlockForm}
use Rattle.snow_text_model.specs.Model.Words.{Word, Field, ◌&◌}
use Rattle.snow_text_model.specs.Model.Bytes.{fixed_text, item_word, number_word}
use Rattle.snow_text_model.specs.Model.Events.{if_some, named, none, payload_of, sent, start_field, tagged, times_word, weighed_word}
use Rattle.snow_text_model.specs.Model.Shown.{event_words, field, is_line, line, say, sent_words, shown_frame, some_field, start_words, times_texts, weighed_text, words_as}
use Rattle.snow_text_model.proofs.Marks.{Lacks, comma, equals, lacks_from}
use Rattle.snow_text_model.proofs.Runs.{bytes_front}
use Rattle.snow_text_model.proofs.Values.{Says, item_says, number_says}
use Rattle.snow_text_model.proofs.Fields.{each_again, named_fits, then_fills, times_again, two_fill}
use Rattle.snow_text_model.proofs.Clean.{IsClean, clean_at, clean_both, clean_each, clean_field, clean_value, lack_each, times_clean, times_lack}
use Rattle.snow_text_model.proofs.Shaped.{ancestors_say, block_worded}
use Rattle.snow_text_model.proofs.Worded.{GoodNode, IsOther, Worded, behind_one, below_from, good_nodes, id_worded, ids_worded, known, lone_says, node_again, node_clean, node_lacks, nodes_worded, none_worded, sent_says, times_worded}

-- ---- a Start

-- a field with a name, and others behind it
named_then : (name value : Word) (of : Word → Result (List ℕ) Reason) (bytes : List ℕ) (a : Field) (ws : List Word) (xs : List ℕ) → IsClean name → Says of value bytes → Lacks 61 name → Worded a ws xs
    → Worded (named name of & a) (field name value ∷ ws) (bytes ++ xs)
named_then name value of bytes a ws xs clean says apart worded = record {
  fills = then_fills (named name of) a (field name value ∷ []) ws bytes xs (named_fits name value of bytes apart (says.value.lacks 61 equals refl refl refl) says.again) worded.fills;
  clean = (clean_at 61 name value refl refl refl clean (clean_value value says.value), worded.clean);
}

short_then : (name : Word) (size n : ℕ) (a : Field) (ws : List Word) (xs : List ℕ) → IsClean name → n < 2 ^ (8 * size) → n < 2 ^ 64 → Lacks 61 name → Worded a ws xs
    → Worded (named name (number_word size) & a) (field name (decimal n) ∷ ws) (number size n ++ xs)
short_then name size n a ws xs clean small fits apart worded = named_then name (decimal n) (number_word size) (number size n) a ws xs clean (number_says size n small fits) apart worded

lists_worded : (s : Start) → IsSizedStart s → length s.state ≤ 4096 → length s.nodes ≤ 4096 → IsBytes (counted weighed s.nodes)
    → Worded (if_some (codes "state") times_word & if_some (codes "nodes") (weighed_word [])) (some_field (codes "state") (times_texts s.state) ++ some_field (codes "nodes") (map weighed_text s.nodes)) (counted (number 8) s.state ++ counted weighed s.nodes)
lists_worded s is fs fn fits =
    let below = below_from s.state (recursion_from_All (λ n. n < 2 ^ 64) s.state is.state) in
    let good = good_nodes s.nodes is.nodes fits in
    record {
      fills = two_fill (codes "state") (codes "nodes") times_word (weighed_word []) (number 8) weighed (times_texts s.state) (map weighed_text s.nodes) s.state s.nodes (omega (arith, fs)) (omega (arith, fn)) (lacks_from 61 (codes "state") refl) (lacks_from 61 (codes "nodes") refl) refl
          (times_lack 44 comma refl s.state below) (times_lack 61 equals refl s.state below) (lack_each {Good = GoodNode} 44 weighed_text (node_lacks 44 comma refl refl refl refl) s.nodes good) (lack_each {Good = GoodNode} 61 weighed_text (node_lacks 61 equals refl refl refl refl) s.nodes good)
          (times_again s.state below) (each_again {Good = GoodNode} (weighed_word []) weighed_text weighed node_again s.nodes good);
      clean = clean_both (some_field (codes "state") (times_texts s.state)) (some_field (codes "nodes") (map weighed_text s.nodes)) (clean_field (codes "state") (times_texts s.state) (known (codes "state") (omega arith) refl refl refl) (times_clean s.state below))
          (clean_field (codes "nodes") (map weighed_text s.nodes) (known (codes "nodes") (omega arith) refl refl refl) (clean_each {Good = GoodNode} weighed_text node_clean s.nodes good));
    }

flag_small : (b : Bool) → flag b < 256
flag_small true = omega arith
flag_small false = omega arith

flag_byte : (b : Bool) → number 1 (flag b) ≡ flag b ∷ []
unfolding number
flag_byte true = refl
flag_byte false = refl

-- the fields of a Start one behind another
abbrev in_a_row : Start → List ℕ
in_a_row s = number 4 s.k ++ (number 4 s.alpha_preference ++ (number 4 s.alpha_confidence ++ (number 4 s.beta ++ (number 4 s.repolls ++ (number 1 (flag s.boot) ++ (s.last ++ (number 8 s.height ++ (counted (number 8) s.state ++ counted weighed s.nodes))))))))

row : (s : Start) → in_a_row s ≡ start s
row s = rw (flag_byte s.boot) (simp append_assoc)

-- the words of a Start behind the first
abbrev start_fields : Start → List Word
start_fields s =
    field (codes "k") (decimal s.k)
    ∷ field (codes "alpha-preference") (decimal s.alpha_preference)
    ∷ field (codes "alpha-confidence") (decimal s.alpha_confidence)
    ∷ field (codes "beta") (decimal s.beta)
    ∷ field (codes "repolls") (decimal s.repolls)
    ∷ field (codes "boot") (decimal (flag s.boot))
    ∷ field (codes "last") (fixed_text s.last)
    ∷ field (codes "height") (decimal s.height)
    ∷ (some_field (codes "state") (times_texts s.state) ++ some_field (codes "nodes") (map weighed_text s.nodes))

-- a number of four bytes is one of eight
wider : (n : ℕ) → n < 2 ^ 32 → n < 2 ^ 64
wider n h = omega (arith, h)

start_last : (s : Start) → IsSizedStart s → length s.state ≤ 4096 → length s.nodes ≤ 4096 → IsBytes s.last → IsBytes (counted weighed s.nodes)
    → Worded (named (codes "boot") (number_word 1) & named (codes "last") (item_word [] 32) & named (codes "height") (number_word 8) & if_some (codes "state") times_word & if_some (codes "nodes") (weighed_word []))
    (field (codes "boot") (decimal (flag s.boot)) ∷ field (codes "last") (fixed_text s.last) ∷ field (codes "height") (decimal s.height) ∷ (some_field (codes "state") (times_texts s.state) ++ some_field (codes "nodes") (map weighed_text s.nodes)))
    (number 1 (flag s.boot) ++ (s.last ++ (number 8 s.height ++ (counted (number 8) s.state ++ counted weighed s.nodes))))
start_last s is fs fn last nodes =
    let small = flag_small s.boot in
    short_then (codes "boot") 1 (flag s.boot) _ _ _ (known (codes "boot") (omega arith) refl refl refl) (omega (arith, small)) (omega (arith, small)) (lacks_from 61 (codes "boot") refl)
    (named_then (codes "last") (fixed_text s.last) (item_word [] 32) s.last _ _ _ (known (codes "last") (omega arith) refl refl refl) (item_says 32 s.last (omega arith) is.last last) (lacks_from 61 (codes "last") refl)
    (short_then (codes "height") 8 s.height _ _ _ (known (codes "height") (omega arith) refl refl refl) is.height is.height (lacks_from 61 (codes "height") refl)
    (lists_worded s is fs fn nodes)))

start_worded : (s : Start) → IsSizedStart s → length s.state ≤ 4096 → length s.nodes ≤ 4096 → IsBytes s.last → IsBytes (counted weighed s.nodes) → Worded (start_field []) (start_fields s) (in_a_row s)
unfolding start_field
start_worded s is fs fn last nodes =
    let whole =
    short_then (codes "k") 4 s.k _ _ _ (known (codes "k") (omega arith) refl refl refl) is.k (wider s.k is.k) (lacks_from 61 (codes "k") refl)
    (short_then (codes "alpha-preference") 4 s.alpha_preference _ _ _ (known (codes "alpha-preference") (omega arith) refl refl refl) is.alpha_preference (wider s.alpha_preference is.alpha_preference) (lacks_from 61 (codes "alpha-preference") refl)
    (short_then (codes "alpha-confidence") 4 s.alpha_confidence _ _ _ (known (codes "alpha-confidence") (omega arith) refl refl refl) is.alpha_confidence (wider s.alpha_confidence is.alpha_confidence) (lacks_from 61 (codes "alpha-confidence") refl)
    (short_then (codes "beta") 4 s.beta _ _ _ (known (codes "beta") (omega arith) refl refl refl) is.beta (wider s.beta is.beta) (lacks_from 61 (codes "beta") refl)
    (short_then (codes "repolls") 4 s.repolls _ _ _ (known (codes "repolls") (omega arith) refl refl refl) is.repolls (wider s.repolls is.repolls) (lacks_from 61 (codes "repolls") refl)
    (start_last s is fs fn last nodes))))) in
    record { fills = record { again = whole.fills.again }; clean = whole.clean }

-- the bytes of a Start's last accepted block and of its nodes
last_bytes : (s : Start) → IsBytes (start s) → IsBytes s.last
last_bytes s h =
    let front = parameters s ++ (flag s.boot ∷ s.last) in
    let one = bytes_front ((front ++ number 8 s.height) ++ counted (number 8) s.state) (counted weighed s.nodes) h in
    let two = bytes_front (front ++ number 8 s.height) (counted (number 8) s.state) one in
    let three = bytes_front front (number 8 s.height) two in
    behind_one (flag s.boot) s.last (IsBytes-behind (parameters s) (flag s.boot ∷ s.last) three)

nodes_bytes : (s : Start) → IsBytes (start s) → IsBytes (counted weighed s.nodes)
nodes_bytes s h = IsBytes-behind (((parameters s ++ (flag s.boot ∷ s.last)) ++ number 8 s.height) ++ counted (number 8) s.state) (counted weighed s.nodes) h

start_says : (s : Start) → IsSizedStart s → length s.state ≤ 4096 → length s.nodes ≤ 4096 → IsBytes (start s) → IsPayload (1 ∷ start s) → say (start_words s) (1 ∷ start s) ≡ true
unfolding payload_of
start_says s is fs fn fits small =
    let worded = start_worded s is fs fn (last_bytes s fits) (nodes_bytes s fits) in
    lone_says (codes "start") 1 (start_field []) (start_fields s) (start s) (refl, refl) (known (codes "start") (omega arith) refl refl refl) small (λ more. refl)
    (record { fills = record { again = worded.fills.again ∙ ap (λ (l : List ℕ). Ok (l, [])) (row s) }; clean = worded.clean })

-- ---- all events

-- a message without a field
bare_says : (name : Word) (tag : ℕ) (node : List ℕ) (request : ℕ) → IsOther name → IsClean name → IsSender node request → IsBytes (tag ∷ sender node request) → IsPayload (tag ∷ sender node request)
    → ((more : List Word) → payload_of [] (name ∷ more) ≡ tagged tag (sent [] none) more) → say (sent_words name node request []) (tag ∷ sender node request) ≡ true
bare_says name tag node request apart clean is fits small form =
    let same : tag ∷ (sender node request ++ []) ≡ tag ∷ sender node request = ap (λ (l : List ℕ). tag ∷ l) (append-nil (sender node request)) in
    subst (λ (l : List ℕ). say (sent_words name node request []) l ≡ true) same
    (sent_says name tag none node request [] [] apart clean is (subst IsBytes (sym same) fits) (subst IsPayload (sym same) small) form none_worded)

-- what stands behind a node and a request
behind_sender : (tag : ℕ) (node : List ℕ) (request : ℕ) (xs : List ℕ) → IsBytes (tag ∷ (sender node request ++ xs)) → IsBytes xs
behind_sender tag node request xs h = IsBytes-behind (sender node request) xs (behind_one tag (sender node request ++ xs) h)

told : (f : BlockForm) (e : Event) → IsInRange e → IsBytes (spelling e) → IsPayload (spelling e) → is_line e ≡ false → say (event_words f e) (spelling e) ≡ true
unfolding event_words spelling payload_of
told f (event.Start s) is fits small h = start_says s is.0 is.1.0 is.1.1 (behind_one 1 (start s) fits) small
told f (event.Block node request bytes) is fits small h =
    let own = IsBytes-behind (number 4 (length bytes)) bytes (behind_sender 2 node request (sized bytes) fits) in
    sent_says (codes "block") 2 _ node request _ (sized bytes) (refl, refl) (known (codes "block") (omega arith) refl refl refl) is.0 fits small (λ more. refl) (block_worded f bytes own)
told f (event.Poll ids) is fits small h =
    let few : length ids ≤ 1024 = is.1 in
    lone_says (codes "poll") 3 _ _ (counted (λ id. id) ids) (refl, refl) (known (codes "poll") (omega arith) refl refl refl) small (λ more. refl) (ids_worded ids (omega (arith, few)) is.0 (behind_one 3 (counted (λ id. id) ids) fits))
told f (event.Words words) is fits small h =
    lone_says (codes "words") 4 _ _ (counted (number 8) words) (refl, refl) (known (codes "words") (omega arith) refl refl refl) small (λ more. refl) (times_worded words is.1 is.0)
told f (event.Chits node request id) is fits small h =
    sent_says (codes "chits") 5 _ node request _ id (refl, refl) (known (codes "chits") (omega arith) refl refl refl) is.0.0 fits small (λ more. refl) (id_worded id is.0.1 (behind_sender 5 node request id fits))
told f (event.Timeout node request) is fits small h = bare_says (codes "timeout") 6 node request (refl, refl) (known (codes "timeout") (omega arith) refl refl refl) is.0 fits small (λ more. refl)
told f (event.Frontier node request id) is fits small h =
    sent_says (codes "frontier") 7 _ node request _ id (refl, refl) (known (codes "frontier") (omega arith) refl refl refl) is.0.0 fits small (λ more. refl) (id_worded id is.0.1 (behind_sender 7 node request id fits))
told f (event.Accepted node request ids) is fits small h =
    sent_says (codes "accepted") 8 _ node request _ (counted (λ id. id) ids) (refl, refl) (known (codes "accepted") (omega arith) refl refl refl) is.0.0 fits small (λ more. refl) (ids_worded ids is.1 is.0.1 (behind_sender 8 node request (counted (λ id. id) ids) fits))
told f (event.Ancestors node request blocks) is fits small h = ancestors_say f node request blocks is.1.0 is.0 fits small (behind_sender 9 node request (counted sized blocks) fits)
told f (event.Stored bytes) is fits small h =
    let own = IsBytes-behind (number 4 (length bytes)) bytes (behind_one 10 (sized bytes) fits) in
    lone_says (codes "stored") 10 _ _ (sized bytes) (refl, refl) (known (codes "stored") (omega arith) refl refl refl) small (λ more. refl) (block_worded f bytes own)
told f (event.Validators nodes) is fits small h =
    lone_says (codes "validators") 11 _ _ (counted weighed nodes) (refl, refl) (known (codes "validators") (omega arith) refl refl refl) small (λ more. refl) (nodes_worded nodes is.1 is.0 (behind_one 11 (counted weighed nodes) fits))
told f (event.AskQuery node request) is fits small h = bare_says (codes "ask-query") 12 node request (refl, refl) (known (codes "ask-query") (omega arith) refl refl refl) is.0 fits small (λ more. refl)
told f (event.AskFrontier node request) is fits small h = bare_says (codes "ask-frontier") 13 node request (refl, refl) (known (codes "ask-frontier") (omega arith) refl refl refl) is.0 fits small (λ more. refl)
told f (event.AskAccepted node request ids) is fits small h =
    sent_says (codes "ask-accepted") 14 _ node request _ (counted (λ id. id) ids) (refl, refl) (known (codes "ask-accepted") (omega arith) refl refl refl) is.0.0 fits small (λ more. refl) (ids_worded ids is.1 is.0.1 (behind_sender 14 node request (counted (λ id. id) ids) fits))
told f (event.AskAncestors node request id) is fits small h =
    sent_says (codes "ask-ancestors") 15 _ node request _ id (refl, refl) (known (codes "ask-ancestors") (omega arith) refl refl refl) is.0.0 fits small (λ more. refl) (id_worded id is.0.1 (behind_sender 15 node request id fits))
told f (event.AskBlock node request id) is fits small h =
    sent_says (codes "ask-block") 16 _ node request _ id (refl, refl) (known (codes "ask-block") (omega arith) refl refl refl) is.0.0 fits small (λ more. refl) (id_worded id is.0.1 (behind_sender 16 node request id fits))
told f (event.Line text) is fits small h = absurd cc

told_as : {E : Type 0} (f : BlockForm) (payload : List ℕ) (r : Result Event E) (e : Event) → r ≡ Ok e → say (event_words f e) payload ≡ true → line (words_as f payload r) ++ 10 ∷ [] ≡ line (event_words f e) ++ 10 ∷ []
told_as f payload r e h t = rw (h, t) refl

-- a frame that holds an event
pub own_words_shown : (f : BlockForm) (payload : List ℕ) (e : Event) → IsBytes payload → IsPayload payload → event_of payload ≡ Ok e → is_line e ≡ false → shown_frame f payload ≡ line (event_words f e) ++ 10 ∷ []
unfolding shown_frame
own_words_shown f payload e fits small read other =
    let taken = event_taken payload e fits read in
    let same : say (event_words f e) payload ≡ true =
    subst (λ (p : List ℕ). say (event_words f e) p ≡ true) (sym taken.1) (told f e taken.0 (subst IsBytes taken.1 fits) (subst IsPayload taken.1 small) other) in
    told_as f payload (event_of payload) e read same
