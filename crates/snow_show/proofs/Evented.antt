-- The lines of events, put one word behind another.
use Rattle.std.proofs.Common.{◌≡◌, ℕ, ◌<◌, Bool, true, false, List, [], ◌∷◌, ◌++◌, length, map, codes, decimal, refl, sym, ap, ◌∙◌, append_assoc, append-nil, arith}
use Rattle.snow_wire.specs.declared.event.Start.{Start}
use Rattle.snow_wire.specs.Model.Spelling.{flag}
use Rattle.snow_wire.specs.Clauses.Spelled.{weighed_in}
use Rattle.snow_text_model.specs.declared.block_form.BlockForm.{BlockForm}
use Rattle.snow_text_model.specs.declared.block_form.BlockForm.TheVariants as form
use Rattle.snow_text_model.specs.Model.Words.{Word}
use Rattle.snow_text_model.specs.Model.Bytes.{fixed_text}
use Rattle.snow_text_model.specs.Model.Blocks.{block_line, block_words, words_if, words_in, is_block}
use Rattle.snow_text_model.specs.Model.Events.{block_of}
use Rattle.snow_text_model.specs.Model.Shown.{field, line, sent_words, some_field, some_word, start_words, times_texts, weighed_text}
use Rattle.snow_show.specs.Kept.Listing.{first_numbers, last_fields, led, more_fields, sender_text}
use Rattle.snow_show.proofs.Itemed.{field_led, joined_led, line_led, listed_led}

-- ---- messages

pub sent_line : (name node : List ℕ) (request : ℕ) (ws : List Word) → sender_text name node request ++ led (32 ∷ []) (32 ∷ []) ws ≡ line (sent_words name node request ws)
unfolding led
sent_line name node request ws =
    append_assoc name ((32 ∷ fixed_text node) ++ (32 ∷ decimal request)) (led (32 ∷ []) (32 ∷ []) ws)
    ∙ ap (λ (l : List ℕ). name ++ l) (append_assoc (32 ∷ fixed_text node) (32 ∷ decimal request) (led (32 ∷ []) (32 ∷ []) ws))
    ∙ sym (line_led name (fixed_text node ∷ decimal request ∷ ws))

pub sent_none : (name node : List ℕ) (request : ℕ) → sender_text name node request ≡ line (sent_words name node request [])
unfolding led
sent_none name node request = sym (append-nil (sender_text name node request)) ∙ sent_line name node request []

pub sent_one : (name node : List ℕ) (request : ℕ) (word : Word) → sender_text name node request ++ 32 ∷ word ≡ line (sent_words name node request (word ∷ []))
unfolding led
sent_one name node request word = ap (λ (l : List ℕ). sender_text name node request ++ 32 ∷ l) (sym (append-nil word)) ∙ sent_line name node request (word ∷ [])

pub sent_some : (name node : List ℕ) (request : ℕ) (ws : List Word) → sender_text name node request ++ led (32 ∷ []) (44 ∷ []) ws ≡ line (sent_words name node request (some_word ws))
sent_some name node request ws = ap (λ (l : List ℕ). sender_text name node request ++ l) (sym (listed_led (32 ∷ []) ws)) ∙ sent_line name node request (some_word ws)

-- ---- blocks

pub led_some : (ws : List Word) → 0 < length ws → led (32 ∷ []) (32 ∷ []) ws ≡ 32 ∷ line ws
unfolding led
led_some [] h = absurd (omega (arith, h))
led_some (w ∷ ws) h = ap (λ (l : List ℕ). 32 ∷ l) (sym (joined_led 32 w ws))

words_some : (t : Bool) (ws : List Word) (bytes : List ℕ) → 0 < length ws → 0 < length (words_if t ws bytes)
words_some true ws bytes h = h
words_some false ws bytes h = omega arith

block_some : (f : BlockForm) (bytes : List ℕ) → 0 < length (block_words f bytes)
block_some form.Bytes bytes = omega arith
block_some form.Plain bytes = words_some (is_block bytes (block_of [] (words_in form.Plain bytes))) (words_in form.Plain bytes) bytes (omega arith)
block_some form.Tally bytes = words_some (is_block bytes (block_of [] (words_in form.Tally bytes))) (words_in form.Tally bytes) bytes (omega arith)
block_some form.Ledger bytes = words_some (is_block bytes (block_of [] (words_in form.Ledger bytes))) (words_in form.Ledger bytes) bytes (omega arith)

pub block_led : (f : BlockForm) (bytes : List ℕ) → 32 ∷ block_line f bytes ≡ led (32 ∷ []) (32 ∷ []) (block_words f bytes)
block_led f bytes = sym (led_some (block_words f bytes) (block_some f bytes))

-- ---- lists

pub nodes_same : (nodes : List (List ℕ)) → map (λ n. weighed_text (weighed_in n)) nodes ≡ map weighed_text (map weighed_in nodes)
nodes_same [] = refl
nodes_same (n ∷ nodes) = ap (λ (l : List Word). weighed_text (weighed_in n) ∷ l) (nodes_same nodes)

pub nodes_some : (name : Word) (nodes : List (List ℕ)) → name ++ led (32 ∷ []) (44 ∷ []) (map (λ n. weighed_text (weighed_in n)) nodes) ≡ line (name ∷ some_word (map weighed_text (map weighed_in nodes)))
nodes_some name nodes =
    ap (λ (l : List Word). name ++ led (32 ∷ []) (44 ∷ []) l) (nodes_same nodes) ∙ ap (λ (l : List ℕ). name ++ l) (sym (listed_led (32 ∷ []) (map weighed_text (map weighed_in nodes)))) ∙ sym (line_led name (some_word (map weighed_text (map weighed_in nodes))))

-- ---- a Start

lists_led : (s : Start) → led (32 ∷ []) (32 ∷ []) (some_field (codes "state") (times_texts s.state) ++ some_field (codes "nodes") (map weighed_text s.nodes))
    ≡ led (codes " state=") (44 ∷ []) (times_texts s.state) ++ led (codes " nodes=") (44 ∷ []) (map weighed_text s.nodes)
unfolding led
lists_led s =
    field_led (codes "state") (times_texts s.state) (some_field (codes "nodes") (map weighed_text s.nodes))
    ∙ ap (λ (l : List ℕ). led (codes " state=") (44 ∷ []) (times_texts s.state) ++ l)
    (ap (led (32 ∷ []) (32 ∷ [])) (sym (append-nil (some_field (codes "nodes") (map weighed_text s.nodes))))
    ∙ field_led (codes "nodes") (map weighed_text s.nodes) []
    ∙ append-nil (led (codes " nodes=") (44 ∷ []) (map weighed_text s.nodes)))

first_more : (s : Start) (more : List ℕ)
    → first_numbers s ++ more ≡ (codes "start k=" ++ decimal s.k) ++ ((codes " alpha-preference=" ++ decimal s.alpha_preference) ++ ((codes " alpha-confidence=" ++ decimal s.alpha_confidence) ++ ((codes " beta=" ++ decimal s.beta) ++ more)))
first_more s more =
    append_assoc (codes "start k=" ++ decimal s.k) ((codes " alpha-preference=" ++ decimal s.alpha_preference) ++ ((codes " alpha-confidence=" ++ decimal s.alpha_confidence) ++ (codes " beta=" ++ decimal s.beta))) more
    ∙ ap (λ (l : List ℕ). (codes "start k=" ++ decimal s.k) ++ l)
    (append_assoc (codes " alpha-preference=" ++ decimal s.alpha_preference) ((codes " alpha-confidence=" ++ decimal s.alpha_confidence) ++ (codes " beta=" ++ decimal s.beta)) more
    ∙ ap (λ (l : List ℕ). (codes " alpha-preference=" ++ decimal s.alpha_preference) ++ l) (append_assoc (codes " alpha-confidence=" ++ decimal s.alpha_confidence) (codes " beta=" ++ decimal s.beta) more))

more_more : (s : Start) (more : List ℕ) → more_fields s ++ more ≡ (codes " repolls=" ++ decimal s.repolls) ++ ((codes " boot=" ++ decimal (flag s.boot)) ++ ((codes " last=" ++ fixed_text s.last) ++ more))
more_more s more =
    append_assoc (codes " repolls=" ++ decimal s.repolls) ((codes " boot=" ++ decimal (flag s.boot)) ++ (codes " last=" ++ fixed_text s.last)) more
    ∙ ap (λ (l : List ℕ). (codes " repolls=" ++ decimal s.repolls) ++ l) (append_assoc (codes " boot=" ++ decimal (flag s.boot)) (codes " last=" ++ fixed_text s.last) more)

pub start_line : (s : Start) → first_numbers s ++ (more_fields s ++ last_fields s) ≡ line (start_words s)
unfolding led
start_line s =
    first_more s (more_fields s ++ last_fields s)
    ∙ ap (λ (l : List ℕ). (codes "start k=" ++ decimal s.k) ++ ((codes " alpha-preference=" ++ decimal s.alpha_preference) ++ ((codes " alpha-confidence=" ++ decimal s.alpha_confidence) ++ ((codes " beta=" ++ decimal s.beta) ++ l))))
    (more_more s (last_fields s))
    ∙ ap (λ (l : List ℕ). (codes "start k=" ++ decimal s.k) ++ ((codes " alpha-preference=" ++ decimal s.alpha_preference) ++ ((codes " alpha-confidence=" ++ decimal s.alpha_confidence) ++ ((codes " beta=" ++ decimal s.beta)
    ++ ((codes " repolls=" ++ decimal s.repolls) ++ ((codes " boot=" ++ decimal (flag s.boot)) ++ ((codes " last=" ++ fixed_text s.last) ++ ((codes " height=" ++ decimal s.height) ++ l))))))))
    (sym (lists_led s))
    ∙ sym (line_led (codes "start") (
    field (codes "k") (decimal s.k)
    ∷ field (codes "alpha-preference") (decimal s.alpha_preference)
    ∷ field (codes "alpha-confidence") (decimal s.alpha_confidence)
    ∷ field (codes "beta") (decimal s.beta)
    ∷ field (codes "repolls") (decimal s.repolls)
    ∷ field (codes "boot") (decimal (flag s.boot))
    ∷ field (codes "last") (fixed_text s.last)
    ∷ field (codes "height") (decimal s.height)
    ∷ (some_field (codes "state") (times_texts s.state) ++ some_field (codes "nodes") (map weighed_text s.nodes))))

-- ---- lists of blocks

pub blocks_next : (mark : List ℕ) (f : BlockForm) (blocks : List (List ℕ)) (block : List ℕ) (more : List (List ℕ)) → blocks ≡ block ∷ more
    → led mark (44 ∷ []) (map (block_line f) blocks) ≡ (mark ++ block_line f block) ++ led (44 ∷ []) (44 ∷ []) (map (block_line f) more)
unfolding led
blocks_next mark f blocks block more e =
    ap (λ (l : List (List ℕ)). led mark (44 ∷ []) (map (block_line f) l)) e ∙ sym (append_assoc mark (block_line f block) (led (44 ∷ []) (44 ∷ []) (map (block_line f) more)))

pub blocks_end : (mark : List ℕ) (f : BlockForm) (blocks : List (List ℕ)) → blocks ≡ [] → led mark (44 ∷ []) (map (block_line f) blocks) ≡ []
unfolding led
blocks_end mark f blocks e = ap (λ (l : List (List ℕ)). led mark (44 ∷ []) (map (block_line f) l)) e
