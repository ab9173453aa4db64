-- Payloads of frames.
use Rattle.std.proofs.Common.{◌≡◌, ℕ, ◌+◌, ◌<◌, List, [], ◌∷◌, ◌++◌, length, drop, find, Some, None, Result, Ok, Err, refl, sym, ap, ◌∙◌, append_assoc, arith}
use Rattle.std.specs.Str.{bytes_eq}
use Rattle.snow_text_model.specs.declared.refusal.Reason.TheVariants as reason
use Rattle.snow_say.specs.declared.form.Form.{Form}
use Rattle.snow_words.specs.declared.items.Item.TheVariants as item
use Rattle.snow_text_model.specs.Model.Words.{Word, Halt, Field, ◌>>=◌, ended, one}
use Rattle.snow_text_model.specs.Model.Names.{Names}
use Rattle.snow_text_model.specs.Model.Events.{first_word, forms, nodes_field, payload_of, say, tagged}
use Rattle.snow_words.specs.Clauses.Making.{Reads, Tells, ahead, onto}
use Rattle.snow_words.specs.declared.stop.Why.{Why}
use Rattle.snow_words.specs.Clauses.Cutting.{stopping}
use Rattle.snow_say.specs.Clauses.Forms.{form_in, form_or}
use Rattle.snow_words.specs.Clauses.Listing.{items_of, list_of}
use Rattle.snow_words.proofs.Appended.{one_none, one_told, unerr}
use Rattle.snow_say.proofs.Sized.{no_count}

-- ---- tags

tag_more : (tag : ℕ) (old new : List ℕ) (r : Result (List ℕ) Halt) → onto (old ++ tag ∷ []) r ≡ Ok new → onto old (r >>= (λ bytes. Ok (tag ∷ bytes))) ≡ Ok new
tag_more tag old new (Ok x) h = sym (ap Ok (append_assoc old (tag ∷ []) x)) ∙ h
tag_more tag old new (Err e) h = cc h

tag_not : (tag : ℕ) (old front : List ℕ) (r : Result (List ℕ) Halt) (halt : Halt) → onto front r ≡ Err halt → onto old (r >>= (λ bytes. Ok (tag ∷ bytes))) ≡ Err halt
tag_not tag old front (Ok x) halt h = cc h
tag_not tag old front (Err e) halt h = ap Err (unerr e halt h)

pub tagged_more : (tag : ℕ) (a : Field) (old new : List ℕ) (words : List Word) → onto (old ++ tag ∷ []) (ended a words) ≡ Ok new → onto old (tagged tag a words) ≡ Ok new
unfolding tagged
tagged_more tag a old new words h = tag_more tag old new (ended a words) h

pub tagged_not : (tag : ℕ) (a : Field) (old : List ℕ) (words : List Word) (halt : Halt) → onto (old ++ tag ∷ []) (ended a words) ≡ Err halt → onto old (tagged tag a words) ≡ Err halt
unfolding tagged
tagged_not tag a old words halt h = tag_not tag old (old ++ tag ∷ []) (ended a words) halt h

-- what a tag wants
pub ruleset tagging = (tagged_more, tagged_not)

-- ---- forms

-- the form was found
pub said_as : (names : Names) (words : List Word) (form : Form)
    → say (find (λ f. bytes_eq f.0 (first_word words)) (forms names)) words ≡ form_or names (Some form) words (say None words) → payload_of names words ≡ form_in names form (drop 1 words)
unfolding payload_of
said_as names words form h = h

-- or there is none
pub said_by : (names : Names) (words : List Word)
    → say (find (λ f. bytes_eq f.0 (first_word words)) (forms names)) words ≡ form_or names None words (say None words) → payload_of names words ≡ Err (record { why = reason.Name; left = length words })
unfolding payload_of
said_by names words h = h

-- ---- nodes

pub no_nodes : (names : Names) (ws : List Word) → ws ≡ [] → nodes_field names ws ≡ Ok (0 ∷ 0 ∷ [], [])
unfolding nodes_field
no_nodes names ws e = rw e (ap (λ l. Ok (l, [])) no_count)

pub some_nodes : (names : Names) (ws : List Word) → 0 < length ws → nodes_field names ws ≡ one (list_of names item.Node) ws
unfolding nodes_field items_of
some_nodes names [] h = absurd (omega (arith, h))
some_nodes names (w ∷ more) h = refl

-- nodes in a word
pub nodes_told : (names : Names) (old new : List ℕ) (words : List Word) (word : Word) (more : List Word) (told : Result (Unit {0}) Why) → words ≡ word ∷ more → Tells told new (onto old (list_of names item.Node word))
    → Reads (stopping told (length more + 1)) (new, more) (ahead old (one (list_of names item.Node) words))
nodes_told names old new words word more told e h = one_told (list_of names item.Node) old new words word more told e h

pub nodes_none : (names : Names) (old : List ℕ) (words : List Word) → words ≡ [] → ahead old (one (list_of names item.Node) words) ≡ Err (record { why = reason.Missing; left = 0 })
nodes_none names old words e = one_none (list_of names item.Node) old words e
