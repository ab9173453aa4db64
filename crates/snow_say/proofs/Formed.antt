-- The forms of lines, found in three parts.
use Rattle.std.proofs.Common.{◌≡◌, List, [], ◌∷◌, Option, Some, find, sym, ap, ◌∙◌}
use Rattle.std.specs.Str.{bytes_eq}
use Rattle.snow_say.specs.declared.form.Form.{Form}
use Rattle.snow_text_model.specs.Model.Words.{Word}
use Rattle.snow_text_model.specs.Model.Names.{Names}
use Rattle.snow_text_model.specs.Model.Events.{first_word, forms, say}
use Rattle.snow_words.specs.Clauses.Cutting.{first}
use Rattle.snow_say.specs.Clauses.Forms.{Entry, first_forms, form_or, second_forms, third_forms}

-- a form is found among some, or else among those behind them
abbrev pub IsAmong : Word → (Names → List Entry → List Entry) → Option Form → Type 0
IsAmong word some found =
    (names : Names) (words : List Word) (more : List Entry)
    → say (find (λ form. bytes_eq form.0 word) (some names more)) words ≡ form_or names found words (say (find (λ form. bytes_eq form.0 word) more) words)

-- a form found in three parts
pub formed : (word : Word) (a b c : Option Form) → IsAmong word first_forms a → IsAmong word second_forms b → IsAmong word third_forms c → (names : Names) (words : List Word)
    → say (find (λ form. bytes_eq form.0 word) (forms names)) words ≡ form_or names a words (form_or names b words (form_or names c words (say (find (λ form. bytes_eq form.0 word) []) words)))
formed word a b c f g h names words =
    f names words (second_forms names (third_forms names []))
    ∙ ap (form_or names a words) (g names words (third_forms names []) ∙ ap (form_or names b words) (h names words []))

-- the first word
pub first_is : (ws : List Word) (word : Word) → Some word ≡ first ws → word ≡ first_word ws
first_is [] word f = cc f
first_is (w ∷ ws) word f = let same : w ≡ word = cc in sym same
