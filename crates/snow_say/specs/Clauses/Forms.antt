-- The lines that say a frame, by their first words.
use Rattle.std.specs.Prelude.{ℕ, List, ◌∷◌, drop, codes, Option, Some, None, Result}
use Rattle.snow_say.specs.declared.form.Content.{Content}
use Rattle.snow_say.specs.declared.form.Content.TheVariants as content
use Rattle.snow_say.specs.declared.form.Form.{Form}
use Rattle.snow_say.specs.declared.form.Form.TheVariants as form
use Rattle.snow_words.specs.declared.items.Item.TheVariants as item
use Rattle.snow_words.specs.Clauses.Listing.{items_of}
use Rattle.snow_text_model.specs.Model.Words.{Word, Halt, Field, all}
use Rattle.snow_text_model.specs.Model.Names.{Names}
use Rattle.snow_text_model.specs.Model.Bytes.{bytes_of}
use Rattle.snow_text_model.specs.Model.Events.{blocks_of, id_field, ids_word, list_field, nodes_field, none, sent, sized_block, start_field, tagged, text_of, times_word}

-- identifiers, a block, or blocks, which all words say
unfoldable pub ids_field : Names → Field
ids_field names = list_field (items_of names item.Id)

unfoldable pub block_field : Names → Field
block_field names = all (sized_block names)

unfoldable pub blocks_field : Names → Field
blocks_field names = all (blocks_of names)

-- the field of a content
unfoldable pub field_of : Names → Content → Field
field_of names content.Nothing = none
field_of names content.Id = id_field names
field_of names content.Ids = ids_field names
field_of names content.Numbers = list_field (items_of names item.Number)
field_of names content.Block = block_field names
field_of names content.Blocks = blocks_field names
field_of names content.Nodes = nodes_field names
field_of names content.Start = start_field names

-- what words say in a form
abbrev pub form_in : Names → Form → List Word → Result (List ℕ) Halt
form_in names (form.Plain tag content) words = tagged tag (field_of names content) words
form_in names (form.Sent tag content) words = tagged tag (sent names (field_of names content)) words
form_in names form.Line words = text_of names words
form_in names form.Frame words = bytes_of names words

-- what words say in a form that was found, or else
abbrev pub form_or : Names → Option Form → List Word → Result (List ℕ) Halt → Result (List ℕ) Halt
form_or names (Some form) words other = form_in names form (drop 1 words)
form_or names None words other = other

abbrev pub Entry : Type 0
Entry = Word × (List Word → Result (List ℕ) Halt)

-- the forms, in three parts
abbrev pub first_forms : Names → List Entry → List Entry
first_forms names more =
    (codes "start", tagged 1 (start_field names))
    ∷ (codes "block", tagged 2 (sent names (all (sized_block names))))
    ∷ (codes "poll", tagged 3 (list_field (ids_word names)))
    ∷ (codes "words", tagged 4 (list_field times_word))
    ∷ (codes "chits", tagged 5 (sent names (id_field names)))
    ∷ (codes "timeout", tagged 6 (sent names none))
    ∷ more

abbrev pub second_forms : Names → List Entry → List Entry
second_forms names more =
    (codes "frontier", tagged 7 (sent names (id_field names)))
    ∷ (codes "accepted", tagged 8 (sent names (list_field (ids_word names))))
    ∷ (codes "ancestors", tagged 9 (sent names (all (blocks_of names))))
    ∷ (codes "stored", tagged 10 (all (sized_block names)))
    ∷ (codes "validators", tagged 11 (nodes_field names))
    ∷ (codes "ask-query", tagged 12 (sent names none))
    ∷ more

abbrev pub third_forms : Names → List Entry → List Entry
third_forms names more =
    (codes "ask-frontier", tagged 13 (sent names none))
    ∷ (codes "ask-accepted", tagged 14 (sent names (list_field (ids_word names))))
    ∷ (codes "ask-ancestors", tagged 15 (sent names (id_field names)))
    ∷ (codes "ask-block", tagged 16 (sent names (id_field names)))
    ∷ (codes ">", text_of names)
    ∷ (codes "frame", bytes_of names)
    ∷ more
