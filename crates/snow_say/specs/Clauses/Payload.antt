-- Payloads of frames, as words say them.
use Rattle.std.specs.Prelude.{◌≡◌, ℕ, ◌-◌, ◌≤◌, List, ◌∷◌, length, drop, codes, Result, Ok, Err}
use Rattle.std.specs.List.{flat_map}
use Rattle.snow_text_model.specs.declared.refusal.Reason.{Reason}
use Rattle.snow_text_model.specs.Model.Words.{Word, Halt, Field, ◌&◌, all_of, parts, spaced}
use Rattle.snow_text_model.specs.Model.Names.{Names}
use Rattle.snow_text_model.specs.Model.Bytes.{item_word, number_word}
use Rattle.snow_text_model.specs.Model.Events.{if_some, in_words, listed_block, named}
use Rattle.snow_words.specs.declared.items.Item.TheVariants as item
use Rattle.snow_words.specs.Clauses.Listing.{items_of}

-- what the value of a field says, as view sees it
abbrev pub valued : {X : Type 0} → (X → Word) → (Word → Result (List ℕ) Reason) → Result X Reason → Result (List ℕ) Reason
valued view of (Ok x) = of (view x)
valued view of (Err why) = Err why

-- words, each behind a space
abbrev pub trailed : List Word → List ℕ
trailed words = flat_map (λ word. 32 ∷ word) words

-- what a part tells, at which a text begins
abbrev pub at_text : List ℕ → Result (List (List ℕ)) Reason → Result (List (List ℕ)) Halt
at_text rest (Ok items) = Ok items
at_text rest (Err why) = Err (record { why = why; left = length (spaced rest) })

-- the blocks of a text, of which a rest is left
abbrev pub walked : Names → List ℕ → List ℕ → Result (List (List ℕ)) Halt
walked names text rest = in_words (parts 44 text) (all_of (listed_block names) (parts 44 rest))

-- a rest of a text, from a part on
pub record IsBehind (text rest : List ℕ) : Type 0 where
  pub few : length (parts 44 rest) ≤ length (parts 44 text)
  pub is : drop (length (parts 44 text) - length (parts 44 rest)) (parts 44 text) ≡ parts 44 rest

-- the lists of a Start
abbrev pub lists_field : Names → Field
lists_field names = if_some (codes "state") (items_of names item.Number) & if_some (codes "nodes") (items_of names item.Node)

-- the fields of a Start behind the first four
abbrev pub starts_field : Names → Field
starts_field names =
    named (codes "repolls") (number_word 4)
    & named (codes "boot") (number_word 1)
    & named (codes "last") (item_word names 32)
    & named (codes "height") (number_word 8)
    & lists_field names
