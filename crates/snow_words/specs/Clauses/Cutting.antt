-- A text cut at its first mark.
use Rattle.std.specs.Prelude.{◌≡◌, ℕ, ◌+◌, ◌<◌, List, [], ◌∷◌, length, take, drop, Option, Some, None, Result, Ok, Err}
use Rattle.snow_text_model.specs.declared.refusal.Reason.TheVariants as reason
use Rattle.snow_words.specs.declared.stop.Why.{Why}
use Rattle.snow_words.specs.declared.stop.Why.TheVariants as why
use Rattle.snow_words.specs.declared.stop.Stop.{Stop}
use Rattle.snow_words.specs.declared.stop.Stop.TheVariants as stop
use Rattle.snow_text_model.specs.Model.Words.{Word, parts}

-- the first word
abbrev pub first : List Word → Option Word
first [] = None
first (word ∷ more) = Some word

-- the first part ends at this place, or is all of the text
abbrev pub IsCut : ℕ → List ℕ → Option ℕ → Type 0
IsCut mark text None = parts mark text ≡ text ∷ []
IsCut mark text (Some at) = (at < length text) × (parts mark text ≡ take at text ∷ parts mark (drop (at + 1) text))

-- the first word was taken, as view sees it, or none is left
abbrev pub Takes : {X : Type 0} → (X → Word) → Result X Stop → List Word → List Word → Type 0
Takes view (Ok x) before now = before ≡ view x ∷ now
Takes view (Err stop.Memory) before now = ⊥
Takes view (Err (stop.At why left)) before now = (before ≡ []) × (why ≡ reason.Missing) × (left ≡ 0)

-- no word is left, or the first of them is refused
abbrev pub IsEnd : Result (Unit {0}) Stop → List Word → Type 0
IsEnd (Ok u) words = words ≡ []
IsEnd (Err stop.Memory) words = ⊥
IsEnd (Err (stop.At why left)) words = (0 < length words) × (why ≡ reason.Extra) × (left ≡ length words)

-- the stop at a word, where so many are left
abbrev pub stopped : Why → ℕ → Stop
stopped why.Memory left = stop.Memory
stopped (why.Not reason) left = stop.At reason left

-- what a word told, where so many are left
abbrev pub stopping : Result (Unit {0}) Why → ℕ → Result (Unit {0}) Stop
stopping (Ok u) left = Ok u
stopping (Err why) left = Err (stopped why left)

-- the first part, and what stands behind it
abbrev pub IsHalved : ℕ → List ℕ → Option (List ℕ × List ℕ) → Type 0
IsHalved mark text None = parts mark text ≡ text ∷ []
IsHalved mark text (Some both) = (length both.1 < length text) × (parts mark text ≡ both.0 ∷ parts mark both.1)
