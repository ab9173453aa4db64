-- The words of a line, and what is read from the front of them.
use Rattle.std.specs.Prelude.{ℕ, ◌+◌, ◌-◌, Bool, ◌==◌, nat_lt, if◌then◌else◌, List, [], ◌∷◌, ◌++◌, length, Result, Ok, Err}
use Rattle.std.specs.List.{filter, slice_split}
use Rattle.snow_text_model.specs.declared.refusal.Reason.{Reason}
use Rattle.snow_text_model.specs.declared.refusal.Reason.TheVariants as reason

abbrev pub Word : Type 0
Word = List ℕ

-- the parts of a text between bytes c
abbrev pub parts : ℕ → List ℕ → List (List ℕ)
parts c text = slice_split (λ b. b == c) text

-- the front of a line that isn't for people alone: up to the first `#`
unfoldable pub said : List ℕ → List ℕ
said [] = []
said (c ∷ cs) = if c == 35 then [] else c ∷ said cs

-- a part that isn't empty
abbrev pub is_word : List ℕ → Bool
is_word part = nat_lt 0 (length part)

-- the parts between spaces that aren't empty
unfoldable pub spaced : List ℕ → List Word
spaced text = filter is_word (parts 32 text)

-- the words of a line
unfoldable pub words_of : List ℕ → List Word
words_of line = spaced (said line)

-- the column of the word behind k others, where these parts begin at a column
unfoldable pub column_of : ℕ → ℕ → List (List ℕ) → ℕ
column_of k column [] = column
column_of k column (part ∷ more) =
    if is_word part
    then (if k == 0 then column else column_of (k - 1) (column + length part + 1) more)
    else column_of k (column + 1) more

-- why a line isn't taken, and how many words are left there
pub record Halt : Type 0 where
  pub why : Reason
  pub left : ℕ

-- goes on with what was read
infixl 10 ◌>>=◌
abbrev pub ◌>>=◌ : {A B E : Type 0} → Result A E → (A → Result B E) → Result B E
(Ok x) >>= f = f x
(Err e) >>= f = Err e

-- x where a test holds
abbrev pub where_holds : {A : Type 0} → Bool → A → Reason → Result A Reason
where_holds test x why = if test then Ok x else Err why

-- what was read of the first of these words
abbrev pub at : {A : Type 0} → List Word → Result A Reason → Result A Halt
at words (Ok x) = Ok x
at words (Err why) = Err (record { why = why; left = length words })

-- what each part says, in a row
unfoldable pub each : {A : Type 0} → (Word → Result (List A) Reason) → List Word → Result (List A) Reason
each of [] = Ok []
each of (part ∷ more) = do
  x ← of part
  xs ← each of more
  Ok (x ++ xs)

-- what each word says, in a row
unfoldable pub all_of : {A : Type 0} → (Word → Result (List A) Reason) → List Word → Result (List A) Halt
all_of of [] = Ok []
all_of of (word ∷ more) = do
  x ← at (word ∷ more) (of word)
  xs ← all_of of more
  Ok (x ++ xs)

-- ---- fields

-- a field gives the bytes that the words in front say, and the words behind them
abbrev pub Field : Type 0
Field = List Word → Result (List ℕ × List Word) Halt

-- one word
unfoldable pub one : (Word → Result (List ℕ) Reason) → Field
one of [] = at [] (Err reason.Missing)
one of (word ∷ more) = do
  x ← at (word ∷ more) (of word)
  Ok (x, more)

-- all words that are left
unfoldable pub all : (List Word → Result (List ℕ) Halt) → Field
all of words = do
  x ← of words
  Ok (x, [])

-- a field, and another behind it
infixr 20 ◌&◌
unfoldable pub ◌&◌ : Field → Field → Field
(a & b) words = do
  x ← a words
  y ← b x.1
  Ok (x.0 ++ y.0, y.1)

-- the bytes that a field says, where no words are left
unfoldable pub ended : Field → List Word → Result (List ℕ) Halt
ended field words = do
  x ← field words
  if length x.1 == 0 then Ok x.0 else at x.1 (Err reason.Extra)
