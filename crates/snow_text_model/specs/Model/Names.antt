-- Blocks that a text gives a name: `$NAME` is a block's bytes, or its identifier.
use Rattle.std.specs.Prelude.{ℕ, Bool, false, ◌&&◌, ◌||◌, ◌==◌, nat_le, List, [], ◌∷◌, drop, Option, Some, None, Result, Ok, Err}
use Rattle.std.specs.List.{find, list_all}
use Rattle.std.specs.Str.{bytes_eq}
use Rattle.snow_text_model.specs.declared.refusal.Reason.{Reason}
use Rattle.snow_text_model.specs.declared.refusal.Reason.TheVariants as reason
use Rattle.snow_text_model.specs.Model.Words.{Word}

-- a block that has a name
pub record Named : Type 0 where
  pub name : Word
  pub bytes : List ℕ
  pub identifier : List ℕ

abbrev pub Names : Type 0
Names = List Named

-- a word begins with `$`
abbrev pub is_call : Word → Bool
is_call [] = false
is_call (c ∷ cs) = c == 36

-- what is wanted of a block that was found
abbrev pub of_found : (Named → List ℕ) → Option Named → Result (List ℕ) Reason
of_found wanted (Some found) = Ok (wanted found)
of_found wanted None = Err reason.Unknown

-- what is wanted of the block that a word calls
unfoldable pub called : (Named → List ℕ) → Names → Word → Result (List ℕ) Reason
called wanted names word = of_found wanted (find (λ n. bytes_eq n.name (drop 1 word)) names)

abbrev pub is_letter : ℕ → Bool
is_letter c = nat_le 97 c && nat_le c 122

-- a small letter, and then small letters, digits and `-`
abbrev pub is_name : Word → Bool
is_name [] = false
is_name (c ∷ cs) = is_letter c && list_all (λ d. is_letter d || (nat_le 48 d && nat_le d 57) || d == 45) cs
