-- How open gets are kept: by number, and by identifier.
use Rattle.std.specs.Prelude.{◌≡◌, ℕ, Bool, false, List, [], ◌∷◌, Option, Some, None, is_some, bytes_eq}
use Rattle.std.specs.List.{list_any}
use Rattle.snow_map.specs.Clauses.Entries.{value_of}
use Rattle.snow_gets.specs.declared.get_map.Asked.{Asked}
use Rattle.snow_gets.specs.declared.gets.Get.{Get}
use Rattle.snow_gets.specs.Model.Gets.{asked_in}

-- no identifier is that of two items
abbrev pub AreNamedApart : {T : Type 0} → (T → List ℕ) → List T → Type 0
AreNamedApart name [] = Unit {0}
AreNamedApart name (x ∷ items) = (list_any (λ y. bytes_eq (name y) (name x)) items ≡ false) × AreNamedApart name items

-- the gets of a map by number
abbrev pub get_of : ℕ × Asked → Get
get_of e = record { number = e.0; node = e.1.node; id = e.1.id }

-- whether a map has an identifier
abbrev pub has : List (List ℕ × Unit {0}) → List ℕ → Bool
has ids id = is_some (value_of ids id)

-- a map has the identifier of each get, and no block is asked for twice
pub record HasAsked (has : List ℕ → Bool) (gets : List Get) : Type 0 where
  pub known : (id : List ℕ) → has id ≡ asked_in gets id
  pub apart : AreNamedApart (λ g. g.id) gets

-- where a get stands apart there is no other
abbrev pub StandsAlone : Option Get → List Get → Type 0
StandsAlone None others = Unit {0}
StandsAlone (Some get) others = others ≡ []
