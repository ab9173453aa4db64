-- Open gets, and what they say of a number and of an identifier.
use Rattle.std.specs.Prelude.{ℕ, Bool, ◌&&◌, ◌==◌, List, [], ◌∷◌, bytes_eq, nat_lt, if◌then◌else◌}
use Rattle.std.specs.List.{list_any, remove, position_or_len}
use Rattle.snow_gets.specs.declared.gets.Get.{Get}

-- whether a block is asked for
abbrev pub asked_in : List Get → List ℕ → Bool
asked_in gets id = list_any (λ g. bytes_eq g.id id) gets

-- whether a get with this number is open
abbrev pub has_number : List Get → ℕ → Bool
has_number gets number = list_any (λ g. g.number == number) gets

-- whether this is the get of that number and node
abbrev pub is_get : ℕ → List ℕ → Get → Bool
is_get number node g = (g.number == number) && bytes_eq g.node node

-- the open gets with one more, in order of number
abbrev pub with_get : List Get → Get → List Get
with_get [] get = get ∷ []
with_get (g ∷ gets) get = if nat_lt get.number g.number then get ∷ g ∷ gets else g ∷ with_get gets get

-- the list without the first item that passes
abbrev pub without : {T : Type 0} → (T → Bool) → List T → List T
without test items = remove items (position_or_len test items)
