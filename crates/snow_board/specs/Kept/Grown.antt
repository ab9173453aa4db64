-- Lists of blocks to which each came after its parent.
use Rattle.std.specs.Prelude.{◌≡◌, ℕ, Bool, true, false, ◌||◌, List, [], ◌∷◌, bytes_eq}
use Rattle.std.specs.List.{list_any}
use Rattle.snow_base.specs.declared.block.Header.{Header}

-- whether some block has this identifier
abbrev pub has_block : List Header → List ℕ → Bool
has_block blocks id = list_any (λ b. bytes_eq b.id id) blocks

-- whether a block is the last accepted one or among the others
abbrev pub is_on : List ℕ → List Header → List ℕ → Bool
is_on last blocks id = bytes_eq last id || has_block blocks id

-- blocks, the latest first: each had a new identifier when it came, and its parent was there
pub data IsGrown (last : List ℕ) : List Header → Type 0 where
  Bare : IsGrown last []
  Grew : (b : Header) (earlier : List Header) → is_on last earlier b.id ≡ false → is_on last earlier b.parent ≡ true
      → IsGrown last earlier → IsGrown last (b ∷ earlier)
