-- Where each pending block stands: an index beside the list.
use Rattle.std.specs.Prelude.{◌≡◌, ℕ, ◌+◌, List, [], ◌∷◌, length, reverse, Option, Some, None, bytes_eq, if◌then◌else◌}
use Rattle.snow_base.specs.declared.block.Header.{Header}
use Rattle.snow_board.specs.Kept.Grown.{IsGrown}

-- the place of an identifier among blocks of which the first has this place
abbrev pub place_from : ℕ → List Header → List ℕ → Option ℕ
place_from n [] id = None
place_from n (b ∷ later) id = if bytes_eq b.id id then Some n else place_from (n + 1) later id

-- an index gives each block's place, and nothing for what is no block
abbrev pub ArePlaces : (List ℕ → Option ℕ) → List Header → Type 0
ArePlaces found blocks = (id : List ℕ) → found id ≡ place_from 0 blocks id

-- the blocks above the last accepted one, with an index that has as many entries
pub record IsIndexed (last : List ℕ) (found : List ℕ → Option ℕ) (size : ℕ) (blocks : List Header) : Type 0 where
  pub grown : IsGrown last (reverse blocks)
  pub places : ArePlaces found blocks
  pub entries : size ≡ length blocks
