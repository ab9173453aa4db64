-- A list of identifiers, and a map of their places.
use Rattle.std.specs.Prelude.{◌≡◌, ℕ, List, bytes_eq}
use Rattle.std.specs.List.{IsDistinct, position}
use Rattle.snow_map.specs.Clauses.Entries.{value_of}

-- no identifier stands twice, and the map has the place of each and no more
pub record IsListed (ids : List (List ℕ)) (places : List (List ℕ × ℕ)) : Type 0 where
  pub unique : IsDistinct bytes_eq ids
  pub placed : (id : List ℕ) → value_of places id ≡ position (bytes_eq id) ids
