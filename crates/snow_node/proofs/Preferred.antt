-- The preference is on the way to itself.
use Rattle.std.proofs.Common.{◌≡◌, ℕ, true, false, List, [], ◌∷◌, bytes_eq}
use Rattle.std.proofs.lemmas.Bool.{or_left, or_right}
use Rattle.std.specs.List.{list_any}
use Rattle.snow_flake.specs.Model.Rule.{Answer}
use Rattle.snow_board.specs.Model.Board.{Board}
use Rattle.snow_board.specs.Model.Preference.{end_of, preferred, preferred_path, is_preferred}

-- the last block of a path is on it
end_is_on : (id : List ℕ) (path : List (List ℕ)) (other : List ℕ) → bytes_eq (end_of id path) other ≡ true → list_any (λ block. bytes_eq block other) (id ∷ path) ≡ true
end_is_on id [] other e = or_left (bytes_eq id other) false e
end_is_on id (next ∷ path) other e =
    or_right (bytes_eq id other) (list_any (λ block. bytes_eq block other) (next ∷ path)) (end_is_on next path other e)

-- the preference is on the path to it
pub preference_leads : (answer : Answer) (board : Board) (id : List ℕ) → bytes_eq (preferred answer board) id ≡ true → is_preferred answer board id ≡ true
preference_leads answer board id e = end_is_on board.last (preferred_path answer board) id e
