-- What is kept while a sample is drawn: the units that were moved, and where each node's draws are counted.
use Rattle.std.specs.Prelude.{◌≡◌, ℕ, zero, suc, ◌+◌, ◌<◌, ◌≤◌, Bool, false, List, [], ◌∷◌, length, map, fold, bit_and, Option, Some, None, ◌==◌, slice_get, slice_index, slice_index_or, nat_lt, if◌then◌else◌}
use Rattle.std.specs.BTreeMap.{BTreeMap, get}
use Rattle.std.specs.Option.{option_map, option_map_or, unwrap_or}
use Rattle.std.specs.Ordering.{nat_cmp}
use Rattle.std.specs.Str.{bytes_eq}
use Rattle.snow_sample.specs.Kept.Chains.{AreChained}
use Rattle.snow_sample.specs.declared.draws.Draw.{Draw}
use Rattle.snow_sample.specs.declared.roster.Node.{Node}
use Rattle.snow_sample.specs.declared.shuffle.Move.{Move}

-- the unit at a position after some moves, where this one stood there first
abbrev pub moved_to : ℕ → ℕ → List Move → ℕ
moved_to position first moves = fold (λ unit m. if m.place == position then m.unit else unit) first moves

-- the unit at a position behind the list: the one that was moved there later, as the map has it, else the last of these moves, else its own
abbrev pub far_at : List Move → BTreeMap ℕ ℕ → ℕ → ℕ
far_at moves later position = unwrap_or (get nat_cmp later position) (moved_to position position moves)

-- the unit at a position: as the list has it, which has the first positions
abbrev pub unit_at : List ℕ → List Move → BTreeMap ℕ ℕ → ℕ → ℕ
unit_at near moves later position = if nat_lt position (length near) then slice_index near position else far_at moves later position

-- the class of a position: its low bits
abbrev pub class_of : ℕ → ℕ → ℕ
class_of mask position = bit_and position mask

-- the classes of the positions that units were moved to
abbrev pub classes_of : ℕ → List Move → List ℕ
classes_of mask moves = map (λ m. class_of mask m.place) moves

-- the moves are chained in the classes of their positions, of which there is one more than the mask
pub record AreMoves (mask : ℕ) (moves : List Move) (lasts : List ℕ) : Type 0 where
  pub classes : length lasts ≡ mask + 1
  pub chained : AreChained (classes_of mask moves) (map (λ m. m.before) moves) lasts

-- at which place a node's draws are counted
abbrev pub place : List Draw → List ℕ → Option ℕ
place [] node = None
place (d ∷ draws) node = if bytes_eq d.node node then Some 0 else option_map suc (place draws node)

-- one draw more at a place
abbrev pub one_more : List Draw → ℕ → List Draw
one_more [] place = []
one_more (d ∷ draws) zero = record { node = d.node; count = d.count + 1 } ∷ draws
one_more (d ∷ draws) (suc place) = d ∷ one_more draws place

-- whether a draw of a node stands at a place
abbrev pub is_at : List Draw → ℕ → List ℕ → Bool
is_at draws at node = option_map_or (λ d. bytes_eq d.node node) (slice_get draws at) false

-- each node has a slot: for a node that was drawn, the place of its draws; for any other, any number
pub record HasSlots (nodes : List Node) (slots : List ℕ) (draws : List Draw) : Type 0 where
  pub each : length nodes ≤ length slots
  pub places : (i at : ℕ) (n : Node) → i < length nodes → place draws (slice_index_or nodes i n).id ≡ Some at → slice_index slots i ≡ at
