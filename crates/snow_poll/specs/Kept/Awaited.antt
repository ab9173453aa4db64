-- The nodes that a poll awaits, in classes.
use Rattle.std.specs.Prelude.{◌≡◌, ℕ, ◌+◌, ◌-◌, ◌*◌, ◌/◌, ◌%◌, ◌^◌, ◌<◌, ◌≤◌, true, false, List, length, map, fold, bytes_eq, bit_and, bit_xor, slice_index_or, Option, Some, None, if◌then◌else◌}
use Rattle.std.specs.BTreeMap.{BTreeMap, get}
use Rattle.std.specs.Cmp.Lexicographic.{slice_cmp}
use Rattle.std.specs.Option.{unwrap_or}
use Rattle.std.specs.Ordering.{nat_cmp}
use Rattle.snow_base.specs.Model.Identifier.{word_at}
use Rattle.snow_sample.specs.declared.draws.Draw.{Draw}
use Rattle.snow_sample.specs.Kept.Chains.{AreChained}
use Rattle.snow_poll.specs.declared.awaited.Wait.{Wait}

-- the draw of an entry
abbrev pub draw_of : Wait → Draw
draw_of w = record { node = w.node; count = w.count }

-- how often an entry's node was drawn, and none once it has replied
abbrev pub count_left : Wait → Option ℕ
count_left w = if w.replied then None else Some w.count

-- how often a node was drawn that is awaited: its last entry counts
abbrev pub counts_at : List Wait → List ℕ → Option ℕ
counts_at waits node = fold (λ found w. if bytes_eq w.node node then count_left w else found) None waits

-- the sum of a node's first eight bytes and its last eight, spread by a product
unfoldable pub spread_of : List ℕ → ℕ
spread_of node = (word_at 0 node + word_at 12 node) % 2 ^ 64 * 11400714819323198485 % 2 ^ 64

-- the class of a node, by the highest bits of its spread bytes
abbrev pub class_of : ℕ → List ℕ → ℕ
class_of mask node = bit_and (bit_xor (spread_of node / 2 ^ 48) (spread_of node / 2 ^ 54)) mask

-- the entries tell their nodes' classes, of which there is one more than the mask, and are chained in these
pub record AreWaits (mask : ℕ) (waits : List Wait) (lasts : List ℕ) : Type 0 where
  pub classes : length lasts ≡ mask + 1
  pub small : mask < 65536
  pub told : map (λ w. w.class) waits ≡ map (λ w. class_of mask w.node) waits
  pub chained : AreChained (map (λ w. class_of mask w.node) waits) (map (λ w. w.before) waits) lasts

-- the number of a node's last entry, from 1; 0 where it has none
pub record IsNumberOf (waits : List Wait) (node : List ℕ) (number : ℕ) : Type 0 where
  pub within : number ≤ length waits
  pub here : (d : Wait) → 0 < number → bytes_eq (slice_index_or waits (number - 1) d).node node ≡ true
  pub later : (k : ℕ) (d : Wait) → number ≤ k → k < length waits → bytes_eq (slice_index_or waits k d).node node ≡ false

-- the number that a map has for a node; 0 where it has none
abbrev pub number_in : BTreeMap (List ℕ) ℕ → List ℕ → ℕ
number_in numbers node = unwrap_or (get (slice_cmp nat_cmp) numbers node) 0

-- the map has the number of each node
abbrev pub AreNumbers : List Wait → BTreeMap (List ℕ) ℕ → Type 0
AreNumbers waits numbers = (node : List ℕ) → IsNumberOf waits node (number_in numbers node)
