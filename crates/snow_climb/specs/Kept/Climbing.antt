-- Votes that climb the lines of their blocks, where those that meet go on as one.
use Rattle.std.specs.Prelude.{◌≡◌, ℕ, ◌+◌, ◌<◌, ◌≤◌, Bool, true, false, not, ◌&&◌, List, [], ◌∷◌, ◌++◌, length, map, filter, sum_by, slice_get, Option, None, Some, All, Contains, nat_lt, bytes_eq, if◌then◌else◌}
use Rattle.std.specs.Bool.{beq}
use Rattle.std.specs.List.{position, starts_with}
use Rattle.std.specs.Option.{option_map}
use Rattle.snow_base.specs.declared.block.Header.{Header}
use Rattle.snow_base.specs.declared.block.Vote.{Vote}
use Rattle.snow_base.specs.Model.Identifier.{bits}
use Rattle.snow_base.specs.Model.Ancestry.{is_below}
use Rattle.snow_board.specs.declared.cursor.Cursor.{Cursor}
use Rattle.snow_tree.specs.Kept.Held.{Entry, blocks_in, children_of, place_in}
use Rattle.snow_climb.specs.declared.climber.Climber.{Climber}

-- one more than a place; 0 for none
abbrev pub above : Option ℕ → ℕ
above None = 0
above (Some i) = i + 1

-- one more than the place of a block; 0 where it isn't among them
abbrev pub reach : List Header → List ℕ → ℕ
reach blocks id = above (position (λ b. bytes_eq b.id id) blocks)

-- what a block says of its parent and itself, where there is one
abbrev pub parent_in : Option Header → List ℕ
parent_in None = []
parent_in (Some b) = b.parent

abbrev pub id_in : Option Header → List ℕ
id_in None = []
id_in (Some b) = b.id

-- votes that climb: they passed the block at a place, and look for its parent
abbrev pub cursor_of : List Header → Climber → Cursor
cursor_of blocks c = record { sought = parent_in (slice_get blocks c.passed); passed = id_in (slice_get blocks c.passed); count = c.count }

abbrev pub cursors_of : List Header → List Climber → List Cursor
cursors_of blocks climbers = map (cursor_of blocks) climbers

-- how many votes there are in all
abbrev pub climber_total : List Climber → ℕ
climber_total climbers = sum_by (λ c. c.count) climbers

-- so many votes that passed the block at a place
abbrev pub passing : List Header → ℕ → ℕ → Climber
passing blocks at count = record { place = reach blocks (parent_in (slice_get blocks at)); passed = at; count = count }

-- a vote begins past its own block, and nowhere where that isn't pending
abbrev pub begun : {T : Type 0} → List (Entry T) → Vote → Option Climber
begun pending v = option_map (λ at. passing (blocks_in pending) at v.count) (place_in pending v.id)

-- each passed a block, and goes with one more than the place of its parent
abbrev pub ArePlaced : List Header → List Climber → Type 0
ArePlaced blocks climbers = All (λ c. (c.passed < length blocks) × (c.place ≡ reach blocks (parent_in (slice_get blocks c.passed)))) climbers

-- all votes look for blocks below this place
abbrev pub AreBelow : List Header → ℕ → List Cursor → Type 0
AreBelow blocks top cursors = All (λ c. reach blocks c.sought ≤ top) cursors

-- whether votes are for a child of the parent whose bits begin so, or for what is below it: those that look for the parent came by the block that they passed last
abbrev pub is_for : List Header → List ℕ → List Bool → Cursor → Bool
is_for blocks parent front c =
    if bytes_eq c.sought parent then not (bytes_eq c.passed parent) && starts_with beq (bits c.passed) front else is_below blocks parent front c.sought

-- how many there are
abbrev pub votes_for : List Header → List Cursor → List ℕ → List Bool → ℕ
votes_for blocks cursors parent front = sum_by (λ c. if is_for blocks parent front c then c.count else 0) cursors

-- how many look for a block
abbrev pub count_at : List ℕ → List Cursor → ℕ
count_at id cursors = sum_by (λ c. if bytes_eq c.sought id then c.count else 0) cursors

-- votes that look for a block go on together to its parent
abbrev pub merged : Header → List Cursor → List Cursor
merged b cursors =
    filter (λ c. not (bytes_eq c.sought b.id)) cursors
    ++ (if nat_lt 0 (count_at b.id cursors) then record { sought = b.parent; passed = b.id; count = count_at b.id cursors } ∷ [] else [])

-- votes came to where they are by a child
abbrev pub CameBy : List Header → Cursor → Type 0
CameBy blocks c = Contains (children_of blocks c.sought) c.passed

-- votes came to this block by a child
abbrev pub HasCome : List Header → List ℕ → Cursor → Type 0
HasCome blocks id c = (bytes_eq c.sought id ≡ true) × (bytes_eq c.passed id ≡ false) × Contains (children_of blocks id) c.passed
