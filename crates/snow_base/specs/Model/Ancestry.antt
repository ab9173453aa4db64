-- Who descends from whom in a list of blocks, in which parents stand before their children.
use Rattle.std.specs.Prelude.{ℕ, Bool, false, List, [], ◌∷◌, reverse, Option, Some, None, sum_by, find, bytes_eq, if◌then◌else◌}
use Rattle.std.specs.Bool.{beq}
use Rattle.std.specs.List.{list_any, starts_with}
use Rattle.snow_base.specs.declared.block.Header.{Header}
use Rattle.snow_base.specs.declared.block.Vote.{Vote}
use Rattle.snow_base.specs.Model.Identifier.{bits}

-- a block and its ancestors, in a list that has the latest block first
abbrev pub line_in : List Header → List ℕ → List Header
line_in [] id = []
line_in (b ∷ earlier) id = if bytes_eq b.id id then b ∷ line_in earlier b.parent else line_in earlier id

-- a block and its ancestors in the list, the block first: nothing where it isn't there
abbrev pub line : List Header → List ℕ → List Header
line blocks id = line_in (reverse blocks) id

-- whether a block is the ancestor or descends from it
abbrev pub descends : List Header → List ℕ → List ℕ → Bool
descends blocks ancestor id = list_any (λ b. bytes_eq b.id ancestor) (line blocks id)

-- the child of the parent that is on a block's line
abbrev pub child_on : List Header → List ℕ → List ℕ → Option Header
child_on blocks parent id = find (λ b. bytes_eq b.parent parent) (line blocks id)

-- whether there is a block, and its bits begin so
abbrev pub begins_with : List Bool → Option Header → Bool
begins_with front None = false
begins_with front (Some b) = starts_with beq (bits b.id) front

-- whether a block is a child of the parent whose bits begin so, or descends from one
abbrev pub is_below : List Header → List ℕ → List Bool → List ℕ → Bool
is_below blocks parent front id = begins_with front (child_on blocks parent id)

-- how many votes are below the children of the parent whose bits begin so
abbrev pub votes_below : List Header → List Vote → List ℕ → List Bool → ℕ
votes_below blocks votes parent front = sum_by (λ v. if is_below blocks parent front v.id then v.count else 0) votes
