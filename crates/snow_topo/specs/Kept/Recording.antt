-- How many children the parents have that record a poll: those whose children get at least AlphaPreference votes.
use Rattle.std.specs.Prelude.{ℕ, ◌+◌, nat_le, List, [], length, sum_by, if◌then◌else◌}
use Rattle.snow_base.specs.declared.block.Header.{Header}
use Rattle.snow_base.specs.declared.block.Vote.{Vote}
use Rattle.snow_base.specs.Model.Ancestry.{votes_below}
use Rattle.snow_flake.specs.Model.Parameters.{Parameters}
use Rattle.snow_tree.specs.Kept.Held.{children_of}

-- those of one parent
abbrev pub recording_at : Parameters → List Header → List Vote → List ℕ → ℕ
recording_at p blocks votes parent = if nat_le p.alpha_preference (votes_below blocks votes parent []) then length (children_of blocks parent) else 0

-- those of some of the blocks
abbrev pub recording_in : Parameters → List Header → List Vote → List Header → ℕ
recording_in p blocks votes parents = sum_by (λ b. recording_at p blocks votes b.id) parents

-- those of all: the last accepted block and the pending ones
abbrev pub recording : Parameters → List ℕ → List Header → List Vote → ℕ
recording p last blocks votes = recording_at p blocks votes last + recording_in p blocks votes blocks
