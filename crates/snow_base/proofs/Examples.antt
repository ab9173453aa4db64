-- Worked examples: the definitions compute.
use Rattle.std.proofs.Common.{◌≡◌, ℕ, List, [], ◌∷◌, replicate, refl}
use Rattle.snow_base.specs.declared.block.Vote.{Vote}
use Rattle.snow_base.specs.Model.Identifier.{bits}
use Rattle.snow_base.specs.Model.Votes.{added, total_count, most_count}

-- an identifier by its first byte
abbrev id_of : ℕ → List ℕ
id_of first = first ∷ replicate 31 0

abbrev votes_for : ℕ → ℕ → Vote
votes_for first count = record { id = id_of first; count = count }

abbrev three_added : List Vote
three_added = added (added (added [] (id_of 0x80) 2) (id_of 0x01) 1) (id_of 0x80) 1

-- 80 stands before 01, since its bit 0 is clear
pub in_bit_order : three_added ≡ votes_for 0x80 3 ∷ votes_for 0x01 1 ∷ []
unfolding added bits
in_bit_order = refl

pub four_in_all : total_count three_added ≡ 4
unfolding added bits
four_in_all = refl

pub most_is_three : most_count three_added ≡ 3
unfolding added bits
most_is_three = refl
