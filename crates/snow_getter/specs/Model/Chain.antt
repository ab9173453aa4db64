-- A block and its ancestors, as far as they are served.
use Rattle.std.specs.Prelude.{ℕ, ◌-◌, zero, suc, List, [], ◌∷◌, length, nat_le, if◌then◌else◌}
use Rattle.std.specs.Option.{option_map_or}
use Rattle.snow_base.specs.declared.limits.TheConstants.{ANSWER_BLOCKS, ANSWER_BYTES}
use Rattle.snow_getter.specs.declared.served.Served.{Served}
use Rattle.snow_getter.specs.Model.Serving.{Serving, held}

-- the block of an identifier, then its parent, and so on while they are held: at most so many, with at most so many bytes in total
unfoldable pub chain_within : ℕ → ℕ → Serving → List ℕ → List Served
chain_within zero room s id = []
chain_within (suc count) room s id =
    option_map_or (λ b. if nat_le (length b.bytes) room then b ∷ chain_within count (room - length b.bytes) s b.parent else []) (held s id) []

-- at most 64 blocks, with at most 524,288 bytes
abbrev pub chain : Serving → List ℕ → List Served
chain s id = chain_within ANSWER_BLOCKS ANSWER_BYTES s id
