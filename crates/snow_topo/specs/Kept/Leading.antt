-- Where the children of a block lead by their answers, and whether decided counters alone do.
use Rattle.std.specs.Prelude.{◌≡◌, ℕ, Bool, false, List, map, Option, Some, None}
use Rattle.std.specs.Bool.{beq}
use Rattle.std.specs.Cmp.Lexicographic.{pointwise}
use Rattle.snow_base.specs.declared.block.Header.{Header}
use Rattle.snow_base.specs.Model.Identifier.{bits}
use Rattle.snow_flake.specs.Model.Rule.{Answer}
use Rattle.snow_board.specs.Model.Conflict.{Counters, chosen, decides}
use Rattle.snow_tree.specs.Kept.Held.{Entry}
use Rattle.snow_topo.specs.Kept.Children.{Kept, counters_in}

-- the bits to which what is kept of a block's children leads
abbrev pub leads_in : Answer → Kept → List Bool
leads_in answer kept = chosen answer (counters_in kept.conflict)

-- those of pending blocks
abbrev pub all_leads : Answer → List (Entry Kept) → List (Header × List Bool)
all_leads answer pending = map (λ e. (e.block, leads_in answer e.load)) pending

-- where nothing is told to have moved, what is kept leads where it led
abbrev pub IsSteady : Answer → Bool → Kept → Kept → Type 0
IsSteady answer moved old new = moved ≡ false → leads_in answer new ≡ leads_in answer old

-- an identifier to whose bits decided counters alone lead; none where they lead to none
abbrev pub HasDecided : Counters → Option (List ℕ) → Type 0
HasDecided counters None = (id : List ℕ) → decides counters id ≡ false
HasDecided counters (Some x) = (id : List ℕ) → decides counters id ≡ pointwise beq (bits x) (bits id)
