-- Weighted sampling without replacement: the units that are drawn, and the draws of each node.
use Rattle.std.specs.Prelude.{◌≡◌, ◌≢◌, ℕ, suc, zero, ◌+◌, ◌-◌, List, [], ◌∷◌, map, fold, sum_by, Option, Some, None, Result, Ok, Err, nat_lt, ◌==◌, if◌then◌else◌}
use Rattle.std.specs.List.{AllPairs}
use Rattle.std.specs.Option.{option_and_then}
use Rattle.std.specs.Str.{bytes_eq}
use Rattle.snow_sample.specs.declared.draws.Draw.{Draw}
use Rattle.snow_sample.specs.declared.roster.Node.{Node}
use Rattle.snow_sample.specs.declared.sampling.SampleFault.{SampleFault}
use Rattle.snow_sample.specs.declared.sampling.SampleFault.TheVariants as faults
use Rattle.snow_sample.specs.Model.Roster.{total_weight, owner}
use Rattle.snow_sample.specs.Model.Words.{choice, IsRest}

-- what stands at each position, once two positions are exchanged
abbrev pub swapped : (ℕ → ℕ) → ℕ → ℕ → ℕ → ℕ
swapped units i j position =
    if position == i then units j else (if position == j then units i else units position)

-- a unit in front of those that are drawn after it
abbrev pub with_unit : ℕ → Option (List ℕ × List ℕ) → Option (List ℕ × List ℕ)
with_unit unit None = None
with_unit unit (Some (units, words)) = Some (unit ∷ units, words)

-- k more units, from draw j on, and the words that are left: of the positions from j on one is chosen, and exchanged with j;
-- none where a word past the last is asked for
unfoldable pub drawn_from : ℕ → ℕ → ℕ → (ℕ → ℕ) → List ℕ → Option (List ℕ × List ℕ)
drawn_from zero total j units words = Some ([], words)
drawn_from (suc k) total j units words =
    option_and_then (λ (r, left). let moved = swapped units (j + r) j in with_unit (moved j) (drawn_from k total (j + 1) moved left))
    (choice (total - 1 - j) words)

-- k units of so many in all, which stand in order at first
abbrev pub drawn : ℕ → ℕ → List ℕ → Option (List ℕ × List ℕ)
drawn k total words = drawn_from k total 0 (λ unit. unit) words

-- one more draw of a node: counted with its others, or at the end where it is its first
abbrev pub counted : List Draw → List ℕ → List Draw
counted [] node = record { node = node; count = 1 } ∷ []
counted (d ∷ draws) node =
    if bytes_eq d.node node then record { node = d.node; count = d.count + 1 } ∷ draws else d ∷ counted draws node

-- how often each node was drawn, in order of first draw
abbrev pub draws_of : List Node → List ℕ → List Draw
draws_of nodes units = fold counted [] (map (owner nodes) units)

-- the draws of the units, where the words suffice
abbrev pub or_out : List Node → Option (List ℕ × List ℕ) → Result (List Draw × List ℕ) SampleFault
or_out nodes None = Err faults.WordsOut
or_out nodes (Some (units, words)) = Ok (draws_of nodes units, words)

-- k draws of nodes by weight, and the words that are left
abbrev pub sample_of : List Node → ℕ → List ℕ → Result (List Draw × List ℕ) SampleFault
sample_of nodes k words =
    let total = total_weight nodes in
    if nat_lt total k then Err (faults.TooFewUnits total) else or_out nodes (drawn k total words)

-- a fault that is the answer where this is the sample, and the words that it leaves; after want of memory some first words may be gone
abbrev pub IsFault : Result (List Draw × List ℕ) SampleFault → List ℕ → SampleFault → List ℕ → Type 0
IsFault sample words (faults.TooFewUnits total) left = (sample ≡ Err (faults.TooFewUnits total)) × (left ≡ words)
IsFault sample words faults.WordsOut left = (sample ≡ Err faults.WordsOut) × (left ≡ [])
IsFault sample words faults.Memory left = IsRest words left

-- how many draws these are in all
abbrev pub draw_count : List Draw → ℕ
draw_count draws = sum_by (λ d. d.count) draws

-- no node has two counts
abbrev pub AreOfDistinctNodes : List Draw → Type 0
AreOfDistinctNodes draws = AllPairs (λ d e. d.node ≢ e.node) draws
