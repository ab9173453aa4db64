-- Worked examples, computed on the definitions.
use Rattle.std.proofs.Common.{◌≡◌, ℕ, ◌-◌, ◌^◌, List, [], ◌∷◌, replicate, refl, None, Some, Ok, Err}
use Rattle.snow_sample.specs.declared.draws.Draw.{Draw}
use Rattle.snow_sample.specs.declared.roster.Node.{Node}
use Rattle.snow_sample.specs.declared.roster.RosterFault.TheVariants as faults
use Rattle.snow_sample.specs.declared.sampling.SampleFault.TheVariants.{TooFewUnits, WordsOut}
use Rattle.snow_sample.specs.Model.Roster.{first_fault}
use Rattle.snow_sample.specs.Model.Words.{is_power}
use Rattle.snow_sample.specs.Model.Sampling.{drawn_from, drawn, sample_of}

-- a node by its number, which is each of its bytes
abbrev numbered : ℕ → List ℕ
numbered n = replicate 20 n

-- a node with its weight
abbrev node : ℕ → ℕ → Node
node n weight = record { id = numbered n; weight = weight }

-- draws of a node
abbrev draw : ℕ → ℕ → Draw
draw n count = record { node = numbered n; count = count }

-- ---- weights 3 and 1

abbrev two : List Node
two = node 1 3 ∷ node 2 1 ∷ []

-- the first draw gives unit 1, and the second stands at position 2
two-units : drawn 2 4 (5 ∷ 7 ∷ []) ≡ Some (1 ∷ 2 ∷ [], [])
unfolding is_power drawn_from
two-units = refl

two-sample : sample_of two 2 (5 ∷ 7 ∷ []) ≡ Ok (draw 1 2 ∷ [], [])
unfolding is_power drawn_from
two-sample = refl

-- all four units are drawn, and a word is left
two-all : sample_of two 4 (0 ∷ 0 ∷ 0 ∷ 0 ∷ 9 ∷ []) ≡ Ok (draw 1 3 ∷ draw 2 1 ∷ [], 9 ∷ [])
unfolding is_power drawn_from
two-all = refl

-- there are only four units
two-few : sample_of two 5 (5 ∷ 7 ∷ []) ≡ Err (TooFewUnits 4)
unfolding is_power drawn_from
two-few = refl

-- the second word is missing
two-out : sample_of two 2 (5 ∷ []) ≡ Err WordsOut
unfolding is_power drawn_from
two-out = refl

-- the last unit takes a word too
last-word : sample_of (node 1 1 ∷ []) 1 [] ≡ Err WordsOut
unfolding is_power drawn_from
last-word = refl

-- ---- weights near 2^62: the first word is passed over, and the second chooses unit 2^62

great : sample_of (node 1 (2 ^ 62) ∷ node 2 (2 ^ 62 - 1) ∷ []) 1 ((2 ^ 64 - 1) ∷ (2 ^ 62) ∷ []) ≡ Ok (draw 2 1 ∷ [], [])
unfolding is_power drawn_from
great = refl

-- ---- rosters that are refused

empty : first_fault [] ≡ Some faults.Empty
empty = refl

duplicate : first_fault (node 1 1 ∷ node 2 0 ∷ node 1 1 ∷ []) ≡ Some (faults.Duplicate (numbered 1))
duplicate = refl

weightless : first_fault (node 1 1 ∷ node 2 0 ∷ []) ≡ Some (faults.ZeroWeight (numbered 2))
weightless = refl

too_heavy : first_fault (node 1 (2 ^ 63 - 1) ∷ node 2 1 ∷ []) ≡ Some faults.TooHeavy
too_heavy = refl

heaviest : first_fault (node 1 (2 ^ 63 - 2) ∷ node 2 1 ∷ []) ≡ None
heaviest = refl
