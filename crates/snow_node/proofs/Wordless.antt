-- No sample without a word to draw it by.
use Rattle.std.proofs.Common.{◌≡◌, ℕ, zero, suc, ◌+◌, ◌-◌, ◌<◌, ◌≤◌, false, nat_lt, List, [], ◌∷◌, length, None, Err, refl, arith}
use Rattle.snow_flake.specs.Model.Parameters.{Parameters, AreGood}
use Rattle.snow_sample.specs.declared.roster.Node.{Node}
use Rattle.snow_sample.specs.declared.sampling.SampleFault.TheVariants as fault
use Rattle.snow_sample.specs.Model.Roster.{total_weight}
use Rattle.snow_sample.specs.Model.Sampling.{sample_of, drawn_from}
use Rattle.snow_sample.specs.Model.Words.{choice, is_power}
use Rattle.std.proofs.lemmas.Bool.{le-ltb}
use Rattle.snow_board.proofs.Cases.{split_on}

-- no number is chosen without a word
none_chosen : (n : ℕ) → choice n [] ≡ None
none_chosen n = split_on (is_power (n + 1)) (λ t. rw t refl) (λ t. rw t refl)

-- so many units of those that there are aren't drawn
none_drawn : (nodes : List Node) (k : ℕ) → 0 < k → nat_lt (total_weight nodes) k ≡ false → sample_of nodes k [] ≡ Err fault.WordsOut
unfolding drawn_from
none_drawn nodes zero some enough = absurd (omega (arith, some))
none_drawn nodes (suc k) some enough = rw enough (rw (none_chosen (total_weight nodes - 1 - 0)) refl)

-- where there are units enough, the words are out
pub out_of_words : (p : Parameters) (nodes : List Node) (words : List ℕ) → AreGood p → length words ≡ 0 → p.k ≤ total_weight nodes → sample_of nodes p.k words ≡ Err fault.WordsOut
out_of_words p nodes [] good empty enough =
    none_drawn nodes p.k (omega (arith, good.majority, good.in_order, good.reachable)) (le-ltb (total_weight nodes) p.k enough)
out_of_words p nodes (w ∷ words) good empty enough = absurd (let e = empty in cc)
