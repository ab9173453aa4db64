use Rattle.std.proofs.Common.{◌≤◌, [], ◌∷◌, Option, Some, None, IfSome, All, List, ℕ, length, bytes_eq, arith}
use Rattle.snow_base.specs.declared.block.Vote.{Vote}
use Rattle.snow_base.specs.Clauses.Gathered.{IsNamed, one_each}
use Rattle.snow_flake.specs.Model.Parameters.{Parameters}
use Rattle.snow_climb.specs.Kept.Majority.{StandsForPoll, StandFor}
use Rattle.snow_climb.proofs.Majorities.{ids_few, one_for_all}
use Rattle.snow_climb.proofs.majority.main_vote.Goals as goal

-- it is no more than all
few : (p : Parameters) (ids : List (List ℕ)) (o : Option Vote) → length ids ≤ p.k → IfSome o (λ one. StandsForPoll p ids one) → IfSome o (λ one. one.count ≤ p.k)
few p ids None most stands = tt
few p ids (Some one) most stands = omega (arith, most, stands.count, ids_few (λ id. bytes_eq id one.id) ids)

-- and does what all do
alike : (p : Parameters) (ids : List (List ℕ)) (o : Option Vote) → All IsNamed ids → IfSome o (λ one. StandsForPoll p ids one) → IfSome o (λ one. StandFor p (one ∷ []) (one_each ids))
alike p ids None named stands = tt
alike p ids (Some one) named stands = one_for_all p ids one named stands

pub returns-clause-most : goal.returns-clause-most
returns-clause-most c = few c.args.params.now c.args.ids.now c.find_main.result c.requires c.find_main.ensures

pub returns-clause-alike : goal.returns-clause-alike
returns-clause-alike c = alike c.args.params.now c.args.ids.now c.find_main.result c.all_named.ensures c.find_main.ensures
