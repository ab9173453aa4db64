use Rattle.std.proofs.Common.{◌<◌, ◌++◌, ◌∷◌, ℕ, Option, IsPermutation, sym, subst, ◌∙◌, arith, if◌then◌else◌}
use Rattle.std.specs.Option.{option_map, option_to_list}
use Rattle.std.proofs.lemmas.List.Sorted.{IsPermutation-refl}
use Rattle.snow_tree.specs.Kept.Held.{blocks_in}
use Rattle.snow_climb.specs.declared.climber.Climber.{Climber}
use Rattle.snow_climb.specs.Kept.Climbing.{passing}
use Rattle.snow_climb.proofs.Climbers.{some_count}
use Rattle.snow_climb.proofs.Started.{one_started}
use Rattle.snow_climb.proofs.starting.start_waiting.Goals as goal

pub returns-in-Some-clause-started : goal.returns-in-Some-clause-started
returns-in-Some-clause-started g c =
    λ others counted h.
    let v = c.args.vote.now in
    let old = c.args.ladder.now.climbers in
    let new = c.pass.new.ladder.climbers in
    let on : ℕ → Climber = λ at. passing (blocks_in c.args.tree.now.pending) at v.count in
    let some : 0 < v.count = omega (arith, c.if-vote-eq0.false) in
    let same = subst (λ t. IsPermutation (if t then on c.in-Some.at ∷ old else old) new) (some_count v.count some) c.pass.ensures.same in
    one_started c.args.tree.now.pending v others counted old new some
    (subst (λ (o : Option ℕ). IsPermutation (option_to_list (option_map on o) ++ old) new) (sym c.in-Some.is ∙ c.place_of.ensures.place) same) h

pub returns-in_default-clause-started : goal.returns-in_default-clause-started
returns-in_default-clause-started g c =
    λ others counted h.
    let old = c.args.ladder.now.climbers in
    one_started c.args.tree.now.pending c.args.vote.now others counted old old (omega (arith, c.if-vote-eq0.false))
    (subst (λ (o : Option ℕ). IsPermutation (option_to_list (option_map (λ at. passing (blocks_in c.args.tree.now.pending) at c.args.vote.now.count) o) ++ old) old) (sym c.in_default.is ∙ c.place_of.ensures.place) (IsPermutation-refl old)) h
