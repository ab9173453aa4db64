-- One node more in front.
use Rattle.std.proofs.Common.{◌≡◌, ◌+◌, ◌-◌, ◌∷◌, length, drop, sym, ap, subst, ◌∙◌, arith}
use Rattle.std.proofs.lemmas.List.{drop_all}
use Rattle.snow_boot.specs.Kept.Surveying.{HasWeights}
use Rattle.snow_store.proofs.Cases.{next_of}
use Rattle.snow_boot.proofs.Weighed.{none_weigh, more_weigh}
use Rattle.snow_boot.proofs.survey.weights_of.Goals as goal

pub loop-at-init : goal.loop-at-init
loop-at-init c =
    let nodes = c.args.nodes.now in (
      omega arith,
      subst (HasWeights c.new-weights.result) (sym (drop_all (length nodes) nodes (omega arith))) (none_weigh c.new-weights.result c.new-weights.ensures.empty),
    )

pub loop-at-preserved : goal.loop-at-preserved
loop-at-preserved c =
    let nodes = c.args.nodes.now in
    let n = c.index-nodes-at.result in
    let i = c.loop-at.at - 1 in
    let some = c.loop-at-test.true in
    let within = c.loop-at.invariant.0 in
    let same : i + 1 ≡ c.loop-at.at = omega (arith, some) in
    let next : drop i nodes ≡ n ∷ drop c.loop-at.at nodes = next_of nodes i n (omega (arith, some, within)) c.index-nodes-at.is ∙ ap (λ k. n ∷ drop k nodes) same in (
      omega (arith, within),
      subst (HasWeights c.insert.new.self) (sym next)
          (more_weigh c.loop-at.weights c.insert.new.self n (drop c.loop-at.at nodes) c.in_ok-insert.ensures.updates.0 c.loop-at.invariant.1),
    )

pub returns : goal.returns
returns c =
    let none : c.loop-at.at ≡ 0 = omega (arith, c.loop-at-test.false) in
    subst (λ k. HasWeights c.loop-at.weights (drop k c.args.nodes.now)) none c.loop-at.invariant.1
