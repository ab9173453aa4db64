-- The end of the next node's units.
use Rattle.std.proofs.Common.{◌≡◌, ℕ, ◌+◌, ◌++◌, ◌∷◌, [], take, add-one, arith, sym, ap, ◌∙◌}
use Rattle.std.proofs.lemmas.List.Sums.{sum_by_more}
use Rattle.snow_sample.specs.declared.roster.Node.{Node}
use Rattle.snow_sample.specs.Model.Roster.{total_weight, ends_from}
use Rattle.snow_sample.proofs.Weights.{ends_more}
use Rattle.snow_sample.proofs.weighing.ends_of.Goals as goal

pub loop-node-preserved : goal.loop-node-preserved
loop-node-preserved c =
    let nodes = c.args.nodes.now in
    let i = c.loop-node.node-index in
    let n = c.node-item.result in
    let weight : Node → ℕ = λ x. x.weight in
    let end : c.loop-node.end + n.weight ≡ total_weight (take (i + 1) nodes) =
    omega (arith, c.loop-node.invariant.0, sum_by_more weight nodes i n c.loop-node-test.true, ap weight c.node-item.is) in
    let more : 0 + total_weight (take i nodes) + n.weight ≡ c.loop-node.end + n.weight = omega (arith, c.loop-node.invariant.0) in (
      end,
      c.in_ok-push.ensures.items ∙ ap (λ l. l ++ (c.loop-node.end + n.weight) ∷ []) c.loop-node.invariant.1
          ∙ ap (λ e. ends_from 0 (take i nodes) ++ e ∷ []) (sym more)
          ∙ rw add-one (sym (ends_more nodes 0 i n c.loop-node-test.true c.node-item.is)),
    )
