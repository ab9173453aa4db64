use Rattle.std.proofs.Common.{[], ◌∷◌, ℕ, List}
use Rattle.snow_wire.specs.Clauses.Spelled.{weighed_in}
use Rattle.snow_text_model.specs.Model.Shown.{weighed_text}
use Rattle.snow_show.proofs.Putting.{going_ends, going_on}
use Rattle.snow_show.proofs.Itemed.{led_end, led_next}
use Rattle.snow_show.proofs.lists.put_nodes.Goals as goal

pub loop-node-preserved : goal.loop-node-preserved
loop-node-preserved c =
    going_on _ _ _ _ _ _ _ c.loop-node.invariant c.in_ok-put_marked_node.ensures
    (led_next c.loop-node.before.now (44 ∷ []) (λ (n : List ℕ). weighed_text (weighed_in n)) c.args.nodes.now c.loop-node.node-index _ c.loop-node-test.true)

pub returns : goal.returns
returns c = going_ends _ _ _ _ c.loop-node.invariant (led_end c.loop-node.before.now (44 ∷ []) (λ (n : List ℕ). weighed_text (weighed_in n)) c.args.nodes.now c.loop-node.node-index c.loop-node-test.false)
