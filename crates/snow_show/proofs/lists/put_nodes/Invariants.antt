use Rattle.std.proofs.Common.{[], ◌∷◌, drop, map}
use Rattle.snow_wire.specs.Clauses.Spelled.{weighed_in}
use Rattle.snow_text_model.specs.Model.Shown.{weighed_text}
use Rattle.snow_show.specs.Kept.Listing.{led}
use Rattle.snow_show.proofs.Putting.{Going}
use Rattle.snow_show.proofs.lists.put_nodes.Given as goal

abbrev pub invariant-loop-node : goal.invariant-loop-node
invariant-loop-node l =
    Going l.initial.text.items l.text.items (led l.before (44 ∷ []) (map (λ n. weighed_text (weighed_in n)) (drop l.node-index l.nodes)))
    (led l.mark (44 ∷ []) (map (λ n. weighed_text (weighed_in n)) l.nodes))
