use Rattle.std.proofs.Common.{slice_get, sym, ap, ◌∙◌, arith}
use Rattle.std.proofs.lemmas.List.{length-map}
use Rattle.snow_tree.specs.Kept.Held.{blocks_in}
use Rattle.snow_climb.specs.Kept.Climbing.{above, parent_in}
use Rattle.snow_climb.proofs.Climbers.{parent_placed}
use Rattle.snow_climb.proofs.Reached.{reach_within}
use Rattle.snow_climb.proofs.climber.parent_reach.Goals as goal

pub overflow_add-result : goal.overflow_add-result
overflow_add-result g c =
    let pending = c.args.tree.now.pending in
    let is = parent_placed pending c.args.at c.parent_place.result c.requires c.parent_place.ensures in
    omega (arith, ap above (sym c.in-Some.is), is, reach_within (blocks_in pending) (parent_in (slice_get (blocks_in pending) c.args.at)), length-map pending (λ e. e.block), c.len-len.ensures)

pub returns-in-Some : goal.returns-in-Some
returns-in-Some g c = ap above (sym c.in-Some.is) ∙ parent_placed c.args.tree.now.pending c.args.at c.parent_place.result c.requires c.parent_place.ensures

pub returns-in-None : goal.returns-in-None
returns-in-None g c = ap above (sym c.in-None.is) ∙ parent_placed c.args.tree.now.pending c.args.at c.parent_place.result c.requires c.parent_place.ensures
