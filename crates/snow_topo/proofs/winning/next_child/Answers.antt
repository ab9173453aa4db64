use Rattle.std.proofs.Common.{find, sym, ap, ◌∙◌}
use Rattle.std.specs.Bool.{beq}
use Rattle.std.specs.Cmp.Lexicographic.{pointwise}
use Rattle.snow_base.specs.Model.Identifier.{bits}
use Rattle.snow_topo.proofs.Won.{none_wins, child_wins}
use Rattle.snow_topo.proofs.winning.next_child.Goals as goal

pub returns-in-Some : goal.returns-in-Some
returns-in-Some g c =
    λ polls.
    child_wins c.args.params.now polls c.args.root.now c.args.tree.now c.in-Some.id c.k-k.ensures.good c.in-Some.ensures
    ∙ ap (find (λ id. pointwise beq (bits c.in-Some.id) (bits id))) (sym c.first_ids.ensures)
    ∙ sym c.first_alike.ensures

pub returns-in-None : goal.returns-in-None
returns-in-None g c = λ polls. none_wins c.args.params.now polls c.args.root.now c.args.tree.now c.k-k.ensures.good c.in-None.ensures
