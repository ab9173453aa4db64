use Rattle.std.proofs.Common.{Option, sym, ap, ◌∙◌}
use Rattle.snow_plain.specs.declared.only_child.OnlyChild.{OnlyChild}
use Rattle.snow_board.specs.Model.Conflict.{Counters, leads_to}
use Rattle.snow_plain.specs.Kept.Trees.{counters_of}
use Rattle.snow_plain.specs.Kept.Alone.{counters_seen}
use Rattle.snow_plain.proofs.Alone.{leads_alone}
use Rattle.snow_plain.proofs.conflict.Conflict.leads_to.Goals as goal

pub returns-in-Some : goal.returns-in-Some
returns-in-Some g c =
    let only_child = c.in-Some.only_child in
    c.is.ensures
    ∙ sym (leads_alone g.R.Rule.answer only_child.counter only_child.child c.args.id.now g.met.R.Rule.agrees)
    ∙ ap (λ (o : Option OnlyChild). leads_to g.R.Rule.answer (counters_seen o (counters_of c.self.inside.tree)) c.args.id.now) (sym c.in-Some.is)
    ∙ ap (λ (counters : Counters). leads_to g.R.Rule.answer counters c.args.id.now) c.self.view_is
