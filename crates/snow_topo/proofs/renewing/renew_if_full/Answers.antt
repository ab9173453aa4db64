use Rattle.std.proofs.Common.{sym, subst, ◌∙◌}
use Rattle.snow_topo.specs.Kept.Children.{Kept}
use Rattle.snow_topo.specs.Kept.View.{view, AreFit}
use Rattle.snow_topo.specs.Kept.Renewed.{renewed}
use Rattle.snow_topo.proofs.Anew.{view_anew, all_fit_anew}
use Rattle.snow_topo.proofs.renewing.renew_if_full.Goals as goal

pub returns-clause-board : goal.returns-clause-board
returns-clause-board g c = λ p fit. (λ i. view p 1 (c.renew.ensures i) (c.renew_all.ensures i)) ∙ view_anew p c.args.polls c.args.root.now c.args.tree.now

pub returns-clause-fit : goal.returns-clause-fit
returns-clause-fit g c =
    λ p fit.
    subst (λ (k : Kept). AreFit p 1 k c.renew_all.new.tree) (sym c.renew.ensures)
    (subst (AreFit p 1 (renewed c.args.polls c.args.root.now)) (sym c.renew_all.ensures) (all_fit_anew p c.args.polls c.args.root.now c.args.tree.now fit))
