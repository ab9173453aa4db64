use Rattle.std.proofs.Common.{◌≡◌, true, bytes_eq, is_some, not, sym, ap, ◌∙◌}
use Rattle.snow_board.specs.Model.Preference.{preferred}
use Rattle.snow_topo.specs.Kept.View.{view}
use Rattle.snow_topo.proofs.Endings.{pending_seen, preferred_pending}
use Rattle.snow_topo.proofs.topo.TopoBoard.is_pending.Goals as goal

pub returns : goal.returns
returns g c =
    let a = c.self.inside in
    rw (← c.self.view_is) (c.is_some.ensures ∙ ap is_some c.header_of.ensures ∙ pending_seen a.params a.polls a.root a.tree c.args.id.now)

pub returns-then-eq : goal.returns-then-eq
returns-then-eq g c =
    let a = c.self.inside in
    let id = c.args.id.now in
    let led : bytes_eq (preferred _ (view a.params a.polls a.root a.tree)) id ≡ true = ap (λ l. bytes_eq l id) (sym c.self.invariant.preference) ∙ sym c.eq.ensures ∙ c.if-eq.true in
    rw (← c.self.view_is)
    (c.ne.ensures ∙ ap (λ l. not (bytes_eq l id)) c.last.ensures.last ∙ sym (preferred_pending _ a.params a.polls a.root a.tree id c.last.ensures.grown led))
