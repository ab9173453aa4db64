use Rattle.std.proofs.Common.{◌≡◌, false, bytes_eq, sym, ap, ◌∙◌}
use Rattle.std.specs.Option.{option_map}
use Rattle.snow_base.specs.declared.block.Header.{Header}
use Rattle.snow_topo.proofs.Endings.{height_seen}
use Rattle.snow_topo.proofs.topo.TopoBoard.height_of.Goals as goal

pub returns-in-Some : goal.returns-in-Some
returns-in-Some g c =
    let a = c.self.inside in
    let id = c.args.id.now in
    let away : bytes_eq a.tree.last id ≡ false = ap (λ l. bytes_eq l id) (sym c.last.ensures.last) ∙ sym c.eq.ensures ∙ c.if-eq.false in
    rw (← c.self.view_is)
    (ap (option_map (λ (b : Header). b.height)) (sym c.in-Some.is ∙ c.header_of.ensures) ∙ height_seen a.params a.polls a.root a.tree id away)

pub returns-in-None : goal.returns-in-None
returns-in-None g c =
    let a = c.self.inside in
    let id = c.args.id.now in
    let away : bytes_eq a.tree.last id ≡ false = ap (λ l. bytes_eq l id) (sym c.last.ensures.last) ∙ sym c.eq.ensures ∙ c.if-eq.false in
    rw (← c.self.view_is)
    (ap (option_map (λ (b : Header). b.height)) (sym c.in-None.is ∙ c.header_of.ensures) ∙ height_seen a.params a.polls a.root a.tree id away)
