use Rattle.std.proofs.Common.{sym, ap, ◌∙◌}
use Rattle.std.specs.Option.{option_map}
use Rattle.snow_base.specs.declared.block.Header.{Header}
use Rattle.snow_topo.proofs.Endings.{header_seen}
use Rattle.snow_topo.proofs.topo.TopoBoard.parent_of.Goals as goal

pub returns-in-Some : goal.returns-in-Some
returns-in-Some g c =
    let a = c.self.inside in
    rw (← c.self.view_is)
    (ap (option_map (λ (b : Header). b.parent)) (sym c.in-Some.is ∙ c.header_of.ensures) ∙ header_seen (λ b. b.parent) a.params a.polls a.root a.tree c.args.id.now)

pub returns-in-None : goal.returns-in-None
returns-in-None g c =
    let a = c.self.inside in
    rw (← c.self.view_is)
    (ap (option_map (λ (b : Header). b.parent)) (sym c.in-None.is ∙ c.header_of.ensures) ∙ header_seen (λ b. b.parent) a.params a.polls a.root a.tree c.args.id.now)
