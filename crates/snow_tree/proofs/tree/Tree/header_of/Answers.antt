use Rattle.std.proofs.Common.{sym, ap, ◌∙◌}
use Rattle.std.specs.Option.{option_map, option_copied}
use Rattle.snow_tree.proofs.Left.{found_seen, none_seen}
use Rattle.snow_tree.proofs.tree.Tree.header_of.Goals as goal

pub returns-in-Some : goal.returns-in-Some
returns-in-Some g c =
    rw (← c.self.view_is)
    (sym (ap (option_map (λ e. e.block)) (found_seen c.self.inside.nodes.entries c.args.id.now c.in-Some.node.now (sym c.get.ensures.value ∙ ap option_copied c.in-Some.is))))

pub returns-in-None : goal.returns-in-None
returns-in-None g c =
    rw (← c.self.view_is)
    (sym (ap (option_map (λ e. e.block)) (none_seen c.self.inside.nodes.entries c.args.id.now (sym c.get.ensures.value ∙ ap option_copied c.in-None.is))))
