use Rattle.std.proofs.Common.{sym, ap, ◌∙◌}
use Rattle.std.specs.Option.{option_copied_mut}
use Rattle.snow_tree.proofs.Linked.{kept_children}
use Rattle.snow_tree.proofs.linking.link_at.Goals as goal

pub returns-in-Some-clause-err : goal.returns-in-Some-clause-err
returns-in-Some-clause-err g c =
    kept_children c.push.result c.args.nodes.now.entries c.args.at c.in-Some.children.now c.push.new.self (sym c.children_mut.ensures.value ∙ ap option_copied_mut c.in-Some.is) c.push.ensures.err
