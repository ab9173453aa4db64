use Rattle.std.proofs.Common.{◌∙◌, ap, sym}
use Rattle.snow_board.specs.Kept.Grown.{has_block}
use Rattle.snow_board.proofs.Cases.{same_id}
use Rattle.snow_tree.specs.Kept.Nodes.{blocks_of, unlinked}
use Rattle.snow_tree.proofs.Linked.{unlinked_only, none_changed, unlinked_at}
use Rattle.snow_tree.proofs.Placed.{not_placed}
use Rattle.snow_tree.proofs.linking.unlink.Goals as goal

pub returns-then-eq-clause-nodes : goal.returns-then-eq-clause-nodes
returns-then-eq-clause-nodes g c =
    let parent = c.args.parent.now in
    let off = ap (has_block (blocks_of c.args.nodes.now.entries)) (sym (same_id c.args.last.now parent (sym c.eq.ensures ∙ c.if-eq.true))) ∙ c.requires in
    sym (none_changed (unlinked parent) parent (unlinked_only parent) c.args.nodes.now.entries off)

pub returns-in-Some-clause-nodes : goal.returns-in-Some-clause-nodes
returns-in-Some-clause-nodes g c =
    unlinked_at c.args.parent.now c.args.nodes.now.entries c.unlink_at.new.nodes.entries c.in-Some.at c.get_index_of.ensures.unique
    (sym c.get_index_of.ensures.index ∙ c.in-Some.is) c.unlink_at.ensures.nodes

pub returns-in-None-clause-nodes : goal.returns-in-None-clause-nodes
returns-in-None-clause-nodes g c =
    let parent = c.args.parent.now in
    sym (none_changed (unlinked parent) parent (unlinked_only parent) c.args.nodes.now.entries (not_placed c.args.nodes.now.entries parent (sym c.get_index_of.ensures.index ∙ c.in-None.is)))
