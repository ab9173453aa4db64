use Rattle.std.proofs.Common.{◌∙◌, ap, sym}
use Rattle.snow_board.proofs.Cases.{same_id}
use Rattle.snow_board.specs.Kept.Grown.{has_block}
use Rattle.snow_tree.specs.Kept.Nodes.{blocks_of, linked}
use Rattle.snow_tree.proofs.Linked.{on_ok, linked_only, none_changed, linked_at}
use Rattle.snow_tree.proofs.Placed.{place_same, not_placed}
use Rattle.snow_tree.proofs.linking.link.Goals as goal

pub returns-then-eq-clause-nodes : goal.returns-then-eq-clause-nodes
returns-then-eq-clause-nodes g c =
    let block = c.args.block.now in
    let off = ap (has_block (blocks_of c.args.nodes.now.entries)) (sym (same_id c.args.last.now block.parent (sym c.eq.ensures ∙ c.if-eq.true))) ∙ c.requires.off in
    on_ok c.push.result (sym (none_changed (linked block) block.parent (linked_only block) c.args.nodes.now.entries off))

pub returns-in-Some-clause-nodes : goal.returns-in-Some-clause-nodes
returns-in-Some-clause-nodes g c =
    let nodes = c.args.nodes.now.entries in
    let block = c.args.block.now in
    let place = place_same nodes block.parent ∙ sym c.requires.exact ∙ c.in-Some.is in
    linked_at c.link_at.result block nodes c.link_at.new.nodes.entries c.in-Some.at c.len-len.ensures.unique place c.link_at.ensures.ok

pub returns-in-None-clause-nodes : goal.returns-in-None-clause-nodes
returns-in-None-clause-nodes g c =
    let nodes = c.args.nodes.now.entries in
    let block = c.args.block.now in
    let place = place_same nodes block.parent ∙ sym c.requires.exact ∙ c.in-None.is in
    sym (none_changed (linked block) block.parent (linked_only block) nodes (not_placed nodes block.parent place))
