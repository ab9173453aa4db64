use Rattle.std.proofs.Common.{◌++◌, length, slice_get, sym, ap, ◌∙◌, append-nil, bytes_eq}
use Rattle.std.specs.Map.{lookup}
use Rattle.snow_tree.specs.Kept.Nodes.{IsTakenOver}
use Rattle.snow_tree.proofs.Left.{alone_left, alone_first, alone_told}
use Rattle.snow_tree.proofs.Seen.{found_child, only_child}
use Rattle.snow_tree.proofs.leaving.take_accepted.Goals as goal

pub returns-then-is_alone-clause-node : goal.returns-then-is_alone-clause-node
returns-then-is_alone-clause-node g c =
    let nodes = c.args.nodes.now.entries in
    let child = c.args.child.now in
    let last = c.args.last.now in
    let found = found_child (lookup (bytes_eq child) nodes) last c.requires.child in
    let only = only_child nodes child last found.0 found.1 found.2 (ap length (sym c.requires.children ∙ sym c.list.ensures) ∙ c.if-is_alone.true) in
    alone_first last child nodes (λ n. IsTakenOver n c.take_first.new.children c.take_first.new.load c.take_first.result) c.requires.grown only (λ e later is. c.take_first.ensures.node e (ap (λ l. slice_get l 0) is))

pub returns-then-is_alone-clause-left : goal.returns-then-is_alone-clause-left
returns-then-is_alone-clause-left g c =
    let nodes = c.args.nodes.now.entries in
    let child = c.args.child.now in
    let last = c.args.last.now in
    let found = found_child (lookup (bytes_eq child) nodes) last c.requires.child in
    let only = only_child nodes child last found.0 found.1 found.2 (ap length (sym c.requires.children ∙ sym c.list.ensures) ∙ c.if-is_alone.true) in
    (c.take_first.ensures.rest ∙ alone_left last child nodes c.requires.grown c.len-len.ensures.unique only)

pub returns-then-is_alone-clause-told : goal.returns-then-is_alone-clause-told
returns-then-is_alone-clause-told g c =
    let nodes = c.args.nodes.now.entries in
    let child = c.args.child.now in
    let last = c.args.last.now in
    let found = found_child (lookup (bytes_eq child) nodes) last c.requires.child in
    let only = only_child nodes child last found.0 found.1 found.2 (ap length (sym c.requires.children ∙ sym c.list.ensures) ∙ c.if-is_alone.true) in
    sym (ap (λ l. c.args.rejected.now.items ++ l) (alone_told last child nodes c.requires.grown only) ∙ append-nil c.args.rejected.now.items)
