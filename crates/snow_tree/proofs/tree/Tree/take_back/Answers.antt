use Rattle.std.proofs.Common.{◌≡◌, ◌∷◌, ◌++◌, ◌-◌, [], length, take, map, slice_get, sym, ap, ◌∙◌}
use Rattle.std.specs.Option.{option_map}
use Rattle.std.proofs.lemmas.List.{map-append}
use Rattle.snow_board.specs.Kept.Grown.{has_block}
use Rattle.snow_tree.specs.Kept.Nodes.{blocks_of, entry_of, unlinked}
use Rattle.snow_tree.proofs.Descending.{last_off}
use Rattle.snow_tree.proofs.Linked.{kept_back, all_but_last}
use Rattle.snow_tree.proofs.Seen.{fewer_off, seen_changed, last_seen}
use Rattle.snow_tree.proofs.tree.Tree.take_back.Goals as goal

pub unlink-requires : goal.unlink-requires
unlink-requires g c =
    let last = c.self.inside.last in
    fewer_off c.pop.new.self.entries (c.in_ok-node.field-0-0, c.in_ok-node.node) last
    (ap (λ l. has_block (blocks_of l) last) (sym c.in_ok-node.ensures.entries) ∙ last_off last (blocks_of c.self.inside.nodes.entries) c.self.invariant.grown)

pub invariant_of-self-2 : goal.invariant_of-self-2
invariant_of-self-2 g c =
    rw (c.unlink.ensures.first, c.unlink.ensures.nodes)
    (kept_back c.self.inside.last c.self.inside.children c.pop.new.self.entries (c.in_ok-node.field-0-0, c.in_ok-node.node) _
    (rw c.in_ok-node.ensures.entries at c.self.invariant))

pub returns-clause-load : goal.returns-clause-load
returns-clause-load g c =
    let front = map entry_of c.pop.new.self.entries in
    let e = entry_of (c.in_ok-node.field-0-0, c.in_ok-node.node) in
    let seen : map entry_of c.self.inside.nodes.entries ≡ front ++ e ∷ [] = ap (map entry_of) c.in_ok-node.ensures.entries ∙ map-append entry_of c.pop.new.self.entries _ in
    rw (← c.self.view_is) (sym (ap (λ l. option_map (λ x. x.load) (slice_get l (length l - 1))) seen ∙ ap (option_map (λ x. x.load)) (last_seen front e)))

pub returns-clause-tree : goal.returns-clause-tree
returns-clause-tree g c =
    let front = map entry_of c.pop.new.self.entries in
    let e = entry_of (c.in_ok-node.field-0-0, c.in_ok-node.node) in
    let seen : map entry_of c.self.inside.nodes.entries ≡ front ++ e ∷ [] = ap (map entry_of) c.in_ok-node.ensures.entries ∙ map-append entry_of c.pop.new.self.entries _ in
    let left = ap (map entry_of) c.unlink.ensures.nodes ∙ seen_changed (unlinked c.in_ok-node.node.parent) c.pop.new.self.entries
    ∙ sym (ap (λ l. take (length l - 1) l) seen ∙ all_but_last front e)
    in
    rw (← c.self.view_is) (λ j. record { last = c.self.inside.last; height = c.self.inside.height; pending = left j; rejected = c.self.inside.rejected.items })
