use Rattle.std.proofs.Common.{◌<◌, ◌^◌, length, ◌++◌, ◌∷◌, [], refl, arith}
use Rattle.snow_trie.specs.Kept.Tree.{tree_of}
use Rattle.snow_trie.proofs.Wholes.{added_counters, whole_added, few_added, few_nodes}
use Rattle.snow_trie.proofs.forked.Forked.add.Goals as goal

pub invariant_of-self-2 : goal.invariant_of-self-2
invariant_of-self-2 g c =
    let inside = c.self.inside in
    let room : length (inside.first ∷ inside.more.items) < 2 ^ 48 = omega (arith, c.len.ensures, c.if-len-ge-MOST_MORE.false) in
    rw (c.push_reserved.ensures.items, c.in_ok-reserve.ensures.items, c.in_ok-add_behind.ensures.ok)
    (whole_added (inside.first ∷ inside.more.items) inside.polls inside.decided inside.leader c.args.id (tree_of inside.root) c.self.invariant room)

pub returns-clause-counters : goal.returns-clause-counters
returns-clause-counters g c =
    let inside = c.self.inside in
    rw (← c.self.view_is, c.in_ok-add_behind.ensures.ok)
    (added_counters (inside.first ∷ inside.more.items) inside.polls inside.decided inside.leader c.args.id (tree_of inside.root) c.self.invariant)

pub returns-clause-nodes : goal.returns-clause-nodes
returns-clause-nodes g c =
    let inside = c.self.inside in
    rw (← c.self.view_is, c.in_ok-add_behind.ensures.ok) (few_added inside.decided inside.leader c.args.id (tree_of inside.root) c.self.invariant.placed)

pub returns-clause-few : goal.returns-clause-few
returns-clause-few g c =
    let inside = c.self.inside in
    let room : length (inside.first ∷ inside.more.items) < 2 ^ 48 = omega (arith, c.len.ensures, c.if-len-ge-MOST_MORE.false) in
    rw (c.push_reserved.ensures.items, c.in_ok-reserve.ensures.items, c.in_ok-add_behind.ensures.ok)
    (few_nodes (inside.first ∷ (inside.more.items ++ c.args.id ∷ [])) inside.polls inside.decided inside.leader _ _
    (whole_added (inside.first ∷ inside.more.items) inside.polls inside.decided inside.leader c.args.id (tree_of inside.root) c.self.invariant room) refl refl)
