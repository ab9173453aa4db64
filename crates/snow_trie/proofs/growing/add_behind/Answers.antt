use Rattle.std.proofs.Common.{Some, None, refl}
use Rattle.snow_trie.specs.Kept.Tree.{tree_of}
use Rattle.snow_trie.proofs.Parting.{prefix_found}
use Rattle.snow_trie.proofs.Visited.{placed_within}
use Rattle.snow_trie.proofs.growing.add_behind.Goals as goal

pub first_difference-requires-clause-within : goal.first_difference-requires-clause-within
first_difference-requires-clause-within c = placed_within c.args.decided (tree_of c.args.root.now) c.requires

pub returns-in-Some-clause-ok : goal.returns-in-Some-clause-ok
returns-in-Some-clause-ok c = rw (prefix_found c.args.leader.now c.args.id.now c.args.decided (Some c.in-Some.field-0) c.in-Some.ensures) refl

pub returns-in-None-clause-ok : goal.returns-in-None-clause-ok
returns-in-None-clause-ok c = rw (prefix_found c.args.leader.now c.args.id.now c.args.decided None c.in-None.ensures) c.add.ensures.ok
