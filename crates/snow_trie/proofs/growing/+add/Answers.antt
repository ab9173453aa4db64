use Rattle.std.proofs.Common.{sym}
use Rattle.snow_trie.specs.Kept.Tree.{tree_of}
use Rattle.snow_trie.proofs.Parting.{parting_small}
use Rattle.snow_trie.proofs.growing.+add.Goals as goal

pub part-requires : goal.part-requires
part-requires t c = parting_small c.args.from c.in-Some.at c.args.id.now (tree_of c.args.node.now) c.requires (sym c.in-Some.ensures)
