use Rattle.board_tests.proofs.trie.Pair.record.Goals as goal

pub apply-requires-clause-given : goal.apply-requires-clause-given
apply-requires-clause-given g c = rw (c.args.self.now.same, c.entries.ensures.list) c.requires
