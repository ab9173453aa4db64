use Rattle.snow_trie.specs.Kept.Tree.{tree_of}
use Rattle.snow_trie.proofs.Visited.{restamped_line, restamped_last}
use Rattle.snow_trie.proofs.polling.+restamp.Goals as goal

pub returns-in-Along : goal.returns-in-Along
returns-in-Along t c =
    rw c.in-Along.is (restamped_line c.args.now c.in-Along.run' c.restamp.new.self (tree_of c.in-Along.below.value) (tree_of c.restamp-in-Along.new.node)
    c.restamp.ensures.counter c.restamp.ensures.id c.restamp.ensures.to c.restamp.ensures.seen (rw c.deref_mut.ensures.value at c.restamp-in-Along.ensures))

pub returns-in-Last : goal.returns-in-Last
returns-in-Last t c =
    rw c.in-Last.is (restamped_last c.args.now c.in-Last.run' c.restamp-in-Last.new.self
    c.restamp-in-Last.ensures.counter c.restamp-in-Last.ensures.id c.restamp-in-Last.ensures.to c.restamp-in-Last.ensures.seen)
