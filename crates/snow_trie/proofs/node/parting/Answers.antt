use Rattle.std.proofs.Common.{arith}
use Rattle.snow_trie.proofs.Parting.{found}
use Rattle.snow_trie.proofs.node.parting.Goals as goal

pub returns-in-Along : goal.returns-in-Along
returns-in-Along c =
    let placed = rw c.in-Along.is at c.requires in
    rw c.in-Along.is (found c.in-Along.run'.id c.args.id.now c.args.from c.in-Along.run'.to c.first_difference.result (omega (arith, placed.0)) c.first_difference.ensures)

pub returns-in-Last : goal.returns-in-Last
returns-in-Last c =
    let placed = rw c.in-Last.is at c.requires in
    rw c.in-Last.is (found c.in-Last.run'.id c.args.id.now c.args.from c.in-Last.run'.to c.first_difference-in-Last.result (omega (arith, placed.0)) c.first_difference-in-Last.ensures)
