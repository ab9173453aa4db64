use Rattle.topo_tests.proofs.counted.fifty_polls_are_replayed.Given as goal

-- the counter of the blank page
abbrev pub ghosts-fifty_replayed : goal.ghosts-fifty_replayed
ghosts-fifty_replayed g a = record { name = a.blank.name; parts = a.blank.parts }
