use Rattle.board_tests.proofs.trie.random_calls_beside_plain_counters.Given as goal

-- the counter of the blank page
abbrev pub ghosts-compared : goal.ghosts-compared
ghosts-compared g a = record { name = a.blank.name; parts = a.blank.parts }
