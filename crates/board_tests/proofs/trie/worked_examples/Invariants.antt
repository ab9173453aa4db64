use Rattle.board_tests.proofs.trie.worked_examples.Given as goal

-- the counter of the blank page
abbrev pub ghosts-examples : goal.ghosts-examples
ghosts-examples g a = record { name = a.blank.name; parts = a.blank.parts }
