use Rattle.codec_tests.proofs.base.steps_are_counted.Given as goal

-- the counter of the blank page
abbrev pub ghosts-two_steps : goal.ghosts-two_steps
ghosts-two_steps a = record { name = a.blank.name; parts = a.blank.parts }
