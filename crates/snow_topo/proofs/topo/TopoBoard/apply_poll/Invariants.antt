use Rattle.snow_topo.proofs.topo.TopoBoard.apply_poll.Given as goal

abbrev pub ghosts-record_alone : goal.ghosts-record_alone
ghosts-record_alone g a = record { name = a.blank.name; parts = a.blank.parts }
