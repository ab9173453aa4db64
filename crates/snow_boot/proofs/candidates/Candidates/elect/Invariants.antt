-- Those that were elected and those among what is left make all.
use Rattle.std.proofs.Common.{◌≡◌, ◌++◌, drop}
use Rattle.snow_boot.specs.Model.Electing.{majority}
use Rattle.snow_boot.proofs.candidates.Candidates.elect.Given as goal

abbrev pub invariant-loop-candidate : goal.invariant-loop-candidate
invariant-loop-candidate l = l.elected ++ majority l.total (drop l.candidate-index l.candidate-items) ≡ majority l.total l.candidate-items
