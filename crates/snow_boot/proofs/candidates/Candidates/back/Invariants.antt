-- Those that were looked at are backed, once each.
use Rattle.std.proofs.Common.{◌≡◌, take}
use Rattle.snow_boot.specs.Model.Electing.{backed}
use Rattle.snow_boot.proofs.candidates.Candidates.back.Given as goal

abbrev pub invariant-loop-id : goal.invariant-loop-id
invariant-loop-id l = l.self ≡ backed l.weight (take l.id-index l.id-items) l.initial.self
