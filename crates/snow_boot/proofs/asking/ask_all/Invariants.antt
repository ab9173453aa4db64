-- What is still to be asked for makes the whole of what was.
use Rattle.std.proofs.Common.{drop}
use Rattle.snow_boot.specs.Model.Asking.{asked}
use Rattle.snow_boot.specs.Clauses.Calling.{AreDrawn}
use Rattle.snow_boot.proofs.Underway.{IsUnderway}
use Rattle.snow_boot.proofs.asking.ask_all.Given as goal

abbrev pub invariant-loop-target : goal.invariant-loop-target
invariant-loop-target g l =
    IsUnderway l.initial.log l.log (asked l.nodes l.fetching.fetch (drop l.target-index l.target-items) l.requests l.numbers)
    (asked l.nodes l.fetching.fetch l.target-items l.initial.requests l.initial.numbers)
    × AreDrawn l.requests l.numbers
