-- The starts so far, and where the last run's search ended.
use Rattle.std.proofs.Common.{◌≡◌, ◌*◌, ◌≤◌, length}
use Rattle.snow_sample.specs.Kept.Guide.{AreStarts}
use Rattle.snow_sample.proofs.Guiding.{AreBefore}
use Rattle.snow_sample.proofs.guide.starts_of.Given as goal

abbrev pub invariant-loop-run : goal.invariant-loop-run
invariant-loop-run l =
    (length l.starts.items ≡ l.run) × (l.at ≤ length l.ends) × AreStarts l.ends l.width l.starts.items
    × AreBefore l.ends (l.run * l.width) l.at
