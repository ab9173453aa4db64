use Rattle.std.proofs.Common.{length}
use Rattle.snow_text_model.specs.Model.Bytes.{runs_of, short}
use Rattle.snow_show.specs.Kept.Shortening.{runs_text}
use Rattle.snow_show.proofs.Putting.{Going}
use Rattle.snow_show.proofs.bytes.put_short.Given as goal

abbrev pub invariant-loop-rest : goal.invariant-loop-rest
invariant-loop-rest l = Going l.initial.text.items l.text.items (runs_text l.last (runs_of l.rest)) (short l.bytes)

abbrev pub decreases-loop-rest : goal.decreases-loop-rest
decreases-loop-rest l = length l.rest
