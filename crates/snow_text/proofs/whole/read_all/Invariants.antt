-- The pieces so far were taken.
use Rattle.snow_text.specs.Kept.Pieces.{Taken}
use Rattle.snow_text.proofs.whole.read_all.Given as goal

abbrev pub invariant-loop-room : goal.invariant-loop-room
invariant-loop-room g l =
    Taken (g.S.Source.left l.initial.source) (g.S.Source.left l.source) l.text l.room (g.S.Source.faults l.initial.source) (g.S.Source.faults l.source) l.buffer

abbrev pub decreases-loop-room : goal.decreases-loop-room
decreases-loop-room g l = l.room
