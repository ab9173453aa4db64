-- The parts so far were written or wait.
use Rattle.std.proofs.Common.{◌≤◌, flat_map, take}
use Rattle.snow_page.specs.Kept.Gathered.{Gathers}
use Rattle.snow_page.proofs.part.put_all.Given as goal

abbrev pub invariant-loop-part : goal.invariant-loop-part
invariant-loop-part g l =
    Gathers (g.K.Sink.written l.initial.sink) (g.G.Gather.waiting l.initial.out) (g.K.Sink.written l.sink) (g.G.Gather.waiting l.out) (flat_map (λ x. g.T.Part.text x) (take l.part-index l.parts))
    × (g.K.Sink.faults l.initial.sink ≤ g.K.Sink.faults l.sink)
