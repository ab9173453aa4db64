-- The lines so far were written.
use Rattle.std.proofs.Common.{◌≤◌, take}
use Rattle.std.specs.Io.KnownBytes.{Appends}
use Rattle.snow_lines.specs.Model.Text.{texts}
use Rattle.snow_page.proofs.printing.print_all.Given as goal

abbrev pub invariant-loop-line : goal.invariant-loop-line
invariant-loop-line g l =
    Appends (g.K.Sink.written l.initial.sink) (g.K.Sink.written l.sink) (texts (take l.line-index l.lines))
    × (g.K.Sink.faults l.initial.sink ≤ g.K.Sink.faults l.sink)
