-- The lines so far were written or wait.
use Rattle.std.proofs.Common.{◌≤◌, take}
use Rattle.snow_page.specs.Kept.Gathered.{Gathers}
use Rattle.snow_lines.specs.Model.Text.{texts}
use Rattle.snow_page.proofs.page.Page.print_some.Given as goal

abbrev pub invariant-loop-line : goal.invariant-loop-line
invariant-loop-line g l =
    Gathers (g.K.Sink.written l.initial.sink) l.initial.self (g.K.Sink.written l.sink) l.self (texts (take l.line-index l.lines))
    × (g.K.Sink.faults l.initial.sink ≤ g.K.Sink.faults l.sink)
