use Rattle.std.proofs.Common.{◌≡◌, ◌+◌, ◌*◌, ◌≤◌, length}
use Rattle.snow_text.specs.Clauses.Streaming.{Passes}
use Rattle.snow_text.proofs.streaming.Shower.show_frames.Given as goal

abbrev pub invariant-loop : goal.invariant-loop
invariant-loop g l = record {
  passes : Passes l.initial.self.form l.initial.self.decoder.rest l.self.decoder.rest (g.O.Sink.written l.initial.sink) (g.O.Sink.written l.sink);
  small : 4 * l.self.decoder.given + length l.self.decoder.rest ≤ 4 * l.initial.self.decoder.given + length l.initial.self.decoder.rest;
  form : l.self.form ≡ l.initial.self.form;
  later : g.O.Sink.faults l.initial.sink ≤ g.O.Sink.faults l.sink;
}

abbrev pub decreases-loop : goal.decreases-loop
decreases-loop g l = length l.self.decoder.rest
