use Rattle.std.proofs.Common.{◌≡◌, ◌+◌, ◌*◌, ◌^◌, ◌≤◌, length}
use Rattle.snow_text.proofs.Streamed.{Showing}
use Rattle.snow_text.proofs.streaming.Shower.run.Given as goal

abbrev pub invariant-loop-room : goal.invariant-loop-room
invariant-loop-room g l = record {
  showing : Showing l.initial.self.form (g.S.Source.left l.initial.source) (g.S.Source.left l.source) (g.O.Sink.written l.initial.sink) (g.O.Sink.written l.sink) l.self.decoder.rest l.room;
  small : 4 * l.self.decoder.given + length l.self.decoder.rest + l.room ≤ 2 ^ 40;
  form : l.self.form ≡ l.initial.self.form;
  source_later : g.S.Source.faults l.initial.source ≤ g.S.Source.faults l.source;
  sink_later : g.O.Sink.faults l.initial.sink ≤ g.O.Sink.faults l.sink;
}

abbrev pub decreases-loop-room : goal.decreases-loop-room
decreases-loop-room g l = l.room
