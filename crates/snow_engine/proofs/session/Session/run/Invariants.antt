-- The lines of the pieces so far were written.
use Rattle.std.proofs.Common.{◌≡◌, ◌≤◌, []}
use Rattle.snow_engine.proofs.Served.{Served}
use Rattle.snow_engine.proofs.session.Session.run.Given as goal

abbrev pub invariant-loop-room : goal.invariant-loop-room
invariant-loop-room g l = record {
  served : Served g.C.Chain.rules g.B.Board.answer l.initial.self.runner.task (g.S.Source.left l.initial.source) (g.S.Source.left l.source)
      (g.O.Sink.written l.initial.out) (g.O.Sink.written l.out) l.self.runner.engine l.self.decoder l.room;
  page : l.self.page ≡ [];
  task : l.self.runner.task ≡ l.initial.self.runner.task;
  source_later : g.S.Source.faults l.initial.source ≤ g.S.Source.faults l.source;
  out_later : g.O.Sink.faults l.initial.out ≤ g.O.Sink.faults l.out;
}

abbrev pub decreases-loop-room : goal.decreases-loop-room
decreases-loop-room g l = l.room
