-- The lines of the frames so far were gathered, and those of the others are still to come.
use Rattle.std.proofs.Common.{◌≡◌, ◌+◌, ◌*◌, ◌^◌, ◌≤◌, length}
use Rattle.snow_engine.specs.Clauses.Serving.{stand_of}
use Rattle.snow_engine.proofs.Going.{Gone}
use Rattle.snow_engine.proofs.session.Session.work_frames.Given as goal

abbrev pub invariant-loop : goal.invariant-loop
invariant-loop g l = record {
  gone : Gone g.C.Chain.rules g.B.Board.answer l.initial.self.runner.task (stand_of l.initial.self.runner.engine) (stand_of l.self.runner.engine) l.initial.self.decoder l.self.decoder
      (g.O.Sink.written l.initial.out) l.initial.self.page (g.O.Sink.written l.out) l.self.page;
  small : 4 * l.self.decoder.given + length l.self.decoder.rest ≤ 2 ^ 40;
  task : l.self.runner.task ≡ l.initial.self.runner.task;
  later : g.O.Sink.faults l.initial.out ≤ g.O.Sink.faults l.out;
}

abbrev pub decreases-loop : goal.decreases-loop
decreases-loop g l = length l.self.decoder.rest
