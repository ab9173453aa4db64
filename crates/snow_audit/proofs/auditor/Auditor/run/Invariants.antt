-- What is left to do gives the answer of all bytes.
use Rattle.std.proofs.Common.{◌≡◌, ◌+◌, ◌*◌, ◌^◌, ◌≤◌, false, None, length}
use Rattle.snow_wire.specs.Model.Frame.{first_of, is_too_long}
use Rattle.snow_engine.specs.Model.Run.{after_frame}
use Rattle.snow_engine.specs.declared.engine.Task.TheVariants as task
use Rattle.snow_audit.specs.Kept.Following.{IsKept, between}
use Rattle.snow_audit.proofs.Framed.{Audited}
use Rattle.snow_audit.proofs.auditor.Auditor.run.Given as goal

abbrev pub invariant-loop-room : goal.invariant-loop-room
invariant-loop-room g l = record {
  audited : Audited (after_frame g.C.Chain.rules g.B.Board.answer task.Run) (g.S.Source.left l.initial.source) (g.S.Source.left l.source) l.self.decoder (between l.self.follower.stop l.self.follower.runner.engine l.self.follower.events l.self.follower.lines l.self.follower.at l.self.follower.runner.log) l.room;
  small : 4 * l.self.decoder.given + length l.self.decoder.rest + l.room ≤ 2 ^ 40;
  whole : first_of l.self.decoder.rest ≡ None;
  calm : is_too_long l.self.decoder.rest ≡ false;
  task : l.self.follower.runner.task ≡ task.Run;
  stop : IsKept l.self.follower.stop;
  count : l.self.follower.events + l.self.follower.lines ≤ l.self.decoder.given;
  source_later : g.S.Source.faults l.initial.source ≤ g.S.Source.faults l.source;
}

abbrev pub decreases-loop-room : goal.decreases-loop-room
decreases-loop-room g l = l.room
