-- What is left to do is the same from here.
use Rattle.std.proofs.Common.{◌≡◌, ℕ, ◌+◌, ◌*◌, ◌≤◌, Bool, List, length}
use Rattle.snow_engine.specs.Model.Run.{after_frame}
use Rattle.snow_engine.specs.declared.engine.Task.TheVariants as task
use Rattle.snow_audit.specs.Kept.Following.{IsKept, between, finish}
use Rattle.snow_audit.proofs.auditor.Auditor.take_frames.Given as goal

abbrev pub invariant-loop : goal.invariant-loop
invariant-loop g l = record {
  took : (more : List ℕ) (is_full : Bool) → finish (after_frame g.C.Chain.rules g.B.Board.answer task.Run) l.initial.self.decoder more is_full (between l.initial.self.follower.stop l.initial.self.follower.runner.engine l.initial.self.follower.events l.initial.self.follower.lines l.initial.self.follower.at l.initial.self.follower.runner.log) ≡ finish (after_frame g.C.Chain.rules g.B.Board.answer task.Run) l.self.decoder more is_full (between l.self.follower.stop l.self.follower.runner.engine l.self.follower.events l.self.follower.lines l.self.follower.at l.self.follower.runner.log);
  small : 4 * l.self.decoder.given + length l.self.decoder.rest ≤ 4 * l.initial.self.decoder.given + length l.initial.self.decoder.rest;
  task : l.self.follower.runner.task ≡ task.Run;
  stop : IsKept l.self.follower.stop;
  count : l.self.follower.events + l.self.follower.lines ≤ l.self.decoder.given;
}

abbrev pub decreases-loop : goal.decreases-loop
decreases-loop g l = length l.self.decoder.rest
