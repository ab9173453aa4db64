-- A frame was taken, or a length came that no frame has.
use Rattle.std.proofs.Common.{ap}
use Rattle.std.proofs.lemmas.Result.{err_from_is_err_and}
use Rattle.snow_wire.specs.declared.frame.TooLong.{TooLong}
use Rattle.snow_engine.specs.Model.Run.{after_frame}
use Rattle.snow_engine.specs.declared.engine.Task.TheVariants as task
use Rattle.snow_audit.specs.Kept.Following.{between}
use Rattle.snow_audit.proofs.Taken.{frame_goes, frame_answers, frame_fewer, frame_smaller, kept_stand, long_answers}
use Rattle.snow_audit.proofs.auditor.Auditor.take_next.Goals as goal

pub returns-in_err-take-in-Ok-Some-clause-took : goal.returns-in_err-take-in-Ok-Some-clause-took
returns-in_err-take-in-Ok-Some-clause-took g c =
    let frame = rw c.in-Ok-Some.field-0-is at c.in-Ok-Some.ensures.answer in
    let fault = err_from_is_err_and c.from_residual.result c.from_residual.ensures.1 in
    rw (fault.1, fault.2)
    (frame_answers (after_frame g.C.Chain.rules g.B.Board.answer task.Run) c.args.self.now.decoder (between c.args.self.now.follower.stop c.args.self.now.follower.runner.engine c.args.self.now.follower.events c.args.self.now.follower.lines c.args.self.now.follower.at c.args.self.now.follower.runner.log) c.in-Ok-Some.frame.number c.in-Ok-Some.frame.payload.now frame.0 frame.1
    c.in_err-take-in-Ok-Some.field-0.0 c.next.follows.lender-at-none (between c.take.new.self.stop c.take.new.self.runner.engine c.take.new.self.events c.take.new.self.lines c.take.new.self.at c.take.new.self.runner.log) (between c.take.new.self.stop c.take.new.self.runner.engine c.take.new.self.events c.take.new.self.lines c.take.new.self.at c.take.new.self.runner.log) c.in_err-take-in-Ok-Some.ensures.moves)

pub returns-in_ok-take-in-Ok-Some-clause-took : goal.returns-in_ok-take-in-Ok-Some-clause-took
returns-in_ok-take-in-Ok-Some-clause-took g c =
    let frame = rw c.in-Ok-Some.field-0-is at c.in-Ok-Some.ensures.answer in
    frame_goes (after_frame g.C.Chain.rules g.B.Board.answer task.Run) c.args.self.now.decoder (between c.args.self.now.follower.stop c.args.self.now.follower.runner.engine c.args.self.now.follower.events c.args.self.now.follower.lines c.args.self.now.follower.at c.args.self.now.follower.runner.log) c.in-Ok-Some.frame.number c.in-Ok-Some.frame.payload.now frame.0 frame.1
    c.next.follows.lender-at-none (between c.take.new.self.stop c.take.new.self.runner.engine c.take.new.self.events c.take.new.self.lines c.take.new.self.at c.take.new.self.runner.log) c.next.follows.holds-at-none c.in_ok-take-in-Ok-Some.ensures.moves

pub returns-in_ok-take-in-Ok-Some-clause-fewer : goal.returns-in_ok-take-in-Ok-Some-clause-fewer
returns-in_ok-take-in-Ok-Some-clause-fewer g c =
    let frame = rw c.in-Ok-Some.field-0-is at c.in-Ok-Some.ensures.answer in
    λ _. frame_fewer (after_frame g.C.Chain.rules g.B.Board.answer task.Run) c.args.self.now.decoder (between c.args.self.now.follower.stop c.args.self.now.follower.runner.engine c.args.self.now.follower.events c.args.self.now.follower.lines c.args.self.now.follower.at c.args.self.now.follower.runner.log) c.in-Ok-Some.frame.number c.in-Ok-Some.frame.payload.now frame.0 frame.1 c.next.follows.lender-at-none c.next.follows.holds-at-none

pub returns-in_ok-take-in-Ok-Some-clause-small : goal.returns-in_ok-take-in-Ok-Some-clause-small
returns-in_ok-take-in-Ok-Some-clause-small g c =
    let frame = rw c.in-Ok-Some.field-0-is at c.in-Ok-Some.ensures.answer in
    frame_smaller (after_frame g.C.Chain.rules g.B.Board.answer task.Run) c.args.self.now.decoder (between c.args.self.now.follower.stop c.args.self.now.follower.runner.engine c.args.self.now.follower.events c.args.self.now.follower.lines c.args.self.now.follower.at c.args.self.now.follower.runner.log) c.in-Ok-Some.frame.number c.in-Ok-Some.frame.payload.now frame.0 frame.1 c.next.follows.lender-at-none c.next.follows.holds-at-none

pub returns-in-Err-clause-took : goal.returns-in-Err-clause-took
returns-in-Err-clause-took g c =
    long_answers (after_frame g.C.Chain.rules g.B.Board.answer task.Run) c.args.self.now.decoder c.next.follows.lender-at-none (between c.args.self.now.follower.stop c.args.self.now.follower.runner.engine c.args.self.now.follower.events c.args.self.now.follower.lines c.args.self.now.follower.at c.args.self.now.follower.runner.log) (between c.args.self.now.follower.stop c.args.self.now.follower.runner.engine c.args.self.now.follower.events c.args.self.now.follower.lines c.args.self.now.follower.at c.args.self.now.follower.runner.log) c.at_end.result c.in-Err.long.number
    (kept_stand c.args.self.now.follower.stop c.args.self.now.follower.runner.engine c.requires.stop) c.in-Err.ensures.answer.0 (ap (λ (t : TooLong). t.number) c.in-Err.ensures.answer.1) c.at_end.ensures
