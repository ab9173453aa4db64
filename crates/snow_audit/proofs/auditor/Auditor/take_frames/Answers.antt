-- One frame more, none any more, or the answer.
use Rattle.std.proofs.Common.{◌∙◌, le_trans}
use Rattle.std.proofs.lemmas.Result.{err_from_is_err_and}
use Rattle.snow_engine.specs.Model.Run.{after_frame}
use Rattle.snow_engine.specs.declared.engine.Task.TheVariants as task
use Rattle.snow_audit.specs.Kept.Following.{between}
use Rattle.snow_audit.proofs.Taken.{then_answers}
use Rattle.snow_audit.proofs.auditor.Auditor.take_frames.Goals as goal

pub returns-in_err-take_next-clause-took : goal.returns-in_err-take_next-clause-took
returns-in_err-take_next-clause-took g c =
    let fault = err_from_is_err_and c.from_residual.result c.from_residual.ensures.1 in
    rw (fault.1, fault.2)
    (then_answers c.in_err-take_next.field-0.0 (after_frame g.C.Chain.rules g.B.Board.answer task.Run) c.args.self.now.decoder c.loop.self.decoder c.take_next.new.self.decoder c.take_next.new.self.decoder (between c.args.self.now.follower.stop c.args.self.now.follower.runner.engine c.args.self.now.follower.events c.args.self.now.follower.lines c.args.self.now.follower.at c.args.self.now.follower.runner.log) (between c.loop.self.follower.stop c.loop.self.follower.runner.engine c.loop.self.follower.events c.loop.self.follower.lines c.loop.self.follower.at c.loop.self.follower.runner.log) (between c.take_next.new.self.follower.stop c.take_next.new.self.follower.runner.engine c.take_next.new.self.follower.events c.take_next.new.self.follower.lines c.take_next.new.self.follower.at c.take_next.new.self.follower.runner.log) (between c.take_next.new.self.follower.stop c.take_next.new.self.follower.runner.engine c.take_next.new.self.follower.events c.take_next.new.self.follower.lines c.take_next.new.self.follower.at c.take_next.new.self.follower.runner.log)
    c.loop.invariant.took c.in_err-take_next.ensures.took)

pub loop-preserved : goal.loop-preserved
loop-preserved g c = record {
  took = λ more is_full. c.loop.invariant.took more is_full ∙ c.in_ok-take_next.ensures.took more is_full;
  small = le_trans c.in_ok-take_next.ensures.small c.loop.invariant.small;
  task = c.take_next.ensures.task;
  stop = c.take_next.ensures.stop;
  count = c.in_ok-take_next.ensures.count;
}

pub returns-clause-took : goal.returns-clause-took
returns-clause-took g c = λ more is_full. c.loop.invariant.took more is_full ∙ c.in_ok-take_next.ensures.took more is_full
