-- The run stopped.
use Rattle.std.proofs.Common.{◌+◌, [], List, Option, Err, subst}
use Rattle.snow_lines.specs.declared.line.Line.{Line}
use Rattle.snow_lines.specs.declared.why.SkipKind.{SkipKind}
use Rattle.snow_engine.specs.Model.Run.{Stand, after_frame}
use Rattle.snow_engine.specs.Clauses.Serving.{stand_of, Stands, LogsFrame}
use Rattle.snow_engine.specs.declared.engine.Task.TheVariants as task
use Rattle.snow_audit.specs.Kept.Following.{between, stands}
use Rattle.snow_audit.proofs.Stepped.{same_frame, run_stopped, stop_kept}
use Rattle.snow_audit.proofs.following.Follower.step.Goals as goal

pub returns-in-Err-clause-moves : goal.returns-in-Err-clause-moves
returns-in-Err-clause-moves g c =
    let same = same_frame g.C.Chain.rules g.B.Board.answer c.args.self.now.runner.task task.Run c.args.self.now.stop c.args.self.now.runner.engine (c.args.self.now.events + 1) c.args.payload.now c.requires.task c.requires.stop in
    run_stopped c.in-Err.how c.work.new.self.engine c.stops.new.self.runner.engine c.args.frame
    (between c.args.self.now.stop c.args.self.now.runner.engine c.args.self.now.events c.args.self.now.lines c.args.self.now.at c.args.self.now.runner.log)
    (after_frame g.C.Chain.rules g.B.Board.answer task.Run (stands c.args.self.now.stop c.args.self.now.runner.engine) (c.args.self.now.events + 1) c.args.payload.now)
    c.work.new.self.log c.stops.new.self.runner.log c.stops.new.self.stop c.stops.new.self.events c.stops.new.self.lines c.stops.new.self.at c.stops.result
    (subst (λ (now : List Line × Stand). Stands {T = Option SkipKind} (Err c.in-Err.how) c.work.new.self.engine now.1) same c.in-Err.ensures.stand)
    (subst (λ (now : List Line × Stand). LogsFrame {T = Option SkipKind} (Err c.in-Err.how) [] c.work.new.self.log now.0) same c.in-Err.ensures.lines)
    c.stops.ensures.stop c.stops.ensures.memory c.stops.ensures.other c.stops.ensures.log c.stops.ensures.events c.stops.ensures.lines c.stops.ensures.at

pub returns-in-Err-clause-stop : goal.returns-in-Err-clause-stop
returns-in-Err-clause-stop g c =
    stop_kept c.stops.result c.in-Err.how c.work.new.self.engine c.args.frame
    (after_frame g.C.Chain.rules g.B.Board.answer c.args.self.now.runner.task (stand_of c.args.self.now.runner.engine) (c.args.self.now.events + 1) c.args.payload.now).1
    c.stops.new.self.stop c.args.self.now.stop c.in-Err.ensures.stand c.stops.ensures.stop c.stops.ensures.other c.stops.ensures.kept c.requires.stop
