-- What was gathered was written, or a front of it.
use Rattle.std.proofs.Common.{ℕ, List, subst}
use Rattle.snow_engine.specs.Clauses.Serving.{stand_of, GathersLines, all_worked}
use Rattle.snow_engine.proofs.Flushed.{flushed, broken}
use Rattle.snow_engine.proofs.session.Session.work_all.Goals as goal

pub returns-in-Ok-clause-lines : goal.returns-in-Ok-clause-lines
returns-in-Ok-clause-lines g c =
    let all = all_worked g.C.Chain.rules g.B.Board.answer c.args.self.now.runner.task (stand_of c.args.self.now.runner.engine) c.args.self.now.decoder in
    flushed (g.O.Sink.written c.args.out.now) (g.O.Sink.written c.work_frames-worked.new.out) (g.O.Sink.written c.flush.new.sink) c.work_frames-worked.new.self.page all.lines
    c.work_frames-worked.result (λ e. let bad = rw e at c.if-has_sink_failed.ensures in cc)
    (subst (λ (held : List ℕ). GathersLines c.work_frames-worked.result (g.O.Sink.written c.args.out.now) held (g.O.Sink.written c.work_frames-worked.new.out) c.work_frames-worked.new.self.page all.lines) c.requires.empty c.work_frames-worked.ensures.lines)
    c.in-Ok.ensures.ok

pub returns-in-Err-clause-lines : goal.returns-in-Err-clause-lines
returns-in-Err-clause-lines g c =
    let all = all_worked g.C.Chain.rules g.B.Board.answer c.args.self.now.runner.task (stand_of c.args.self.now.runner.engine) c.args.self.now.decoder in
    broken (g.O.Sink.written c.args.out.now) (g.O.Sink.written c.work_frames-worked.new.out) (g.O.Sink.written c.flush.new.sink) c.work_frames-worked.new.self.page all.lines
    c.work_frames-worked.result (λ e. let bad = rw e at c.if-has_sink_failed.ensures in cc)
    (subst (λ (held : List ℕ). GathersLines c.work_frames-worked.result (g.O.Sink.written c.args.out.now) held (g.O.Sink.written c.work_frames-worked.new.out) c.work_frames-worked.new.self.page all.lines) c.requires.empty c.work_frames-worked.ensures.lines)
    c.in-Err.ensures.err
