-- One frame more, none any more, or the end of the run.
use Rattle.std.proofs.Common.{sym, ◌∙◌, le_trans}
use Rattle.std.proofs.lemmas.Result.{err_from_is_err_and}
use Rattle.snow_engine.specs.Clauses.Serving.{stand_of}
use Rattle.snow_engine.proofs.Going.{goes_all, gathers_all, goes_on, all_gone, smaller_as, shorter_as, none_behind}
use Rattle.snow_engine.proofs.session.Session.work_frames.Goals as goal

pub returns-in_err-work_next-clause-goes : goal.returns-in_err-work_next-clause-goes
returns-in_err-work_next-clause-goes g c =
    let goes = rw c.loop.invariant.task at c.in_err-work_next.ensures.goes in
    let lines = rw c.loop.invariant.task at c.in_err-work_next.ensures.lines in
    let p = err_from_is_err_and c.from_residual.result c.from_residual.ensures.1 in
    rw (p.1, p.2) (goes_all g.C.Chain.rules g.B.Board.answer c.args.self.now.runner.task (stand_of c.args.self.now.runner.engine) (stand_of c.loop.self.runner.engine) c.args.self.now.decoder c.loop.self.decoder
    (g.O.Sink.written c.args.out.now) c.args.self.now.page (g.O.Sink.written c.loop.out) c.loop.self.page (g.O.Sink.written c.work_next.new.out) c.work_next.new.self.page c.loop.invariant.gone
    c.in_err-work_next.field-0.0 c.work_next.new.self.runner.engine c.work_next.new.self.runner.engine c.work_next.new.self.decoder c.work_next.new.self.decoder goes lines)

pub returns-in_err-work_next-clause-lines : goal.returns-in_err-work_next-clause-lines
returns-in_err-work_next-clause-lines g c =
    let goes = rw c.loop.invariant.task at c.in_err-work_next.ensures.goes in
    let lines = rw c.loop.invariant.task at c.in_err-work_next.ensures.lines in
    let p = err_from_is_err_and c.from_residual.result c.from_residual.ensures.1 in
    rw (p.1, p.2) (gathers_all g.C.Chain.rules g.B.Board.answer c.args.self.now.runner.task (stand_of c.args.self.now.runner.engine) (stand_of c.loop.self.runner.engine) c.args.self.now.decoder c.loop.self.decoder
    (g.O.Sink.written c.args.out.now) c.args.self.now.page (g.O.Sink.written c.loop.out) c.loop.self.page (g.O.Sink.written c.work_next.new.out) c.work_next.new.self.page c.loop.invariant.gone
    c.in_err-work_next.field-0.0 c.work_next.new.self.runner.engine c.work_next.new.self.decoder goes lines)

pub loop-smaller : goal.loop-smaller
loop-smaller g c =
    let goes = rw c.loop.invariant.task at c.in_ok-work_next.ensures.goes in
    shorter_as g.C.Chain.rules g.B.Board.answer c.args.self.now.runner.task (stand_of c.loop.self.runner.engine) c.loop.self.decoder c.work_next.new.self.decoder goes.1 (sym c.if-branch.true ∙ c.in_ok-work_next.ensures.one)

pub loop-preserved : goal.loop-preserved
loop-preserved g c =
    let goes = rw c.loop.invariant.task at c.in_ok-work_next.ensures.goes in
    let lines = rw c.loop.invariant.task at c.in_ok-work_next.ensures.lines in
    record {
      gone = goes_on g.C.Chain.rules g.B.Board.answer c.args.self.now.runner.task (stand_of c.args.self.now.runner.engine) (stand_of c.loop.self.runner.engine) c.args.self.now.decoder c.loop.self.decoder
          (g.O.Sink.written c.args.out.now) c.args.self.now.page (g.O.Sink.written c.loop.out) c.loop.self.page (g.O.Sink.written c.work_next.new.out) c.work_next.new.self.page c.loop.invariant.gone
          (stand_of c.work_next.new.self.runner.engine) c.work_next.new.self.decoder goes.0 goes.1 lines;
      small = smaller_as g.C.Chain.rules g.B.Board.answer c.args.self.now.runner.task (stand_of c.loop.self.runner.engine) c.loop.self.decoder c.work_next.new.self.decoder goes.1 c.loop.invariant.small;
      task = c.work_next.ensures.task ∙ c.loop.invariant.task;
      later = le_trans c.loop.invariant.later c.work_next.ensures.later;
    }

pub returns-clause-goes : goal.returns-clause-goes
returns-clause-goes g c =
    let goes = rw c.loop.invariant.task at c.in_ok-work_next.ensures.goes in
    let lines = rw c.loop.invariant.task at c.in_ok-work_next.ensures.lines in
    let gone = goes_on g.C.Chain.rules g.B.Board.answer c.args.self.now.runner.task (stand_of c.args.self.now.runner.engine) (stand_of c.loop.self.runner.engine) c.args.self.now.decoder c.loop.self.decoder
    (g.O.Sink.written c.args.out.now) c.args.self.now.page (g.O.Sink.written c.loop.out) c.loop.self.page (g.O.Sink.written c.work_next.new.out) c.work_next.new.self.page c.loop.invariant.gone
    (stand_of c.work_next.new.self.runner.engine) c.work_next.new.self.decoder goes.0 goes.1 lines in
    let all = all_gone g.C.Chain.rules g.B.Board.answer c.args.self.now.runner.task (stand_of c.args.self.now.runner.engine) (stand_of c.work_next.new.self.runner.engine) c.args.self.now.decoder c.work_next.new.self.decoder
    (g.O.Sink.written c.args.out.now) c.args.self.now.page (g.O.Sink.written c.work_next.new.out) c.work_next.new.self.page gone (none_behind g.C.Chain.rules g.B.Board.answer c.args.self.now.runner.task (stand_of c.loop.self.runner.engine) c.loop.self.decoder c.work_next.new.self.decoder goes.1 (sym c.if-branch.false ∙ c.in_ok-work_next.ensures.one)) in
    (all.0, all.1)

pub returns-clause-lines : goal.returns-clause-lines
returns-clause-lines g c =
    let goes = rw c.loop.invariant.task at c.in_ok-work_next.ensures.goes in
    let lines = rw c.loop.invariant.task at c.in_ok-work_next.ensures.lines in
    let gone = goes_on g.C.Chain.rules g.B.Board.answer c.args.self.now.runner.task (stand_of c.args.self.now.runner.engine) (stand_of c.loop.self.runner.engine) c.args.self.now.decoder c.loop.self.decoder
    (g.O.Sink.written c.args.out.now) c.args.self.now.page (g.O.Sink.written c.loop.out) c.loop.self.page (g.O.Sink.written c.work_next.new.out) c.work_next.new.self.page c.loop.invariant.gone
    (stand_of c.work_next.new.self.runner.engine) c.work_next.new.self.decoder goes.0 goes.1 lines in
    let all = all_gone g.C.Chain.rules g.B.Board.answer c.args.self.now.runner.task (stand_of c.args.self.now.runner.engine) (stand_of c.work_next.new.self.runner.engine) c.args.self.now.decoder c.work_next.new.self.decoder
    (g.O.Sink.written c.args.out.now) c.args.self.now.page (g.O.Sink.written c.work_next.new.out) c.work_next.new.self.page gone (none_behind g.C.Chain.rules g.B.Board.answer c.args.self.now.runner.task (stand_of c.loop.self.runner.engine) c.loop.self.decoder c.work_next.new.self.decoder goes.1 (sym c.if-branch.false ∙ c.in_ok-work_next.ensures.one)) in
    all.2
