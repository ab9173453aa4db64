-- A length that no frame has ends the run, and no line comes of it.
use Rattle.std.proofs.Common.{◌++◌, ap, subst, List, ℕ}
use Rattle.snow_lines.specs.declared.line.Line.{Line}
use Rattle.snow_lines.specs.Model.Text.{texts}
use Rattle.snow_wire.specs.declared.frame.TooLong.{TooLong}
use Rattle.snow_engine.specs.declared.end.BadKind.TheVariants as kind
use Rattle.snow_engine.specs.declared.end.End.TheVariants as end
use Rattle.snow_engine.specs.Clauses.Boxing.{IsBoxed}
use Rattle.snow_engine.specs.Clauses.Serving.{stand_of, told}
use Rattle.snow_base.specs.Clauses.Outside.{AppendsFront}
use Rattle.snow_wire.specs.Clauses.Stream.{taken}
use Rattle.snow_engine.proofs.Worked.{failed_first, long_goes, long_gathers}
use Rattle.snow_engine.proofs.session.Session.work_next.Goals as goal

pub returns-in-Err-clause-goes : goal.returns-in-Err-clause-goes
returns-in-Err-clause-goes g c =
    let number = ap (λ (t : TooLong). t.number) c.in-Err.ensures.answer.1 in
    long_goes g.C.Chain.rules g.B.Board.answer c.args.self.now.runner.task c.args.self.now.runner.engine c.args.self.now.runner.engine c.args.self.now.decoder c.next.follows.lender-at-none
    c.new.result c.in-Err.ensures.answer.0 (subst (λ (n : ℕ). IsBoxed end.Memory (end.BadInput n kind.Length) c.new.result) number c.new.ensures)

pub returns-in-Err-clause-lines : goal.returns-in-Err-clause-lines
returns-in-Err-clause-lines g c =
    let number = ap (λ (t : TooLong). t.number) c.in-Err.ensures.answer.1 in
    long_gathers g.C.Chain.rules g.B.Board.answer c.args.self.now.runner.task (stand_of c.args.self.now.runner.engine) c.args.self.now.decoder
    c.new.result (g.O.Sink.written c.args.out.now) c.args.self.now.page c.in-Err.ensures.answer.0 (subst (λ (n : ℕ). IsBoxed end.Memory (end.BadInput n kind.Length) c.new.result) number c.new.ensures)

pub returns-in-Err-gather-clause-lines : goal.returns-in-Err-gather-clause-lines
returns-in-Err-gather-clause-lines g c =
    let frame = rw c.in-Ok-Some.field-0-is at c.in-Ok-Some.ensures.answer in
    rw c.sink_fault.ensures (failed_first g.C.Chain.rules g.B.Board.answer c.args.self.now.runner.task (stand_of c.args.self.now.runner.engine) c.args.self.now.decoder
    c.in-Ok-Some.frame.payload.now (taken c.args.self.now.decoder).rest c.in-Ok-Some.frame.number c.work-worked.result (told c.in-Ok-Some.frame.number c.work-worked.result c.work-worked.new.self.log)
    (g.O.Sink.written c.args.out.now) c.args.self.now.page (g.O.Sink.written c.gather.new.out) frame.0 frame.1 c.work-worked.ensures.lines
    (subst (λ (l : List Line). AppendsFront (g.O.Sink.written c.args.out.now) (g.O.Sink.written c.gather.new.out) (c.args.self.now.page ++ texts (told c.in-Ok-Some.frame.number c.work-worked.result l))) c.list.ensures c.in-Err-gather.ensures.err))
