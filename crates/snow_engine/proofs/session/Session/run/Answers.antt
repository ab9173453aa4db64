-- The first piece, one piece more, and each end of a run.
use Rattle.std.proofs.Common.{◌≡◌, ◌+◌, ◌-◌, ap, ◌∙◌, length, Ok, rules, arith}
use Rattle.std.proofs.lemmas.List.{length-append}
use Rattle.snow_engine.proofs.Served.{begins_as, has_room, counts, goes_on, fed_as, kept_as, taken_few, less_room, nothing_taken}
use Rattle.snow_engine.proofs.Ended.{broke_wrote, limited, finished, stopped_is, stopped_wrote}
use Rattle.snow_engine.proofs.session.Session.run.Goals as goal

pub loop-room-init : goal.loop-room-init
loop-room-init g c = record {
  served = begins_as g.C.Chain.rules g.B.Board.answer c.args.self.now.runner.task (g.S.Source.left c.args.source.now) (g.O.Sink.written c.args.out.now) c.args.self.now.runner.engine c.args.self.now.decoder c.requires.engine c.requires.decoder;
  page = c.requires.page;
  task = search rules;
  source_later = search rules;
  out_later = search rules;
}

pub returns-in-Err-Source-clause-output : goal.returns-in-Err-Source-clause-output
returns-in-Err-Source-clause-output g c = broke_wrote g.C.Chain.rules g.B.Board.answer c.args.self.now.runner.task (g.S.Source.left c.args.source.now) (g.S.Source.left c.loop-room.source) (g.O.Sink.written c.args.out.now) (g.O.Sink.written c.loop-room.out)
    c.loop-room.self.runner.engine c.loop-room.self.decoder c.loop-room.room c.loop-room.invariant.served

pub returns-in-Err-Memory-clause-output : goal.returns-in-Err-Memory-clause-output
returns-in-Err-Memory-clause-output g c = broke_wrote g.C.Chain.rules g.B.Board.answer c.args.self.now.runner.task (g.S.Source.left c.args.source.now) (g.S.Source.left c.loop-room.source) (g.O.Sink.written c.args.out.now) (g.O.Sink.written c.loop-room.out)
    c.loop-room.self.runner.engine c.loop-room.self.decoder c.loop-room.room c.loop-room.invariant.served

pub end_of_input-requires : goal.end_of_input-requires
end_of_input-requires g c =
    let same = c.read_from.ensures.given in
    let small = counts g.C.Chain.rules g.B.Board.answer c.args.self.now.runner.task (g.S.Source.left c.args.source.now) (g.S.Source.left c.loop-room.source) (g.O.Sink.written c.args.out.now) (g.O.Sink.written c.loop-room.out)
    c.loop-room.self.runner.engine c.loop-room.self.decoder c.loop-room.room c.loop-room.invariant.served in
    omega (arith, same, small)

pub returns-then-taken-eq0-clause-end : goal.returns-then-taken-eq0-clause-end
returns-then-taken-eq0-clause-end g c =
    let took = c.in-Ok.ensures.took in
    let none = c.if-taken-eq0.true in
    let kept = kept_as c.loop-room.self.decoder c.read_from.new.self c.in-Ok.taken took.piece none took.long c.read_from.ensures.given took.behind in
    let told = rw kept at c.end_of_input.ensures in
    (finished g.C.Chain.rules g.B.Board.answer c.args.self.now.runner.task (g.S.Source.left c.args.source.now) (g.S.Source.left c.loop-room.source) (g.S.Source.left c.read_from.new.source) (g.O.Sink.written c.args.out.now) (g.O.Sink.written c.loop-room.out)
    c.loop-room.self.runner.engine c.loop-room.self.decoder c.loop-room.room c.end_of_input.result c.loop-room.invariant.served c.loop-room-test.true
    (nothing_taken (g.S.Source.left c.loop-room.source) (g.S.Source.left c.read_from.new.source) c.in-Ok.taken took.piece none took.long took.consumed)
    (c.read_from.ensures.none (c.in-Ok.is ∙ ap Ok none)) told).0

pub returns-then-taken-eq0-clause-output : goal.returns-then-taken-eq0-clause-output
returns-then-taken-eq0-clause-output g c =
    let took = c.in-Ok.ensures.took in
    let none = c.if-taken-eq0.true in
    let kept = kept_as c.loop-room.self.decoder c.read_from.new.self c.in-Ok.taken took.piece none took.long c.read_from.ensures.given took.behind in
    let told = rw kept at c.end_of_input.ensures in
    (finished g.C.Chain.rules g.B.Board.answer c.args.self.now.runner.task (g.S.Source.left c.args.source.now) (g.S.Source.left c.loop-room.source) (g.S.Source.left c.read_from.new.source) (g.O.Sink.written c.args.out.now) (g.O.Sink.written c.loop-room.out)
    c.loop-room.self.runner.engine c.loop-room.self.decoder c.loop-room.room c.end_of_input.result c.loop-room.invariant.served c.loop-room-test.true
    (nothing_taken (g.S.Source.left c.loop-room.source) (g.S.Source.left c.read_from.new.source) c.in-Ok.taken took.piece none took.long took.consumed)
    (c.read_from.ensures.none (c.in-Ok.is ∙ ap Ok none)) told).1

pub work_all-requires-clause-small : goal.work_all-requires-clause-small
work_all-requires-clause-small g c =
    let took = c.in-Ok.ensures.took in
    let small = has_room g.C.Chain.rules g.B.Board.answer c.args.self.now.runner.task (g.S.Source.left c.args.source.now) (g.S.Source.left c.loop-room.source) (g.O.Sink.written c.args.out.now) (g.O.Sink.written c.loop-room.out)
    c.loop-room.self.runner.engine c.loop-room.self.decoder c.loop-room.room c.loop-room.invariant.served
    (length took.piece) (taken_few c.in-Ok.taken c.loop-room.room took.piece took.long c.in-Ok.ensures.few) in
    let grown : length c.read_from.new.self.rest ≡ length c.loop-room.self.decoder.rest + length took.piece = ap length took.behind ∙ length-append _ _ in
    omega (arith, small, grown, c.read_from.ensures.given)

pub returns-in-Err-clause-end : goal.returns-in-Err-clause-end
returns-in-Err-clause-end g c =
    let took = c.in-Ok.ensures.took in
    let fed = fed_as c.loop-room.self.decoder c.read_from.new.self took.piece c.read_from.ensures.given took.behind in
    let goes = rw (c.loop-room.invariant.task, fed) at c.in-Err.ensures.goes in
    stopped_is g.C.Chain.rules g.B.Board.answer c.args.self.now.runner.task (g.S.Source.left c.args.source.now) (g.S.Source.left c.loop-room.source) (g.S.Source.left c.read_from.new.source) (g.O.Sink.written c.args.out.now) (g.O.Sink.written c.loop-room.out) (g.O.Sink.written c.work_all.new.out)
    c.loop-room.self.runner.engine c.work_all.new.self.runner.engine c.loop-room.self.decoder c.work_all.new.self.decoder c.loop-room.room c.loop-room.invariant.served
    took.piece took.consumed (taken_few c.in-Ok.taken c.loop-room.room took.piece took.long c.in-Ok.ensures.few) c.in-Err.end goes

pub returns-in-Err-clause-output : goal.returns-in-Err-clause-output
returns-in-Err-clause-output g c =
    let took = c.in-Ok.ensures.took in
    let fed = fed_as c.loop-room.self.decoder c.read_from.new.self took.piece c.read_from.ensures.given took.behind in
    let goes = rw (c.loop-room.invariant.task, fed) at c.in-Err.ensures.goes in
    let lines = rw (c.loop-room.invariant.task, fed) at c.in-Err.ensures.lines in
    stopped_wrote g.C.Chain.rules g.B.Board.answer c.args.self.now.runner.task (g.S.Source.left c.args.source.now) (g.S.Source.left c.loop-room.source) (g.S.Source.left c.read_from.new.source) (g.O.Sink.written c.args.out.now) (g.O.Sink.written c.loop-room.out) (g.O.Sink.written c.work_all.new.out)
    c.loop-room.self.runner.engine c.work_all.new.self.runner.engine c.loop-room.self.decoder c.work_all.new.self.decoder c.loop-room.room c.loop-room.invariant.served
    took.piece took.consumed (taken_few c.in-Ok.taken c.loop-room.room took.piece took.long c.in-Ok.ensures.few) c.in-Err.end goes lines

pub loop-room-preserved : goal.loop-room-preserved
loop-room-preserved g c =
    let took = c.in-Ok.ensures.took in
    let fed = fed_as c.loop-room.self.decoder c.read_from.new.self took.piece c.read_from.ensures.given took.behind in
    let goes = rw (c.loop-room.invariant.task, fed) at c.in_default.ensures.goes in
    let lines = rw (c.loop-room.invariant.task, fed) at c.in_default.ensures.lines in
    record {
      served = goes_on g.C.Chain.rules g.B.Board.answer c.args.self.now.runner.task (g.S.Source.left c.args.source.now) (g.S.Source.left c.loop-room.source) (g.O.Sink.written c.args.out.now) (g.O.Sink.written c.loop-room.out)
          c.loop-room.self.runner.engine c.loop-room.self.decoder c.loop-room.room c.loop-room.invariant.served
          took.piece (g.S.Source.left c.read_from.new.source) (g.O.Sink.written c.work_all.new.out) c.work_all.new.self.runner.engine c.work_all.new.self.decoder (c.loop-room.room - c.in-Ok.taken)
          took.consumed (less_room c.in-Ok.taken c.loop-room.room took.piece took.long c.in-Ok.ensures.few)
          goes.0 goes.1 lines c.in_default.ensures.fine;
      page = c.in_default.ensures.empty;
      task = c.work_all.ensures.task ∙ c.loop-room.invariant.task;
      source_later = search rules;
      out_later = search rules;
    }

pub returns-clause-end : goal.returns-clause-end
returns-clause-end g c = (limited g.C.Chain.rules g.B.Board.answer c.args.self.now.runner.task (g.S.Source.left c.args.source.now) (g.S.Source.left c.loop-room.source) (g.O.Sink.written c.args.out.now) (g.O.Sink.written c.loop-room.out)
    c.loop-room.self.runner.engine c.loop-room.self.decoder c.loop-room.room c.loop-room.invariant.served (search rules)).0

pub returns-clause-output : goal.returns-clause-output
returns-clause-output g c = (limited g.C.Chain.rules g.B.Board.answer c.args.self.now.runner.task (g.S.Source.left c.args.source.now) (g.S.Source.left c.loop-room.source) (g.O.Sink.written c.args.out.now) (g.O.Sink.written c.loop-room.out)
    c.loop-room.self.runner.engine c.loop-room.self.decoder c.loop-room.room c.loop-room.invariant.served (search rules)).1
