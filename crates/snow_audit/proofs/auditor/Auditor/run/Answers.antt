-- The first piece, one piece more, and each answer.
use Rattle.std.proofs.Common.{◌≡◌, ◌+◌, ◌-◌, refl, ap, sym, ◌∙◌, subst, length, Ok, rules, arith}
use Rattle.std.proofs.lemmas.List.{length-append}
use Rattle.std.specs.Io.KnownBytes.{IsAtEnd}
use Rattle.snow_engine.specs.Model.Run.{after_frame}
use Rattle.snow_engine.specs.declared.engine.Task.TheVariants as task
use Rattle.snow_engine.proofs.Served.{fed_as, kept_as, taken_few, less_room, nothing_taken}
use Rattle.snow_audit.specs.declared.auditing.AuditEnd.{AuditEnd}
use Rattle.snow_audit.specs.Clauses.Answering.{HasFault, IsRead, IsTold}
use Rattle.snow_audit.specs.Kept.Following.{between, owed_of}
use Rattle.snow_audit.proofs.Framed.{begun_so, answered, finished, limited, none_first, took_piece}
use Rattle.snow_audit.proofs.Taken.{kept_stand}
use Rattle.snow_audit.proofs.Answered.{run_begins, answers_all, answered_all, any_read, limit_plain, limit_read, plain_fault, plain_told, read_plain, took_plain, took_read}
use Rattle.snow_audit.proofs.auditor.Auditor.run.Goals as goal

pub loop-room-init : goal.loop-room-init
loop-room-init g c = record {
  audited = begun_so (after_frame g.C.Chain.rules g.B.Board.answer task.Run) (run_begins g.C.Chain.rules g.B.Board.answer task.Run) (g.S.Source.left c.args.source.now) c.args.self.now.decoder c.args.self.now.follower.stop c.args.self.now.follower.runner.engine
      c.args.self.now.follower.events c.args.self.now.follower.lines c.args.self.now.follower.at c.args.self.now.follower.runner.log
      c.requires.decoder c.requires.stop c.requires.engine c.requires.events c.requires.lines c.requires.log;
  small = rw c.requires.decoder (omega arith);
  whole = rw c.requires.decoder none_first;
  calm = rw c.requires.decoder refl;
  task = c.requires.task;
  stop = rw c.requires.stop tt;
  count = rw (c.requires.events, c.requires.lines, c.requires.decoder) (omega arith);
  source_later = search rules;
}

pub at_end_of_input-requires-clause-given : goal.at_end_of_input-requires-clause-given
at_end_of_input-requires-clause-given g c =
    let small = c.loop-room.invariant.small in
    let same = c.read_from.ensures.given in
    omega (arith, small, same)

pub at_end_of_input-requires-clause-lines : goal.at_end_of_input-requires-clause-lines
at_end_of_input-requires-clause-lines g c =
    let small = c.loop-room.invariant.small in
    let count = c.loop-room.invariant.count in
    omega (arith, small, count)

pub at_end_of_input-requires-clause-calm : goal.at_end_of_input-requires-clause-calm
at_end_of_input-requires-clause-calm g c =
    let took = c.in-Ok.ensures.took in
    let kept = kept_as c.loop-room.self.decoder c.read_from.new.self c.in-Ok.taken took.piece c.if-taken-eq0.true took.long c.read_from.ensures.given took.behind in
    rw kept c.loop-room.invariant.calm

pub returns-then-taken-eq0-clause-answer : goal.returns-then-taken-eq0-clause-answer
returns-then-taken-eq0-clause-answer g c =
    let took = c.in-Ok.ensures.took in
    let none = c.if-taken-eq0.true in
    let kept = kept_as c.loop-room.self.decoder c.read_from.new.self c.in-Ok.taken took.piece none took.long c.read_from.ensures.given took.behind in
    let told = rw kept at c.at_end_of_input.ensures in
    answers_all (after_frame g.C.Chain.rules g.B.Board.answer task.Run) (g.S.Source.left c.args.source.now) _ c.at_end_of_input.result told
    (finished (after_frame g.C.Chain.rules g.B.Board.answer task.Run) (g.S.Source.left c.args.source.now) (g.S.Source.left c.loop-room.source) c.loop-room.self.decoder (between c.loop-room.self.follower.stop c.loop-room.self.follower.runner.engine c.loop-room.self.follower.events c.loop-room.self.follower.lines c.loop-room.self.follower.at c.loop-room.self.follower.runner.log) c.loop-room.room c.loop-room.invariant.audited (g.S.Source.left c.read_from.new.source) c.loop-room-test.true c.loop-room.invariant.whole
    (nothing_taken (g.S.Source.left c.loop-room.source) (g.S.Source.left c.read_from.new.source) c.in-Ok.taken took.piece none took.long took.consumed)
    (c.read_from.ensures.none (c.in-Ok.is ∙ ap Ok none)))

pub returns-then-taken-eq0-clause-told : goal.returns-then-taken-eq0-clause-told
returns-then-taken-eq0-clause-told g c =
    subst (λ (a : AuditEnd). IsTold a) (sym c.at_end_of_input.ensures) (plain_told _ (read_plain (between c.loop-room.self.follower.stop c.loop-room.self.follower.runner.engine c.loop-room.self.follower.events c.loop-room.self.follower.lines c.loop-room.self.follower.at c.loop-room.self.follower.runner.log) c.read_from.new.self.given c.read_from.new.self.rest (kept_stand c.loop-room.self.follower.stop c.loop-room.self.follower.runner.engine c.loop-room.invariant.stop)))

pub returns-then-taken-eq0-clause-read : goal.returns-then-taken-eq0-clause-read
returns-then-taken-eq0-clause-read g c = any_read c.at_end_of_input.result _ (c.read_from.ensures.none (c.in-Ok.is ∙ ap Ok c.if-taken-eq0.true))

pub returns-then-taken-eq0-clause-fault : goal.returns-then-taken-eq0-clause-fault
returns-then-taken-eq0-clause-fault g c =
    subst (λ (a : AuditEnd). HasFault a (g.S.Source.faults c.args.source.now) (g.S.Source.faults c.read_from.new.source)) (sym c.at_end_of_input.ensures)
    (plain_fault _ (g.S.Source.faults c.args.source.now) (g.S.Source.faults c.read_from.new.source)
    (read_plain (between c.loop-room.self.follower.stop c.loop-room.self.follower.runner.engine c.loop-room.self.follower.events c.loop-room.self.follower.lines c.loop-room.self.follower.at c.loop-room.self.follower.runner.log) c.read_from.new.self.given c.read_from.new.self.rest (kept_stand c.loop-room.self.follower.stop c.loop-room.self.follower.runner.engine c.loop-room.invariant.stop)))

pub take_frames-requires-clause-small : goal.take_frames-requires-clause-small
take_frames-requires-clause-small g c =
    let took = c.in-Ok.ensures.took in
    let small = c.loop-room.invariant.small in
    let few = taken_few c.in-Ok.taken c.loop-room.room took.piece took.long c.in-Ok.ensures.few in
    let grown : length c.read_from.new.self.rest ≡ length c.loop-room.self.decoder.rest + length took.piece = ap length took.behind ∙ length-append _ _ in
    omega (arith, small, few, grown, c.read_from.ensures.given)

pub take_frames-requires-clause-count : goal.take_frames-requires-clause-count
take_frames-requires-clause-count g c = rw c.read_from.ensures.given c.loop-room.invariant.count

pub returns-in-Err-clause-answer : goal.returns-in-Err-clause-answer
returns-in-Err-clause-answer g c =
    let took = c.in-Ok.ensures.took in
    let fed = fed_as c.loop-room.self.decoder c.read_from.new.self took.piece c.read_from.ensures.given took.behind in
    let gave = rw fed at c.in-Err.ensures.took in
    answered_all c.in-Err.answer (after_frame g.C.Chain.rules g.B.Board.answer task.Run) (g.S.Source.left c.args.source.now) _ c.take_frames.new.self.decoder (between c.loop-room.self.follower.stop c.loop-room.self.follower.runner.engine c.loop-room.self.follower.events c.loop-room.self.follower.lines c.loop-room.self.follower.at c.loop-room.self.follower.runner.log) (between c.take_frames.new.self.follower.stop c.take_frames.new.self.follower.runner.engine c.take_frames.new.self.follower.events c.take_frames.new.self.follower.lines c.take_frames.new.self.follower.at c.take_frames.new.self.follower.runner.log) gave
    (answered (after_frame g.C.Chain.rules g.B.Board.answer task.Run) (g.S.Source.left c.args.source.now) (g.S.Source.left c.loop-room.source) c.loop-room.self.decoder (between c.loop-room.self.follower.stop c.loop-room.self.follower.runner.engine c.loop-room.self.follower.events c.loop-room.self.follower.lines c.loop-room.self.follower.at c.loop-room.self.follower.runner.log) c.loop-room.room c.loop-room.invariant.audited (g.S.Source.left c.read_from.new.source) took.piece took.consumed
    (taken_few c.in-Ok.taken c.loop-room.room took.piece took.long c.in-Ok.ensures.few) c.in-Err.answer)

pub returns-in-Err-clause-told : goal.returns-in-Err-clause-told
returns-in-Err-clause-told g c = plain_told c.in-Err.answer (took_plain c.in-Err.answer (after_frame g.C.Chain.rules g.B.Board.answer task.Run) c.read_from.new.self c.take_frames.new.self.decoder (between c.loop-room.self.follower.stop c.loop-room.self.follower.runner.engine c.loop-room.self.follower.events c.loop-room.self.follower.lines c.loop-room.self.follower.at c.loop-room.self.follower.runner.log) (between c.take_frames.new.self.follower.stop c.take_frames.new.self.follower.runner.engine c.take_frames.new.self.follower.events c.take_frames.new.self.follower.lines c.take_frames.new.self.follower.at c.take_frames.new.self.follower.runner.log) c.in-Err.ensures.took)

pub returns-in-Err-clause-read : goal.returns-in-Err-clause-read
returns-in-Err-clause-read g c = took_read c.in-Err.answer (after_frame g.C.Chain.rules g.B.Board.answer task.Run) c.read_from.new.self c.take_frames.new.self.decoder (between c.loop-room.self.follower.stop c.loop-room.self.follower.runner.engine c.loop-room.self.follower.events c.loop-room.self.follower.lines c.loop-room.self.follower.at c.loop-room.self.follower.runner.log) (between c.take_frames.new.self.follower.stop c.take_frames.new.self.follower.runner.engine c.take_frames.new.self.follower.events c.take_frames.new.self.follower.lines c.take_frames.new.self.follower.at c.take_frames.new.self.follower.runner.log) _ c.in-Err.ensures.took

pub returns-in-Err-clause-fault : goal.returns-in-Err-clause-fault
returns-in-Err-clause-fault g c = plain_fault c.in-Err.answer _ _ (took_plain c.in-Err.answer (after_frame g.C.Chain.rules g.B.Board.answer task.Run) c.read_from.new.self c.take_frames.new.self.decoder (between c.loop-room.self.follower.stop c.loop-room.self.follower.runner.engine c.loop-room.self.follower.events c.loop-room.self.follower.lines c.loop-room.self.follower.at c.loop-room.self.follower.runner.log) (between c.take_frames.new.self.follower.stop c.take_frames.new.self.follower.runner.engine c.take_frames.new.self.follower.events c.take_frames.new.self.follower.lines c.take_frames.new.self.follower.at c.take_frames.new.self.follower.runner.log) c.in-Err.ensures.took)

pub loop-room-preserved : goal.loop-room-preserved
loop-room-preserved g c =
    let took = c.in-Ok.ensures.took in
    let fed = fed_as c.loop-room.self.decoder c.read_from.new.self took.piece c.read_from.ensures.given took.behind in
    let gave = rw fed at c.in_default.ensures.took in
    let few = taken_few c.in-Ok.taken c.loop-room.room took.piece took.long c.in-Ok.ensures.few in
    let fits = less_room c.in-Ok.taken c.loop-room.room took.piece took.long c.in-Ok.ensures.few in
    let before = c.loop-room.invariant.small in
    let smaller = c.in_default.ensures.small in
    let grown : length c.read_from.new.self.rest ≡ length c.loop-room.self.decoder.rest + length took.piece = ap length took.behind ∙ length-append _ _ in
    record {
      audited = took_piece (after_frame g.C.Chain.rules g.B.Board.answer task.Run) (g.S.Source.left c.args.source.now) (g.S.Source.left c.loop-room.source) c.loop-room.self.decoder (between c.loop-room.self.follower.stop c.loop-room.self.follower.runner.engine c.loop-room.self.follower.events c.loop-room.self.follower.lines c.loop-room.self.follower.at c.loop-room.self.follower.runner.log) c.loop-room.room c.loop-room.invariant.audited (g.S.Source.left c.read_from.new.source) took.piece took.consumed few
          c.take_frames.new.self.decoder (between c.take_frames.new.self.follower.stop c.take_frames.new.self.follower.runner.engine c.take_frames.new.self.follower.events c.take_frames.new.self.follower.lines c.take_frames.new.self.follower.at c.take_frames.new.self.follower.runner.log) (c.loop-room.room - c.in-Ok.taken) fits gave;
      small = omega (arith, before, smaller, grown, fits, c.read_from.ensures.given);
      whole = c.in_default.ensures.whole;
      calm = c.in_default.ensures.calm;
      task = c.take_frames.ensures.task;
      stop = c.take_frames.ensures.stop;
      count = c.in_default.ensures.count;
      source_later = search rules;
    }

pub at_end-requires : goal.at_end-requires
at_end-requires g c =
    let small = c.loop-room.invariant.small in
    let count = c.loop-room.invariant.count in
    omega (arith, small, count)

pub returns-clause-answer : goal.returns-clause-answer
returns-clause-answer g c =
    answers_all (after_frame g.C.Chain.rules g.B.Board.answer task.Run) (g.S.Source.left c.args.source.now) _ c.at_end.result c.at_end.ensures
    (limited (after_frame g.C.Chain.rules g.B.Board.answer task.Run) (g.S.Source.left c.args.source.now) (g.S.Source.left c.loop-room.source) c.loop-room.self.decoder (between c.loop-room.self.follower.stop c.loop-room.self.follower.runner.engine c.loop-room.self.follower.events c.loop-room.self.follower.lines c.loop-room.self.follower.at c.loop-room.self.follower.runner.log) c.loop-room.room c.loop-room.invariant.audited (search rules) c.loop-room.invariant.whole c.loop-room.invariant.calm)

pub returns-clause-told : goal.returns-clause-told
returns-clause-told g c =
    subst (λ (a : AuditEnd). IsTold a) (sym c.at_end.ensures) (plain_told _ (limit_plain (between c.loop-room.self.follower.stop c.loop-room.self.follower.runner.engine c.loop-room.self.follower.events c.loop-room.self.follower.lines c.loop-room.self.follower.at c.loop-room.self.follower.runner.log) (kept_stand c.loop-room.self.follower.stop c.loop-room.self.follower.runner.engine c.loop-room.invariant.stop)))

pub returns-clause-read : goal.returns-clause-read
returns-clause-read g c =
    subst (λ (a : AuditEnd). IsRead a (IsAtEnd (g.S.Source.left c.loop-room.source))) (sym c.at_end.ensures)
    (limit_read (between c.loop-room.self.follower.stop c.loop-room.self.follower.runner.engine c.loop-room.self.follower.events c.loop-room.self.follower.lines c.loop-room.self.follower.at c.loop-room.self.follower.runner.log) (owed_of c.loop-room.self.follower.at c.loop-room.self.follower.runner.log) (IsAtEnd (g.S.Source.left c.loop-room.source)))

pub returns-clause-fault : goal.returns-clause-fault
returns-clause-fault g c =
    subst (λ (a : AuditEnd). HasFault a (g.S.Source.faults c.args.source.now) (g.S.Source.faults c.loop-room.source)) (sym c.at_end.ensures)
    (plain_fault _ _ _ (limit_plain (between c.loop-room.self.follower.stop c.loop-room.self.follower.runner.engine c.loop-room.self.follower.events c.loop-room.self.follower.lines c.loop-room.self.follower.at c.loop-room.self.follower.runner.log) (kept_stand c.loop-room.self.follower.stop c.loop-room.self.follower.runner.engine c.loop-room.invariant.stop)))
