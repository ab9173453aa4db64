-- The first piece, one piece more, and each end of a stream.
use Rattle.std.proofs.Common.{◌≡◌, ◌+◌, ◌-◌, length, IfSome, Ok, ap, ◌∙◌, refl, le_trans, subst, rules, arith}
use Rattle.std.proofs.lemmas.List.{length-append}
use Rattle.snow_base.specs.Clauses.Outside.{AppendsFront}
use Rattle.snow_wire.specs.Clauses.Stream.{Intake}
use Rattle.snow_wire.specs.Model.Frame.{frames_of}
use Rattle.snow_text_model.specs.declared.block_form.BlockForm.{BlockForm}
use Rattle.snow_text.specs.declared.streaming.ShowEnd.TheVariants as end
use Rattle.snow_text_model.specs.Model.Shown.{shown}
use Rattle.snow_text.specs.Clauses.Streaming.{Passes, WritesText, lines_of}
use Rattle.snow_text.proofs.Streamed.{begins, broke, done, filled, front_shown, more_shown, stopped, undone}
use Rattle.snow_text.proofs.streaming.Shower.run.Goals as goal

pub loop-room-init : goal.loop-room-init
loop-room-init g c = record {
  showing = begins c.args.self.now.form (g.S.Source.left c.args.source.now) (g.O.Sink.written c.args.sink.now) c.args.self.now.decoder.rest (ap (λ (i : Intake). i.rest) c.requires);
  small = omega (arith, ap (λ (i : Intake). i.given) c.requires, ap (λ (i : Intake). length i.rest) c.requires);
  form = refl;
  source_later = search rules;
  sink_later = search rules;
}

pub returns-in-Err-Source-clause-output : goal.returns-in-Err-Source-clause-output
returns-in-Err-Source-clause-output g c =
    let told : IfSome (g.S.Source.left c.args.source.now) (λ bytes. WritesText end.SourceFault (g.O.Sink.written c.args.sink.now) (g.O.Sink.written c.loop-room.sink) (shown c.args.self.now.form bytes)) = front_shown c.args.self.now.form (g.S.Source.left c.args.source.now) (g.S.Source.left c.loop-room.source) (g.O.Sink.written c.args.sink.now) (g.O.Sink.written c.loop-room.sink) c.loop-room.self.decoder.rest c.loop-room.room c.loop-room.invariant.showing in
    told

pub returns-in-Err-Source-clause-broken : goal.returns-in-Err-Source-clause-broken
returns-in-Err-Source-clause-broken g c = λ _. broke c.args.self.now.form (g.S.Source.left c.args.source.now) (g.S.Source.left c.loop-room.source) (g.O.Sink.written c.args.sink.now) (g.O.Sink.written c.loop-room.sink) c.loop-room.self.decoder.rest c.loop-room.room c.loop-room.invariant.showing (g.S.Source.left c.read_from.new.source) c.in-Err-Source.ensures.kept

pub returns-in-Err-Memory-clause-output : goal.returns-in-Err-Memory-clause-output
returns-in-Err-Memory-clause-output g c =
    let told : IfSome (g.S.Source.left c.args.source.now) (λ bytes. WritesText end.Memory (g.O.Sink.written c.args.sink.now) (g.O.Sink.written c.loop-room.sink) (shown c.args.self.now.form bytes)) = front_shown c.args.self.now.form (g.S.Source.left c.args.source.now) (g.S.Source.left c.loop-room.source) (g.O.Sink.written c.args.sink.now) (g.O.Sink.written c.loop-room.sink) c.loop-room.self.decoder.rest c.loop-room.room c.loop-room.invariant.showing in
    told

pub returns-in-Ok-finish-clause-output : goal.returns-in-Ok-finish-clause-output
returns-in-Ok-finish-clause-output g c =
    let took = c.in-Ok.ensures.took in
    let none = c.if-taken-eq0.true in
    let empty : length took.piece ≡ 0 = omega (arith, took.long, none) in
    let told : IfSome (g.S.Source.left c.args.source.now) (λ bytes. WritesText end.Done (g.O.Sink.written c.args.sink.now) (g.O.Sink.written c.finish.new.sink) (shown c.args.self.now.form bytes)) = done c.args.self.now.form (g.S.Source.left c.args.source.now) (g.S.Source.left c.loop-room.source) (g.O.Sink.written c.args.sink.now) (g.O.Sink.written c.loop-room.sink) c.loop-room.self.decoder.rest c.loop-room.room c.loop-room.invariant.showing
    (g.S.Source.left c.read_from.new.source) (g.O.Sink.written c.finish.new.sink) took.piece c.read_from.new.self.rest empty took.consumed took.behind
    (c.read_from.ensures.none (c.in-Ok.is ∙ ap Ok none)) c.in-Ok-finish.ensures.ok in told

pub returns-in-Err-clause-output : goal.returns-in-Err-clause-output
returns-in-Err-clause-output g c =
    let took = c.in-Ok.ensures.took in
    let none = c.if-taken-eq0.true in
    let empty : length took.piece ≡ 0 = omega (arith, took.long, none) in
    undone c.args.self.now.form (g.S.Source.left c.args.source.now) (g.S.Source.left c.loop-room.source) (g.O.Sink.written c.args.sink.now) (g.O.Sink.written c.loop-room.sink) c.loop-room.self.decoder.rest c.loop-room.room c.loop-room.invariant.showing
    c.in-Err.end (g.O.Sink.faults c.loop-room.sink) (g.O.Sink.faults c.finish.new.sink) (g.S.Source.left c.read_from.new.source) (g.O.Sink.written c.finish.new.sink) took.piece c.read_from.new.self.rest c.in-Err.ensures.fault empty took.consumed took.behind
    (c.read_from.ensures.none (c.in-Ok.is ∙ ap Ok none)) c.in-Err.ensures.err

pub returns-in-Err-show_frames-clause-output : goal.returns-in-Err-show_frames-clause-output
returns-in-Err-show_frames-clause-output g c =
    let took = c.in-Ok.ensures.took in
    let front = subst (λ (f : BlockForm). AppendsFront (g.O.Sink.written c.loop-room.sink) (g.O.Sink.written c.show_frames.new.sink) (lines_of f (frames_of c.read_from.new.self.rest).0)) c.loop-room.invariant.form c.in-Err-show_frames.ensures.shows in
    stopped c.args.self.now.form (g.S.Source.left c.args.source.now) (g.S.Source.left c.loop-room.source) (g.O.Sink.written c.args.sink.now) (g.O.Sink.written c.loop-room.sink) c.loop-room.self.decoder.rest c.loop-room.room c.loop-room.invariant.showing
    c.in-Err-show_frames.end (g.O.Sink.faults c.loop-room.sink) (g.O.Sink.faults c.show_frames.new.sink) (g.S.Source.left c.read_from.new.source) (g.O.Sink.written c.show_frames.new.sink) took.piece c.read_from.new.self.rest
    c.in-Err-show_frames.ensures.fault took.consumed took.behind front

pub loop-room-preserved : goal.loop-room-preserved
loop-room-preserved g c =
    let took = c.in-Ok.ensures.took in
    let passes = subst (λ (f : BlockForm). Passes f c.read_from.new.self.rest c.show_frames.new.self.decoder.rest (g.O.Sink.written c.loop-room.sink) (g.O.Sink.written c.show_frames.new.sink)) c.loop-room.invariant.form c.in_default.ensures.shows.0 in
    let less : length took.piece + (c.loop-room.room - c.in-Ok.taken) ≡ c.loop-room.room = omega (arith, took.long, c.in-Ok.ensures.few) in
    let grown : length c.read_from.new.self.rest ≡ length c.loop-room.self.decoder.rest + length took.piece = ap length took.behind ∙ length-append _ _ in
    record {
      showing = more_shown c.args.self.now.form (g.S.Source.left c.args.source.now) (g.S.Source.left c.loop-room.source) (g.O.Sink.written c.args.sink.now) (g.O.Sink.written c.loop-room.sink) c.loop-room.self.decoder.rest c.loop-room.room c.loop-room.invariant.showing
          (g.S.Source.left c.read_from.new.source) (g.O.Sink.written c.show_frames.new.sink) took.piece c.read_from.new.self.rest c.show_frames.new.self.decoder.rest (c.loop-room.room - c.in-Ok.taken)
          took.consumed took.behind less passes c.in_default.ensures.shows.1;
      small = omega (arith, c.show_frames.ensures.small, c.read_from.ensures.given, grown, less, c.loop-room.invariant.small);
      form = c.show_frames.ensures.form ∙ c.loop-room.invariant.form;
      source_later = le_trans c.loop-room.invariant.source_later c.read_from.ensures.later;
      sink_later = le_trans c.loop-room.invariant.sink_later c.show_frames.ensures.later;
    }

pub returns-clause-output : goal.returns-clause-output
returns-clause-output g c =
    let told : IfSome (g.S.Source.left c.args.source.now) (λ bytes. WritesText end.InputLimit (g.O.Sink.written c.args.sink.now) (g.O.Sink.written c.loop-room.sink) (shown c.args.self.now.form bytes)) = front_shown c.args.self.now.form (g.S.Source.left c.args.source.now) (g.S.Source.left c.loop-room.source) (g.O.Sink.written c.args.sink.now) (g.O.Sink.written c.loop-room.sink) c.loop-room.self.decoder.rest c.loop-room.room c.loop-room.invariant.showing in
    told

pub returns-clause-limit : goal.returns-clause-limit
returns-clause-limit g c = λ _. filled c.args.self.now.form (g.S.Source.left c.args.source.now) (g.S.Source.left c.loop-room.source) (g.O.Sink.written c.args.sink.now) (g.O.Sink.written c.loop-room.sink) c.loop-room.self.decoder.rest c.loop-room.room c.loop-room.invariant.showing (search rules)
