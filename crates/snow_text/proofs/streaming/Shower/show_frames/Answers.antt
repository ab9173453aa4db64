use Rattle.std.proofs.Common.{◌∙◌, le_trans, subst}
use Rattle.std.proofs.lemmas.Result.{err_from_is_err_and}
use Rattle.snow_text_model.specs.declared.block_form.BlockForm.{BlockForm}
use Rattle.snow_text.specs.Clauses.Streaming.{Breaks, TakesFirst}
use Rattle.snow_text.proofs.Streamed.{breaks_all, passes_one, passes_then}
use Rattle.snow_text.proofs.streaming.Shower.show_frames.Goals as goal

pub returns-in_err-show_next-clause-shows : goal.returns-in_err-show_next-clause-shows
returns-in_err-show_next-clause-shows g c =
    let fault = err_from_is_err_and c.from_residual.result c.from_residual.ensures.1 in
    let breaks = subst (λ (f : BlockForm). Breaks f c.loop.self.decoder.rest (g.O.Sink.written c.loop.sink) (g.O.Sink.written c.show_next.new.sink)) c.loop.invariant.form c.in_err-show_next.ensures.shows in
    rw fault.1 (breaks_all c.args.self.now.form c.args.self.now.decoder.rest c.loop.self.decoder.rest (g.O.Sink.written c.args.sink.now) (g.O.Sink.written c.loop.sink) (g.O.Sink.written c.show_next.new.sink) c.loop.invariant.passes breaks)

pub loop-preserved : goal.loop-preserved
loop-preserved g c =
    let shows = rw c.if-branch.true at c.in_ok-show_next.ensures.shows in
    let takes = subst (λ (f : BlockForm). TakesFirst f c.loop.self.decoder.rest c.show_next.new.self.decoder.rest (g.O.Sink.written c.loop.sink) (g.O.Sink.written c.show_next.new.sink)) c.loop.invariant.form shows in
    record {
      passes = passes_then c.args.self.now.form c.args.self.now.decoder.rest c.loop.self.decoder.rest c.show_next.new.self.decoder.rest (g.O.Sink.written c.args.sink.now) (g.O.Sink.written c.loop.sink) (g.O.Sink.written c.show_next.new.sink)
          c.loop.invariant.passes
          (passes_one c.args.self.now.form c.loop.self.decoder.rest c.show_next.new.self.decoder.rest (g.O.Sink.written c.loop.sink) (g.O.Sink.written c.show_next.new.sink) takes);
      small = le_trans c.show_next.ensures.small c.loop.invariant.small;
      form = c.show_next.ensures.form ∙ c.loop.invariant.form;
      later = le_trans c.loop.invariant.later c.show_next.ensures.later;
    }
