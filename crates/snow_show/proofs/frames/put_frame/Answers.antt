use Rattle.std.proofs.Common.{rules, arith, ◌≡◌, Ok, false, [], ◌∷◌, ◌++◌, sym}
use Rattle.snow_wire.specs.declared.event.Event.TheVariants as event
use Rattle.snow_wire.specs.Clauses.Viewed.{as_event}
use Rattle.snow_wire.specs.Model.Reading.{event_of}
use Rattle.snow_text_model.specs.Model.Shown.{event_words, frame_words, is_line, line}
use Rattle.snow_say.specs.Clauses.Lined.{written_words}
use Rattle.snow_show.proofs.Framing.{shown_fault, shown_line, shown_long}
use Rattle.snow_show.proofs.Putting.{puts_as}
use Rattle.snow_text_model.proofs.Told.{own_words_shown}
use Rattle.snow_show.proofs.frames.put_frame.Goals as goal

pub returns-then-payload : goal.returns-then-payload
returns-then-payload c =
    puts_as c.put_as_it_is.result _ _ (line (frame_words c.args.payload.now) ++ 10 ∷ []) _ (sym (shown_long c.args.form c.args.payload.now c.if-payload.true)) c.put_as_it_is.ensures

pub returns-in-Ok-Line : goal.returns-in-Ok-Line
returns-in-Ok-Line c =
    let read : event_of c.args.payload.now ≡ Ok (event.Line c.in-Ok-Line.said.now) = search rules in
    puts_as c.put_written.result _ _ (line (written_words c.in-Ok-Line.said.now c.args.payload.now) ++ 10 ∷ []) _
    (sym (shown_line c.args.form c.args.payload.now c.in-Ok-Line.said.now read)) c.put_written.ensures

pub returns-in-Ok : goal.returns-in-Ok
returns-in-Ok c =
    let event = as_event c.in-Ok.view in
    let other : is_line event ≡ false = search rules in
    puts_as c.put_own_words.result _ _ (line (event_words c.args.form event) ++ 10 ∷ []) _
    (sym (own_words_shown c.args.form c.args.payload.now event (λ i. omega (arith, c.type_inv.payload i)) c.if-payload.false (sym c.in-Ok.ensures) other)) c.put_own_words.ensures

pub returns-in-Err : goal.returns-in-Err
returns-in-Err c =
    puts_as c.put_as_it_is-in-Err.result _ _ (line (frame_words c.args.payload.now) ++ 10 ∷ []) _ (sym (shown_fault c.args.form c.args.payload.now _ (sym c.in-Err.ensures))) c.put_as_it_is-in-Err.ensures
