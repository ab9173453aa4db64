-- One frame was worked: its lines, and where the run stands.
use Rattle.std.proofs.Common.{◌≡◌, ℕ, ◌+◌, Bool, true, false, List, [], ◌∷◌, ◌++◌, append_assoc, append-nil, Option, Some, None, Result, Ok, Err, refl, sym, ap, ◌∙◌, subst, inl, inr}
use Rattle.std.proofs.lemmas.List.Concat.{flat_map-append}
use Rattle.snow_base.specs.Clauses.Outside.{AppendsFront}
use Rattle.snow_base.proofs.Known.{front_of_more}
use Rattle.snow_flake.specs.Model.Rule.{Answer}
use Rattle.snow_chain.specs.Model.Chain.{Rules}
use Rattle.snow_wire.specs.Model.Frame.{first_of, is_too_long}
use Rattle.snow_wire.specs.Clauses.Stream.{Intake}
use Rattle.snow_wire.proofs.Streams.{long_first}
use Rattle.snow_lines.specs.declared.line.Line.{Line}
use Rattle.snow_page.specs.Kept.Gathered.{Gathers}
use Rattle.snow_lines.specs.Model.Text.{text, texts}
use Rattle.snow_page.proofs.Waiting.{gathers_none}
use Rattle.snow_engine.specs.declared.engine.Task.{Task}
use Rattle.snow_engine.specs.declared.end.BadKind.TheVariants as kind
use Rattle.snow_engine.specs.declared.end.End.{End}
use Rattle.snow_engine.specs.declared.end.End.TheVariants as end
use Rattle.snow_engine.specs.Kept.Staging.{Node}
use Rattle.snow_engine.specs.Model.Run.{Stand, after_frame, is_stopped}
use Rattle.snow_node.specs.Clauses.Stepping.{LogsFront}
use Rattle.snow_engine.specs.Clauses.Boxing.{IsBoxed}
use Rattle.snow_engine.specs.Clauses.Serving.{stand_of, Stands, LogsFrame, Goes, GathersLines, GathersFront, Halts, front_worked, one_worked}

-- what isn't a stop is none
pub no_stop : {A : Type 0} → false ≡ true → A
no_stop e = absurd cc

-- the texts of lines in front and of those behind
pub texts_parts : (front rest lines : List Line) → front ++ rest ≡ lines → texts front ++ texts rest ≡ texts lines
texts_parts front rest lines e = sym (flat_map-append text front rest) ∙ ap texts e

-- the text of one line
pub one_text : (l : Line) → texts (l ∷ []) ≡ text l
one_text l = append-nil (text l)

-- a front of the lines was logged, and all of that was gathered
logged_front : (new lines : List Line) (before : Option (List ℕ)) (held : List ℕ) (after : Option (List ℕ)) (kept : List ℕ)
    → LogsFront [] new lines → Gathers before held after kept (texts new) → GathersFront before held after kept (texts lines)
logged_front new lines before held after kept p g = record {
  front = texts p.front;
  rest = texts p.rest;
  whole = texts_parts p.front p.rest lines p.whole;
  gathered = subst (λ (l : List Line). Gathers before held after kept (texts l)) p.grown g;
}

all_logged : (new lines : List Line) (before : Option (List ℕ)) (held : List ℕ) (after : Option (List ℕ)) (kept : List ℕ)
    → new ≡ lines → Gathers before held after kept (texts new) → Gathers before held after kept (texts lines)
all_logged new lines before held after kept e g = subst (λ (l : List Line). Gathers before held after kept (texts l)) e g

-- what a frame logged was gathered
pub gathered : {T : Type 0} (result : Result T End) (now : Option Node) (stand : Stand) (new lines : List Line) (before : Option (List ℕ)) (held : List ℕ) (after : Option (List ℕ)) (kept : List ℕ)
    → Stands result now stand → LogsFrame result [] new lines → Gathers before held after kept (texts new) → GathersLines result before held after kept lines
gathered (Ok x) now stand new lines before held after kept s l g = all_logged new lines before held after kept l g
gathered (Err end.Memory) now stand new lines before held after kept s l g = logged_front new lines before held after kept l g
gathered (Err end.SinkFault) now stand new lines before held after kept s l g = no_stop s.0
gathered (Err e) now stand new lines before held after kept s l g = all_logged new lines before held after kept l g

-- what a frame logged are its lines, or a front of them
logged : {T : Type 0} (result : Result T End) (new lines : List Line) → LogsFrame result [] new lines → LogsFront [] new lines
logged (Ok x) new lines l = record { front = new; rest = []; whole = append-nil new ∙ l; grown = refl }
logged (Err end.Memory) new lines l = l
logged (Err e) new lines l = record { front = new; rest = []; whole = append-nil new ∙ l; grown = refl }

-- what a frame logged failed to be gathered
pub failed : {T : Type 0} (result : Result T End) (new lines : List Line) (before : Option (List ℕ)) (held : List ℕ) (after : Option (List ℕ))
    → LogsFrame result [] new lines → AppendsFront before after (held ++ texts new) → AppendsFront before after (held ++ texts lines)
failed result new lines before held after l p =
    let f = logged result new lines l in
    front_of_more before after (held ++ texts new) (texts f.rest) (held ++ texts lines) p
    (append_assoc held (texts new) (texts f.rest) ∙ ap (λ (bs : List ℕ). held ++ bs) (ap (λ (ls : List Line). texts ls ++ texts f.rest) f.grown ∙ texts_parts f.front f.rest lines f.whole))

-- the same where the frame was the first of a decoder
pub failed_first : {T : Type 0} (rules : Rules) (answer : Answer) (task : Task) (stand : Stand) (intake : Intake) (payload rest : List ℕ) (frame : ℕ) (result : Result T End) (new : List Line)
    (before : Option (List ℕ)) (held : List ℕ) (after : Option (List ℕ)) → first_of intake.rest ≡ Some (payload, rest) → frame ≡ intake.given + 1
    → LogsFrame result [] new (after_frame rules answer task stand frame payload).0 → AppendsFront before after (held ++ texts new)
    → AppendsFront before after (held ++ texts (one_worked rules answer task stand intake).lines)
failed_first rules answer task stand intake payload rest frame result new before held after first number l p =
    let lines : (after_frame rules answer task stand frame payload).0 ≡ (one_worked rules answer task stand intake).lines =
    ap (λ (n : ℕ). (after_frame rules answer task stand n payload).0) number
    ∙ sym (ap (λ (o : Option (List ℕ × List ℕ)). (front_worked rules answer task stand intake o).lines) first) in
    failed result new (one_worked rules answer task stand intake).lines before held after (subst (λ (ls : List Line). LogsFrame result [] new ls) lines l) p

-- ---- a length that no frame has

-- no node has stopped
pub never_stopped : (o : Option Node) → is_stopped (stand_of o) ≡ false
never_stopped None = refl
never_stopped (Some node) = refl

-- without a first frame nothing is worked
pub none_worked : (rules : Rules) (answer : Answer) (task : Task) (stand : Stand) (intake : Intake) → first_of intake.rest ≡ None
    → one_worked rules answer task stand intake ≡ record { lines = []; stand = stand; intake = intake }
none_worked rules answer task stand intake e = ap (front_worked rules answer task stand intake) e

-- a length that no frame has ends the run
pub long_halts : (rules : Rules) (answer : Answer) (task : Task) (o : Option Node) (intake : Intake) → is_too_long intake.rest ≡ true
    → Halts (one_worked rules answer task (stand_of o) intake) (end.BadInput (intake.given + 1) kind.Length)
long_halts rules answer task o intake long =
    rw (none_worked rules answer task (stand_of o) intake (long_first intake.rest long)) (inr (never_stopped o, long, refl))

-- and so does that end in a box
pub long_goes : (rules : Rules) (answer : Answer) (task : Task) (o p : Option Node) (intake rest : Intake) (b : End) → is_too_long intake.rest ≡ true
    → IsBoxed end.Memory (end.BadInput (intake.given + 1) kind.Length) b → Goes {T = Bool} (Err b) p rest (one_worked rules answer task (stand_of o) intake)
long_goes rules answer task o p intake rest b long (inl same) = rw same (refl, long_halts rules answer task o intake long)
long_goes rules answer task o p intake rest b long (inr none) = rw none tt

-- no line comes of it
pub long_gathers : (rules : Rules) (answer : Answer) (task : Task) (stand : Stand) (intake : Intake) (b : End) (before : Option (List ℕ)) (held : List ℕ) → is_too_long intake.rest ≡ true
    → IsBoxed end.Memory (end.BadInput (intake.given + 1) kind.Length) b → GathersLines {T = Bool} (Err b) before held before held (one_worked rules answer task stand intake).lines
long_gathers rules answer task stand intake b before held long (inl same) =
    rw (same, none_worked rules answer task stand intake (long_first intake.rest long)) (gathers_none before held)
long_gathers rules answer task stand intake b before held long (inr none) =
    rw (none, none_worked rules answer task stand intake (long_first intake.rest long)) (record { front = []; rest = []; whole = refl; gathered = gathers_none before held })
