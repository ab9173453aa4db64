-- A run stopped at its next event.
use Rattle.std.proofs.Common.{◌≡◌, ℕ, ◌+◌, true, List, [], map, drop, Option, Some, None, Result, Ok, Err, refl, sym, ap, ◌∙◌, subst}
use Rattle.std.specs.Prelude.{OnOk, OnErr}
use Rattle.snow_flake.specs.Model.Rule.{Answer}
use Rattle.snow_chain.specs.Model.Chain.{Rules}
use Rattle.snow_lines.specs.declared.line.Line.{Line}
use Rattle.snow_lines.specs.declared.why.SkipKind.{SkipKind}
use Rattle.snow_lines.specs.Model.Text.{text}
use Rattle.snow_engine.specs.declared.engine.Task.{Task}
use Rattle.snow_engine.specs.declared.end.End.{End}
use Rattle.snow_engine.specs.declared.end.End.TheVariants as end
use Rattle.snow_engine.specs.Clauses.Ends.{is_stop}
use Rattle.snow_engine.specs.Kept.Staging.{Node}
use Rattle.snow_engine.specs.Model.Run.{Stand, Stopped, after_frame}
use Rattle.snow_engine.specs.Clauses.Serving.{stand_of, Stands, LogsFrame}
use Rattle.snow_audit.specs.declared.auditing.AuditEnd.{AuditEnd}
use Rattle.snow_audit.specs.declared.auditing.AuditEnd.TheVariants as audit
use Rattle.snow_audit.specs.Model.Auditing.{at_frame}
use Rattle.snow_audit.specs.Kept.Following.{Between, IsKept, Moves, between, standing_at, stands, stepped_to}

-- the frame as the run takes it
pub same_frame : (rules : Rules) (answer : Answer) (t wanted : Task) (stop : Option End) (engine : Option Node) (number : ℕ) (payload : List ℕ) → t ≡ wanted → stop ≡ None
    → after_frame rules answer t (stand_of engine) number payload ≡ after_frame rules answer wanted (stands stop engine) number payload
same_frame rules answer t wanted stop engine number payload e none =
    ap (λ (x : Task). after_frame rules answer x (stand_of engine) number payload) e
    ∙ ap (λ (o : Option End). after_frame rules answer wanted (stands o engine) number payload) (sym none)

-- the audit goes on
abbrev goes : Between → Result Between AuditEnd
goes b = Ok b

same_between : (s s' : Stand) (e e' l l' : ℕ) (o o' : List (List ℕ)) → s ≡ s' → e ≡ e' → l ≡ l' → o ≡ o'
    → goes (record { stand = s; events = e; lines = l; owed = o }) ≡ goes (record { stand = s'; events = e'; lines = l'; owed = o' })
same_between s s' e e' l l' o o' p q r t =
    let made : Stand → ℕ → ℕ → List (List ℕ) → Result Between AuditEnd = λ s e l o. goes (record { stand = s; events = e; lines = l; owed = o }) in
    ap (λ (x : Stand). made x e l o) p ∙ ap (λ (x : ℕ). made s' x l o) q ∙ ap (λ (x : ℕ). made s' e' x o) r ∙ ap (λ (x : List (List ℕ)). made s' e' l' x) t

module _ (kept : End) (engine engine_next : Option Node) (frame : ℕ) (b : Between) (now : List Line × Stand) (log log_next : List Line) (stop : Option End) (events lines at : ℕ) where
  -- what is known of the run and of what is kept
  stopped_so : now.1 ≡ Stopped kept → log ≡ now.0 → stop ≡ Some (at_frame kept frame) → log_next ≡ log → events ≡ b.events + 1 → lines ≡ b.lines → at ≡ 0
      → goes (stepped_to b frame now) ≡ goes (between stop engine_next events lines at log_next)
  stopped_so stood logged is same more still none =
      same_between (standing_at frame now.1) (stands stop engine_next) (b.events + 1) events b.lines lines (map text now.0) (map text (drop at log_next))
      (ap (standing_at frame) stood ∙ sym (ap (λ (o : Option End). stands o engine_next) is))
      (sym more) (sym still)
      (ap (map text) (sym logged ∙ sym same) ∙ sym (ap (λ (n : ℕ). map text (drop n log_next)) none))

  pub run_stopped : (result : Result (Unit {0}) AuditEnd) → Stands {T = Option SkipKind} (Err kept) engine now.1 → LogsFrame {T = Option SkipKind} (Err kept) [] log now.0
      → OnOk result (stop ≡ Some (at_frame kept frame)) → OnErr result ((result ≡ Err (audit.Stopped end.Memory)) × (kept ≡ end.Memory)) → OnOk result (kept ≡ end.Memory → ⊥)
      → log_next ≡ log → events ≡ b.events + 1 → lines ≡ b.lines → at ≡ 0
      → Moves result (between stop engine_next events lines at log_next) (Ok (stepped_to b frame now))
  run_stopped (Err a) stood logged is memory other same more still none =
      subst (λ (r : Result (Unit {0}) AuditEnd). Moves r (between stop engine_next events lines at log_next) (Ok (stepped_to b frame now))) (sym memory.0) tt
  run_stopped (Ok u) stood logged is memory other same more still none = by_end kept refl stood logged
    where
      by_end : (e : End) → e ≡ kept → Stands {T = Option SkipKind} (Err e) engine now.1 → LogsFrame {T = Option SkipKind} (Err e) [] log now.0
          → goes (stepped_to b frame now) ≡ goes (between stop engine_next events lines at log_next)
      by_end end.Memory e stood logged = absurd (other (sym e))
      by_end x e stood logged = stopped_so (stood.1 ∙ ap Stopped e) logged is same more still none

-- a stop that is told of its frame is one
told_stop : (e : End) (frame : ℕ) → is_stop e ≡ true → is_stop (at_frame e frame) ≡ true
told_stop (end.BadInput number kind) frame h = refl
told_stop e frame h = h

pub stop_kept : (result : Result (Unit {0}) AuditEnd) (kept : End) (engine : Option Node) (frame : ℕ) (stand : Stand) (stop before : Option End)
    → Stands {T = Option SkipKind} (Err kept) engine stand → OnOk result (stop ≡ Some (at_frame kept frame)) → OnOk result (kept ≡ end.Memory → ⊥) → OnErr result (stop ≡ before) → before ≡ None → IsKept stop
stop_kept (Err a) kept engine frame stand stop before stood is other same none = rw same (rw none tt)
stop_kept (Ok u) kept engine frame stand stop before stood is other same none = rw is (by_end kept refl stood)
  where
    by_end : (e : End) → e ≡ kept → Stands {T = Option SkipKind} (Err e) engine stand → is_stop (at_frame kept frame) ≡ true
    by_end end.Memory e stood = absurd (other (sym e))
    by_end x e stood = subst (λ (y : End). is_stop (at_frame y frame) ≡ true) e (told_stop x frame stood.0)
