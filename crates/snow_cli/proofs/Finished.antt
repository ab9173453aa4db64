-- How a command ends, by how a run ended and by what an audit found.
use Rattle.std.proofs.Common.{◌≡◌, ℕ, List, [], Option, Some, None, refl, sym, ap, subst, ◌∙◌, append-nil}
use Rattle.std.specs.Prelude.{IfSome}
use Rattle.std.specs.Io.KnownBytes.{Appends}
use Rattle.std.proofs.lemmas.Option.{IfSome_then}
use Rattle.snow_engine.specs.declared.end.End.{End}
use Rattle.snow_engine.specs.declared.end.End.TheVariants as end
use Rattle.snow_engine.specs.Clauses.Serving as serving
use Rattle.snow_audit.specs.declared.auditing.AuditEnd.{AuditEnd}
use Rattle.snow_audit.specs.declared.auditing.AuditEnd.TheVariants as audit
use Rattle.snow_audit.specs.Clauses.Answering as auditing
use Rattle.snow_cli.specs.declared.status.Finish.{Finish}
use Rattle.snow_cli.specs.declared.status.Finish.TheVariants as finish
use Rattle.snow_cli.specs.declared.status.Status.TheVariants as status
use Rattle.snow_cli.specs.Clauses.Answer.{end_status, status_of, told_by, IsAnswer, IsFinish, Wrote, HasFault, audit_finish, audit_text, Tells, Whole, Front, Told}
use Rattle.snow_cli.proofs.Drilled.{nothing_front}

-- ---- the end of a run

pub ended_finish : (e x : End) → serving.IsEnd e x → IsFinish (finish.Ended e) (finish.Ended x)
ended_finish end.Done x is = ap (λ y. Some (finish.Ended y)) is
ended_finish (end.BadInput frame kind) x is = ap (λ y. Some (finish.Ended y)) is
ended_finish end.SourceFault x is = refl
ended_finish end.SinkFault x is = refl
ended_finish end.Memory x is = refl
ended_finish end.InputLimit x is = ap (λ y. Some (finish.Ended y)) is
ended_finish end.RequestLimit x is = ap (λ y. Some (finish.Ended y)) is
ended_finish (end.BootStopped why) x is = ap (λ y. Some (finish.Ended y)) is

pub ended_wrote : (e : End) (before after : Option (List ℕ)) (text : List ℕ) → serving.Wrote e before after text → Wrote (end_status e) before after text
ended_wrote end.Done before after text h = h
ended_wrote (end.BadInput frame kind) before after text h = h
ended_wrote end.SourceFault before after text h = h
ended_wrote end.SinkFault before after text h = h
ended_wrote end.Memory before after text h = h
ended_wrote end.InputLimit before after text h = h
ended_wrote end.RequestLimit before after text h = h
ended_wrote (end.BootStopped why) before after text h = h

pub ended_fault : (e : End) (source_before source_after sink_before sink_after : ℕ) → serving.HasFault e source_before source_after sink_before sink_after
    → HasFault (end_status e) source_before source_after sink_before sink_after
ended_fault end.Done b a sb sa h = h
ended_fault (end.BadInput frame kind) b a sb sa h = h
ended_fault end.SourceFault b a sb sa h = h
ended_fault end.SinkFault b a sb sa h = h
ended_fault end.Memory b a sb sa h = h
ended_fault end.InputLimit b a sb sa h = h
ended_fault end.RequestLimit b a sb sa h = h
ended_fault (end.BootStopped why) b a sb sa h = h

pub source_fault_is : (e : End) → end_status e ≡ status.SourceFault → e ≡ end.SourceFault
source_fault_is end.Done is = absurd (cc)
source_fault_is (end.BadInput frame kind) is = absurd (cc)
source_fault_is end.SourceFault is = refl
source_fault_is end.SinkFault is = absurd (cc)
source_fault_is end.Memory is = absurd (cc)
source_fault_is end.InputLimit is = absurd (cc)
source_fault_is end.RequestLimit is = absurd (cc)
source_fault_is (end.BootStopped why) is = absurd (cc)

pub done_is : (e : End) → end_status e ≡ status.Done → e ≡ end.Done
done_is end.Done is = refl
done_is (end.BadInput frame kind) is = absurd (cc)
done_is end.SourceFault is = absurd (cc)
done_is end.SinkFault is = absurd (cc)
done_is end.Memory is = absurd (cc)
done_is end.InputLimit is = absurd (cc)
done_is end.RequestLimit is = absurd (cc)
done_is (end.BootStopped why) is = absurd (cc)

-- no command that was run ends as words without one do
pub no_usage : (f : Finish) → status_of (Some f) ≡ status.Usage → ⊥
no_usage finish.Differs is = cc
no_usage (finish.Ended end.Done) is = cc
no_usage (finish.Ended (end.BadInput frame kind)) is = cc
no_usage (finish.Ended end.SourceFault) is = cc
no_usage (finish.Ended end.SinkFault) is = cc
no_usage (finish.Ended end.Memory) is = cc
no_usage (finish.Ended end.InputLimit) is = cc
no_usage (finish.Ended end.RequestLimit) is = cc
no_usage (finish.Ended (end.BootStopped why)) is = cc

-- how a command ends tells its status
pub answered : (ended expected : Option Finish) → ended ≡ told_by (status_of ended) expected → IsAnswer (status_of ended) expected
answered ended expected is = ap status_of is

-- ---- what an audit found

-- the model's own end is told as it is
as_model : (f : Finish) → IsFinish f f
as_model finish.Differs = refl
as_model (finish.Ended end.Done) = refl
as_model (finish.Ended (end.BadInput frame kind)) = refl
as_model (finish.Ended end.SourceFault) = refl
as_model (finish.Ended end.SinkFault) = refl
as_model (finish.Ended end.Memory) = refl
as_model (finish.Ended end.InputLimit) = refl
as_model (finish.Ended end.RequestLimit) = refl
as_model (finish.Ended (end.BootStopped why)) = refl

-- a sink that failed is told whatever the model says
failed_finish : (f expected : Finish) → f ≡ finish.Ended end.SinkFault → IsFinish f expected
failed_finish f expected is = subst (λ (g : Finish). IsFinish g expected) (sym is) refl

told_whole : (f : Finish) (found expected : AuditEnd) → found ≡ expected → f ≡ audit_finish found → IsFinish f (audit_finish expected)
told_whole f found expected same is =
    subst (λ (g : Finish). IsFinish g (audit_finish expected)) (sym (is ∙ ap audit_finish same)) (as_model (audit_finish expected))

tells_finish : (f : Finish) (found expected : AuditEnd) (before after : Option (List ℕ)) (fb fa : ℕ) → found ≡ expected
    → Tells (audit_finish found) f before after fb fa (audit_text found) → IsFinish f (audit_finish expected)
tells_finish f found expected before after fb fa same (Whole is whole) = told_whole f found expected same is
tells_finish f found expected before after fb fa same (Front is front rose) = failed_finish f (audit_finish expected) is

told_finish : (f : Finish) (found expected : AuditEnd) (before after : Option (List ℕ)) (fb fa : ℕ) → auditing.IsAnswer found expected
    → Told f found before after fb fa → IsFinish f (audit_finish expected)
told_finish f (audit.Same lines) expected before after fb fa same told = tells_finish f (audit.Same lines) expected before after fb fa same told
told_finish f (audit.Differs line) expected before after fb fa same told = tells_finish f (audit.Differs line) expected before after fb fa same told
told_finish f (audit.Stopped end.Done) expected before after fb fa same told = told_whole f (audit.Stopped end.Done) expected same told.0
told_finish f (audit.Stopped (end.BadInput frame kind)) expected before after fb fa same told = told_whole f (audit.Stopped (end.BadInput frame kind)) expected same told.0
told_finish f (audit.Stopped end.SourceFault) expected before after fb fa same told = subst (λ (g : Finish). IsFinish g (audit_finish expected)) (sym told.0) refl
told_finish f (audit.Stopped end.SinkFault) expected before after fb fa same told = failed_finish f (audit_finish expected) told.0
told_finish f (audit.Stopped end.Memory) expected before after fb fa same told = subst (λ (g : Finish). IsFinish g (audit_finish expected)) (sym told.0) refl
told_finish f (audit.Stopped end.InputLimit) expected before after fb fa same told = told_whole f (audit.Stopped end.InputLimit) expected same told.0
told_finish f (audit.Stopped end.RequestLimit) expected before after fb fa same told = told_whole f (audit.Stopped end.RequestLimit) expected same told.0
told_finish f (audit.Stopped (end.BootStopped why)) expected before after fb fa same told = told_whole f (audit.Stopped (end.BootStopped why)) expected same told.0

-- nothing was appended
nothing_appended : (before after : Option (List ℕ)) → after ≡ before → Appends before after []
nothing_appended None after same = tt
nothing_appended (Some xs) None same = absurd (cc)
nothing_appended (Some xs) (Some ys) same =
    let whole : ys ≡ xs = cc in
    whole ∙ sym (append-nil xs)

-- the bytes for a status, where the status is known
abbrev WroteBy : Finish → Option (List ℕ) → Option (List ℕ) → List ℕ → Type 0
WroteBy f before after text = Wrote (status_of (Some f)) before after text

tells_wrote : (f g : Finish) (before after : Option (List ℕ)) (fb fa : ℕ) (line : List ℕ) → (Appends before after line → WroteBy g before after line)
    → Tells g f before after fb fa line → WroteBy f before after line
tells_wrote f g before after fb fa line enough (Whole is whole) = subst (λ (h : Finish). WroteBy h before after line) (sym is) (enough whole)
tells_wrote f g before after fb fa line enough (Front is front rose) = subst (λ (h : Finish). WroteBy h before after line) (sym is) front

told_wrote : (f : Finish) (found expected : AuditEnd) (before after : Option (List ℕ)) (fb fa : ℕ) → auditing.IsAnswer found expected
    → Told f found before after fb fa → Wrote (status_of (Some f)) before after (audit_text expected)
told_wrote f (audit.Same lines) expected before after fb fa same told =
    subst (λ (x : AuditEnd). WroteBy f before after (audit_text x)) same
    (tells_wrote f (finish.Ended end.Done) before after fb fa (audit_text (audit.Same lines)) (λ whole. whole) told)
told_wrote f (audit.Differs line) expected before after fb fa same told =
    subst (λ (x : AuditEnd). WroteBy f before after (audit_text x)) same
    (tells_wrote f finish.Differs before after fb fa (audit_text (audit.Differs line)) (λ whole. whole) told)
told_wrote f (audit.Stopped end.Done) expected before after fb fa same told =
    subst (λ (x : AuditEnd). WroteBy f before after (audit_text x)) same
    (subst (λ (g : Finish). WroteBy g before after []) (sym told.0) (nothing_appended before after told.1))
told_wrote f (audit.Stopped (end.BadInput frame kind)) expected before after fb fa same told =
    subst (λ (x : AuditEnd). WroteBy f before after (audit_text x)) same
    (subst (λ (g : Finish). WroteBy g before after []) (sym told.0) (nothing_appended before after told.1))
told_wrote f (audit.Stopped end.SourceFault) expected before after fb fa same told =
    subst (λ (g : Finish). WroteBy g before after (audit_text expected)) (sym told.0) (nothing_front before after (audit_text expected) told.1)
told_wrote f (audit.Stopped end.SinkFault) expected before after fb fa same told =
    subst (λ (g : Finish). WroteBy g before after (audit_text expected)) (sym told.0) (nothing_front before after (audit_text expected) told.1)
told_wrote f (audit.Stopped end.Memory) expected before after fb fa same told =
    subst (λ (g : Finish). WroteBy g before after (audit_text expected)) (sym told.0) (nothing_front before after (audit_text expected) told.1)
told_wrote f (audit.Stopped end.InputLimit) expected before after fb fa same told =
    subst (λ (x : AuditEnd). WroteBy f before after (audit_text x)) same
    (subst (λ (g : Finish). WroteBy g before after []) (sym told.0) (nothing_appended before after told.1))
told_wrote f (audit.Stopped end.RequestLimit) expected before after fb fa same told =
    subst (λ (x : AuditEnd). WroteBy f before after (audit_text x)) same
    (subst (λ (g : Finish). WroteBy g before after []) (sym told.0) (nothing_appended before after told.1))
told_wrote f (audit.Stopped (end.BootStopped why)) expected before after fb fa same told =
    subst (λ (x : AuditEnd). WroteBy f before after (audit_text x)) same
    (subst (λ (g : Finish). WroteBy g before after []) (sym told.0) (nothing_appended before after told.1))

-- where the source failed nothing was written
tells_kept : (f g : Finish) (before after : Option (List ℕ)) (fb fa : ℕ) (line : List ℕ) → (status_of (Some g) ≡ status.SourceFault → ⊥)
    → Tells g f before after fb fa line → status_of (Some f) ≡ status.SourceFault → after ≡ before
tells_kept f g before after fb fa line other (Whole is whole) broke = absurd (other (ap (λ h. status_of (Some h)) (sym is) ∙ broke))
tells_kept f g before after fb fa line other (Front is front rose) broke =
    let sink : status.SinkFault ≡ status.SourceFault = ap (λ h. status_of (Some h)) (sym is) ∙ broke in
    absurd (cc)

pub told_kept : (f : Finish) (found : AuditEnd) (before after : Option (List ℕ)) (fb fa : ℕ) → Told f found before after fb fa
    → status_of (Some f) ≡ status.SourceFault → after ≡ before
told_kept f (audit.Same lines) before after fb fa told = tells_kept f (finish.Ended end.Done) before after fb fa (audit_text (audit.Same lines)) (λ is. cc) told
told_kept f (audit.Differs line) before after fb fa told = tells_kept f finish.Differs before after fb fa (audit_text (audit.Differs line)) (λ is. cc) told
told_kept f (audit.Stopped e) before after fb fa told = λ broke. told.1

-- one that is done has read its source to the end
tells_read : (f g : Finish) (before after : Option (List ℕ)) (fb fa : ℕ) (line : List ℕ) → (status_of (Some g) ≡ status.Done → ⊥)
    → Tells g f before after fb fa line → status_of (Some f) ≡ status.Done → ⊥
tells_read f g before after fb fa line other (Whole is whole) done = other (ap (λ h. status_of (Some h)) (sym is) ∙ done)
tells_read f g before after fb fa line other (Front is front rose) done =
    let sink : status.SinkFault ≡ status.Done = ap (λ h. status_of (Some h)) (sym is) ∙ done in
    cc

pub told_read : (f : Finish) (found : AuditEnd) (before after : Option (List ℕ)) (fb fa : ℕ) (at_end : Type 0) → auditing.IsTold found → auditing.IsRead found at_end
    → Told f found before after fb fa → status_of (Some f) ≡ status.Done → at_end
told_read f (audit.Same lines) before after fb fa at_end not read told done = read
told_read f (audit.Differs line) before after fb fa at_end not read told done =
    absurd (tells_read f finish.Differs before after fb fa (audit_text (audit.Differs line)) (λ is. cc) told done)
told_read f (audit.Stopped e) before after fb fa at_end not read told done =
    let is : e ≡ end.Done = done_is e (ap (λ h. status_of (Some h)) (sym told.0) ∙ done) in
    absurd (subst (λ (x : End). auditing.IsTold (audit.Stopped x)) is not)

-- a fault is that of the source or of the sink
tells_fault : (f g : Finish) (before after : Option (List ℕ)) (sb sa fb fa : ℕ) (line : List ℕ) → HasFault (status_of (Some g)) sb sa fb fa
    → Tells g f before after fb fa line → HasFault (status_of (Some f)) sb sa fb fa
tells_fault f g before after sb sa fb fa line none (Whole is whole) = subst (λ (h : Finish). HasFault (status_of (Some h)) sb sa fb fa) (sym is) none
tells_fault f g before after sb sa fb fa line none (Front is front rose) = subst (λ (h : Finish). HasFault (status_of (Some h)) sb sa fb fa) (sym is) rose

stopped_fault : (e : End) (sb sa fb fa : ℕ) → auditing.IsTold (audit.Stopped e) → auditing.HasFault (audit.Stopped e) sb sa → HasFault (end_status e) sb sa fb fa
stopped_fault end.Done sb sa fb fa not h = tt
stopped_fault (end.BadInput frame kind) sb sa fb fa not h = tt
stopped_fault end.SourceFault sb sa fb fa not h = h
stopped_fault end.SinkFault sb sa fb fa not h = absurd not
stopped_fault end.Memory sb sa fb fa not h = tt
stopped_fault end.InputLimit sb sa fb fa not h = tt
stopped_fault end.RequestLimit sb sa fb fa not h = tt
stopped_fault (end.BootStopped why) sb sa fb fa not h = tt

pub told_fault : (f : Finish) (found : AuditEnd) (before after : Option (List ℕ)) (sb sa fb fa : ℕ) → auditing.IsTold found → auditing.HasFault found sb sa
    → Told f found before after fb fa → HasFault (status_of (Some f)) sb sa fb fa
told_fault f (audit.Same lines) before after sb sa fb fa not h told =
    tells_fault f (finish.Ended end.Done) before after sb sa fb fa (audit_text (audit.Same lines)) tt told
told_fault f (audit.Differs line) before after sb sa fb fa not h told =
    tells_fault f finish.Differs before after sb sa fb fa (audit_text (audit.Differs line)) tt told
told_fault f (audit.Stopped e) before after sb sa fb fa not h told =
    subst (λ (g : Finish). HasFault (status_of (Some g)) sb sa fb fa) (sym told.0) (stopped_fault e sb sa fb fa not h)

-- ---- the same where the source tells its bytes

module _ (left : Option (List ℕ)) (model : List ℕ → AuditEnd) (f : Finish) (found : AuditEnd) (before after : Option (List ℕ)) (fb fa : ℕ) where
  pub finish_known : IfSome left (λ bytes. auditing.IsAnswer found (model bytes)) → Told f found before after fb fa
      → IfSome left (λ bytes. IsFinish f (audit_finish (model bytes)))
  finish_known answer told = IfSome_then left {P = λ bytes. auditing.IsAnswer found (model bytes)} {Q = λ bytes. IsFinish f (audit_finish (model bytes))} answer (λ bytes is. told_finish f found (model bytes) before after fb fa is told)

  pub wrote_known : IfSome left (λ bytes. auditing.IsAnswer found (model bytes)) → Told f found before after fb fa
      → IfSome left (λ bytes. Wrote (status_of (Some f)) before after (audit_text (model bytes)))
  wrote_known answer told = IfSome_then left {P = λ bytes. auditing.IsAnswer found (model bytes)} {Q = λ bytes. Wrote (status_of (Some f)) before after (audit_text (model bytes))} answer (λ bytes is. told_wrote f found (model bytes) before after fb fa is told)
