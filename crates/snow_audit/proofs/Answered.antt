-- The answer of an audit, on all bytes of its source.
use Rattle.std.proofs.Common.{◌≡◌, ℕ, ◌+◌, ◌==◌, Bool, true, false, cond, List, [], ◌∷◌, length, Option, Some, None, Result, Ok, Err, refl, sym, ◌∙◌}
use Rattle.std.specs.Prelude.{IfSome}
use Rattle.snow_flake.specs.Model.Rule.{Answer}
use Rattle.snow_chain.specs.Model.Chain.{Rules}
use Rattle.snow_wire.specs.Model.Frame.{is_too_long}
use Rattle.snow_wire.specs.Clauses.Stream.{Intake}
use Rattle.snow_wire.specs.declared.event.Event.{Event}
use Rattle.snow_wire.specs.declared.event.Event.TheVariants as event
use Rattle.snow_lines.specs.declared.why.SkipKind.{SkipKind}
use Rattle.snow_engine.specs.declared.engine.Task.{Task}
use Rattle.snow_engine.specs.declared.end.End.{End}
use Rattle.snow_engine.specs.declared.end.End.TheVariants as end
use Rattle.snow_engine.specs.Kept.Staging.{Node}
use Rattle.snow_engine.specs.declared.stop.EngineStop.{EngineStop}
use Rattle.snow_engine.specs.Kept.Staging.{Comes}
use Rattle.snow_engine.specs.Model.Node.{started, step}
use Rattle.snow_engine.specs.declared.end.BadKind.TheVariants as kind
use Rattle.snow_engine.specs.Model.Run.{Fresh, Going, Stopped, standing, came, after_frame, opened, followed, end_behind, read}
use Rattle.snow_audit.specs.declared.auditing.AuditEnd.{AuditEnd}
use Rattle.snow_audit.specs.declared.auditing.AuditEnd.TheVariants as audit
use Rattle.snow_audit.specs.Model.Auditing.{Steps, audited, breaks_off, ends_as, stream_end}
use Rattle.snow_audit.specs.Clauses.Answering.{HasFault, IsAnswer, IsRead, IsTold}
use Rattle.snow_audit.specs.Kept.Following.{Between, IsKept, Took, at_end, finish, is_found, is_fresh, stop_of}
use Rattle.snow_audit.proofs.Followed.{Begins}

-- ---- a run never stands before its first frame behind one

behind_stop : (frame : ℕ) (r : Result Node EngineStop) → is_fresh (standing frame r) ≡ false
behind_stop frame (Ok node) = refl
behind_stop frame (Err stop) = refl

behind_came : (frame : ℕ) (outcome : Comes Node) → is_fresh (came frame outcome).1 ≡ false
behind_came frame outcome = behind_stop frame outcome.1

behind_opened : (rules : Rules) (t : Task) (frame : ℕ) (e : Result Event SkipKind) → is_fresh (opened rules t frame e).1 ≡ false
unfolding opened
behind_opened rules t frame (Ok (event.Start s)) = behind_came frame (started rules t s)
behind_opened rules t frame e = refl

behind_followed : (rules : Rules) (answer : Answer) (node : Node) (frame : ℕ) (e : Result Event SkipKind) → is_fresh (followed rules answer node frame e).1 ≡ false
behind_followed rules answer node frame (Err word) = refl
behind_followed rules answer node frame (Ok e) = behind_came frame (step rules answer node frame e)

pub run_begins : (rules : Rules) (answer : Answer) (t : Task) → Begins (after_frame rules answer t)
unfolding Begins after_frame
run_begins rules answer t Fresh frame payload = behind_opened rules t frame (read payload)
run_begins rules answer t (Going node) frame payload = behind_followed rules answer node frame (read payload)
run_begins rules answer t (Stopped e) frame payload = refl

-- ---- answers that tell no fault

-- neither done, nor a fault
abbrev pub is_plain : AuditEnd → Bool
is_plain (audit.Stopped end.Done) = false
is_plain (audit.Stopped end.SourceFault) = false
is_plain (audit.Stopped end.SinkFault) = false
is_plain a = true

pub plain_told : (a : AuditEnd) → is_plain a ≡ true → IsTold a
plain_told (audit.Stopped end.Done) p = absurd cc
plain_told (audit.Stopped end.SinkFault) p = absurd cc
plain_told a p = tt

pub plain_fault : (a : AuditEnd) (before after : ℕ) → is_plain a ≡ true → HasFault a before after
plain_fault (audit.Stopped end.SourceFault) before after p = absurd cc
plain_fault a before after p = tt

found_plain : (a : AuditEnd) → is_found a ≡ true → is_plain a ≡ true
found_plain (audit.Stopped end.Done) f = f
found_plain (audit.Stopped end.SourceFault) f = f
found_plain (audit.Stopped end.SinkFault) f = f
found_plain a f = refl

pub took_plain : (a : AuditEnd) (steps : Steps) (intake next : Intake) (b now : Between) → Took {T = Unit {0}} (Err a) steps intake b next now → is_plain a ≡ true
took_plain (audit.Stopped end.Memory) steps intake next b now took = refl
took_plain a steps intake next b now took = found_plain a took.0

pub took_read : (a : AuditEnd) (steps : Steps) (intake next : Intake) (b now : Between) (P : Type 0) → Took {T = Unit {0}} (Err a) steps intake b next now → IsRead a P
took_read (audit.Same lines) steps intake next b now P took = absurd (let h = took.0 in cc)
took_read a steps intake next b now P took = tt

-- how a stream may end
abbrev is_ending : End → Bool
is_ending end.Done = true
is_ending end.InputLimit = true
is_ending (end.BadInput frame bad) = true
is_ending e = false

ends_plain : (lines : ℕ) (stop : Option End) (stream : End) → IsKept stop → is_ending stream ≡ true → is_plain (ends_as lines stop stream) ≡ true
ends_plain lines (Some e) stream kept ending = found_plain (audit.Stopped e) kept
ends_plain lines None end.Done kept ending = refl
ends_plain lines None end.InputLimit kept ending = refl
ends_plain lines None (end.BadInput frame bad) kept ending = refl
ends_plain lines None stream kept ending = absurd cc

pub end_plain : (b : Between) (owed : List (List ℕ)) (stream : End) → IsKept (stop_of b.stand) → is_ending stream ≡ true → is_plain (at_end b owed stream) ≡ true
end_plain b [] stream kept ending = ends_plain b.lines (stop_of b.stand) stream kept ending
end_plain b (first ∷ others) stream kept ending = either (breaks_off stream)
  where
    either : (t : Bool) → is_plain (cond t (ends_as b.lines (stop_of b.stand) stream) (audit.Differs (b.lines + 1))) ≡ true
    either true = ends_plain b.lines (stop_of b.stand) stream kept ending
    either false = refl

-- a stream that is cut or done ends so
read_ending : (given : ℕ) (rest : List ℕ) → is_ending (stream_end given rest false) ≡ true
read_ending given rest = by_tests (is_too_long rest) (length rest == 0) (given == 0)
  where
    by_tests : (long whole none : Bool) → is_ending (cond long (end.BadInput (given + 1) kind.Length) (cond whole (end_behind (cond none Fresh (Stopped end.Done))) (end.BadInput (given + 1) kind.Cut))) ≡ true
    by_tests true whole none = refl
    by_tests false true true = refl
    by_tests false true false = refl
    by_tests false false none = refl

pub read_plain : (b : Between) (given : ℕ) (rest : List ℕ) → IsKept (stop_of b.stand) → is_plain (at_end b b.owed (stream_end given rest false)) ≡ true
read_plain b given rest kept = end_plain b b.owed (stream_end given rest false) kept (read_ending given rest)

pub any_read : (a : AuditEnd) (P : Type 0) → P → IsRead a P
any_read (audit.Same lines) P h = h
any_read a P h = tt

-- at the limit no end was read
limit_ends : (lines : ℕ) (stop : Option End) (P : Type 0) → IsRead (ends_as lines stop end.InputLimit) P
limit_ends lines (Some e) P = tt
limit_ends lines None P = tt

pub limit_read : (b : Between) (owed : List (List ℕ)) (P : Type 0) → IsRead (at_end b owed end.InputLimit) P
limit_read b [] P = limit_ends b.lines (stop_of b.stand) P
limit_read b (first ∷ others) P = limit_ends b.lines (stop_of b.stand) P

pub limit_plain : (b : Between) → IsKept (stop_of b.stand) → is_plain (at_end b b.owed end.InputLimit) ≡ true
limit_plain b kept = end_plain b b.owed end.InputLimit kept refl

-- ---- the answer of all bytes

pub is_answer : (a expected : AuditEnd) → a ≡ expected → IsAnswer a expected
is_answer (audit.Stopped end.SourceFault) expected e = tt
is_answer (audit.Stopped end.Memory) expected e = tt
is_answer a expected e = e

pub answers_all : (steps : Steps) (left : Option (List ℕ)) (a given : AuditEnd) → given ≡ a → IfSome left (λ bytes. audited steps bytes ≡ a) → IfSome left (λ bytes. IsAnswer given (audited steps bytes))
answers_all steps None a given same h = tt
answers_all steps (Some bytes) a given same h = is_answer given (audited steps bytes) (same ∙ sym h)

anything : (steps : Steps) (left : Option (List ℕ)) → IfSome left (λ bytes. IsAnswer (audit.Stopped end.Memory) (audited steps bytes))
anything steps None = tt
anything steps (Some bytes) = tt

-- the audit had its answer in a piece
pub answered_all : (a : AuditEnd) (steps : Steps) (left : Option (List ℕ)) (fed_intake next : Intake) (b now : Between) → Took {T = Unit {0}} (Err a) steps fed_intake b next now
    → (((more : List ℕ) (is_full : Bool) → finish steps fed_intake more is_full b ≡ a) → IfSome left (λ bytes. audited steps bytes ≡ a))
    → IfSome left (λ bytes. IsAnswer a (audited steps bytes))
answered_all (audit.Stopped end.Memory) steps left fed_intake next b now took all = anything steps left
answered_all a steps left fed_intake next b now took all = answers_all steps left a a refl (all took.1)
