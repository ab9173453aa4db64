-- Frames were taken: what is left to do is the same from there, or the audit has its answer.
use Rattle.std.proofs.Common.{◌≡◌, ℕ, ◌+◌, ◌*◌, ◌<◌, ◌≤◌, Bool, true, List, [], ◌∷◌, length, Option, Some, None, Result, Ok, Err, refl, sym, ap, ◌∙◌, subst}
use Rattle.snow_wire.specs.Model.Frame.{first_of, is_too_long}
use Rattle.snow_wire.specs.Clauses.Stream.{Intake, taken}
use Rattle.snow_wire.proofs.Streams.{behind_shorter}
use Rattle.snow_wire.proofs.Pieces.{taken_one}
use Rattle.snow_engine.specs.declared.end.BadKind.{BadKind}
use Rattle.snow_engine.specs.declared.end.BadKind.TheVariants as kind
use Rattle.snow_engine.specs.declared.end.End.{End}
use Rattle.snow_engine.specs.declared.end.End.TheVariants as end
use Rattle.snow_engine.specs.Kept.Staging.{Node}
use Rattle.snow_audit.specs.declared.auditing.AuditEnd.{AuditEnd}
use Rattle.snow_audit.specs.declared.auditing.AuditEnd.TheVariants as audit
use Rattle.snow_audit.specs.Model.Auditing.{Steps, ends_as}
use Rattle.snow_audit.specs.Kept.Following.{Between, IsKept, Moves, Took, at_end, finish, frame_comes, goes_on, is_found, stands, stop_of}
use Rattle.snow_audit.proofs.Framed.{next_frame, smaller, too_long}

-- an answer that was found
pub took_found : (a : AuditEnd) (steps : Steps) (intake next : Intake) (b now : Between) → is_found a ≡ true
    → ((more : List ℕ) (is_full : Bool) → finish steps intake more is_full b ≡ a) → Took {T = Bool} (Err a) steps intake b next now
took_found (audit.Stopped end.Memory) steps intake next b now found gives = tt
took_found a steps intake next b now found gives = (found, gives)

module _ (steps : Steps) (intake : Intake) (b : Between) (number : ℕ) (payload : List ℕ) (first : first_of intake.rest ≡ Some (payload, (taken intake).rest)) (counted : number ≡ intake.given + 1) where
  -- the first frame came
  came : (more : List ℕ) (is_full : Bool) → finish steps intake more is_full b ≡ goes_on (frame_comes steps b number payload) (finish steps (taken intake) more is_full)
  came more is_full =
      next_frame steps intake payload (taken intake).rest first more is_full b
      ∙ ap (λ (i : Intake). goes_on (frame_comes steps b (intake.given + 1) payload) (finish steps i more is_full)) (sym (taken_one intake payload (taken intake).rest first))
      ∙ ap (λ (n : ℕ). goes_on (frame_comes steps b n payload) (finish steps (taken intake) more is_full)) (sym counted)

  -- and the audit goes on
  pub frame_goes : (next : Intake) (now : Between) → next ≡ taken intake → frame_comes steps b number payload ≡ Ok now
      → (more : List ℕ) (is_full : Bool) → finish steps intake more is_full b ≡ finish steps next more is_full now
  frame_goes next now is moved more is_full =
      came more is_full
      ∙ ap (λ (r : Result Between AuditEnd). goes_on r (finish steps (taken intake) more is_full)) moved
      ∙ ap (λ (i : Intake). finish steps i more is_full now) (sym is)

  -- or has its answer
  pub frame_answers : (a : AuditEnd) (next : Intake) (now now' : Between) → Moves {T = Unit {0}} (Err a) now (frame_comes steps b number payload) → Took {T = Bool} (Err a) steps intake b next now'
  frame_answers (audit.Stopped end.Memory) next now now' moved = tt
  frame_answers a next now now' moved = (moved.0, λ more is_full. came more is_full ∙ ap (λ (r : Result Between AuditEnd). goes_on r (finish steps (taken intake) more is_full)) moved.1)

  pub frame_fewer : (next : Intake) → next ≡ taken intake → length next.rest < length intake.rest
  frame_fewer next is = subst (λ (i : Intake). length i.rest < length intake.rest) (sym is) (behind_shorter intake.rest (payload, (taken intake).rest) first)

  pub frame_smaller : (next : Intake) → next ≡ taken intake → 4 * next.given + length next.rest ≤ 4 * intake.given + length intake.rest
  frame_smaller next is =
      subst (λ (i : Intake). 4 * i.given + length i.rest ≤ 4 * intake.given + length intake.rest)
      (sym (is ∙ taken_one intake payload (taken intake).rest first))
      (smaller intake payload (taken intake).rest first)

-- how a run stopped, where it stands
pub kept_stand : (stop : Option End) (engine : Option Node) → IsKept stop → IsKept (stop_of (stands stop engine))
kept_stand (Some e) engine kept = kept
kept_stand None None kept = tt
kept_stand None (Some node) kept = tt

-- what is found where a stream is cut
found_last : (lines : ℕ) (stop : Option End) (frame : ℕ) (bad : BadKind) → IsKept stop → is_found (ends_as lines stop (end.BadInput frame bad)) ≡ true
found_last lines (Some e) frame bad kept = kept
found_last lines None frame bad kept = refl

found_end : (b : Between) (owed : List (List ℕ)) (frame : ℕ) (bad : BadKind) → IsKept (stop_of b.stand) → is_found (at_end b owed (end.BadInput frame bad)) ≡ true
found_end b [] frame bad kept = found_last b.lines (stop_of b.stand) frame bad kept
found_end b (first ∷ others) frame bad kept = found_last b.lines (stop_of b.stand) frame bad kept

-- a length came that no frame has
pub long_answers : (steps : Steps) (intake next : Intake) (b now : Between) (a : AuditEnd) (frame : ℕ) → IsKept (stop_of b.stand) → is_too_long intake.rest ≡ true → frame ≡ intake.given + 1
    → a ≡ at_end b b.owed (end.BadInput frame kind.Length) → Took {T = Bool} (Err a) steps intake b next now
long_answers steps intake next b now a frame kept long counted is =
    took_found a steps intake next b now (ap is_found is ∙ found_end b b.owed frame kind.Length kept)
    (λ more is_full. too_long steps intake long more is_full b ∙ ap (λ (n : ℕ). at_end b b.owed (end.BadInput n kind.Length)) (sym counted) ∙ sym is)

-- ---- frames, and then another

pub then_answers : (a : AuditEnd) (steps : Steps) (start intake next last : Intake) (from b now done : Between)
    → ((more : List ℕ) (is_full : Bool) → finish steps start more is_full from ≡ finish steps intake more is_full b)
    → Took {T = Bool} (Err a) steps intake b next now → Took {T = Unit {0}} (Err a) steps start from last done
then_answers (audit.Stopped end.Memory) steps start intake next last from b now done so_far took = tt
then_answers a steps start intake next last from b now done so_far took = (took.0, λ more is_full. so_far more is_full ∙ took.1 more is_full)
