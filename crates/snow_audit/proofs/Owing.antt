-- Lines of the last event that aren't recorded yet.
use Rattle.std.proofs.Common.{◌≡◌, ℕ, zero, suc, ◌+◌, ◌<◌, List, [], ◌∷◌, map, length, Option, Some, None, Err, refl, arith}
use Rattle.snow_lines.specs.declared.line.Line.{Line}
use Rattle.snow_lines.specs.Model.Text.{text}
use Rattle.snow_engine.specs.declared.end.End.{End}
use Rattle.snow_engine.specs.Kept.Staging.{Node}
use Rattle.snow_audit.specs.declared.auditing.AuditEnd.{AuditEnd}
use Rattle.snow_audit.specs.declared.auditing.AuditEnd.TheVariants as audit
use Rattle.snow_audit.specs.Kept.Following.{Between, at_end, event_comes, owed_of, stands, stop_of}

-- texts of which there is a first
pub record Owes (owed : List (List ℕ)) : Type 0 where
  pub first : List ℕ
  pub others : List (List ℕ)
  pub is : owed ≡ first ∷ others

pub owes : (at : ℕ) (log : List Line) → at < length log → Owes (owed_of at log)
owes zero [] some = absurd (omega (arith, some))
owes zero (l ∷ log) some = record { first = text l; others = map text log; is = refl }
owes (suc at) [] some = absurd (omega (arith, some))
owes (suc at) (l ∷ log) some = owes at log (omega (arith, some))

-- an event differs where a line is owed
pub owing_event : (b next : Between) (at : ℕ) (log : List Line) → at < length log → event_comes b (owed_of at log) next ≡ Err (audit.Differs (b.lines + 1))
owing_event b next at log some = let o = owes at log some in rw o.is refl

-- so does the end, where the stream doesn't break off
pub owing_end : (b : Between) (at : ℕ) (log : List Line) (stream : End) (answer : AuditEnd) → at < length log
    → ((first : List ℕ) (others : List (List ℕ)) → answer ≡ at_end b (first ∷ others) stream) → answer ≡ at_end b (owed_of at log) stream
owing_end b at log stream answer some made = let o = owes at log some in rw o.is (made o.first o.others)

-- where a run stopped
pub stop_where : (stop : Option End) (engine : Option Node) → stop_of (stands stop engine) ≡ stop
stop_where (Some e) engine = refl
stop_where None None = refl
stop_where None (Some node) = refl
