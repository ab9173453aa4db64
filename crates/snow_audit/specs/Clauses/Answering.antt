-- What an audit owes for the bytes of its source.
use Rattle.std.specs.Prelude.{ℕ, ⊤}
use Rattle.snow_base.specs.Clauses.Outside.{Rose}
use Rattle.snow_engine.specs.declared.end.End.TheVariants as end
use Rattle.snow_audit.specs.declared.auditing.AuditEnd.{AuditEnd}
use Rattle.snow_audit.specs.declared.auditing.AuditEnd.TheVariants as audit
use Rattle.std.specs.Prelude.{◌≡◌}

-- the answer is the model's, unless a source fault or want of memory ended the audit
abbrev pub IsAnswer : AuditEnd → AuditEnd → Type 0
IsAnswer (audit.Stopped end.SourceFault) expected = ⊤
IsAnswer (audit.Stopped end.Memory) expected = ⊤
IsAnswer given expected = given ≡ expected

-- an audit writes nothing, and one that is done says so in other words
abbrev pub IsTold : AuditEnd → Type 0
IsTold (audit.Stopped end.Done) = ⊥
IsTold (audit.Stopped end.SinkFault) = ⊥
IsTold given = ⊤

-- a source fault is told only where the source's count of faults rose or stands at its last value
abbrev pub HasFault : AuditEnd → ℕ → ℕ → Type 0
HasFault (audit.Stopped end.SourceFault) before after = Rose before after
HasFault given before after = ⊤

-- where nothing differs and nothing stopped, the source was read to its end
abbrev pub IsRead : AuditEnd → Type 0 → Type 0
IsRead (audit.Same lines) at_end = at_end
IsRead given at_end = ⊤
