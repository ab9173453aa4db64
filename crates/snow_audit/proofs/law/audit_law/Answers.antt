-- By following the frames.
use Rattle.snow_audit.proofs.OwnLines.{never_differs}
use Rattle.snow_audit.proofs.law.audit_law.Goals as goal

pub returns : goal.returns
returns c = never_differs
