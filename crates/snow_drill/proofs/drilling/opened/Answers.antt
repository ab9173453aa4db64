-- The lines of the Start were kept, and no others before.
use Rattle.std.proofs.Common.{[], sym}
use Rattle.snow_drill.proofs.drilling.opened.Goals as goal

pub returns-in-Ok-clause-digest : goal.returns-in-Ok-clause-digest
returns-in-Ok-clause-digest c = rw (sym c.list.ensures) (c.in-Ok.ensures.digest [] c.in_ok-account.ensures.digest)
