-- Nothing was made yet, and the lines of the Start were kept.
use Rattle.std.proofs.Common.{refl}
use Rattle.snow_drill.proofs.drilling.begin.Goals as goal

pub returns-in-Ok : goal.returns-in-Ok
returns-in-Ok g c = record {
  node = refl;
  frame = refl;
  x = c.new.ensures;
  made = c.new-in-Ok.ensures;
  told = c.in-Ok.ensures.told;
  digest = c.in-Ok.ensures.digest;
}
