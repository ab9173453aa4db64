use Rattle.snow_boot.proofs.Finishing.{finishes}
use Rattle.snow_boot.proofs.laws.finish_law.Goals as goal

pub returns : goal.returns
returns c = finishes
