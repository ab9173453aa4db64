use Rattle.snow_boot.proofs.Ended.{end_followed}
use Rattle.snow_boot.proofs.laws.end_law.Goals as goal

pub returns : goal.returns
returns c = end_followed
