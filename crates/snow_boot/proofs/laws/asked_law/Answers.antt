use Rattle.snow_boot.proofs.Requested.{all_asked}
use Rattle.snow_boot.proofs.laws.asked_law.Goals as goal

pub returns : goal.returns
returns c = all_asked
