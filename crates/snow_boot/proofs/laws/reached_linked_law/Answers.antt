use Rattle.snow_boot.proofs.Reaching.{reached_linked}
use Rattle.snow_boot.proofs.laws.reached_linked_law.Goals as goal

pub returns : goal.returns
returns c = reached_linked
