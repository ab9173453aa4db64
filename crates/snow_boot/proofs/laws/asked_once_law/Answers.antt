use Rattle.snow_boot.proofs.Requested.{nothing_to_ask}
use Rattle.snow_boot.proofs.laws.asked_once_law.Goals as goal

pub returns : goal.returns
returns c = nothing_to_ask
