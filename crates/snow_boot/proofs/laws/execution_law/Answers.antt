use Rattle.snow_boot.proofs.Executed.{in_order}
use Rattle.snow_boot.proofs.laws.execution_law.Goals as goal

pub returns : goal.returns
returns c = in_order
