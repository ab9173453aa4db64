use Rattle.snow_boot.proofs.Quiet.{all_quiet}
use Rattle.snow_boot.proofs.laws.quiet_law.Goals as goal

pub returns : goal.returns
returns c = all_quiet
