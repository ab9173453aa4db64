use Rattle.snow_boot.proofs.Helping.{helps}
use Rattle.snow_boot.proofs.laws.reply_law.Goals as goal

pub returns : goal.returns
returns c = helps
