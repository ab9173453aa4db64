use Rattle.snow_store.proofs.Progress.{advances}
use Rattle.snow_store.proofs.laws.progress_law.Goals as goal

pub returns : goal.returns
returns c = advances
