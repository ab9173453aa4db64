use Rattle.snow_store.proofs.Whole.{whole_path}
use Rattle.snow_store.proofs.laws.path_law.Goals as goal

pub returns : goal.returns
returns c = whole_path
