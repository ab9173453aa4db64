use Rattle.snow_store.proofs.Linked.{kept_linked}
use Rattle.snow_store.proofs.laws.linked_law.Goals as goal

pub returns : goal.returns
returns c = kept_linked
