use Rattle.snow_ledger.proofs.Paths as paths
use Rattle.snow_ledger.proofs.chain.ledger_law.Goals as goal

pub returns : goal.returns
returns c = paths.ledger_law
