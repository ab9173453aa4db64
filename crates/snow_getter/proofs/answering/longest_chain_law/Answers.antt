use Rattle.snow_getter.proofs.Chained.{longest_chain}
use Rattle.snow_getter.proofs.answering.longest_chain_law.Goals as goal

pub returns : goal.returns
returns c = longest_chain
