-- The votes of each completion are alike to those that the board was given.
use Rattle.snow_poll.specs.Laws.Completion.{completed}
use Rattle.snow_node.proofs.laws.completion_law.Goals as goal

pub returns : goal.returns
returns c closed before after votes decisions stands gives choice =
    gives (completed closed choice) (stands choice).0 (stands choice).1
