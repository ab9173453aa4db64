-- The law.
use Rattle.snow_poll.proofs.Closing.{closed_stands}
use Rattle.snow_poll.proofs.poll.early_closing_law.Goals as goal

pub returns : goal.returns
returns c = closed_stands
