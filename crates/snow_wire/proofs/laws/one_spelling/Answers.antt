use Rattle.snow_wire.proofs.Events.{event_taken, event_again}
use Rattle.snow_wire.proofs.laws.one_spelling.Goals as goal

pub returns-clause-again : goal.returns-clause-again
returns-clause-again c = event_again

pub returns-clause-only : goal.returns-clause-only
returns-clause-only c = event_taken
