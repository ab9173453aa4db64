-- The entry that was put in is the one state that is held.
use Rattle.snow_chain.proofs.Maps.{after_begin}
use Rattle.snow_chain.proofs.states.States.begin.Goals as goal

pub returns : goal.returns
returns c = after_begin c.args.last c.new-states.result c.insert.new.self c.args.state c.new-states.ensures c.in_ok-insert.ensures.updates
