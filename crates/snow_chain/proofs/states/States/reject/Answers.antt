-- The entry that went is the state that goes.
use Rattle.snow_chain.proofs.Maps.{after_reject}
use Rattle.snow_chain.proofs.states.States.reject.Goals as goal

pub returns : goal.returns
returns c = after_reject c.self.inside.last c.self.inside.states c.remove.new.self c.args.id.now c.args.self.now c.self.view_is c.remove.ensures.updates
