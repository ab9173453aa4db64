-- The entry that went is the state that goes.
use Rattle.snow_chain.proofs.Maps.{after_accept}
use Rattle.snow_chain.proofs.states.States.accept.Goals as goal

pub returns : goal.returns
returns c = after_accept c.self.inside.last c.self.inside.states c.remove.new.self c.args.id.now c.args.self.now c.self.view_is c.remove.ensures.updates
