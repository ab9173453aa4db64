-- The entry that was put in is the state that is held.
use Rattle.snow_chain.proofs.Maps.{after_hold}
use Rattle.snow_chain.proofs.states.States.hold.Goals as goal

pub returns-clause-ok : goal.returns-clause-ok
returns-clause-ok c = after_hold c.self.inside.last c.self.inside.states c.insert.new.self c.args.id c.args.state c.args.self.now c.self.view_is c.in_ok-insert.ensures.updates
