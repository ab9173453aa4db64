-- What the entries have at the identifier is what is held for it.
use Rattle.std.proofs.Common.{ap, Some, ◌∙◌}
use Rattle.snow_chain.proofs.Maps.{state_at}
use Rattle.snow_chain.proofs.states.States.state_of.Goals as goal

pub returns-in-Some : goal.returns-in-Some
returns-in-Some c = ap Some c.list.ensures ∙ c.in-Some.ensures.value ∙ state_at c.self.inside.last c.self.inside.states c.args.id.now c.args.self.now c.self.view_is

pub returns-in-None : goal.returns-in-None
returns-in-None c = c.in-None.ensures.value ∙ state_at c.self.inside.last c.self.inside.states c.args.id.now c.args.self.now c.self.view_is
