-- The number is the next one.
use Rattle.snow_boot.proofs.Inquired.{frontier_asked}
use Rattle.snow_boot.proofs.inquiring.ask_frontier.Goals as goal

pub returns-clause-came : goal.returns-clause-came
returns-clause-came c hunt requests held kept last drawn =
    frontier_asked c.args.survey.now c.await_frontier.new.self hunt requests c.args.numbers.now c.in-Some.number c.draw.new.self held
    c.args.log.now c.push.new.self kept last c.in-Some.ensures.number c.draw.ensures.last drawn c.in_ok-await_frontier.ensures c.in_ok-push.ensures.ok
