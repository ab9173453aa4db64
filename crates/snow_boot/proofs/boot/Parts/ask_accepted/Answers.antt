-- The number is the next one, and all that were collected are named.
use Rattle.snow_boot.proofs.Inquired.{accepted_asked}
use Rattle.snow_boot.proofs.boot.Parts.ask_accepted.Goals as goal

pub returns : goal.returns
returns g c =
    accepted_asked c.args.self.now.survey c.await_accepted.new.self c.args.self.now.fetching c.args.self.now.requests c.args.numbers.now c.in-Some.number c.draw.new.self (g.C.Chain.held c.args.chain.now)
    c.args.log.now c.push.new.self c.requires.may.0 c.requires.may.1 c.in-Some.ensures.number c.draw.ensures.last c.requires.may.2 c.in_ok-await_accepted.ensures
    (rw c.in_ok-ids.ensures at c.in_ok-push.ensures.ok)
