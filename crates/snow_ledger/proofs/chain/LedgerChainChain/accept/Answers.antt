-- Each state that is left was one before.
use Rattle.snow_ledger.proofs.Holding.{after_accept}
use Rattle.snow_ledger.proofs.chain.LedgerChainChain.accept.Goals as goal

pub invariant_of-self : goal.invariant_of-self
invariant_of-self c = after_accept c.self.inside.states c.accept.new.self c.args.id.now c.accept.ensures c.self.invariant
