-- Each state that is left was one before.
use Rattle.snow_ledger.proofs.Holding.{after_reject}
use Rattle.snow_ledger.proofs.chain.LedgerChainChain.reject.Goals as goal

pub invariant_of-self : goal.invariant_of-self
invariant_of-self c = after_reject c.self.inside.states c.reject.new.self c.args.id.now c.reject.ensures c.self.invariant
