-- The path leads to the state that is held.
use Rattle.std.proofs.Common.{ap, Some, ◌∙◌, arith}
use Rattle.snow_ledger.specs.Model.Ledger.{next_in}
use Rattle.snow_ledger.proofs.Paths.{accounts_along, sequence_along}
use Rattle.snow_ledger.proofs.chain.LedgerChain.sequence.Goals as goal

pub returns-then-account-accounts-clause-path : goal.returns-then-account-accounts-clause-path
returns-then-account-accounts-clause-path c first blocks state is below =
    absurd (omega (arith, accounts_along first _ blocks state is, c.accounts.ensures, c.if-account-accounts.true))

pub returns-clause-path : goal.returns-clause-path
returns-clause-path c first blocks state is below =
    ap Some (ap (λ s. next_in s c.args.account) c.last_state.ensures ∙ sequence_along first _ blocks c.args.account state is below)
