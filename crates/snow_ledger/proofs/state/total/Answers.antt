-- One account more.
use Rattle.std.proofs.Common.{arith}
use Rattle.snow_ledger.specs.Model.Ledger.{held}
use Rattle.snow_ledger.proofs.Sums.{sum_next}
use Rattle.snow_ledger.proofs.state.total.Goals as goal

pub loop-account-preserved : goal.loop-account-preserved
loop-account-preserved c = record {
  is = omega (arith, c.loop-account.invariant.is, sum_next (held c.args.state.now) c.loop-account.account);
  fits = omega arith;
}
