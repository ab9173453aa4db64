use Rattle.std.proofs.Common.{◌≡◌, ◌*◌, ◌≤◌}
use Rattle.std.specs.List.{sum_by, range_with_len}
use Rattle.snow_ledger.specs.Model.Ledger.{held}
use Rattle.snow_ledger.proofs.state.total.Given as goal

-- the sum over the accounts so far, each of which holds a number of 64 bits
abbrev pub invariant-loop-account : goal.invariant-loop-account
invariant-loop-account l = record {
  is : l.sum ≡ sum_by (held l.state) (range_with_len 0 l.account);
  fits : l.sum ≤ 18446744073709551615 * l.account;
}
