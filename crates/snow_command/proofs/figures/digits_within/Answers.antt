-- Where a digit gives no number, all give none.
use Rattle.std.proofs.Common.{◌≡◌, ◌≤◌, ◌∙◌, Some, None, length, slice_index, sym, rules}
use Rattle.snow_command.specs.Model.Words.{with_digit}
use Rattle.snow_command.proofs.Digits.{none_first}
use Rattle.snow_command.proofs.figures.digits_within.Goals as goal

pub returns-in_err-number-clause-number : goal.returns-in_err-number-clause-number
returns-in_err-number-clause-number c =
    let given : c.from_residual.result ≡ None = search rules in
    let some : 1 ≤ length c.loop-left.left.now = search rules in
    let none : with_digit c.args.most (Some c.loop-left.number) (slice_index c.loop-left.left.now 0) ≡ None = search rules in
    given ∙ sym (none_first c.args.most c.loop-left.number c.loop-left.left.now some none) ∙ c.loop-left.invariant.0
