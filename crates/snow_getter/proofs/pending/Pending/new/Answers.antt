use Rattle.std.proofs.Common.{refl, sym, subst, arith}
use Rattle.std.specs.List.{IsDistinct}
use Rattle.snow_getter.specs.Kept.Order.{AreIssued, issued_before}
use Rattle.snow_getter.proofs.pending.Pending.new.Goals as goal

pub returns : goal.returns
unfolding issued_before
returns c = refl

pub invariant_of-result : goal.invariant_of-result
unfolding IsDistinct
invariant_of-result c = subst (AreIssued 0) (sym c.new.ensures) (record { each = tt; apart = λ n. omega arith; unique = tt })
