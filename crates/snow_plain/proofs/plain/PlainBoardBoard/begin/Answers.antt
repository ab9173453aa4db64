use Rattle.std.proofs.Common.{refl, arith}
use Rattle.std.proofs.lemmas.Grind.{common_steps}
use Rattle.snow_board.proofs.Ended.{leading_begun}
use Rattle.snow_plain.proofs.plain.PlainBoardBoard.begin.Goals as goal

pub invariant_of-result : goal.invariant_of-result
invariant_of-result g c = (
  grind (arith, common_steps),
  rw c.begin.ensures (leading_begun g.R.Rule.answer _ refl refl),
)
