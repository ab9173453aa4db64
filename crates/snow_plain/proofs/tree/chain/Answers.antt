use Rattle.std.proofs.Common.{◌≡◌, ◌+◌, ◌-◌, sym, ◌∙◌, arith}
use Rattle.snow_board.specs.Model.Conflict.{Blank}
use Rattle.snow_plain.proofs.Growing.{grown_end, grown_fresh}
use Rattle.snow_plain.proofs.tree.chain.Goals as goal

pub loop-at-init : goal.loop-at-init
loop-at-init c = (omega arith, sym (grown_end c.args.child.now 256 Blank (omega arith)))

pub loop-at-preserved : goal.loop-at-preserved
loop-at-preserved c =
    let next : (c.loop-at.at - 1) + 1 ≡ c.loop-at.at = omega arith in
    let below = rw (← next) at c.loop-at.invariant.1 in
    (omega arith, rw (c.bit.ensures, below) at c.in_ok-tree.ensures ∙ sym (grown_fresh c.args.child.now (c.loop-at.at - 1) (omega arith)))

pub returns : goal.returns
returns c = let end : c.loop-at.at ≡ c.args.bit = omega arith in rw end at c.loop-at.invariant.1
