use Rattle.std.proofs.Common.{sym, ◌∙◌, arith}
use Rattle.snow_flake.specs.Kept.Instance.{counter_of}
use Rattle.snow_board.specs.Model.Conflict.{decided_path}
use Rattle.snow_plain.specs.Kept.Trees.{counters_of}
use Rattle.snow_board.proofs.Walking.{ends, decides_apart, decides_along}
use Rattle.snow_plain.proofs.tree.+decides.Goals as goal
use Rattle.snow_plain.proofs.tree.+decides.Goals.{then-side, else-side}

pub returns-in-Leaf : goal.returns-in-Leaf
unfolding decided_path
returns-in-Leaf t c = rw c.in-Leaf.is (ends c.args.id.now c.args.bit (omega arith))

pub returns-after-side : goal.returns-after-side
returns-after-side t c =
    let deep = rw c.in-Fork.is at c.requires in
    let same = rw (c.is_decided_as.ensures, c.bit-side.ensures) at c.if-is_decided_as.true in
    let along = decides_along (counter_of c.in-Fork.counter) (counters_of c.in-Fork.zeros.value) (counters_of c.in-Fork.ones.value) c.args.id.now c.args.bit (omega arith) same in
    elim c.if-side.branch [
      | then-side w ↦ rw c.in-Fork.is (rw (w.decides-is, w.deref.ensures) at c.decides.ensures ∙ sym (rw (← c.bit-side.ensures, w.if-side.true) at along))
      | else-side w ↦ rw c.in-Fork.is (rw (w.decides-is, w.deref-else-side.ensures) at c.decides.ensures ∙ sym (rw (← c.bit-side.ensures, w.if-side.false) at along))
    ]

pub returns-else-is_decided_as : goal.returns-else-is_decided_as
returns-else-is_decided_as t c =
    let deep = rw c.in-Fork.is at c.requires in
    let apart = rw (c.is_decided_as.ensures, c.bit-side.ensures) at c.if-is_decided_as.false in
    rw (c.in-Fork.is, c.if-is_decided_as.false) (sym (decides_apart (counter_of c.in-Fork.counter) _ _ c.args.id.now c.args.bit (omega arith) apart))
