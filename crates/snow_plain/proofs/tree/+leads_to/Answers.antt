use Rattle.std.proofs.Common.{sym, ◌∙◌, arith}
use Rattle.snow_flake.specs.Kept.Instance.{counter_of}
use Rattle.snow_board.specs.Model.Conflict.{chosen}
use Rattle.snow_plain.specs.Kept.Trees.{counters_of}
use Rattle.snow_board.proofs.Walking.{ends, leads_apart, leads_zero, leads_one}
use Rattle.snow_plain.proofs.tree.+leads_to.Goals as goal
use Rattle.snow_plain.proofs.tree.+leads_to.Goals.{then-side, else-side}

pub returns-in-Leaf : goal.returns-in-Leaf
unfolding chosen
returns-in-Leaf g t c = rw c.in-Leaf.is (ends c.args.id.now c.args.bit (omega arith))

pub returns-after-side : goal.returns-after-side
returns-after-side g t c =
    let deep = rw c.in-Fork.is at c.requires in
    let same = rw (c.preference-side.ensures, c.bit.ensures) at c.if-side-bit.true in
    elim c.if-side.branch [
      | then-side w ↦
          rw c.in-Fork.is (rw (w.leads_to-is, w.deref.ensures) at c.leads_to.ensures
          ∙ sym (leads_one g.R.Rule.answer (counter_of c.in-Fork.counter) (counters_of c.in-Fork.zeros.value) (counters_of c.in-Fork.ones.value) c.args.id.now c.args.bit (omega arith) (sym c.preference-side.ensures ∙ w.if-side.true) same))
      | else-side w ↦
          rw c.in-Fork.is (rw (w.leads_to-is, w.deref-else-side.ensures) at c.leads_to.ensures
          ∙ sym (leads_zero g.R.Rule.answer (counter_of c.in-Fork.counter) (counters_of c.in-Fork.zeros.value) (counters_of c.in-Fork.ones.value) c.args.id.now c.args.bit (omega arith) (sym c.preference-side.ensures ∙ w.if-side.false) same))
    ]

pub returns-else-side-bit : goal.returns-else-side-bit
returns-else-side-bit g t c =
    let deep = rw c.in-Fork.is at c.requires in
    let apart = rw (c.preference-side.ensures, c.bit.ensures) at c.if-side-bit.false in
    rw (c.in-Fork.is, c.if-side-bit.false) (sym (leads_apart g.R.Rule.answer (counter_of c.in-Fork.counter) _ _ c.args.id.now c.args.bit (omega arith) apart))
