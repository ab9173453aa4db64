use Rattle.std.proofs.Common.{sym, ◌∙◌, arith}
use Rattle.snow_flake.specs.Kept.Instance.{counter_of}
use Rattle.snow_plain.specs.Kept.Trees.{counters_of}
use Rattle.snow_plain.proofs.Growing.{grown_dead, grown_zero, grown_one}
use Rattle.snow_plain.proofs.tree.+add.Goals as goal

pub returns-then-not-admits-clause-ok : goal.returns-then-not-admits-clause-ok
returns-then-not-admits-clause-ok t c =
    let deep = rw c.in-Fork.is at c.requires in
    let dead = rw (c.admits.ensures, c.bit-side.ensures) at c.if-not-admits.true in
    rw c.in-Fork.is (sym (grown_dead (counter_of c.in-Fork.counter) _ _ c.args.child.now c.args.bit (omega arith) dead))

pub returns-then-side-clause-ok : goal.returns-then-side-clause-ok
returns-then-side-clause-ok t c =
    let deep = rw c.in-Fork.is at c.requires in
    let free = rw (c.admits.ensures, c.bit-side.ensures) at c.if-not-admits.false in
    rw c.in-Fork.is (grown_one c.add.result (counter_of c.in-Fork.counter) (counters_of c.in-Fork.zeros.value) (counters_of c.in-Fork.ones.value)
    (counters_of c.add.new.tree) c.args.child.now c.args.bit (omega arith) (sym c.bit-side.ensures ∙ c.if-side.true) free
    (rw c.deref_mut.ensures.value at c.add.ensures.ok))

pub returns-else-side-clause-ok : goal.returns-else-side-clause-ok
returns-else-side-clause-ok t c =
    let deep = rw c.in-Fork.is at c.requires in
    let free = rw (c.admits.ensures, c.bit-side.ensures) at c.if-not-admits.false in
    rw c.in-Fork.is (grown_zero c.add-else-side.result (counter_of c.in-Fork.counter) (counters_of c.in-Fork.zeros.value) (counters_of c.in-Fork.ones.value)
    (counters_of c.add-else-side.new.tree) c.args.child.now c.args.bit (omega arith) (sym c.bit-side.ensures ∙ c.if-side.false) free
    (rw c.deref_mut-else-side.ensures.value at c.add-else-side.ensures.ok))
