-- The blocks are passed over, one after another.
use Rattle.std.proofs.Common.{refl, sym, subst}
use Rattle.std.specs.Result.{IsOk}
use Rattle.std.proofs.lemmas.Result.{err_from_is_err_and}
use Rattle.snow_wire.specs.Model.Reading.{block_at, items_at, counted_at}
use Rattle.snow_wire.proofs.Listed.{left_by, goes_on, ends, is_done}
use Rattle.snow_wire.proofs.packed.Packed.read.Goals as goal

pub loop-preserved : goal.loop-preserved
loop-preserved c =
    goes_on block_at c.in_ok-count.count c.loop.counter c.loop.reader c.in_ok-slice.field-0.now c.slice.new.self (left_by (items_at block_at c.in_ok-count.count c.count.new.self)) c.loop-test.true c.in_ok-slice.ensures
    c.loop.invariant

pub returns-in_err-slice : goal.returns-in_err-slice
unfolding counted_at
returns-in_err-slice c =
    let p = err_from_is_err_and c.from_residual-in_err-slice.result c.from_residual-in_err-slice.ensures.1 in
    rw (p.1, p.2, c.in_ok-count.ensures)
    (ends block_at c.in_err-slice.field-0.0 c.in_ok-count.count c.loop.counter c.loop.reader (items_at block_at c.in_ok-count.count c.count.new.self) c.loop-test.true c.in_err-slice.ensures c.loop.invariant)

pub returns : goal.returns
unfolding counted_at
returns c =
    let done = is_done block_at c.in_ok-count.count c.loop.counter c.loop.reader (items_at block_at c.in_ok-count.count c.count.new.self) c.loop-test.false c.loop.invariant in
    rw (c.in_ok-count.ensures, c.rest-bytes.ensures) done

pub invariant_of-result : goal.invariant_of-result
invariant_of-result c =
    let done = is_done block_at c.in_ok-count.count c.loop.counter c.loop.reader (items_at block_at c.in_ok-count.count c.count.new.self) c.loop-test.false c.loop.invariant in
    rw c.rest-bytes.ensures (subst IsOk (sym done) refl)
