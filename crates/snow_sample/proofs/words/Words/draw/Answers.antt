-- Too few words run out, one more draw, the end, or a fault. Where there is no memory for the room no word was taken.
use Rattle.std.proofs.Common.{◌≡◌, arith}
use Rattle.std.proofs.lemmas.Result.{err_from_is_err_and}
use Rattle.snow_sample.specs.Kept.Drawn.{unit_at}
use Rattle.snow_sample.proofs.Choosing.{rest_whole, rest_rest}
use Rattle.snow_sample.proofs.Drawing.{drawing_more, drawing_fails, drawing_ends, short_fails}
use Rattle.snow_sample.proofs.words.Words.draw.Goals as goal

pub returns-then-len-draws-clause-fault : goal.returns-then-len-draws-clause-fault
returns-then-len-draws-clause-fault c =
    rw (← c.self.view_is) (short_fails c.args.roster.now c.args.k c.self.inside.line (omega (arith, c.len.ensures.len, c.if-len-draws.true)) c.requires.enough, c.clear.ensures)

pub returns-in_err-begin-clause-fault : goal.returns-in_err-begin-clause-fault
returns-in_err-begin-clause-fault c =
    let fault = err_from_is_err_and c.from_residual.result c.from_residual.ensures.1 in
    rw (← c.self.view_is, fault.1, fault.2) (rest_whole c.self.inside.line)

pub returns-in_err-reserve-clause-fault : goal.returns-in_err-reserve-clause-fault
returns-in_err-reserve-clause-fault c =
    let fault = err_from_is_err_and c.from_residual-in_err-reserve.result c.from_residual-in_err-reserve.ensures.1 in
    rw (← c.self.view_is, fault.1, fault.2) (rest_whole c.self.inside.line)

pub returns-in_err-begin-2-clause-fault : goal.returns-in_err-begin-2-clause-fault
returns-in_err-begin-2-clause-fault c =
    let fault = err_from_is_err_and c.from_residual-in_err-begin-2.result c.from_residual-in_err-begin-2.ensures.1 in
    rw (← c.self.view_is, fault.1, fault.2) (rest_whole c.self.inside.line)

pub returns-in_err-begin-3-clause-fault : goal.returns-in_err-begin-3-clause-fault
returns-in_err-begin-3-clause-fault c =
    let fault = err_from_is_err_and c.from_residual-in_err-begin-3.result c.from_residual-in_err-begin-3.ensures.1 in
    rw (← c.self.view_is, fault.1, fault.2) (rest_whole c.self.inside.line)

pub returns-in_default-clause-fault : goal.returns-in_default-clause-fault
returns-in_default-clause-fault c = rw (← c.self.view_is) (
  drawing_fails c.args.roster.now c.args.k c.loop-j.j c.self.inside.line c.loop-j.self-inside.line (unit_at c.loop-j.self-inside.room.shuffle.near.items c.loop-j.self-inside.room.shuffle.moved.items c.loop-j.self-inside.room.shuffle.later) c.loop-j.out c.loop-j.invariant.0
      (omega arith) c.requires.enough (rw c.total-total.ensures.total at c.in_default.ensures.chosen),
  c.in_default.ensures.out,
)

pub returns-in_err-unit-clause-fault : goal.returns-in_err-unit-clause-fault
returns-in_err-unit-clause-fault c =
    let fault = err_from_is_err_and c.from_residual-in_err-unit.result c.from_residual-in_err-unit.ensures.1 in
    rw (← c.self.view_is, fault.1, fault.2) (rest_rest c.self.inside.line c.loop-j.self-inside.line c.choose.new.self c.loop-j.invariant.0.rest c.choose.ensures.rest)

pub returns-in_err-count-clause-fault : goal.returns-in_err-count-clause-fault
returns-in_err-count-clause-fault c =
    let fault = err_from_is_err_and c.from_residual-in_err-count.result c.from_residual-in_err-count.ensures.1 in
    rw (← c.self.view_is, fault.1, fault.2) (rest_rest c.self.inside.line c.loop-j.self-inside.line c.choose.new.self c.loop-j.invariant.0.rest c.choose.ensures.rest)

pub loop-j-preserved : goal.loop-j-preserved
loop-j-preserved c = (
  rw (c.in_ok-count.ensures.counted, c.in_ok-unit.ensures.unit)
      (drawing_more c.args.roster.now c.args.k c.loop-j.j c.in-Some.r c.self.inside.line c.loop-j.self-inside.line c.choose.new.self
      (unit_at c.loop-j.self-inside.room.shuffle.near.items c.loop-j.self-inside.room.shuffle.moved.items c.loop-j.self-inside.room.shuffle.later) (unit_at c.exchange.new.self.near.items c.exchange.new.self.moved.items c.exchange.new.self.later) c.loop-j.out c.loop-j.invariant.0 (omega arith) c.requires.enough
      (rw c.total-total.ensures.total at c.in-Some.ensures.chosen) (rw c.total-total.ensures.total at c.in-Some.ensures.within)
      c.choose.ensures.rest c.in_ok-unit.ensures.behind),
  c.in_ok-count.ensures.slots,
  omega (arith, c.loop-j.invariant.2, c.in_ok-unit.ensures.moves),
  rw c.in_ok-unit.ensures.near c.loop-j.invariant.3,
  rw c.in_ok-unit.ensures.kept c.loop-j.invariant.4,
  c.in_ok-unit.ensures.chained,
)

pub returns-clause-sample : goal.returns-clause-sample
returns-clause-sample c =
    let end : c.loop-j.j ≡ c.args.k = omega arith in
    rw (← c.self.view_is)
    (drawing_ends c.args.roster.now c.args.k c.self.inside.line c.loop-j.self-inside.line (unit_at c.loop-j.self-inside.room.shuffle.near.items c.loop-j.self-inside.room.shuffle.moved.items c.loop-j.self-inside.room.shuffle.later) c.loop-j.out (rw end at c.loop-j.invariant.0) c.requires.enough)
