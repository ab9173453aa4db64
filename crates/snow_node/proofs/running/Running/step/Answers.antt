-- A block, a vote or a timeout came, and the event ends.
use Rattle.std.proofs.lemmas.Result.{err_from_is_err_and}
use Rattle.snow_node.specs.Model.Running.{Running}
use Rattle.snow_node.specs.Model.Hearing.{block_came, vote_came, timed_out}
use Rattle.snow_node.specs.Model.Turning.{rounded, runs_on}
use Rattle.snow_node.proofs.Sequel.{lines_first, lines_then}
use Rattle.snow_node.proofs.running.Running.step.Goals as goal

pub returns-in_err-on_block-in-Block-clause-lines : goal.returns-in_err-on_block-in-Block-clause-lines
unfolding runs_on
returns-in_err-on_block-in-Block-clause-lines g c =
    let p = err_from_is_err_and c.from_residual.result c.from_residual.ensures.1 in
    rw (p.1, p.2, c.in-Block.is) (lines_first Running Running (block_came g.C.Chain.rules g.B.Board.answer c.args.self.now c.args.frame c.in-Block.block.node.now c.in-Block.block.request c.in-Block.block.bytes.now) (rounded g.B.Board.answer) (Unit {0}) (Unit {0})
    c.in_err-on_block-in-Block.field-0.0 c.args.log.now c.on_block.new.log c.in_err-on_block-in-Block.ensures.answer c.in_err-on_block-in-Block.ensures.lines)

pub returns-in_ok-on_block-in-Block-clause-lines : goal.returns-in_ok-on_block-in-Block-clause-lines
unfolding runs_on
returns-in_ok-on_block-in-Block-clause-lines g c =
    rw c.in-Block.is (lines_then Running Running (block_came g.C.Chain.rules g.B.Board.answer c.args.self.now c.args.frame c.in-Block.block.node.now c.in-Block.block.request c.in-Block.block.bytes.now) (rounded g.B.Board.answer) (Unit {0}) c.round.result c.on_block.new.self
    c.args.log.now c.on_block.new.log c.round.new.log c.in_ok-on_block-in-Block.ensures.answer c.in_ok-on_block-in-Block.ensures.lines c.round.ensures.lines)

pub returns-in_err-on_chits-in-Chits-clause-lines : goal.returns-in_err-on_chits-in-Chits-clause-lines
unfolding runs_on
returns-in_err-on_chits-in-Chits-clause-lines g c =
    let p = err_from_is_err_and c.from_residual-in_err-on_chits-in-Chits.result c.from_residual-in_err-on_chits-in-Chits.ensures.1 in
    rw (p.1, p.2, c.in-Chits.is) (lines_first Running Running (vote_came g.C.Chain.rules g.B.Board.answer c.args.self.now c.in-Chits.vote.request c.in-Chits.vote.node.now c.in-Chits.vote.id.now) (rounded g.B.Board.answer) (Unit {0}) (Unit {0})
    c.in_err-on_chits-in-Chits.field-0.0 c.args.log.now c.on_chits.new.log c.in_err-on_chits-in-Chits.ensures.answer c.in_err-on_chits-in-Chits.ensures.lines)

pub returns-in_ok-on_chits-in-Chits-clause-lines : goal.returns-in_ok-on_chits-in-Chits-clause-lines
unfolding runs_on
returns-in_ok-on_chits-in-Chits-clause-lines g c =
    rw c.in-Chits.is (lines_then Running Running (vote_came g.C.Chain.rules g.B.Board.answer c.args.self.now c.in-Chits.vote.request c.in-Chits.vote.node.now c.in-Chits.vote.id.now) (rounded g.B.Board.answer) (Unit {0}) c.round-in-Chits.result c.on_chits.new.self
    c.args.log.now c.on_chits.new.log c.round-in-Chits.new.log c.in_ok-on_chits-in-Chits.ensures.answer c.in_ok-on_chits-in-Chits.ensures.lines c.round-in-Chits.ensures.lines)

pub returns-in_err-on_timeout-in-Timeout-clause-lines : goal.returns-in_err-on_timeout-in-Timeout-clause-lines
unfolding runs_on
returns-in_err-on_timeout-in-Timeout-clause-lines g c =
    let p = err_from_is_err_and c.from_residual-in_err-on_timeout-in-Timeout.result c.from_residual-in_err-on_timeout-in-Timeout.ensures.1 in
    rw (p.1, p.2, c.in-Timeout.is) (lines_first Running Running (timed_out g.C.Chain.rules g.B.Board.answer c.args.self.now c.in-Timeout.timeout.request c.in-Timeout.timeout.node.now) (rounded g.B.Board.answer) (Unit {0}) (Unit {0})
    c.in_err-on_timeout-in-Timeout.field-0.0 c.args.log.now c.on_timeout.new.log c.in_err-on_timeout-in-Timeout.ensures.answer c.in_err-on_timeout-in-Timeout.ensures.lines)

pub returns-in_ok-on_timeout-in-Timeout-clause-lines : goal.returns-in_ok-on_timeout-in-Timeout-clause-lines
unfolding runs_on
returns-in_ok-on_timeout-in-Timeout-clause-lines g c =
    rw c.in-Timeout.is (lines_then Running Running (timed_out g.C.Chain.rules g.B.Board.answer c.args.self.now c.in-Timeout.timeout.request c.in-Timeout.timeout.node.now) (rounded g.B.Board.answer) (Unit {0}) c.round-in-Timeout.result c.on_timeout.new.self
    c.args.log.now c.on_timeout.new.log c.round-in-Timeout.new.log c.in_ok-on_timeout-in-Timeout.ensures.answer c.in_ok-on_timeout-in-Timeout.ensures.lines c.round-in-Timeout.ensures.lines)
