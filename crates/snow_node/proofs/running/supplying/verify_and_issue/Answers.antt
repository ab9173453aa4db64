-- A valid block is taken and served, or taken back where there is no room for it.
use Rattle.std.proofs.Common.{refl, rules}
use Rattle.snow_chain.specs.Model.Chain.{next_on}
use Rattle.snow_node.proofs.Offers.{as_before, taken, taken_back}
use Rattle.snow_node.proofs.Supplying.{serves_issued, served_back, serves_as}
use Rattle.snow_node.proofs.running.supplying.verify_and_issue.Goals as goal

pub returns-in-Err-clause-held : goal.returns-in-Err-clause-held
returns-in-Err-clause-held g c =
    as_before (g.B.Board.board c.args.board.now) (g.C.Chain.held c.args.chain.now) (g.C.Chain.held c.verify.new.self) (g.C.Chain.held c.reject.new.self)
    c.args.block.now (next_on g.C.Chain.rules (g.C.Chain.held c.args.chain.now) c.args.block.now.parent c.list.result.now)
    c.requires.steady c.requires.may (search rules) c.in_ok-verify.ensures.ok c.reject.ensures

pub returns-in-Err-clause-steady : goal.returns-in-Err-clause-steady
returns-in-Err-clause-steady g c =
    taken_back (g.B.Board.board c.args.board.now) (g.B.Board.board c.args.board.now) (g.C.Chain.held c.args.chain.now) (g.C.Chain.held c.verify.new.self)
    (g.C.Chain.held c.reject.new.self) c.args.block.now (next_on g.C.Chain.rules (g.C.Chain.held c.args.chain.now) c.args.block.now.parent c.list.result.now)
    c.requires.steady c.requires.may (search rules) c.in_ok-verify.ensures.ok refl c.reject.ensures

pub returns-in-Err-issue-clause-held : goal.returns-in-Err-issue-clause-held
returns-in-Err-issue-clause-held g c =
    as_before (g.B.Board.board c.args.board.now) (g.C.Chain.held c.args.chain.now) (g.C.Chain.held c.verify.new.self) (g.C.Chain.held c.reject-in-Err-issue.new.self)
    c.args.block.now (next_on g.C.Chain.rules (g.C.Chain.held c.args.chain.now) c.args.block.now.parent c.list.result.now)
    c.requires.steady c.requires.may (search rules) c.in_ok-verify.ensures.ok c.reject-in-Err-issue.ensures

pub returns-in-Err-issue-clause-unserved : goal.returns-in-Err-issue-clause-unserved
returns-in-Err-issue-clause-unserved g c =
    served_back (g.B.Board.board c.args.board.now) c.args.served.now c.issued.new.self c.rejected-taken_back.new.self c.args.block.now c.args.bytes c.requires.serves c.requires.may
    c.in_default.ensures.ok c.rejected-taken_back.ensures

pub returns-in-Err-issue-clause-steady : goal.returns-in-Err-issue-clause-steady
returns-in-Err-issue-clause-steady g c =
    taken_back (g.B.Board.board c.args.board.now) (g.B.Board.board c.issue.new.self) (g.C.Chain.held c.args.chain.now) (g.C.Chain.held c.verify.new.self)
    (g.C.Chain.held c.reject-in-Err-issue.new.self) c.args.block.now (next_on g.C.Chain.rules (g.C.Chain.held c.args.chain.now) c.args.block.now.parent c.list.result.now)
    c.requires.steady c.requires.may (search rules) c.in_ok-verify.ensures.ok c.in-Err-issue.ensures.board_stays c.reject-in-Err-issue.ensures

pub returns-in-Err-issue-clause-serves : goal.returns-in-Err-issue-clause-serves
returns-in-Err-issue-clause-serves g c =
    serves_as (g.B.Board.board c.args.board.now) (g.B.Board.board c.issue.new.self) c.args.served.now c.rejected-taken_back.new.self c.in-Err-issue.ensures.board_stays
    (served_back (g.B.Board.board c.args.board.now) c.args.served.now c.issued.new.self c.rejected-taken_back.new.self c.args.block.now c.args.bytes c.requires.serves c.requires.may
    c.in_default.ensures.ok c.rejected-taken_back.ensures)
    c.requires.serves

pub returns-clause-steady : goal.returns-clause-steady
returns-clause-steady g c =
    taken (g.B.Board.board c.args.board.now) (g.B.Board.board c.issue.new.self) (g.C.Chain.held c.args.chain.now) (g.C.Chain.held c.verify.new.self)
    c.args.block.now (next_on g.C.Chain.rules (g.C.Chain.held c.args.chain.now) c.args.block.now.parent c.list.result.now)
    c.requires.steady c.requires.may (search rules) c.in_ok-verify.ensures.ok c.in_default-issue.ensures.board

pub returns-clause-serves : goal.returns-clause-serves
returns-clause-serves g c =
    serves_issued (g.B.Board.board c.args.board.now) (g.B.Board.board c.issue.new.self) c.args.served.now c.issued.new.self c.args.block.now c.args.bytes c.requires.serves
    c.in_default-issue.ensures.board c.in_default.ensures.ok
