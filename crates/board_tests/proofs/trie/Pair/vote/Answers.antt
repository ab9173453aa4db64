use Rattle.std.proofs.Common.{rules, Contains}
use Rattle.snow_board.proofs.Given.{given_added}
use Rattle.board_tests.proofs.trie.Pair.vote.Goals as goal

pub returns-in_err-add-clause-given : goal.returns-in_err-add-clause-given
returns-in_err-add-clause-given g c = rw c.in_err-add.ensures.err c.requires.given

pub returns-in_ok-add-clause-given : goal.returns-in_ok-add-clause-given
returns-in_ok-add-clause-given g c =
    let has : Contains c.args.self.now.given.items c.index.result.now = (c.args.at, search rules, search rules) in
    rw c.in_ok-add.ensures.ok (given_added c.args.self.now.given.items c.args.bag.now.list c.index.result.now c.args.count has c.requires.given)
