use Rattle.std.proofs.Common.{rules, arith, ◌<◌, ◌≡◌, Some, length}
use Rattle.snow_words.specs.Clauses.Numbers.{value_after}
use Rattle.snow_words.proofs.Saying.{below_large}
use Rattle.snow_words.proofs.number.number_up_to.Goals as goal

pub returns-else-number-most-clause-number : goal.returns-else-number-most-clause-number
returns-else-number-most-clause-number c =
    let some : 0 < length c.args.word.now = search rules in
    let read : value_after 0 c.args.word.now ≡ Some c.in-Some.number = search rules in
    cc (below_large c.args.most c.args.word.now c.in-Some.number (omega arith) some read (omega arith))
