use Rattle.std.proofs.Common.{◌%◌, arith}
use Rattle.snow_base.proofs.Words.{none_in_word, first_in_word}
use Rattle.snow_base.proofs.identifier.Id.first_in_word.Goals as goal

pub returns-then-a-b : goal.returns-then-a-b
returns-then-a-b c =
    let at = c.from-at.result in
    λ k low high.
    none_in_word _ _ at c.word.result c.word-2.result (c.args.from % 64) c.args.from c.word.ensures c.word-2.ensures (omega (arith, c.from-at.ensures))
    c.if-a-b.true k low (omega (arith, c.from-at.ensures))

pub returns : goal.returns
returns c =
    let at = c.from-at.result in
    let lowest = c.lowest_differing.ensures in
    let found = first_in_word _ _ at c.word.result c.word-2.result (c.args.from % 64) c.args.from c.lowest_differing.result c.word.ensures c.word-2.ensures
    (omega (arith, c.from-at.ensures)) c.word.type_inv c.word-2.type_inv lowest.below lowest.differs
    in
    (found.0, omega (arith, found.1, c.from-at.ensures), found.2, found.3)
