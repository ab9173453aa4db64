use Rattle.std.proofs.Common.{rules, ◌≡◌, ◌≤◌, length, get_or}
use Rattle.snow_words.proofs.Cutting.{cut_at, cut_end}
use Rattle.snow_words.proofs.parts.place.Goals as goal

pub returns-then-text-at : goal.returns-then-text-at
returns-then-text-at c =
    let is : get_or c.args.text.now c.loop-at.at 0 ≡ c.args.mark = search rules in
    (c.loop-at-test.true, cut_at c.args.mark c.args.text.now c.loop-at.at c.loop-at-test.true is c.loop-at.invariant)

pub returns : goal.returns
returns c =
    let done : length c.args.text.now ≤ c.loop-at.at = search rules in
    cut_end c.args.mark c.args.text.now c.loop-at.at done c.loop-at.invariant
