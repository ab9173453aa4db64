use Rattle.std.proofs.Common.{rules, ◌≡◌, ◌≤◌, length, get_or}
use Rattle.snow_reading.proofs.Cutting.{cut_at, cut_end}
use Rattle.snow_reading.proofs.words.space.Goals as goal

pub returns-then-bytes-at-eq32 : goal.returns-then-bytes-at-eq32
returns-then-bytes-at-eq32 c =
    let is : get_or c.args.bytes.now c.loop-at.at 0 ≡ 32 = search rules in
    (c.loop-at-test.true, cut_at c.args.bytes.now c.loop-at.at c.loop-at-test.true is c.loop-at.invariant)

pub returns : goal.returns
returns c =
    let done : length c.args.bytes.now ≤ c.loop-at.at = search rules in
    cut_end c.args.bytes.now c.loop-at.at done c.loop-at.invariant
