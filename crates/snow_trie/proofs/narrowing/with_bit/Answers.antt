use Rattle.std.proofs.Common.{◌≡◌, ◌-◌, take, drop, length, Contains, sym, arith, length-drop}
use Rattle.std.proofs.lemmas.List.{take_all}
use Rattle.std.proofs.lemmas.List.Elements.{All-take, All-drop, All-contains_itself}
use Rattle.snow_board.proofs.Polling.{below_zero, below_one}
use Rattle.snow_trie.proofs.narrowing.with_bit.Goals as goal

pub returns-then-is_one-clause-counts : goal.returns-then-is_one-clause-counts
returns-then-is_one-clause-counts c =
    let votes = c.args.votes.now in
    let at = c.split-at.result in
    let whole : take (length votes - at) (drop at votes) ≡ drop at votes = take_all (length votes - at) (drop at votes) (omega (arith, length-drop at votes)) in
    rw (whole, c.if-is_one.true) (λ front. sym (below_one c.args.bit at votes front c.requires.bit c.split-at.ensures.zeros c.split-at.ensures.ones))

pub returns-then-is_one-clause-among : goal.returns-then-is_one-clause-among
returns-then-is_one-clause-among c =
    let votes = c.args.votes.now in
    let at = c.split-at.result in
    let whole : take (length votes - at) (drop at votes) ≡ drop at votes = take_all (length votes - at) (drop at votes) (omega (arith, length-drop at votes)) in
    rw whole (All-drop (Contains votes) at votes (All-contains_itself votes))

pub returns-else-is_one-clause-counts : goal.returns-else-is_one-clause-counts
returns-else-is_one-clause-counts c =
    rw c.if-is_one.false (λ front. sym (below_zero c.args.bit c.split-at.result c.args.votes.now front c.requires.bit c.split-at.ensures.zeros c.split-at.ensures.ones))

pub returns-else-is_one-clause-among : goal.returns-else-is_one-clause-among
returns-else-is_one-clause-among c = All-take (Contains c.args.votes.now) c.split-at.result c.args.votes.now (All-contains_itself c.args.votes.now)
