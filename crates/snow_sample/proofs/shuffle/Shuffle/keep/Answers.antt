-- The move is chained before the last one of its class.
use Rattle.std.proofs.Common.{◌≡◌, ◌+◌, arith, length, bit_and}
use Rattle.std.proofs.lemmas.List.{get_or_read}
use Rattle.snow_sample.specs.declared.shuffle.Move.{Move}
use Rattle.snow_sample.proofs.Moves.{within_classes, moves_more}
use Rattle.snow_sample.proofs.shuffle.Shuffle.keep.Goals as goal

pub returns-clause-chained : goal.returns-clause-chained
returns-clause-chained c =
    let self = c.args.self.now in
    let m : Move = record { place = c.args.place; unit = c.args.unit; before = c.index-before.result.now; rank = c.rank_after-rank.result } in
    let read = get_or_read self.lasts.items (bit_and c.args.place self.mask) c.index-before.result.now
    (within_classes self.mask self.moved.items self.lasts.items c.args.place c.requires.chained) c.index-before.ensures 0 in
    let long : c.len.result ≡ length self.moved.items + 1 =
    omega (arith, c.len.ensures, c.push_reserved.ensures.len, self.moved.ok.0) in
    rw (c.push_reserved.ensures.items, long) (moves_more self.mask self.moved.items self.lasts.items m c.requires.chained read)
