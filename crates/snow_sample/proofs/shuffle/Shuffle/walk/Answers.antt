-- A walk of the position's class finds the last move to it.
use Rattle.std.proofs.Common.{bit_and}
use Rattle.std.proofs.lemmas.List.{get_or_read}
use Rattle.snow_sample.proofs.Moves.{within_classes, walk_to, walk_past, walk_finds, walk_ends}
use Rattle.snow_sample.proofs.shuffle.Shuffle.walk.Goals as goal

pub loop-number-init : goal.loop-number-init
loop-number-init c =
    let self = c.args.self.now in
    let within = within_classes self.mask self.moved.items self.lasts.items c.args.place c.requires in
    walk_to self.mask self.moved.items self.lasts.items c.args.place c.index-number.result.now c.requires
    (get_or_read self.lasts.items (bit_and c.args.place self.mask) c.index-number.result.now within c.index-number.ensures 0)

pub returns-then-last-place : goal.returns-then-last-place
returns-then-last-place c =
    let self = c.args.self.now in
    walk_finds self.mask self.moved.items c.args.place c.loop-number.number c.index-last.result.now c.loop-number.invariant
    c.loop-number-test.true c.index-last.ensures c.if-last-place.true

pub loop-number-preserved : goal.loop-number-preserved
loop-number-preserved c =
    let self = c.args.self.now in
    (walk_past self.mask self.moved.items self.lasts.items c.args.place c.loop-number.number c.index-last.result.now
    c.requires c.loop-number.invariant c.loop-number-test.true c.index-last.ensures c.if-last-place.false).0

pub loop-number-smaller : goal.loop-number-smaller
loop-number-smaller c =
    let self = c.args.self.now in
    (walk_past self.mask self.moved.items self.lasts.items c.args.place c.loop-number.number c.index-last.result.now
    c.requires c.loop-number.invariant c.loop-number-test.true c.index-last.ensures c.if-last-place.false).1

pub returns : goal.returns
returns c = walk_ends c.args.self.now.mask c.args.self.now.moved.items c.args.place c.loop-number.number c.loop-number.invariant c.loop-number-test.false
