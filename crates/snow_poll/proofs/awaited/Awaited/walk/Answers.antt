-- A walk of the node's class finds its last entry.
use Rattle.std.proofs.Common.{◌≡◌, ◌-◌, get_or, ap, sym, ◌∙◌}
use Rattle.std.proofs.lemmas.List.{get_or_read}
use Rattle.snow_poll.specs.Kept.Awaited.{class_of}
use Rattle.snow_poll.proofs.Waiting.{is_of, within_classes, read_at, nowhere, walk_for, walk_past, walk_ends}
use Rattle.snow_poll.proofs.awaited.Awaited.walk.Goals as goal

pub loop-number-init : goal.loop-number-init
loop-number-init c =
    let self = c.args.self.now in
    let node = c.args.node.now in
    walk_for self.mask self.waits.items self.lasts.items node c.index-number.result.now self.chained
    (get_or_read self.lasts.items (class_of self.mask node) c.index-number.result.now (within_classes self.mask self.waits.items self.lasts.items node self.chained)
    (rw c.class.ensures at c.index-number.ensures) 0)

pub returns-then-eq : goal.returns-then-eq
returns-then-eq c =
    let self = c.args.self.now in
    let node = c.args.node.now in
    walk_ends self.mask self.waits.items node c.loop-number.number c.loop-number.invariant
    (λ d some.
    let read : c.index-wait.result.now ≡ get_or self.waits.items (c.loop-number.number - 1) d =
    read_at self.mask self.waits.items node c.loop-number.number c.index-wait.result.now d c.loop-number.invariant some c.index-wait.ensures in
    ap (is_of node) (sym read) ∙ sym c.eq.ensures ∙ c.if-eq.true)

pub loop-number-preserved : goal.loop-number-preserved
loop-number-preserved c =
    let self = c.args.self.now in
    (walk_past self.mask self.waits.items self.lasts.items c.args.node.now c.loop-number.number c.index-wait.result.now
    self.chained c.loop-number.invariant c.loop-number-test.true c.index-wait.ensures (sym c.eq.ensures ∙ c.if-eq.false)).0

pub loop-number-smaller : goal.loop-number-smaller
loop-number-smaller c =
    let self = c.args.self.now in
    (walk_past self.mask self.waits.items self.lasts.items c.args.node.now c.loop-number.number c.index-wait.result.now
    self.chained c.loop-number.invariant c.loop-number-test.true c.index-wait.ensures (sym c.eq.ensures ∙ c.if-eq.false)).1

pub returns : goal.returns
returns c =
    let self = c.args.self.now in
    nowhere self.mask self.waits.items c.args.node.now c.loop-number.number c.loop-number.invariant c.loop-number-test.false
