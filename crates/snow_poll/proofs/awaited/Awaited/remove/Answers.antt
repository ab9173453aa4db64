-- The node's last entry counts no more.
use Rattle.std.proofs.Common.{◌≡◌, ◌-◌, true, None, Some, get_or, refl, sym, ap, arith, ◌∙◌}
use Rattle.std.proofs.lemmas.Bool.{cond-true, cond-false}
use Rattle.std.proofs.lemmas.List.{get_or_read}
use Rattle.std.proofs.Math.Seq.{map-set_same}
use Rattle.snow_poll.specs.Kept.Awaited.{draw_of, number_in}
use Rattle.snow_poll.specs.declared.awaited.Wait.{Wait}
use Rattle.snow_poll.proofs.Waiting.{counts_here, counts_none, counts_same, counts_less, waits_kept, numbers_kept}
use Rattle.snow_poll.proofs.awaited.Awaited.remove.Goals as goal

pub returns-then-number-eq0-clause-value : goal.returns-then-number-eq0-clause-value
returns-then-number-eq0-clause-value c =
    sym (counts_none c.args.self.now.waits.items c.args.node.now c.find-number.result c.find-number.ensures (omega arith))

pub returns-then-number-eq0-clause-updates : goal.returns-then-number-eq0-clause-updates
returns-then-number-eq0-clause-updates c other =
    counts_same c.args.self.now.waits.items c.args.node.now other
    (counts_none c.args.self.now.waits.items c.args.node.now c.find-number.result c.find-number.ensures (omega arith))

pub returns-then-wait-clause-value : goal.returns-then-wait-clause-value
returns-then-wait-clause-value c =
    sym (counts_here c.args.self.now.waits.items c.args.node.now c.find-number.result c.index-wait.result.now c.find-number.ensures (omega arith) c.index-wait.ensures
    ∙ cond-true c.index-wait.result.now.replied None (Some c.index-wait.result.now.count) c.if-wait.true)

pub returns-then-wait-clause-updates : goal.returns-then-wait-clause-updates
returns-then-wait-clause-updates c other =
    counts_same c.args.self.now.waits.items c.args.node.now other
    (counts_here c.args.self.now.waits.items c.args.node.now c.find-number.result c.index-wait.result.now c.find-number.ensures (omega arith) c.index-wait.ensures
    ∙ cond-true c.index-wait.result.now.replied None (Some c.index-wait.result.now.count) c.if-wait.true)

pub invariant_of-self-clause-chained : goal.invariant_of-self-clause-chained
invariant_of-self-clause-chained c =
    let self = c.args.self.now in
    let w : Wait = record { node = c.index_mut.result.now.node; count = c.index_mut.result.now.count; before = c.index_mut.result.now.before; class = c.index_mut.result.now.class; rank = c.index_mut.result.now.rank; replied = true } in
    let read : (d : Wait) → c.index_mut.result.now ≡ get_or self.waits.items (c.find-number.result - 1) d = λ d.
    get_or_read self.waits.items (c.find-number.result - 1) c.index_mut.result.now (omega (arith, c.find-number.ensures.within)) c.index_mut.ensures.value d in
    waits_kept self.mask self.waits.items self.lasts.items (c.find-number.result - 1) w self.chained
    (λ d. ap (λ (x : Wait). x.node) (read d)) (λ d. ap (λ (x : Wait). x.before) (read d)) (λ d. ap (λ (x : Wait). x.class) (read d))

pub invariant_of-self-clause-numbered : goal.invariant_of-self-clause-numbered
invariant_of-self-clause-numbered c numbers is node =
    let self = c.args.self.now in
    let w : Wait = record { node = c.index_mut.result.now.node; count = c.index_mut.result.now.count; before = c.index_mut.result.now.before; class = c.index_mut.result.now.class; rank = c.index_mut.result.now.rank; replied = true } in
    let read : (d : Wait) → c.index_mut.result.now ≡ get_or self.waits.items (c.find-number.result - 1) d = λ d.
    get_or_read self.waits.items (c.find-number.result - 1) c.index_mut.result.now (omega (arith, c.find-number.ensures.within)) c.index_mut.ensures.value d in
    numbers_kept self.waits.items (c.find-number.result - 1) w node (number_in numbers node) (λ d. ap (λ (x : Wait). x.node) (read d)) (self.numbered numbers is node)

pub returns-clause-value : goal.returns-clause-value
returns-clause-value c =
    sym (counts_here c.args.self.now.waits.items c.args.node.now c.find-number.result c.index-wait.result.now c.find-number.ensures (omega arith) c.index-wait.ensures
    ∙ cond-false c.index-wait.result.now.replied None (Some c.index-wait.result.now.count) c.if-wait.false)

pub returns-clause-updates : goal.returns-clause-updates
returns-clause-updates c other =
    let self = c.args.self.now in
    let w : Wait = record { node = c.index_mut.result.now.node; count = c.index_mut.result.now.count; before = c.index_mut.result.now.before; class = c.index_mut.result.now.class; rank = c.index_mut.result.now.rank; replied = true } in
    let read : (d : Wait) → c.index_mut.result.now ≡ get_or self.waits.items (c.find-number.result - 1) d = λ d.
    get_or_read self.waits.items (c.find-number.result - 1) c.index_mut.result.now (omega (arith, c.find-number.ensures.within)) c.index_mut.ensures.value d in
    counts_less self.waits.items c.args.node.now c.find-number.result w other c.find-number.ensures (omega arith) (λ d. ap (λ (x : Wait). x.node) (read d)) refl

pub returns-clause-drawn : goal.returns-clause-drawn
returns-clause-drawn c =
    let self = c.args.self.now in
    let w : Wait = record { node = c.index_mut.result.now.node; count = c.index_mut.result.now.count; before = c.index_mut.result.now.before; class = c.index_mut.result.now.class; rank = c.index_mut.result.now.rank; replied = true } in
    let read : (d : Wait) → c.index_mut.result.now ≡ get_or self.waits.items (c.find-number.result - 1) d = λ d.
    get_or_read self.waits.items (c.find-number.result - 1) c.index_mut.result.now (omega (arith, c.find-number.ensures.within)) c.index_mut.ensures.value d in
    map-set_same draw_of self.waits.items (c.find-number.result - 1) w w (ap draw_of (read w))
