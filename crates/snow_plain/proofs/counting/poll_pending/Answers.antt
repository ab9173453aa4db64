use Rattle.std.proofs.Common.{◌≡◌, ℕ, suc, ◌-◌, ◌<◌, ◌++◌, List, length, take, drop, map, All, sym, ap, ◌∙◌, subst, arith}
use Rattle.snow_board.specs.declared.cursor.Cursor.{Cursor}
use Rattle.snow_board.specs.Model.Conflict.{Pending}
use Rattle.snow_board.specs.Model.Board.{blocks_of}
use Rattle.snow_board.specs.Kept.Cursors.{moved, moved_past, cursor_total, polled}
use Rattle.snow_plain.proofs.Swept.{swept_none, unmoved, moved_more, next_is, swept_more, counts_kept, total_kept}
use Rattle.snow_plain.proofs.counting.poll_pending.Goals as goal

pub loop-i-init : goal.loop-i-init
loop-i-init c = record {
  pending = swept_none c.args.params.now c.args.cursors.now c.args.pending.now;
  cursors = unmoved c.args.cursors.now c.args.pending.now;
  places = omega arith;
}

pub poll_counters-requires-clause-counts : goal.poll_counters-requires-clause-counts
poll_counters-requires-clause-counts c =
    subst (λ (l : List Cursor). All (λ c. 0 < c.count) l) (sym c.loop-i.invariant.cursors)
    (counts_kept (blocks_of (drop c.loop-i.i c.args.pending.now)) c.args.cursors.now c.requires.counts)

pub poll_counters-requires-clause-total : goal.poll_counters-requires-clause-total
poll_counters-requires-clause-total c =
    omega (arith, c.requires.total, ap cursor_total c.loop-i.invariant.cursors, total_kept (blocks_of (drop c.loop-i.i c.args.pending.now)) c.args.cursors.now)

pub loop-i-preserved : goal.loop-i-preserved
loop-i-preserved c =
    let p = c.args.params.now in
    let first = c.args.cursors.now in
    let old = c.args.pending.now in
    let now = c.loop-i.pending in
    let m = c.loop-i.i - 1 in
    let d = c.index-pending-i.result in
    let next : c.loop-i.i ≡ suc m = omega (arith, c.loop-i-test.true) in
    let h : m < length old = omega (arith, c.loop-i-test.true, c.loop-i.auto.i) in
    let pending = subst (λ (n : ℕ). now ≡ take n old ++ polled p first (drop n old)) next c.loop-i.invariant.pending in
    let cursors = subst (λ (n : ℕ). c.loop-i.cursors ≡ map (moved_past (blocks_of (drop n old))) first) next c.loop-i.invariant.cursors in
    record {
      pending = swept_more p first c.loop-i.cursors old now m d c.poll_counters.new.counters h pending cursors c.poll_counters.ensures.counters;
      cursors = c.advance.ensures ∙ ap (λ (q : Pending). map (moved q.block) c.loop-i.cursors) (next_is p first old now m d h pending) ∙ moved_more first c.loop-i.cursors old m d h cursors;
      places = omega (arith, c.poll_counters.ensures.places, c.loop-i.invariant.places);
    }
