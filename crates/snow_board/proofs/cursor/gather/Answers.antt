use Rattle.std.proofs.Common.{◌<◌, sym, ap, ◌∙◌, length, arith}
use Rattle.snow_base.specs.Model.Votes.{total_count}
use Rattle.snow_base.proofs.Adding.{total_added}
use Rattle.snow_board.specs.Model.Conflict.{votes_on}
use Rattle.snow_board.proofs.Gathered.{ok_then, length-added, gathered_some, gathered_none, total_more}
use Rattle.snow_board.proofs.cursor.gather.Goals as goal
use Rattle.snow_board.proofs.cursor.gather.Goals.{in-Some, in_default}

pub loop-cursor-preserved : goal.loop-cursor-preserved
loop-cursor-preserved c =
    let cursors = c.args.cursors.now in
    let i = c.loop-cursor.cursor-index in
    let q = c.cursor-item.result in
    let so_far = c.loop-cursor.invariant in
    let more = total_more cursors i q c.loop-cursor-test.true c.cursor-item.is in
    elim c.match-child_at.branch [
      | in-Some w ↦
          let child = w.in-Some.child in
          let room : 0 < c.loop-cursor.children.room = omega (arith, so_far.places, so_far.short, c.requires.places, c.loop-cursor-test.true) in
          let added = ap (λ v. v.list) w.children-is ∙ ok_then w.add.result (w.add.ensures.fits room) w.add.ensures.ok in
          record {
            votes = ap votes_on added ∙ gathered_some cursors i q c.args.parent.now child c.loop-cursor.children.list c.loop-cursor-test.true c.cursor-item.is so_far.votes (sym c.child_at.ensures ∙ w.in-Some.is);
            total = omega (arith, more, ap total_count added, total_added c.loop-cursor.children.list child q.count, so_far.total);
            short = omega (arith, ap length added, length-added c.loop-cursor.children.list child q.count, so_far.short);
            places = rw w.children-is (omega (arith, w.add.ensures.places, so_far.places));
          }
      | in_default w ↦ rw w.children-is record {
        votes = gathered_none cursors i q c.args.parent.now c.loop-cursor.children.list c.loop-cursor-test.true c.cursor-item.is so_far.votes (sym c.child_at.ensures ∙ w.in_default.is);
        total = omega (arith, more, so_far.total);
        short = omega (arith, so_far.short);
        places = so_far.places;
      }
    ]
