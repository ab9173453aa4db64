use Rattle.std.proofs.Common.{◌≡◌, ◌-◌, length, take, insert, get_or, refl, ◌∙◌, subst, arith}
use Rattle.std.proofs.lemmas.List.{length-take-le, length-set}
use Rattle.snow_base.specs.declared.block.Vote.{Vote}
use Rattle.snow_base.proofs.Moving.{last_apart, moved_more, moved_all}
use Rattle.snow_base.proofs.bag.move_in.Goals as goal

pub loop-free-init : goal.loop-free-init
loop-free-init c =
    let row = c.args.row.now in
    record {
      low = omega arith;
      high = omega arith;
      long = refl;
      moved = last_apart row (length row - 1) (record { id = c.args.id.now; count = c.args.n }) (omega arith);
    }

pub loop-free-preserved : goal.loop-free-preserved
loop-free-preserved c =
    let new : Vote = record { id = c.args.id.now; count = c.args.n } in
    let first = c.args.row.now in
    let row = c.loop-free.row in
    let free = c.loop-free.free in
    let long = length-set row free c.index-row-free.result in
    record {
      low = omega arith;
      high = omega (arith, long, c.loop-free.invariant.high);
      long = long ∙ c.loop-free.invariant.long;
      moved =
          moved_more (take (length first - 1) first) row free (free - 1) c.index-row-free.result new (omega arith)
          (omega (arith, length-take-le (length first - 1) first (omega arith), c.loop-free.invariant.high, c.loop-free.invariant.long)) c.loop-free.invariant.moved c.index-row-free.is;
    }

pub returns : goal.returns
returns c =
    let new : Vote = record { id = c.args.id.now; count = c.args.n } in
    let first = c.args.row.now in
    let row = c.loop-free.row in
    let here : c.loop-free.free ≡ c.args.at = omega (arith, c.loop-free.invariant.low) in
    moved_all (take (length first - 1) first) row c.args.at new new (omega (arith, length-take-le (length first - 1) first (omega arith)))
    (subst (λ at. row ≡ insert (take (length first - 1) first) at (get_or row at new)) here c.loop-free.invariant.moved)
