use Rattle.std.proofs.Common.{◌≡◌, ◌+◌, ◌++◌, cond, [], ◌∷◌, map, vec_capacity, sym, ap, ◌∙◌, append-nil, arith}
use Rattle.snow_board.specs.Model.Poll.{rejects}
use Rattle.snow_plain.proofs.Judged.{rejected_before, told_since, told_next, told_room}
use Rattle.snow_plain.proofs.accepting.reject_others.Goals as goal
use Rattle.snow_plain.proofs.accepting.reject_others.Goals.{then-is_rejected, else-is_rejected, After-is_rejected}

-- the decisions after this block
next : (c : After-is_rejected) → c.loop-entry.decisions.items ++ cond c.is_rejected.result (rejects c.entry-item.result ∷ []) []
    ≡ c.args.decisions.now.items ++ map rejects (rejected_before c.args.pending.now c.args.child.now (c.loop-entry.entry-index + 1))
next c =
    let old = c.args.decisions.now in
    let all = c.loop-entry.decisions.items in
    let told = map rejects (rejected_before c.args.pending.now c.args.child.now c.loop-entry.entry-index) in
    let since = told_since old.items told all c.deref.result.now c.len-first.result (c.len-first.ensures ∙ old.ok.0) c.loop-entry.invariant.told c.deref.ensures.value in
    ap (λ t. all ++ cond t (rejects c.entry-item.result ∷ []) []) c.is_rejected.ensures
    ∙ told_next c.args.last.now c.args.child.now c.args.pending.now c.loop-entry.entry-index c.entry-item.result old.items all _
    c.requires.grown c.loop-entry-test.true c.entry-item.is c.loop-entry.invariant.told since

pub push_reserved-requires : goal.push_reserved-requires
push_reserved-requires c =
    let n = rw c.if-is_rejected.true at (next (goal.at.push_reserved-requires c).After-is_rejected) in
    let room = told_room c.args.child.now c.args.pending.now c.loop-entry.entry-index c.args.decisions.now.items c.loop-entry.decisions.items (rejects c.entry-item.result) n in
    omega (arith, room, c.loop-entry.decisions.ok.0, c.args.decisions.now.ok.0, c.loop-entry.invariant.room, c.requires.room)

pub loop-entry-preserved : goal.loop-entry-preserved
loop-entry-preserved c =
    let n = next (goal.at.loop-entry-preserved c).After-is_rejected in
    elim c.if-is_rejected.branch [
      | then-is_rejected w ↦ record {
        told = ap (λ v. v.items) w.decisions-is ∙ w.push_reserved.ensures.items ∙ (rw w.if-is_rejected.true at n);
        room = ap (λ v. vec_capacity v) w.decisions-is ∙ w.push_reserved.ensures.capacity ∙ c.loop-entry.invariant.room;
      }
      | else-is_rejected w ↦ record {
        told = ap (λ v. v.items) w.decisions-is ∙ sym (append-nil c.loop-entry.decisions.items) ∙ (rw w.if-is_rejected.false at n);
        room = ap (λ v. vec_capacity v) w.decisions-is ∙ c.loop-entry.invariant.room;
      }
    ]
