use Rattle.std.proofs.Common.{◌≡◌, ◌<◌, ◌∷◌, ◌++◌, length, map, filter, not, sym, ap, ◌∙◌, arith}
use Rattle.std.proofs.lemmas.List.{get_or_default}
use Rattle.snow_board.specs.Model.Poll.{accepts, rejects}
use Rattle.snow_board.specs.Model.Acceptance.{outsiders, descendants, has_decision}
use Rattle.snow_plain.proofs.Judged.{told_since}
use Rattle.snow_plain.proofs.Taken.{fewer_left, told_all, told_fewer, left_after}
use Rattle.snow_plain.proofs.accepting.take_accepted.Goals as goal
use Rattle.snow_plain.proofs.accepting.take_accepted.Goals.{After-drop_decided}

pub reject_others-requires-clause-room : goal.reject_others-requires-clause-room
reject_others-requires-clause-room c =
    let items = c.args.pending.now.items in
    let child = c.index.result.now in
    let same = ap (λ l. length (outsiders l child.block.id)) c.deref.ensures.value in
    omega (arith, fewer_left items c.args.at child (omega (arith, c.args.pending.now.ok.0)) c.index.ensures, same, c.push_reserved.ensures.len, c.push_reserved.ensures.capacity, c.args.pending.now.ok.0)

-- both reads gave the same block
one : (c : After-drop_decided) → c.index.result.now ≡ c.remove-child.result
one c =
    c.index.ensures
    ∙ get_or_default c.args.pending.now.items c.args.at c.index.result.now c.remove-child.result (omega (arith, c.args.pending.now.ok.0))
    ∙ sym c.remove-child.ensures.value

-- all decisions
told : (c : After-drop_decided) → c.reject_others.new.decisions.items
    ≡ c.args.decisions.now.items ++ accepts c.index.result.now ∷ map rejects (outsiders c.args.pending.now.items c.index.result.now.block.id)
told c =
    let child = c.index.result.now in
    told_all c.args.pending.now.items child c.args.decisions.now.items c.push_reserved.new.self.items c.reject_others.new.decisions.items c.push_reserved.ensures.items
    (c.reject_others.ensures.told ∙ ap (λ l. c.push_reserved.new.self.items ++ map rejects (outsiders l child.block.id)) c.deref.ensures.value)

-- the pending blocks that are left
left : (c : After-drop_decided) → c.drop_decided.new.pending.items ≡ descendants c.args.pending.now.items c.remove-child.result.block.id
left c =
    let items = c.args.pending.now.items in
    let child = c.index.result.now in
    let h : c.args.at < length items = omega (arith, c.args.pending.now.ok.0) in
    let since = told_since c.args.decisions.now.items (accepts child ∷ map rejects (outsiders items child.block.id)) c.reject_others.new.decisions.items
    c.deref-2.result.now c.len-first.result (c.len-first.ensures ∙ c.args.decisions.now.ok.0) (told c) c.deref-2.ensures.value
    in
    c.drop_decided.ensures
    ∙ ap (λ l. filter (λ q. not (has_decision l q.block.id)) c.remove-child.new.self.items) since
    ∙ ap (filter (λ q. not (has_decision (accepts child ∷ map rejects (outsiders items child.block.id)) q.block.id))) c.remove-child.ensures.items
    ∙ left_after items c.args.at child child h c.index.ensures
    ∙ ap (λ q. descendants items q.block.id) (one c)

pub returns-clause-left : goal.returns-clause-left
returns-clause-left c = left c

pub returns-clause-fewer : goal.returns-clause-fewer
returns-clause-fewer c =
    let items = c.args.pending.now.items in
    let h : c.args.at < length items = omega (arith, c.args.pending.now.ok.0) in
    let few = told_fewer items c.args.at c.index.result.now c.args.decisions.now.items c.reject_others.new.decisions.items h c.index.ensures (told c) in
    omega (
      arith,
      few,
      ap length (left c),
      ap (λ q. length (descendants items q.block.id)) (one c),
      c.reject_others.new.decisions.ok.0,
      c.drop_decided.new.pending.ok.0,
      c.args.decisions.now.ok.0,
      c.args.pending.now.ok.0,
    )
