use Rattle.std.proofs.Common.{List, length, reverse, slice_get, true, sym, ap, ◌∙◌, subst, arith}
use Rattle.std.proofs.lemmas.List.{length-map}
use Rattle.snow_board.specs.Model.Conflict.{Pending}
use Rattle.snow_board.specs.Model.Board.{Board, blocks_of}
use Rattle.snow_board.specs.Kept.Grown.{IsGrown}
use Rattle.snow_board.specs.Model.Acceptance.{Accepts}
use Rattle.snow_board.proofs.Kept.{descendants_grown}
use Rattle.snow_plain.proofs.Taken.{accepted}
use Rattle.snow_plain.proofs.state.State.accept.Goals as goal
use Rattle.snow_plain.proofs.state.State.accept.Goals.{After-take_accepted-child}

-- the blocks that are left stand above the child
grown : (c : After-take_accepted-child) → IsGrown c.take_accepted-child.result.block.id (reverse (blocks_of c.take_accepted-child.new.pending.items))
grown c =
    let child = c.take_accepted-child.result in
    subst (λ (l : List Pending). IsGrown child.block.id (reverse (blocks_of l))) (sym c.take_accepted-child.ensures.left)
    (descendants_grown c.self.inside.last child.block.id c.self.inside.pending.items c.self.invariant.grown)

pub place_all-requires-clause-grown : goal.place_all-requires-clause-grown
place_all-requires-clause-grown c =
    let at = (goal.at.place_all-requires-clause-grown c).After-take_accepted-child in
    (c.take_accepted-child.result.block.id, rw c.deref.ensures.value (grown at))

pub invariant_of-self : goal.invariant_of-self
invariant_of-self c =
    let at = (goal.at.invariant_of-self c).After-take_accepted-child in
    record {
      grown = grown at;
      places = rw c.deref.ensures.value at c.place_all.ensures.places;
      entries = c.place_all.ensures.entries ∙ ap length c.deref.ensures.value ∙ sym (length-map c.take_accepted-child.new.pending.items (λ q. q.block));
    }

pub returns-clause-accepts : goal.returns-clause-accepts
returns-clause-accepts c =
    let inside = c.self.inside in
    let child = c.take_accepted-child.result in
    let told = c.take_accepted-child.ensures in
    let old : Board = record { parameters = inside.params; last = inside.last; height = inside.height; counters = inside.counters; pending = inside.pending.items } in
    let new : Board = record old { last = child.block.id; height = child.block.height; counters = child.counters; pending = c.take_accepted-child.new.pending.items } in
    subst (λ (board : Board). Accepts (slice_get board.pending c.args.at) board new c.args.decisions.now.items c.take_accepted-child.new.decisions.items true) c.self.view_is
    (accepted old c.args.at child c.take_accepted-child.new.pending.items c.args.decisions.now.items c.take_accepted-child.new.decisions.items
    (omega (arith, ap (λ (board : Board). length board.pending) c.self.view_is)) told.child told.left told.told)
