use Rattle.std.proofs.Common.{◌≡◌, ◌+◌, cond, List, [], ◌∷◌, ◌++◌, Some, length, map, bytes_eq, reverse, sym, ap, ◌∙◌, subst, arith, length-append}
use Rattle.std.specs.HashMap.{get}
use Rattle.std.proofs.lemmas.Grind.{common_steps}
use Rattle.std.proofs.lemmas.List.{length-map}
use Rattle.snow_board.specs.Model.Conflict.{Pending}
use Rattle.snow_board.specs.Model.Board.{Board, blocks_of, new_pending}
use Rattle.snow_board.specs.Laws.Reached.{MayIssue}
use Rattle.snow_plain.specs.Kept.Places.{place_from}
use Rattle.snow_board.specs.Kept.Grown.{IsGrown}
use Rattle.snow_board.specs.Kept.Ending.{has_pending_child}
use Rattle.snow_board.proofs.Ended.{latest_alone}
use Rattle.snow_board.proofs.Invariant.{blocks_issued}
use Rattle.snow_board.proofs.Issued.{after_issue, grown_issued}
use Rattle.snow_plain.proofs.Placed.{found_within, new_block, no_place, placed_behind}
use Rattle.snow_plain.proofs.state.State.issue.Goals as goal
use Rattle.snow_plain.proofs.state.State.issue.Goals.{After-place}

-- the pending blocks after the issue
left : (c : After-place) → c.push_reserved.new.self.items ≡ map (after_issue c.args.child) c.self.inside.pending.items ++ new_pending c.args.child ∷ []
left c = grind (arith, common_steps)

pub issue_below-requires-clause-within : goal.issue_below-requires-clause-within
issue_below-requires-clause-within c =
    let parent = c.args.child.parent in
    let items = c.self.inside.pending.items in
    let same = c.deref_mut.ensures.value ∙ c.reserve.ensures.items in
    rw same (found_within c.place_of-above.result parent items (c.place_of-above.ensures ∙ c.reserve_one.ensures.places parent ∙ c.self.invariant.places parent))

pub place-requires-clause-new : goal.place-requires-clause-new
place-requires-clause-new c =
    let may = subst (λ (board : Board). MayIssue board c.args.child) (sym c.self.view_is) c.requires in
    let id = c.args.child.id in
    c.reserve_one.ensures.places id ∙ c.self.invariant.places id ∙ no_place 0 (blocks_of c.self.inside.pending.items) id (new_block _ c.args.child may)

pub invariant_of-self-2 : goal.invariant_of-self-2
invariant_of-self-2 c =
    let may = subst (λ (board : Board). MayIssue board c.args.child) (sym c.self.view_is) c.requires in
    let child = c.args.child in
    let items = c.self.inside.pending.items in
    let old : Board = record {
      parameters = c.self.inside.params;
      last = c.self.inside.last;
      height = c.self.inside.height;
      counters = c.self.inside.counters;
      pending = items;
    } in
    let blocks : blocks_of c.push_reserved.new.self.items ≡ blocks_of items ++ child ∷ [] = ap blocks_of (left c) ∙ blocks_issued old child in
    let at : c.len-at.result ≡ 0 + length (blocks_of items) =
    omega (arith, c.len-at.ensures, c.reserve.ensures.len, c.self.inside.pending.ok.0, length-map items (λ (q : Pending). q.block)) in
    record {
      grown = subst (λ (pending : List Pending). IsGrown c.self.inside.last (reverse (blocks_of pending))) (sym (left c)) (grown_issued _ child may c.self.invariant.grown);
      places = λ id.
          c.place.ensures.places id
          ∙ ap (λ m. cond (bytes_eq child.id id) (Some m) (get bytes_eq c.reserve_one.new.places id)) at
          ∙ ap (λ o. cond (bytes_eq child.id id) (Some (0 + length (blocks_of items))) o) (c.reserve_one.ensures.places id ∙ c.self.invariant.places id)
          ∙ placed_behind 0 (blocks_of items) child id (new_block old child may)
          ∙ ap (λ l. place_from 0 l id) (sym blocks);
      entries =
          omega (
            arith,
            c.place.ensures.entries,
            c.reserve_one.ensures.entries,
            c.self.invariant.entries,
            ap length blocks,
            length-append (blocks_of items) (child ∷ []),
          );
    }

pub returns-clause-alone : goal.returns-clause-alone
returns-clause-alone c =
    let may = subst (λ (board : Board). MayIssue board c.args.child) (sym c.self.view_is) c.requires in
    ap (λ l. has_pending_child l c.args.child.id) (left c) ∙ latest_alone _ c.args.child may c.self.invariant.grown
