use Rattle.std.proofs.Common.{◌≡◌, ◌<◌, List, All, map, bytes_eq, sym, ap, ◌∙◌, subst}
use Rattle.std.specs.Vec.{with_items}
use Rattle.std.specs.HashMap.{get, hash_map_len}
use Rattle.std.proofs.lemmas.List.{with_items_is}
use Rattle.snow_base.specs.declared.block.Header.{Header}
use Rattle.snow_board.specs.declared.cursor.Cursor.{Cursor}
use Rattle.snow_board.specs.Model.Conflict.{Pending}
use Rattle.snow_board.specs.Model.Conflict.{Counters, all_polled}
use Rattle.snow_board.specs.Model.Board.{Board, blocks_of}
use Rattle.snow_board.specs.Model.Poll.{counted}
use Rattle.snow_board.specs.Kept.Cursors.{started, moved_past, votes_at, polled}
use Rattle.snow_plain.specs.Kept.Places.{IsIndexed}
use Rattle.snow_plain.proofs.Swept.{counts_started, blocks-polled}
use Rattle.snow_plain.proofs.Climbed.{counted_is}
use Rattle.snow_plain.proofs.state.State.count.Goals as goal
use Rattle.snow_plain.proofs.state.State.count.Goals.{After-poll_all}

pub poll_all-requires-clause-counts : goal.poll_all-requires-clause-counts
poll_all-requires-clause-counts c =
    subst (λ (l : List Cursor). All (λ c. 0 < c.count) l) (sym (c.deref_mut-2.ensures.value ∙ c.start_all.ensures.cursors))
    (counts_started c.args.votes.now c.requires.counts)

-- the votes at their own blocks
begun : (c : After-poll_all) → c.deref_mut-2.result.now ≡ map started c.args.votes.now
begun c = c.deref_mut-2.ensures.value ∙ c.start_all.ensures.cursors

-- the pending blocks after the step
left : (c : After-poll_all) → (with_items c.self.inside.pending c.poll_all.new.pending).items ≡ polled c.self.inside.params (map started c.args.votes.now) c.self.inside.pending.items
left c =
    with_items_is c.self.inside.pending c.poll_all.new.pending (c.poll_all.auto.pending ∙ c.deref_mut.ensures.len)
    ∙ c.poll_all.ensures.pending
    ∙ ap (λ l. polled c.self.inside.params l c.deref_mut.result.now) (begun c)
    ∙ ap (polled c.self.inside.params (map started c.args.votes.now)) c.deref_mut.ensures.value

pub invariant_of-self : goal.invariant_of-self
invariant_of-self c =
    let same = ap blocks_of (left (goal.at.invariant_of-self c).After-poll_all) ∙ blocks-polled c.self.inside.params (map started c.args.votes.now) c.self.inside.pending.items in
    subst (λ (l : List Header). IsIndexed c.self.inside.last (get bytes_eq c.self.inside.places) (hash_map_len c.self.inside.places) l) (sym same) c.self.invariant

pub returns-clause-board : goal.returns-clause-board
returns-clause-board c =
    let at = (goal.at.returns-clause-board c).After-poll_all in
    let inside = c.self.inside in
    let votes = c.args.votes.now in
    let old : Board = record { parameters = inside.params; last = inside.last; height = inside.height; counters = inside.counters; pending = inside.pending.items } in
    let with : Counters → List Pending → Board = λ counters pending. record old { counters = counters; pending = pending } in
    let counters =
    c.poll_all.ensures.counters
    ∙ ap (λ l. all_polled inside.params (votes_at (map (moved_past (blocks_of c.deref_mut.result.now)) l) inside.last) inside.counters) (begun at)
    ∙ ap (λ l. all_polled inside.params (votes_at (map (moved_past (blocks_of l)) (map started votes)) inside.last) inside.counters) c.deref_mut.ensures.value
    in
    ap (with c.poll_all.new.counters) (left at)
    ∙ ap (λ x. with x (polled inside.params (map started votes) inside.pending.items)) counters
    ∙ counted_is old votes c.self.invariant.grown
    ∙ ap (λ b. counted b votes) c.self.view_is
