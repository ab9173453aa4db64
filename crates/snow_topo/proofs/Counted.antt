-- Lemmas on the votes of a poll that came to the last accepted block, and on the board then.
use Rattle.std.proofs.Common.{◌≡◌, ℕ, ◌+◌, Bool, false, List, [], ◌∷◌, get_or, map, reverse, bytes_eq, refl, sym, ap, subst, ◌∙◌, arith, if◌then◌else◌}
use Rattle.snow_base.specs.declared.block.Header.{Header}
use Rattle.snow_base.specs.declared.block.Vote.{Vote}
use Rattle.snow_base.specs.Model.Ancestry.{votes_below}
use Rattle.snow_flake.specs.Model.Parameters.{Parameters}
use Rattle.snow_flake.specs.Model.Rule.{Answer}
use Rattle.snow_board.specs.declared.cursor.Cursor.{Cursor}
use Rattle.snow_board.specs.Model.Board.{blocks_of}
use Rattle.snow_board.specs.Model.Conflict.{all_polled}
use Rattle.snow_board.specs.Kept.Cursors.{child_at, votes_at, votes_for as of_child}
use Rattle.snow_board.specs.Kept.Grown.{has_block, IsGrown}
use Rattle.snow_board.specs.Model.Poll.{counted}
use Rattle.snow_board.proofs.Cases.{split_on}
use Rattle.snow_tree.specs.Kept.Held.{Entry, Held, blocks_in, children_of}
use Rattle.snow_tree.proofs.Descending.{last_off}
use Rattle.snow_topo.specs.Kept.Children.{Kept, shown, IsFit}
use Rattle.snow_topo.specs.Kept.Counting.{HasStepped, HasCounted}
use Rattle.snow_topo.specs.Kept.Leading.{leads_in, all_leads}
use Rattle.snow_topo.specs.Kept.View.{view, all_pending}
use Rattle.snow_climb.specs.Kept.Climbing.{reach, is_for}
use Rattle.snow_topo.specs.Kept.Half.{stepped_by, HasTaken}
use Rattle.snow_climb.specs.Kept.Rising.{AreClimbing}
use Rattle.snow_climb.proofs.Reached.{near, off_reach, off_below}
use Rattle.snow_climb.proofs.Passed.{sum_same}

-- the votes that came to the last accepted block are those below it
pub came_last : (p : Parameters) (votes : List Vote) (last : List ℕ) (bs : List Header) (cs : List Cursor) → IsGrown last (reverse bs) → AreClimbing p votes bs 0 cs
    → votes_at cs last ≡ votes_below bs votes last
came_last p votes last bs cs g climbing =
    let here : reach bs last ≡ 0 = off_reach bs last (last_off last bs g) in
    λ i front.
    (sum_same (λ c. of_child (child_at last c) c.count front) (λ c. if is_for bs last front c then c.count else 0) cs
    (λ k d l.
    let c = get_or cs k d in
    split_on (bytes_eq c.sought last)
    (λ t. rw t (split_on (bytes_eq c.passed last) (λ s. rw s refl) (λ s. rw s refl)))
    (λ t.
    let off : has_block bs c.sought ≡ false =
    split_on (has_block bs c.sought) (λ u. absurd (let k = near bs c.sought 0 (climbing.below k d l) u in cc)) (λ u. u)
    in
    let none = off_below bs last c.sought front off in
    rw (t, none) refl))
    ∙ climbing.counted last front (omega (arith, here))) i

-- the blocks of the board are those of the tree
pub blocks_seen : (p : Parameters) (polls : ℕ) (pending : List (Entry Kept)) → blocks_of (all_pending p polls pending) ≡ blocks_in pending
blocks_seen p polls [] = refl
blocks_seen p polls (e ∷ pending) = ap (λ l. e.block ∷ l) (blocks_seen p polls pending)

-- the board after the step
pub counted_view : (p : Parameters) (polls : ℕ) (root new : Kept) (held next : Held Kept) (votes : List Vote)
    → next ≡ record held { pending = next.pending }
    → shown p (polls + 1) new ≡ all_polled p (votes_below (blocks_in held.pending) votes held.last) (shown p polls root)
    → all_pending p (polls + 1) next.pending ≡ map (stepped_by p (blocks_in held.pending) votes) (all_pending p polls held.pending)
    → view p (polls + 1) new next ≡ counted (view p polls root held) votes
unfolding counted
counted_view p polls root new held next votes rest counters pending =
    let blocks = sym (blocks_seen p polls held.pending) in
    λ i. record {
      parameters = p;
      last = (rest i).last;
      height = (rest i).height;
      counters = (counters ∙ ap (λ l. all_polled p (votes_below l votes held.last) (shown p polls root)) blocks) i;
      pending = (pending ∙ ap (λ l. map (stepped_by p l votes) (all_pending p polls held.pending)) blocks) i;
    }

-- where the pending blocks and the last accepted one took the poll, all counters of the board did
pub counted_all : (answer : Answer) (p : Parameters) (polls : ℕ) (votes : List Vote) (old new : Kept) (first now : Held Kept) (moved : Bool) → IsFit p polls (children_of (blocks_in first.pending) first.last) old
    → HasStepped p polls votes first now → HasTaken p polls (votes_below (blocks_in first.pending) votes first.last) old new
    → (moved ≡ false → leads_in answer new ≡ leads_in answer old) → (moved ≡ false → all_leads answer now.pending ≡ all_leads answer first.pending)
    → HasCounted answer p polls votes old new first now moved
counted_all answer p polls votes old new first now moved fit stepped took root leads =
    let taken = took (children_of (blocks_in first.pending) first.last) fit in
    let last : first.last ≡ now.last = sym (ap (λ (t : Held Kept). t.last) stepped.rest) in
    let blocks = stepped.blocks in
    let children : children_of (blocks_in first.pending) first.last ≡ children_of (blocks_in now.pending) now.last = λ i. children_of (sym blocks i) (last i) in
    record {
      board = counted_view p polls old new first now votes stepped.rest taken.0 stepped.pending;
      fit = record { root = subst (λ l. IsFit p (polls + 1) l new) children taken.1; pending = stepped.fit };
      rest = stepped.rest;
      blocks = blocks;
      root = root;
      leads = leads;
    }
