-- Lemmas on a board that is kept by a tree: what an issue and a poll leave of it, and what a poll costs.
use Rattle.std.proofs.Common.{◌≡◌, ℕ, ◌+◌, ◌*◌, ◌<◌, ◌≤◌, Bool, true, false, not, nat_lt, nat_le, ◌&&◌, List, [], ◌∷◌, length, map, reverse, bytes_eq, Some, None, find, is_some, refl, sym, ap, subst, ◌∙◌, arith, length-append, if◌then◌else◌}
use Rattle.std.proofs.lemmas.Grind.{common_steps}
use Rattle.std.proofs.lemmas.List.{length-map}
use Rattle.std.proofs.lemmas.List.Elements.{All-filter, All-nil, All-push}
use Rattle.std.proofs.lemmas.List.Sums.{sum_by-cons}
use Rattle.snow_base.specs.declared.block.Header.{Header}
use Rattle.snow_base.specs.declared.block.Vote.{Vote}
use Rattle.snow_base.specs.Model.Ancestry.{descends, is_below, votes_below}
use Rattle.snow_flake.specs.Model.Parameters.{Parameters}
use Rattle.snow_board.specs.Model.Conflict.{Pending}
use Rattle.snow_flake.specs.Model.Rule.{Answer}
use Rattle.snow_board.specs.Model.Board.{Board, blocks_of, is_pending, height_of, with_counters, with_issued, new_pending, issued}
use Rattle.snow_board.specs.Kept.Grown.{has_block, is_on, IsGrown}
use Rattle.snow_board.specs.Model.Preference.{path_from}
use Rattle.snow_board.specs.Model.Poll.{counted, winner, promoted, poll}
use Rattle.snow_board.proofs.Cases.{split_on}
use Rattle.snow_board.proofs.Children.{some_height}
use Rattle.snow_board.proofs.Invariant.{settled_keeps, blocks_counted, blocks_issued}
use Rattle.snow_board.proofs.Kept.{blocks-filter}
use Rattle.snow_tree.specs.Kept.Held.{Held, blocks_in, begun}
use Rattle.snow_topo.specs.Kept.Children.{Kept, bare}
use Rattle.snow_climb.specs.Kept.Ladder.{Rungs, IsReady}
use Rattle.snow_topo.specs.Kept.Standing.{IsStanding}
use Rattle.snow_topo.specs.Kept.View.{pending_of, all_pending, view}
use Rattle.snow_topo.specs.Kept.Recording.{recording, recording_at, recording_in}
use Rattle.snow_topo.specs.Laws.Costs.{pending_votes, most_steps}
use Rattle.snow_base.specs.Clauses.Gathered.{IsNamed}
use Rattle.snow_topo.specs.Kept.Walking.{AreNamed}
use Rattle.snow_topo.proofs.Counted.{blocks_seen}
use Rattle.snow_climb.proofs.Reached.{off_below}

-- ---- the beginning

-- where nothing is pending
pub begun_standing : (answer : Answer) (p : Parameters) (last : List ℕ) (ladder : Rungs) (height decisions children : ℕ) → IsReady 0 ladder → p.k ≤ ladder.votes → p.k ≤ children
    → IsStanding answer p 0 bare (begun last height) last ladder decisions children
unfolding path_from
begun_standing answer p last ladder height decisions children ready counts gathers = record {
  fit = record { root = record { past = omega arith; parameters = tt; ids = refl }; pending = All-nil _ };
  named = All-nil _;
  preference = refl;
  room = record { decides = omega arith; counts = counts; gathers = gathers };
  ready = ready;
}

-- as many are pending on the board as in the tree
pub view_length : (p : Parameters) (polls : ℕ) (root : Kept) (held : Held Kept) → length (view p polls root held).pending ≡ length held.pending
view_length p polls root held = length-map held.pending (pending_of p polls)

-- ---- what may be issued

-- it isn't there
pub issue_unknown : (p : Parameters) (polls : ℕ) (root : Kept) (held : Held Kept) (id : List ℕ) → height_of (view p polls root held) id ≡ None → is_on held.last (blocks_in held.pending) id ≡ false
issue_unknown p polls root held id h =
    ap (λ l. is_on held.last l id) (sym (blocks_seen p polls held.pending)) ∙ sym (some_height (view p polls root held) id) ∙ ap is_some h

-- and its parent is
pub issue_follows : (p : Parameters) (polls : ℕ) (root : Kept) (held : Held Kept) (id : List ℕ) (height : ℕ) → height_of (view p polls root held) id ≡ Some height
    → is_on held.last (blocks_in held.pending) id ≡ true
issue_follows p polls root held id height h =
    ap (λ l. is_on held.last l id) (sym (blocks_seen p polls held.pending)) ∙ sym (some_height (view p polls root held) id) ∙ ap is_some h

-- the blocks of the board came after their parents
pub grown_seen : (p : Parameters) (polls : ℕ) (last : List ℕ) (held : Held Kept) → IsGrown last (reverse (blocks_in held.pending)) → IsGrown last (reverse (blocks_of (all_pending p polls held.pending)))
grown_seen p polls last held g = subst (λ l. IsGrown last (reverse l)) (sym (blocks_seen p polls held.pending)) g

-- after an issue one more is pending
pub issued_length : (board : Board) (child : Header) → length (issued board child).pending ≡ length board.pending + 1
issued_length board child =
    length-append (map (with_counters (with_issued child)) board.pending) (new_pending child ∷ []) ∙ ap (λ n. n + 1) (length-map board.pending (with_counters (with_issued child)))

-- ---- identifiers

-- an issue adds one
pub names_issued : (board : Board) (child : Header) → AreNamed (blocks_of board.pending) → IsNamed child.id → AreNamed (blocks_of (issued board child).pending)
names_issued board child named own = subst AreNamed (sym (blocks_issued board child)) (All-push (λ (b : Header). IsNamed b.id) (blocks_of board.pending) child named own)

-- an acceptance leaves some of them
names_promoted : (board : Board) (child : Pending) → AreNamed (blocks_of board.pending) → winner board ≡ Some child → AreNamed (blocks_of (promoted board child).pending)
unfolding promoted
names_promoted board child named won =
    let keep : Header → Bool = λ b. descends (blocks_of board.pending) child.block.id b.id && not (bytes_eq b.id child.block.id) in
    subst AreNamed (sym (blocks-filter keep board.pending)) (All-filter keep (λ (b : Header). IsNamed b.id) (blocks_of board.pending) named)

-- and so does a poll
pub names_polled : (board : Board) (votes : List Vote) → AreNamed (blocks_of board.pending) → AreNamed (blocks_of (poll board votes).0.pending)
unfolding poll
names_polled board votes named =
    settled_keeps (λ b. AreNamed (blocks_of b.pending)) names_promoted (length board.pending) (counted board votes) (subst AreNamed (sym (blocks_counted board votes)) named)

-- those of the board are those of the tree
pub names_seen : (p : Parameters) (polls : ℕ) (held : Held Kept) → AreNamed (blocks_in held.pending) → AreNamed (blocks_of (all_pending p polls held.pending))
names_seen p polls held named = subst AreNamed (sym (blocks_seen p polls held.pending)) named

-- the other way round, with what the board is known to be
pub names_kept : (p : Parameters) (polls : ℕ) (root : Kept) (held : Held Kept) (board : Board) → view p polls root held ≡ board → AreNamed (blocks_of board.pending) → AreNamed (blocks_in held.pending)
names_kept p polls root held board is named =
    subst AreNamed (ap (λ (b : Board). blocks_of b.pending) (sym is) ∙ blocks_seen p polls held.pending) named

-- ---- steps

-- a block is pending where it is among the blocks
pub pending_there : (pending : List Pending) (id : List ℕ) → is_some (find (λ q. bytes_eq q.block.id id) pending) ≡ has_block (blocks_of pending) id
pending_there [] id = refl
pending_there (q ∷ pending) id = split_on (bytes_eq q.block.id id) (λ t. rw t refl) (λ t. rw t (pending_there pending id))

-- votes below a block are for pending ones
few_below : (board : Board) (votes : List Vote) (parent : List ℕ) → votes_below (blocks_of board.pending) votes parent [] ≤ pending_votes board votes
few_below board [] parent = omega arith
few_below board (v ∷ votes) parent =
    let blocks = blocks_of board.pending in
    let f : Vote → ℕ = λ v. if is_below blocks parent [] v.id then v.count else 0 in
    let g : Vote → ℕ = λ v. if is_pending board v.id then v.count else 0 in
    let rest = few_below board votes parent in
    split_on (is_pending board v.id)
    (λ t. let most : f v ≤ v.count = within (is_below blocks parent [] v.id) v.count in
    let own : g v ≡ v.count = rw t refl in
    omega (arith, rest, most, own, sum_by-cons f v votes, sum_by-cons g v votes))
    (λ t. let off : has_block blocks v.id ≡ false = sym (pending_there board.pending v.id) ∙ t in
    let none : f v ≡ 0 = rw (off_below blocks parent v.id [] off) refl in
    let own : g v ≡ 0 = rw t refl in
    omega (arith, rest, none, own, sum_by-cons f v votes, sum_by-cons g v votes))
  where
    within : (b : Bool) (n : ℕ) → (if b then n else 0) ≤ n
    within true n = omega arith
    within false n = omega arith

-- few votes are recorded nowhere
few_at : (board : Board) (votes : List Vote) (parent : List ℕ) → pending_votes board votes < board.parameters.alpha_preference
    → recording_at board.parameters (blocks_of board.pending) votes parent ≡ 0
few_at board votes parent few =
    let low : nat_le board.parameters.alpha_preference (votes_below (blocks_of board.pending) votes parent []) ≡ false =
    too_few board.parameters.alpha_preference (votes_below (blocks_of board.pending) votes parent []) (omega (arith, few, few_below board votes parent))
    in
    rw low refl
  where
    too_few : (n m : ℕ) → m < n → nat_le n m ≡ false
    too_few n m h = grind (arith, common_steps)

few_in : (board : Board) (votes : List Vote) (parents : List Header) → pending_votes board votes < board.parameters.alpha_preference
    → recording_in board.parameters (blocks_of board.pending) votes parents ≡ 0
few_in board votes [] few = refl
few_in board votes (b ∷ parents) few =
    let f : Header → ℕ = λ b. recording_at board.parameters (blocks_of board.pending) votes b.id in
    omega (arith, few_in board votes parents few, few_at board votes b.id few, sum_by-cons f b parents)

-- what is recorded is within the bound
pub bounded : (board : Board) (votes : List Vote) → 5 * recording board.parameters board.last (blocks_of board.pending) votes ≤ most_steps board votes
bounded board votes =
    let all = recording board.parameters board.last (blocks_of board.pending) votes in
    split_on (nat_lt (pending_votes board votes) board.parameters.alpha_preference)
    (λ t.
    let few : pending_votes board votes < board.parameters.alpha_preference = less (pending_votes board votes) board.parameters.alpha_preference t in
    let none : all ≡ 0 = omega (arith, few_at board votes board.last few, few_in board votes (blocks_of board.pending) few) in
    rw t (omega (arith, none)))
    (λ t. rw t (omega arith))
  where
    less : (n m : ℕ) → nat_lt n m ≡ true → n < m
    less n m h = grind (arith, common_steps)
