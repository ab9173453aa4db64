-- Lemmas on how many steps a poll takes.
use Rattle.std.proofs.Common.{◌≡◌, ℕ, zero, suc, ◌+◌, ◌<◌, ◌≤◌, Bool, true, false, nat_lt, nat_le, List, [], ◌∷◌, length, get_or, drop, sum_by, Some, slice_get, sym, ap, subst, ◌∙◌, arith, drop-cons, if◌then◌else◌}
use Rattle.std.proofs.lemmas.Grind.{common_steps}
use Rattle.std.proofs.lemmas.List.Sums.{sum_by-cons, sum_by-le-sum_by}
use Rattle.std.proofs.lemmas.List.{get_or-map, length-map}
use Rattle.std.proofs.lemmas.Option.{slice_get_within, get_or_from_slice_get}
use Rattle.snow_base.specs.declared.block.Header.{Header}
use Rattle.snow_base.specs.declared.block.Vote.{Vote}
use Rattle.snow_base.specs.Model.Ancestry.{is_below}
use Rattle.snow_flake.specs.Model.Parameters.{Parameters}
use Rattle.snow_board.specs.Model.Board.{Board, blocks_of, is_pending}
use Rattle.snow_board.proofs.Cases.{split_on}
use Rattle.snow_tree.specs.Kept.Held.{Entry, blocks_in, children_of}
use Rattle.snow_climb.specs.Kept.Starting.{votes_by}
use Rattle.snow_topo.specs.Laws.Costs.{pending_votes, most_steps}
use Rattle.snow_topo.specs.Kept.Children.{Kept}
use Rattle.snow_topo.specs.Kept.Recording.{recording_at, recording_in, recording}

-- where there are enough there is a quorum
pub is_quorum : (least n : ℕ) → least ≤ n → nat_le least n ≡ true
is_quorum least n h = grind (arith, common_steps)

-- fewer blocks count no more
fewer_sum : (f : Header → ℕ) (n : ℕ) (bs : List Header) → sum_by f (drop n bs) ≤ sum_by f bs
fewer_sum f zero bs = omega arith
fewer_sum f (suc n) [] = omega arith
fewer_sum f (suc n) (b ∷ bs) = omega (arith, fewer_sum f n bs, sum_by-cons f b bs)

more_sum : (f : Header → ℕ) (m n : ℕ) (bs : List Header) → m ≤ n → sum_by f (drop n bs) ≤ sum_by f (drop m bs)
more_sum f zero n bs h = fewer_sum f n bs
more_sum f (suc m) zero bs h = absurd (omega (arith, h))
more_sum f (suc m) (suc n) [] h = omega arith
more_sum f (suc m) (suc n) (b ∷ bs) h = more_sum f m n bs (omega (arith, h))

-- a visit of the block at a place is paid by its children
pub paid : (p : Parameters) (votes : List Vote) (first : List (Entry Kept)) (at m : ℕ) (e : Entry Kept) → slice_get first at ≡ Some e → m ≤ at
    → recording_at p (blocks_in first) votes e.block.id + recording_in p (blocks_in first) votes (drop (at + 1) (blocks_in first)) ≤ recording_in p (blocks_in first) votes (drop m (blocks_in first))
paid p votes first at m e there less =
    let bs = blocks_in first in
    let f : Header → ℕ = λ b. recording_at p bs votes b.id in
    let inside : at < length first = slice_get_within first at e there in
    let within : at < length bs = subst (λ n. at < n) (sym (length-map first (λ x. x.block))) inside in
    let block : get_or bs at e.block ≡ e.block = get_or-map (λ x. x.block) first at e e.block inside ∙ ap (λ x. x.block) (get_or_from_slice_get first at e e there) in
    let here : sum_by f (drop at bs) ≡ f e.block + sum_by f (drop (at + 1) bs) =
    let next : suc at ≡ at + 1 = omega arith in
    ap (sum_by f) (drop-cons bs at e.block within)
    ∙ sum_by-cons f (get_or bs at e.block) (drop (suc at) bs)
    ∙ (λ i. f (block i) + sum_by f (drop (next i) bs))
    in
    omega (arith, here, more_sum f m at bs less)

-- fewer votes are recorded at no more
fewer_at : (p : Parameters) (blocks : List Header) (votes others : List Vote) (parent : List ℕ) → ((test : List ℕ → Bool) → votes_by test votes ≤ votes_by test others)
    → recording_at p blocks votes parent ≤ recording_at p blocks others parent
fewer_at p blocks votes others parent fewer = by (votes_by (is_below blocks parent []) votes) (votes_by (is_below blocks parent []) others) (length (children_of blocks parent)) (fewer (is_below blocks parent []))
  where
    reached : (least m n : ℕ) → m ≤ n → nat_le least m ≡ true → nat_le least n ≡ true
    reached least m n h t = grind (arith, common_steps)

    by : (m n c : ℕ) → m ≤ n → (if nat_le p.alpha_preference m then c else 0) ≤ (if nat_le p.alpha_preference n then c else 0)
    by m n c h =
        split_on (nat_le p.alpha_preference m)
        (λ t. rw (t, reached p.alpha_preference m n h t) (omega arith))
        (λ t. rw t (omega arith))

-- and take no more steps
pub fewer_steps : (board : Board) (votes others : List Vote) → ((test : List ℕ → Bool) → votes_by test votes ≤ votes_by test others) → most_steps board votes ≤ most_steps board others
fewer_steps board votes others fewer =
    let p = board.parameters in
    let blocks = blocks_of board.pending in
    let less : pending_votes board votes ≤ pending_votes board others = fewer (is_pending board) in
    let rest = sum_by-le-sum_by (λ (b : Header). recording_at p blocks votes b.id) (λ b. recording_at p blocks others b.id) blocks (λ b. fewer_at p blocks votes others b.id fewer) in
    let all : recording p board.last blocks votes ≤ recording p board.last blocks others = omega (arith, rest, fewer_at p blocks votes others board.last fewer) in
    split_on (nat_lt (pending_votes board votes) p.alpha_preference)
    (λ t. split_on (nat_lt (pending_votes board others) p.alpha_preference) (λ s. rw (t, s) (omega arith)) (λ s. rw (t, s) (omega arith)))
    (λ t. rw (t, still (pending_votes board votes) (pending_votes board others) p.alpha_preference less t) (omega (arith, all)))
  where
    still : (m n least : ℕ) → m ≤ n → nat_lt m least ≡ false → nat_lt n least ≡ false
    still m n least h t = grind (arith, common_steps)
