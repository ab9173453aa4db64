-- Lemmas on the acceptance of a child of the last accepted block.
use Rattle.std.proofs.Common.{◌≡◌, ℕ, ◌+◌, ◌<◌, ◌≤◌, Bool, true, false, not, ◌&&◌, List, [], ◌∷◌, ◌++◌, length, get_or, map, reverse, filter, find, bytes_eq, All, Option, Some, None, slice_get, refl, sym, ap, subst, ◌∙◌, arith}
use Rattle.std.specs.List.{position_or_len}
use Rattle.std.specs.Option.{option_map}
use Rattle.std.proofs.lemmas.Bool.{or_left, or_right, and_parts}
use Rattle.std.proofs.lemmas.List.{get_or-map, get_or_default, length-map}
use Rattle.std.proofs.lemmas.List.Elements.{All-filter, filter_passes}
use Rattle.std.proofs.lemmas.List.Folds.{find_at}
use Rattle.std.proofs.lemmas.Option.{none-some, slice_get_within, get_or_from_slice_get}
use Rattle.snow_base.specs.Model.Ancestry.{descends}
use Rattle.snow_flake.specs.Model.Parameters.{Parameters}
use Rattle.snow_board.specs.Model.Conflict.{Pending}
use Rattle.snow_board.specs.Model.Acceptance.{Accepts}
use Rattle.snow_board.specs.Kept.Grown.{has_block, IsGrown}
use Rattle.snow_board.specs.Model.Poll.{winner, rejects, promoted, decisions_for}
use Rattle.snow_board.specs.declared.board.Decision.{Decision}
use Rattle.snow_board.proofs.Cases.{split_on, same_id}
use Rattle.snow_board.proofs.Lookup.{won}
use Rattle.snow_tree.specs.Kept.Held.{Entry, Held, blocks_in, children_of, entry_in, promoted as left_above}
use Rattle.snow_tree.proofs.Left.{own, one_block, children_stay}
use Rattle.snow_topo.specs.Kept.Children.{Kept, shown, IsFit}
use Rattle.snow_topo.specs.Clauses.Told.{rejection, told}
use Rattle.snow_topo.specs.Kept.View.{pending_of, all_pending, view, AreFit}
use Rattle.snow_topo.proofs.Climbs.{one_of}
use Rattle.snow_topo.proofs.Counted.{blocks_seen}

-- ---- the entry of a winner

-- a pending block is found as it is shown
seen_in : (p : Parameters) (polls : ℕ) (pending : List (Entry Kept)) (id : List ℕ)
    → find (λ q. bytes_eq q.block.id id) (all_pending p polls pending) ≡ option_map (pending_of p polls) (entry_in pending id)
seen_in p polls [] id = refl
seen_in p polls (e ∷ pending) id = split_on (bytes_eq e.block.id id) (λ t. rw t refl) (λ t. rw t (seen_in p polls pending id))

-- what was mapped to something
mapped_from : {X Y : Type 0} (f : X → Y) (o : Option X) (y : Y) → option_map f o ≡ Some y → (x : X) × (o ≡ Some x) × (f x ≡ y)
mapped_from f None y h = absurd (none-some y h)
mapped_from f (Some x) y h = (x, refl, cc)

-- the entry of the block that wins
pub record IsNext (p : Parameters) (polls : ℕ) (root : Kept) (held : Held Kept) (id : List ℕ) : Type 0 where
  pub entry : Entry Kept
  pub there : entry_in held.pending id ≡ Some entry
  pub named : entry.block.id ≡ id
  pub wins : winner (view p polls root held) ≡ Some (pending_of p polls entry)
  pub parent : entry.block.parent ≡ held.last

pub next_entry : (p : Parameters) (polls : ℕ) (root : Kept) (held : Held Kept) (id : List ℕ) → IsGrown held.last (reverse (blocks_in held.pending))
    → option_map (λ q. q.block.id) (winner (view p polls root held)) ≡ Some id → IsNext p polls root held id
next_entry p polls root held id g h =
    let first = mapped_from (λ q. q.block.id) (winner (view p polls root held)) id h in
    let q = first.0 in
    let w = won (view p polls root held) q (subst (λ bs. IsGrown held.last (reverse bs)) (sym (blocks_seen p polls held.pending)) g) first.1 in
    let found = mapped_from (pending_of p polls) (entry_in held.pending q.block.id) q (sym (seen_in p polls held.pending q.block.id) ∙ w.own) in
    let same : pending_of p polls found.0 ≡ q = found.2 in
    record {
      entry = found.0;
      there = ap (entry_in held.pending) (sym first.2) ∙ found.1;
      named = ap (λ (q : Pending). q.block.id) same ∙ first.2;
      wins = first.1 ∙ ap Some (sym same);
      parent = ap (λ (q : Pending). q.block.parent) same ∙ w.parent;
    }

-- ---- the board after an acceptance

-- a filter by identifier
filter_seen : (p : Parameters) (polls : ℕ) (f : List ℕ → Bool) (pending : List (Entry Kept))
    → filter (λ q. f q.block.id) (all_pending p polls pending) ≡ all_pending p polls (filter (λ e. f e.block.id) pending)
filter_seen p polls f [] = refl
filter_seen p polls f (e ∷ pending) =
    split_on (f e.block.id)
    (λ t. rw t (ap (λ l. pending_of p polls e ∷ l) (filter_seen p polls f pending)))
    (λ t. rw t (filter_seen p polls f pending))

pub promoted_view : (p : Parameters) (polls : ℕ) (root : Kept) (held : Held Kept) (e : Entry Kept)
    → view p polls e.load (left_above held e.block) ≡ promoted (view p polls root held) (pending_of p polls e)
unfolding promoted
promoted_view p polls root held e =
    let c = e.block.id in
    let pending : all_pending p polls (left_above held e.block).pending ≡ (promoted (view p polls root held) (pending_of p polls e)).pending =
    sym (filter_seen p polls (λ id. descends (blocks_in held.pending) c id && not (bytes_eq id c)) held.pending)
    ∙ ap (λ bs. filter (λ q. descends bs c q.block.id && not (bytes_eq q.block.id c)) (all_pending p polls held.pending)) (sym (blocks_seen p polls held.pending))
    in
    λ i. record {
      parameters = p;
      last = c;
      height = e.block.height;
      counters = shown p polls e.load;
      pending = pending i;
    }

-- the decisions
rejects_seen : (p : Parameters) (polls : ℕ) (pending : List (Entry Kept))
    → map rejection (map (λ e. e.block.id) pending) ≡ map rejects (all_pending p polls pending)
rejects_seen p polls [] = refl
rejects_seen p polls (e ∷ pending) = ap (λ l. rejects (pending_of p polls e) ∷ l) (rejects_seen p polls pending)

pub told_view : (p : Parameters) (polls : ℕ) (root : Kept) (held : Held Kept) (e : Entry Kept)
    → told e.block.id (left_above held e.block).rejected ≡ decisions_for (view p polls root held) (pending_of p polls e)
unfolding decisions_for
told_view p polls root held e =
    let c = e.block.id in
    ap (λ l. record { accepted = true; id = c } ∷ l)
    (rejects_seen p polls (filter (λ e. not (descends (blocks_in held.pending) c e.block.id)) held.pending)
    ∙ ap (map rejects) (sym (filter_seen p polls (λ id. not (descends (blocks_in held.pending) c id)) held.pending))
    ∙ ap (λ bs. map rejects (filter (λ q. not (descends bs c q.block.id)) (all_pending p polls held.pending))) (sym (blocks_seen p polls held.pending)))

-- so the child that wins is accepted
pub accepted_next : (p : Parameters) (polls : ℕ) (root new : Kept) (held next : Held Kept) (id : List ℕ) (before after : List Decision) → (n : IsNext p polls root held id)
    → new ≡ n.entry.load → next ≡ left_above held n.entry.block → after ≡ before ++ told id (left_above held n.entry.block).rejected
    → Accepts (winner (view p polls root held)) (view p polls root held) (view p polls new next) before after true
accepted_next p polls root new held next id before after n load tree news =
    let e = n.entry in
    subst (λ o. Accepts o (view p polls root held) (view p polls new next) before after true) (sym n.wins) (
      refl,
      (λ i. view p polls (load i) (tree i)) ∙ promoted_view p polls root held e,
      news ∙ ap (λ x. before ++ told x (left_above held e.block).rejected) (sym n.named) ∙ ap (λ l. before ++ l) (told_view p polls root held e),
    )

-- and none where none wins
pub accepted_none : (p : Parameters) (polls : ℕ) (root : Kept) (held : Held Kept) (before : List Decision) → option_map (λ q. q.block.id) (winner (view p polls root held)) ≡ None
    → Accepts (winner (view p polls root held)) (view p polls root held) (view p polls root held) before before false
accepted_none p polls root held before h = by (winner (view p polls root held)) h
  where
    by : (o : Option Pending) → option_map (λ q. q.block.id) o ≡ None → Accepts o (view p polls root held) (view p polls root held) before before false
    by None h = (refl, refl, refl)
    by (Some q) h = absurd (none-some q.block.id (sym h))

-- ---- how many leave

-- no block both stays and goes
few : (f : List ℕ → Bool) (c : List ℕ) (pending : List (Entry Kept))
    → length (filter (λ e. f e.block.id && not (bytes_eq e.block.id c)) pending) + length (filter (λ e. not (f e.block.id)) pending) ≤ length pending
few f c [] = omega arith
few f c (e ∷ pending) =
    let rest = few f c pending in
    split_on (f e.block.id)
    (λ t. split_on (bytes_eq e.block.id c)
    (λ s. rw (t, s) (omega (arith, rest)))
    (λ s. rw (t, s) (omega (arith, rest))))
    (λ t. rw t (omega (arith, rest)))

-- and the child does neither
fewer : (f : List ℕ → Bool) (c : List ℕ) (pending : List (Entry Kept)) (x : Entry Kept) → f c ≡ true → entry_in pending c ≡ Some x
    → length (filter (λ e. f e.block.id && not (bytes_eq e.block.id c)) pending) + length (filter (λ e. not (f e.block.id)) pending) < length pending
fewer f c [] x own h = absurd (none-some x h)
fewer f c (e ∷ pending) x own h =
    split_on (bytes_eq e.block.id c)
    (λ s. let t : f e.block.id ≡ true = ap f (same_id e.block.id c s) ∙ own in
    let rest = few f c pending in
    rw (t, s) (omega (arith, rest)))
    (λ s. let k = rw s at h in
    let rest = fewer f c pending x own k in
    split_on (f e.block.id) (λ t. rw (t, s) (omega (arith, rest))) (λ t. rw t (omega (arith, rest))))

-- what is found is there
entry_there : (pending : List (Entry Kept)) (id : List ℕ) (e : Entry Kept) → entry_in pending id ≡ Some e → has_block (blocks_in pending) id ≡ true
entry_there [] id e h = absurd (none-some e h)
entry_there (x ∷ pending) id e h =
    split_on (bytes_eq x.block.id id)
    (λ t. or_left (bytes_eq x.block.id id) (has_block (blocks_in pending) id) t)
    (λ t. let k = rw t at h in or_right (bytes_eq x.block.id id) (has_block (blocks_in pending) id) (entry_there pending id e k))

-- under its name
pub entry_named : (pending : List (Entry Kept)) (id : List ℕ) (e : Entry Kept) → entry_in pending id ≡ Some e → e.block.id ≡ id
entry_named [] id e h = absurd (none-some e h)
entry_named (x ∷ pending) id e h =
    split_on (bytes_eq x.block.id id)
    (λ t. let k = rw t at h in let same : x ≡ e = cc in ap (λ (y : Entry Kept). y.block.id) (sym same) ∙ same_id x.block.id id t)
    (λ t. let k = rw t at h in entry_named pending id e k)

-- a child that is pending has an entry
pub child_entry : (held : Held Kept) (id : List ℕ) → option_map (λ e. e.block.parent) (entry_in held.pending id) ≡ Some held.last
    → (e : Entry Kept) × (entry_in held.pending id ≡ Some e) × (e.block.parent ≡ held.last)
child_entry held id h = mapped_from (λ (e : Entry Kept). e.block.parent) (entry_in held.pending id) held.last h

pub fewer_left : (held : Held Kept) (id : List ℕ) (e : Entry Kept) → entry_in held.pending id ≡ Some e
    → length (left_above held e.block).rejected + length (left_above held e.block).pending < length held.pending
fewer_left held id e found =
    let c = e.block.id in
    let there : entry_in held.pending c ≡ Some e = ap (entry_in held.pending) (entry_named held.pending id e found) ∙ found in
    let bs = blocks_in held.pending in
    omega (
      arith,
      fewer (descends bs c) c held.pending e (own bs c (entry_there held.pending c e there)) there,
      length-map (filter (λ e. not (descends bs c e.block.id)) held.pending) (λ e. e.block.id),
    )

-- ---- what is kept fits what stays

blocks_filtered : (f : List ℕ → Bool) (pending : List (Entry Kept)) → blocks_in (filter (λ e. f e.block.id) pending) ≡ filter (λ b. f b.id) (blocks_in pending)
blocks_filtered f [] = refl
blocks_filtered f (e ∷ pending) =
    split_on (f e.block.id) (λ t. rw t (ap (λ l. e.block ∷ l) (blocks_filtered f pending))) (λ t. rw t (blocks_filtered f pending))

pub fit_promoted : (p : Parameters) (polls : ℕ) (root : Kept) (held : Held Kept) (e : Entry Kept) → IsGrown held.last (reverse (blocks_in held.pending))
    → entry_in held.pending e.block.id ≡ Some e → e.block.parent ≡ held.last → AreFit p polls root held → AreFit p polls e.load (left_above held e.block)
fit_promoted p polls root held e g there parent fit =
    let c = e.block.id in
    let pending = held.pending in
    let bs = blocks_in pending in
    let keep : List ℕ → Bool = λ id. descends bs c id && not (bytes_eq id c) in
    let left = filter (λ e. keep e.block.id) pending in
    let at = position_or_len (λ e. bytes_eq e.block.id c) pending in
    let seen : slice_get pending at ≡ Some e = sym (find_at (λ e. bytes_eq e.block.id c) pending) ∙ there in
    let inside : at < length pending = slice_get_within pending at e seen in
    let within : at < length bs = subst (λ n. at < n) (sym (length-map pending (λ x. x.block))) inside in
    let block : get_or bs at e.block ≡ e.block = get_or-map (λ x. x.block) pending at e e.block inside ∙ ap (λ x. x.block) (get_or_from_slice_get pending at e e seen) in
    let on : All (λ b. bytes_eq b.id c ≡ true → b.parent ≡ held.last) bs =
    λ i d h t.
    let here : get_or bs at d ≡ e.block = get_or_default bs at d e.block within ∙ block in
    ap (λ b. b.parent) (one_block held.last bs i at d g h within (same_id (get_or bs i d).id c t ∙ ap (λ b. b.id) (sym here)) ∙ here) ∙ parent
    in
    let stay : (q : List ℕ) → descends bs c q ≡ true → children_of (blocks_in left) q ≡ children_of bs q =
    λ q under. ap (λ l. children_of l q) (blocks_filtered keep pending) ∙ children_stay held.last c q bs g on under
    in
    let kept : All (λ x. IsFit p polls (children_of bs x.block.id) x.load) left = All-filter (λ x. keep x.block.id) (λ x. IsFit p polls (children_of bs x.block.id) x.load) pending fit.pending in
    let passes : All (λ x. keep x.block.id ≡ true) left = filter_passes (λ x. keep x.block.id) pending in
    record {
      root = subst (λ l. IsFit p polls l e.load) (sym (stay c (own bs c (entry_there pending c e there))))
          (one_of (λ x. IsFit p polls (children_of bs x.block.id) x.load) pending at e fit.pending seen);
      pending = λ i d h.
          let x = get_or left i d in
          subst (λ l. IsFit p polls l x.load) (sym (stay x.block.id (and_parts (descends bs c x.block.id) (not (bytes_eq x.block.id c)) (passes i d h)).0)) (kept i d h);
    }
