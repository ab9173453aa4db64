-- Lemmas on the end of the walk, and on what is kept of the blocks of a board.
use Rattle.std.proofs.Common.{◌≡◌, ◌⊎◌, inl, inr, ℕ, zero, suc, ◌<◌, Bool, true, false, not, ◌&&◌, List, [], ◌∷◌, ◌==◌, length, get_or, reverse, bytes_eq, All, Option, Some, None, IfSome, slice_get, find, is_some, refl, sym, ap, subst, ◌∙◌, arith, if◌then◌else◌}
use Rattle.std.specs.List.{list_any, position}
use Rattle.std.specs.Borrow.{Bor}
use Rattle.std.specs.Option.{option_map, option_map_or, option_copied}
use Rattle.std.proofs.lemmas.Bool.{or_parts, or_left, or_right, or_from}
use Rattle.std.proofs.lemmas.List.Elements.{All-head, All-tail, All-map}
use Rattle.std.proofs.lemmas.Option.{none-some, same_Some, slice_get_within, slice_get-get_or, get_or_from_slice_get}
use Rattle.snow_base.specs.declared.block.Header.{Header}
use Rattle.snow_flake.specs.Model.Parameters.{Parameters}
use Rattle.snow_flake.specs.Model.Rule.{Answer}
use Rattle.snow_board.specs.Model.Conflict.{Pending}
use Rattle.snow_board.specs.Model.Conflict.{Counters, Blank, leads_to}
use Rattle.snow_board.specs.Laws.FailingLaw.{failed}
use Rattle.snow_board.specs.Model.Board.{blocks_of, block_of, is_pending, height_of, counters_on}
use Rattle.snow_board.specs.Kept.Ending.{end_counters, has_pending_child, IsTop}
use Rattle.snow_board.specs.Kept.Grown.{has_block, is_on, IsGrown}
use Rattle.snow_board.specs.Model.Preference.{path_from, end_of, preferred, is_preferred}
use Rattle.snow_board.proofs.Cases.{split_on, clash, same_id, id_same, id_itself}
use Rattle.snow_tree.specs.Kept.Held.{Entry, Held, blocks_in, children_of, entry_in, place_in}
use Rattle.snow_tree.proofs.Descending.{last_off}
use Rattle.snow_tree.proofs.Placed.{position_cons}
use Rattle.snow_trie.specs.Kept.Whole.{Compressed, HasFewNodes}
use Rattle.snow_topo.specs.Kept.Children.{Kept, conflict_of, counters_in, ids_in, shown, IsFit}
use Rattle.snow_topo.specs.Kept.Standing.{AreKept}
use Rattle.snow_topo.specs.Kept.View.{pending_of, all_pending, view, AreFit}
use Rattle.snow_topo.specs.Kept.Walking.{kept_of}
use Rattle.snow_topo.proofs.Climbs.{one_of}
use Rattle.snow_topo.proofs.Counted.{blocks_seen}
use Rattle.snow_topo.proofs.Standings.{pending_there}
use Rattle.snow_topo.proofs.Gained.{equal_number, unequal_number, elsewhere}
use Rattle.snow_topo.proofs.Stamped.{shown_none}
use Rattle.snow_topo.proofs.Walked.{path_blank}

-- ---- look-ups

-- the element at a place that was looked up
abbrev at_place : {X : Type 0} → List X → Option ℕ → Option X
at_place xs None = None
at_place xs (Some i) = slice_get xs i

module _ {X : Type 0} where
  -- a place with one element more in front
  shifted : (x : X) (xs : List X) (o : Option ℕ) → at_place (x ∷ xs) (option_map suc o) ≡ at_place xs o
  shifted x xs None = refl
  shifted x xs (Some i) = refl

  one_more : (b : Bool) (x : X) (xs : List X) (o : Option X) (place : Option ℕ) → o ≡ at_place xs place
      → (if b then Some x else o) ≡ at_place (x ∷ xs) (if b then Some 0 else option_map suc place)
  one_more true x xs o place h = refl
  one_more false x xs o place h = h ∙ sym (shifted x xs place)

  -- the first that passes stands at the first place
  find_at_place : (p : X → Bool) (xs : List X) → find p xs ≡ at_place xs (position p xs)
  find_at_place p [] = refl
  find_at_place p (x ∷ xs) =
      one_more (p x) x xs (find p xs) (position p xs) (find_at_place p xs) ∙ sym (ap (at_place (x ∷ xs)) (position_cons p x xs))

-- the entry of a block that has a place
pub entry_found : (pending : List (Entry Kept)) (id : List ℕ) (at : ℕ) → place_in pending id ≡ Some at → entry_in pending id ≡ slice_get pending at
entry_found pending id at h = find_at_place (λ e. bytes_eq e.block.id id) pending ∙ ap (at_place pending) h

-- there is none where the block has no place
pub entry_none : (pending : List (Entry Kept)) (id : List ℕ) → place_in pending id ≡ None → entry_in pending id ≡ None
entry_none pending id h = find_at_place (λ e. bytes_eq e.block.id id) pending ∙ ap (at_place pending) h

-- where an entry stands that was found
entry_stands : (pending : List (Entry Kept)) (id : List ℕ) (e : Entry Kept) → entry_in pending id ≡ Some e → (j : ℕ) × (slice_get pending j ≡ Some e) × (e.block.id ≡ id)
entry_stands [] id e h = absurd (none-some e h)
entry_stands (x ∷ pending) id e h =
    split_on (bytes_eq x.block.id id)
    (λ t. let k : Some x ≡ Some e = rw t at h in (0, k, ap (λ (y : Entry Kept). y.block.id) (sym (same_Some x e k)) ∙ same_id x.block.id id t))
    (λ t. let k = rw t at h in let rest = entry_stands pending id e k in (suc rest.0, rest.1, rest.2))

-- a block that isn't found isn't there
entry_off : (pending : List (Entry Kept)) (id : List ℕ) → entry_in pending id ≡ None → has_block (blocks_in pending) id ≡ false
entry_off [] id h = refl
entry_off (x ∷ pending) id h =
    split_on (bytes_eq x.block.id id)
    (λ t. absurd (none-some x (let k = rw t at h in sym k)))
    (λ t. let k = rw t at h in rw t (entry_off pending id k))

-- the pending block of an identifier
pub block_shown : (p : Parameters) (polls : ℕ) (pending : List (Entry Kept)) (id : List ℕ)
    → find (λ q. bytes_eq q.block.id id) (all_pending p polls pending) ≡ option_map (pending_of p polls) (entry_in pending id)
block_shown p polls [] id = refl
block_shown p polls (e ∷ pending) id =
    split_on (bytes_eq e.block.id id)
    (λ t. rw t refl)
    (λ t. rw t (block_shown p polls pending id))

-- what the board says of a block is what the tree says
pub header_seen : {X : Type 0} (f : Header → X) (p : Parameters) (polls : ℕ) (root : Kept) (held : Held Kept) (id : List ℕ)
    → option_map f (option_map (λ e. e.block) (entry_in held.pending id)) ≡ option_map (λ q. f q.block) (block_of (view p polls root held) id)
header_seen f p polls root held id = of (entry_in held.pending id) ∙ ap (option_map (λ q. f q.block)) (sym (block_shown p polls held.pending id))
  where
    of : (o : Option (Entry Kept)) → option_map f (option_map (λ e. e.block) o) ≡ option_map (λ q. f q.block) (option_map (pending_of p polls) o)
    of None = refl
    of (Some e) = refl

-- and whether there is one
pub pending_seen : (p : Parameters) (polls : ℕ) (root : Kept) (held : Held Kept) (id : List ℕ) → is_some (option_map (λ e. e.block) (entry_in held.pending id)) ≡ is_pending (view p polls root held) id
pending_seen p polls root held id = of (entry_in held.pending id) ∙ ap is_some (sym (block_shown p polls held.pending id))
  where
    of : (o : Option (Entry Kept)) → is_some (option_map (λ e. e.block) o) ≡ is_some (option_map (pending_of p polls) o)
    of None = refl
    of (Some e) = refl

-- the height of a block that isn't the last accepted one
pub height_seen : (p : Parameters) (polls : ℕ) (root : Kept) (held : Held Kept) (id : List ℕ) → bytes_eq held.last id ≡ false
    → option_map (λ b. b.height) (option_map (λ e. e.block) (entry_in held.pending id)) ≡ height_of (view p polls root held) id
height_seen p polls root held id away = rw away (header_seen (λ b. b.height) p polls root held id)

-- ---- what is kept of a block

-- it is the last accepted one, or a pending one
abbrev Stands : Kept → Held Kept → List ℕ → Kept → Type 0
Stands root held id kept =
    ((held.last ≡ id) × (root ≡ kept))
    ⊎ ((bytes_eq held.last id ≡ false) × ((j : ℕ) × (e : Entry Kept) × (slice_get held.pending j ≡ Some e) × (e.block.id ≡ id) × (e.load ≡ kept)))

stands : (root : Kept) (held : Held Kept) (id : List ℕ) (kept : Kept) → kept_of root held id ≡ Some kept → Stands root held id kept
stands root held id kept h =
    split_on (bytes_eq held.last id)
    (λ t. inl (same_id held.last id t, same_Some root kept (rw t at h)))
    (λ t. let k : option_map (λ e. e.load) (entry_in held.pending id) ≡ Some kept = rw t at h in inr (t, of (entry_in held.pending id) refl k))
  where
    of : (o : Option (Entry Kept)) → entry_in held.pending id ≡ o → option_map (λ e. e.load) o ≡ Some kept
        → (j : ℕ) × (e : Entry Kept) × (slice_get held.pending j ≡ Some e) × (e.block.id ≡ id) × (e.load ≡ kept)
    of None e h = absurd (none-some kept h)
    of (Some x) e h = let found = entry_stands held.pending id x e in (found.0, x, found.1, found.2, same_Some x.load kept h)

-- what is kept of a pending block
pub kept_away : (root : Kept) (held : Held Kept) (id : List ℕ) → bytes_eq held.last id ≡ false → kept_of root held id ≡ option_map (λ e. e.load) (entry_in held.pending id)
kept_away root held id h = rw h refl

-- it fits the block's children
pub kept_fits : (p : Parameters) (polls : ℕ) (root : Kept) (held : Held Kept) (id : List ℕ) (kept : Kept) → AreFit p polls root held → kept_of root held id ≡ Some kept
    → IsFit p polls (children_of (blocks_in held.pending) id) kept
kept_fits p polls root held id kept fit h = by (stands root held id kept h)
  where
    by : Stands root held id kept → IsFit p polls (children_of (blocks_in held.pending) id) kept
    by (inl s) =
        subst (λ l. IsFit p polls (children_of (blocks_in held.pending) l) kept) s.0
        (subst (IsFit p polls (children_of (blocks_in held.pending) held.last)) s.1 fit.root)
    by (inr s) =
        let e = s.1.1 in
        let own = one_of (λ x. IsFit p polls (children_of (blocks_in held.pending) x.block.id) x.load) held.pending s.1.0 e fit.pending s.1.2 in
        subst (λ l. IsFit p polls (children_of (blocks_in held.pending) l) kept) s.1.3
        (subst (IsFit p polls (children_of (blocks_in held.pending) e.block.id)) s.1.4 own)

-- and shows the block's counters
pub kept_shows : (p : Parameters) (polls : ℕ) (root : Kept) (held : Held Kept) (id : List ℕ) (kept : Kept) → kept_of root held id ≡ Some kept
    → counters_on (view p polls root held) id ≡ shown p polls kept
kept_shows p polls root held id kept h =
    split_on (bytes_eq held.last id)
    (λ t. rw t (ap (shown p polls) (same_Some root kept (rw t at h))))
    (λ t. let k : option_map (λ e. e.load) (entry_in held.pending id) ≡ Some kept = rw t at h in
    rw (t, block_shown p polls held.pending id) (of (entry_in held.pending id) k))
  where
    of : (o : Option (Entry Kept)) → option_map (λ e. e.load) o ≡ Some kept → option_map_or (λ q. q.counters) (option_map (pending_of p polls) o) Blank ≡ shown p polls kept
    of None h = absurd (none-some kept h)
    of (Some x) h = ap (shown p polls) (same_Some x.load kept h)

-- where nothing is kept the block isn't on the board
pub kept_off : (root : Kept) (held : Held Kept) (id : List ℕ) → kept_of root held id ≡ None → is_on held.last (blocks_in held.pending) id ≡ false
kept_off root held id h =
    split_on (bytes_eq held.last id)
    (λ t. absurd (none-some root (let k = rw t at h in sym k)))
    (λ t. let k : option_map (λ e. e.load) (entry_in held.pending id) ≡ None = rw t at h in
    or_from (bytes_eq held.last id) (has_block (blocks_in held.pending) id) t (entry_off held.pending id (none_of (entry_in held.pending id) k)))
  where
    none_of : (o : Option (Entry Kept)) → option_map (λ e. e.load) o ≡ None → o ≡ None
    none_of None h = refl
    none_of (Some x) h = absurd (none-some x.load (sym h))

-- ---- a block without a tree

-- its counters are blank, and no other pending block has its identifier
blank_there : (last : List ℕ) (p : Parameters) (polls : ℕ) (pending : List (Entry Kept)) (at : ℕ) (e : Entry Kept) → IsGrown last (reverse (blocks_in pending))
    → slice_get pending at ≡ Some e → e.load.conflict ≡ None → All (λ q. q.block.id ≡ e.block.id → q.counters ≡ Blank) (all_pending p polls pending)
blank_there last p polls pending at e g there none =
    All-map (λ q. q.block.id ≡ e.block.id → q.counters ≡ Blank) (pending_of p polls) pending
    (λ k d l same.
    let x = get_or pending k d in
    let seen : slice_get pending k ≡ Some x = slice_get-get_or pending k d l in
    split_on (k == at)
    (λ t.
    let is : x ≡ e = sym (get_or_from_slice_get pending k x d seen) ∙ get_or_from_slice_get pending k e d (ap (slice_get pending) (equal_number k at t) ∙ there) in
    shown_none p polls x.load (ap (λ (y : Entry Kept). y.load.conflict) is ∙ none))
    (λ t. clash (bytes_eq x.block.id e.block.id) (id_same x.block.id e.block.id same) (elsewhere last pending at k e x g there seen (unequal_number k at t))))

-- each pending block is there
own_block : (pending : List (Entry Kept)) (k : ℕ) (d : Entry Kept) → k < length pending → has_block (blocks_in pending) (get_or pending k d).block.id ≡ true
own_block [] k d l = absurd (omega (arith, l))
own_block (x ∷ pending) zero d l = or_left (bytes_eq x.block.id x.block.id) (has_block (blocks_in pending) x.block.id) (id_itself x.block.id)
own_block (x ∷ pending) (suc k) d l =
    let id = (get_or pending k d).block.id in
    or_right (bytes_eq x.block.id id) (has_block (blocks_in pending) id) (own_block pending k d (omega (arith, l)))

-- the same of any block of the board
blank_at : (p : Parameters) (polls : ℕ) (root : Kept) (held : Held Kept) (id : List ℕ) (kept : Kept) → IsGrown held.last (reverse (blocks_in held.pending))
    → kept_of root held id ≡ Some kept → kept.conflict ≡ None
    → (held.last ≡ id → shown p polls root ≡ Blank) × All (λ q. q.block.id ≡ id → q.counters ≡ Blank) (all_pending p polls held.pending)
blank_at p polls root held id kept g h none = by (stands root held id kept h)
  where
    by : Stands root held id kept → (held.last ≡ id → shown p polls root ≡ Blank) × All (λ q. q.block.id ≡ id → q.counters ≡ Blank) (all_pending p polls held.pending)
    by (inl s) = (
      λ _. shown_none p polls root (ap (λ (k : Kept). k.conflict) s.1 ∙ none),
      All-map (λ q. q.block.id ≡ id → q.counters ≡ Blank) (pending_of p polls) held.pending
          (λ k d l same.
          let x = get_or held.pending k d in
          let there : has_block (blocks_in held.pending) x.block.id ≡ true = own_block held.pending k d l in
          clash (has_block (blocks_in held.pending) x.block.id) there (ap (has_block (blocks_in held.pending)) (same ∙ sym s.0) ∙ last_off held.last (blocks_in held.pending) g)),
    )
    by (inr s) =
        let e = s.1.1 in (
          λ same. clash (bytes_eq held.last id) (id_same held.last id same) s.0,
          subst (λ l. All (λ q. q.block.id ≡ l → q.counters ≡ Blank) (all_pending p polls held.pending)) s.1.3
              (blank_there held.last p polls held.pending s.1.0 e g s.1.2 (ap (λ (k : Kept). k.conflict) s.1.4 ∙ none)),
        )

-- one step of the walk
abbrev goes : Answer → List ℕ → Counters → Pending → Bool
goes answer at counters q = bytes_eq q.block.parent at && leads_to answer counters q.block.id

-- a walk that ends at such a block ends without counters
end_blank : (answer : Answer) (at : List ℕ) (c : Counters) (qs : List Pending) (id : List ℕ) → (at ≡ id → c ≡ Blank) → All (λ q. q.block.id ≡ id → q.counters ≡ Blank) qs
    → end_of at (path_from answer at c qs) ≡ id → end_counters answer at c qs ≡ Blank
unfolding path_from end_counters
end_blank answer at c [] id own all ends = own ends
end_blank answer at c (q ∷ later) id own all ends =
    let rest = All-tail (λ q. q.block.id ≡ id → q.counters ≡ Blank) q later all in
    split_on (goes answer at c q)
    (λ t. let e = rw t at ends in rw t (end_blank answer q.block.id q.counters later id (All-head (λ q. q.block.id ≡ id → q.counters ≡ Blank) q later all) rest e))
    (λ t. let e = rw t at ends in rw t (end_blank answer at c later id own rest e))

-- and comes to it only at its end
on_path : (answer : Answer) (at : List ℕ) (c : Counters) (qs : List Pending) (id : List ℕ) → bytes_eq at id ≡ false → All (λ q. q.block.id ≡ id → q.counters ≡ Blank) qs
    → list_any (λ other. bytes_eq other id) (path_from answer at c qs) ≡ bytes_eq (end_of at (path_from answer at c qs)) id
unfolding path_from
on_path answer at c [] id away all = sym away
on_path answer at c (q ∷ later) id away all =
    let rest = All-tail (λ q. q.block.id ≡ id → q.counters ≡ Blank) q later all in
    split_on (goes answer at c q)
    (λ t. rw t
    (split_on (bytes_eq q.block.id id)
    (λ s.
    let blank : q.counters ≡ Blank = All-head (λ q. q.block.id ≡ id → q.counters ≡ Blank) q later all (same_id q.block.id id s) in
    let ends : path_from answer q.block.id q.counters later ≡ [] = ap (λ k. path_from answer q.block.id k later) blank ∙ path_blank answer q.block.id later in
    rw (ends, s) refl)
    (λ s. rw s (on_path answer q.block.id q.counters later id s rest))))
    (λ t. rw t (on_path answer at c later id away rest))

-- a walk comes to no block that isn't there
off_path : (answer : Answer) (at : List ℕ) (c : Counters) (pending : List Pending) (id : List ℕ) → has_block (blocks_of pending) id ≡ false
    → list_any (λ other. bytes_eq other id) (path_from answer at c pending) ≡ false
unfolding path_from
off_path answer at c [] id off = refl
off_path answer at c (q ∷ later) id off =
    let parts = or_parts (bytes_eq q.block.id id) (has_block (blocks_of later) id) off in
    split_on (goes answer at c q)
    (λ t. rw t (rw parts.0 (off_path answer q.block.id q.counters later id parts.1)))
    (λ t. rw t (off_path answer at c later id parts.1))

-- whether a block is preferred that isn't on the board
pub none_preferred : (answer : Answer) (p : Parameters) (polls : ℕ) (root : Kept) (held : Held Kept) (id : List ℕ) → is_on held.last (blocks_in held.pending) id ≡ false
    → is_preferred answer (view p polls root held) id ≡ false
none_preferred answer p polls root held id off =
    let parts = or_parts (bytes_eq held.last id) (has_block (blocks_in held.pending) id) off in
    or_from (bytes_eq held.last id) _ parts.0
    (off_path answer held.last (shown p polls root) (all_pending p polls held.pending) id (ap (λ l. has_block l id) (blocks_seen p polls held.pending) ∙ parts.1))

-- a walk that ends at another block than it began with comes to that
end_passed : (at : List ℕ) (path : List (List ℕ)) (id : List ℕ) → bytes_eq at id ≡ false → bytes_eq (end_of at path) id ≡ true → list_any (λ other. bytes_eq other id) path ≡ true
end_passed at [] id away h = absurd (clash (bytes_eq at id) h away)
end_passed at (next ∷ path) id away h =
    split_on (bytes_eq next id)
    (λ t. rw t refl)
    (λ t. rw t (end_passed next path id t h))

-- the preference is pending where it isn't the last accepted block
pub preferred_pending : (answer : Answer) (p : Parameters) (polls : ℕ) (root : Kept) (held : Held Kept) (id : List ℕ) → IsGrown held.last (reverse (blocks_in held.pending))
    → bytes_eq (preferred answer (view p polls root held)) id ≡ true → is_pending (view p polls root held) id ≡ not (bytes_eq held.last id)
preferred_pending answer p polls root held id g h =
    pending_there (all_pending p polls held.pending) id
    ∙ split_on (bytes_eq held.last id)
    (λ t. rw t (ap (has_block (blocks_of (all_pending p polls held.pending))) (sym (same_id held.last id t)) ∙ ap (λ l. has_block l held.last) (blocks_seen p polls held.pending) ∙ last_off held.last (blocks_in held.pending) g))
    (λ t. rw t
    (split_on (has_block (blocks_of (all_pending p polls held.pending)) id)
    (λ s. s)
    (λ s. absurd (clash _ (end_passed held.last (path_from answer held.last (shown p polls root) (all_pending p polls held.pending)) id t h)
    (off_path answer held.last (shown p polls root) (all_pending p polls held.pending) id s)))))

-- one without a tree is where it is the preference
pub bare_preferred : (answer : Answer) (p : Parameters) (polls : ℕ) (root : Kept) (held : Held Kept) (id : List ℕ) (kept : Kept) → IsGrown held.last (reverse (blocks_in held.pending))
    → bytes_eq held.last id ≡ false → kept_of root held id ≡ Some kept → kept.conflict ≡ None
    → is_preferred answer (view p polls root held) id ≡ bytes_eq (preferred answer (view p polls root held)) id
bare_preferred answer p polls root held id kept g away h none =
    rw away (on_path answer held.last (shown p polls root) (all_pending p polls held.pending) id away (blank_at p polls root held id kept g h none).1)

-- no pending child where there are no children
childless_shown : (p : Parameters) (polls : ℕ) (pending : List (Entry Kept)) (id : List ℕ) → children_of (blocks_in pending) id ≡ [] → has_pending_child (all_pending p polls pending) id ≡ false
childless_shown p polls [] id h = refl
childless_shown p polls (x ∷ pending) id h =
    split_on (bytes_eq x.block.parent id)
    (λ t. absurd (let k = rw t at h in cc))
    (λ t. let k = rw t at h in rw t (childless_shown p polls pending id k))

-- and some where there are some
parent_shown : (p : Parameters) (polls : ℕ) (pending : List (Entry Kept)) (id : List ℕ) → 0 < length (children_of (blocks_in pending) id) → has_pending_child (all_pending p polls pending) id ≡ true
parent_shown p polls [] id h = absurd (omega (arith, h))
parent_shown p polls (x ∷ pending) id h =
    split_on (bytes_eq x.block.parent id)
    (λ t. rw t refl)
    (λ t. let k = rw t at h in rw t (parent_shown p polls pending id k))

-- a preference without a tree is the top
pub bare_top : (answer : Answer) (p : Parameters) (polls : ℕ) (root : Kept) (held : Held Kept) (id : List ℕ) (kept : Kept) → IsGrown held.last (reverse (blocks_in held.pending))
    → AreFit p polls root held → id ≡ preferred answer (view p polls root held) → kept_of root held id ≡ Some kept → kept.conflict ≡ None → IsTop answer (view p polls root held)
bare_top answer p polls root held id kept g fit is h none =
    let blank = blank_at p polls root held id kept g h none in
    let children : children_of (blocks_in held.pending) id ≡ [] = sym (kept_fits p polls root held id kept fit h).ids ∙ ap ids_in none in
    record {
      counters = end_blank answer held.last (shown p polls root) (all_pending p polls held.pending) id blank.0 blank.1 (sym is);
      children = ap (has_pending_child (all_pending p polls held.pending)) (sym is) ∙ childless_shown p polls held.pending id children;
    }

-- ---- the tree of a block

-- what is kept is of a block on the board
kept_on : (root : Kept) (held : Held Kept) (id : List ℕ) (kept : Kept) → kept_of root held id ≡ Some kept → is_on held.last (blocks_in held.pending) id ≡ true
kept_on root held id kept h = by (stands root held id kept h)
  where
    by : Stands root held id kept → is_on held.last (blocks_in held.pending) id ≡ true
    by (inl s) = or_left (bytes_eq held.last id) (has_block (blocks_in held.pending) id) (id_same held.last id s.0)
    by (inr s) =
        let j = s.1.0 in
        let e = s.1.1 in
        let same : (get_or held.pending j e).block.id ≡ id = ap (λ (x : Entry Kept). x.block.id) (get_or_from_slice_get held.pending j e e s.1.2) ∙ s.1.3 in
        or_right (bytes_eq held.last id) (has_block (blocks_in held.pending) id)
        (ap (has_block (blocks_in held.pending)) (sym same) ∙ own_block held.pending j e (slice_get_within held.pending j e s.1.2))

-- whether a block is on the board and has a child there
abbrev is_parent : Parameters → ℕ → Held Kept → List ℕ → Bool
is_parent p polls held id = is_on held.last (blocks_of (all_pending p polls held.pending)) id && has_pending_child (all_pending p polls held.pending) id

-- a block that isn't on the board has no tree
pub tree_none : (p : Parameters) (polls : ℕ) (root : Kept) (held : Held Kept) (id : List ℕ) → kept_of root held id ≡ None → is_parent p polls held id ≡ false
tree_none p polls root held id h =
    let off = ap (λ l. is_on held.last l id) (blocks_seen p polls held.pending) ∙ kept_off root held id h in
    rw off refl

-- and one that is has a tree where it has a child
pub tree_some : (p : Parameters) (polls : ℕ) (root : Kept) (held : Held Kept) (id : List ℕ) (kept : Kept) (o : Option Compressed) → AreFit p polls root held
    → kept_of root held id ≡ Some kept → option_map conflict_of o ≡ kept.conflict → IfSome o HasFewNodes → is_some o ≡ is_parent p polls held id
tree_some p polls root held id kept None fit h is few =
    let children : children_of (blocks_in held.pending) id ≡ [] = sym (kept_fits p polls root held id kept fit h).ids ∙ ap ids_in (sym is) in
    rw (childless_shown p polls held.pending id children) (sym (no_more (is_on held.last (blocks_of (all_pending p polls held.pending)) id)))
  where
    no_more : (b : Bool) → (b && false) ≡ false
    no_more true = refl
    no_more false = refl
tree_some p polls root held id kept (Some t) fit h is few =
    let children : children_of (blocks_in held.pending) id ≡ t.ids = sym (kept_fits p polls root held id kept fit h).ids ∙ ap ids_in (sym is) in
    let some : 0 < length (children_of (blocks_in held.pending) id) = omega (arith, ap length children, few.least, few.most) in
    let on = ap (λ l. is_on held.last l id) (blocks_seen p polls held.pending) ∙ kept_on root held id kept h in
    rw (on, parent_shown p polls held.pending id some) refl

-- whose counters are those of the board, or have failed there
pub tree_kept : (p : Parameters) (polls : ℕ) (root : Kept) (held : Held Kept) (id : List ℕ) (kept : Kept) (o : Option Compressed)
    → kept_of root held id ≡ Some kept → option_map conflict_of o ≡ kept.conflict → IfSome o (λ t. AreKept p (counters_on (view p polls root held) id) t.counters)
tree_kept p polls root held id kept None h is = tt
tree_kept p polls root held id kept (Some t) h is =
    let shows = kept_shows p polls root held id kept h in
    split_on (kept.recorded == polls)
    (λ s. inl (shows ∙ rw s (ap counters_in (sym is))))
    (λ s. inr (shows ∙ rw s (ap (λ c. failed p (counters_in c)) (sym is))))

-- a reference is there where its value is
pub copied_some : {T : Type 0} (r : Option (Bor T)) → is_some (option_copied r) ≡ is_some r
copied_some None = refl
copied_some (Some x) = refl
