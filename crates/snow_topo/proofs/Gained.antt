-- Lemmas on the issue of a block: one write at its parent's place, and what the board shows then.
use Rattle.std.proofs.Common.{◌≡◌, ℕ, ◌+◌, ◌<◌, true, false, ◌||◌, List, [], ◌∷◌, ◌++◌, ◌==◌, length, get_or, map, reverse, bytes_eq, All, Option, Some, None, IfSome, slice_get, Result, Ok, Err, OnOk, OnErr, refl, sym, ap, subst, ◌∙◌, append-nil, arith, if◌then◌else◌}
use Rattle.std.specs.Option.{option_map}
use Rattle.std.specs.Result.{is_err}
use Rattle.std.proofs.lemmas.Bool.{or_parts}
use Rattle.std.proofs.lemmas.Grind.{common_steps}
use Rattle.std.proofs.lemmas.List.{get_or-map, length-map, map-append, reverse-append}
use Rattle.std.proofs.lemmas.List.Elements.{All-append, All-map, All-cons, All-nil}
use Rattle.std.proofs.lemmas.Result.{on_ok_weaker, on_err_weaker}
use Rattle.std.proofs.lemmas.Option.{none-some, slice_get-map, slice_get_within, get_or_from_slice_get}
use Rattle.snow_base.specs.declared.block.Header.{Header}
use Rattle.snow_base.specs.Model.Identifier.{bits}
use Rattle.snow_flake.specs.Model.Parameters.{Parameters, AreGood}
use Rattle.snow_board.specs.Model.Conflict.{with_child}
use Rattle.snow_board.specs.Laws.FailingLaw.{failed}
use Rattle.snow_board.specs.Model.Board.{with_counters, with_issued, issued}
use Rattle.snow_board.specs.Kept.Grown.{has_block, is_on, IsGrown, Grew}
use Rattle.snow_board.proofs.Cases.{split_on, clash, same_id, id_same}
use Rattle.snow_board.proofs.Failing.{fails_or_adds}
use Rattle.snow_board.proofs.Grown.{has_block-reverse}
use Rattle.snow_tree.specs.Kept.Held.{Entry, Held, blocks_in, children_of, inserted, place_in, set_load, with_load}
use Rattle.snow_tree.proofs.Linked.{on_ok}
use Rattle.snow_tree.proofs.Listed.{children_push, no_children}
use Rattle.snow_tree.proofs.Numbered.{place_kept}
use Rattle.snow_board.proofs.Kept.{has_own}
use Rattle.snow_tree.proofs.Descending.{last_off}
use Rattle.snow_tree.proofs.Placed.{either_way}
use Rattle.snow_topo.specs.Kept.Children.{Conflict, Kept, bare, joined, gained, counters_in, ids_in, shown, IsFit}
use Rattle.snow_topo.specs.Kept.View.{pending_of, all_pending, view, AreFit}
use Rattle.snow_topo.specs.Kept.Gaining.{gained_by, with_gain, all_gained}
use Rattle.snow_climb.specs.Kept.Climbing.{above, reach}
use Rattle.snow_topo.proofs.Stamped.{same_number, shown_none}
use Rattle.snow_topo.proofs.Taken.{entry_read, same_load}
use Rattle.snow_climb.proofs.Begun.{block_off}
use Rattle.snow_climb.proofs.Reached.{reach_at, at_reach, reach_within, reach_seen}
use Rattle.snow_topo.proofs.Climbs.{entry_at, set_here, set_other, same_slices}

-- ---- places

-- numbers that are found equal are one
pub equal_number : (n m : ℕ) → (n == m) ≡ true → n ≡ m
equal_number n m h = grind (arith, common_steps)

-- and those that are found different are not
pub unequal_number : (n m : ℕ) → (n == m) ≡ false → n ≡ m → ⊥
unequal_number n m h e = clash (n == m) (ap (λ k. k == m) e ∙ same_number m) h

-- the block of the entry at a place
pub block_there : (pending : List (Entry Kept)) (j : ℕ) (e : Entry Kept) → slice_get pending j ≡ Some e → get_or (blocks_in pending) j e.block ≡ e.block
block_there pending j e there =
    get_or-map (λ x. x.block) pending j e e.block (slice_get_within pending j e there) ∙ ap (λ x. x.block) (get_or_from_slice_get pending j e e there)

-- it reaches right above the place
pub entry_reach : (last : List ℕ) (pending : List (Entry Kept)) (j : ℕ) (e : Entry Kept) → IsGrown last (reverse (blocks_in pending)) → slice_get pending j ≡ Some e
    → reach (blocks_in pending) e.block.id ≡ j + 1
entry_reach last pending j e g there =
    let bs = blocks_in pending in
    let within : j < length bs = omega (arith, slice_get_within pending j e there, length-map pending (λ x. x.block)) in
    ap (λ (b : Header). reach bs b.id) (sym (block_there pending j e there)) ∙ reach_at last bs j e.block g within

-- the entry of a block that has a place
pub placed : (pending : List (Entry Kept)) (id : List ℕ) (at : ℕ) → place_in pending id ≡ Some at → (e : Entry Kept) × (slice_get pending at ≡ Some e) × (e.block.id ≡ id)
placed pending id at h =
    let bs = blocks_in pending in
    let r : reach bs id ≡ at + 1 = sym (reach_seen pending id) ∙ ap above h in
    let found = entry_at pending at (omega (arith, r, reach_within bs id, length-map pending (λ x. x.block))) in
    let e = found.0 in
    (e, found.1, same_id e.block.id id (subst (λ (b : Header). bytes_eq b.id id ≡ true) (block_there pending at e found.1) (at_reach bs id at e.block r)))

-- no other has its identifier
pub elsewhere : (last : List ℕ) (pending : List (Entry Kept)) (at j : ℕ) (e x : Entry Kept) → IsGrown last (reverse (blocks_in pending))
    → slice_get pending at ≡ Some e → slice_get pending j ≡ Some x → (j ≡ at → ⊥) → bytes_eq x.block.id e.block.id ≡ false
elsewhere last pending at j e x g here there other =
    split_on (bytes_eq x.block.id e.block.id)
    (λ t. absurd (other (omega (arith, entry_reach last pending at e g here, entry_reach last pending j x g there, ap (reach (blocks_in pending)) (same_id x.block.id e.block.id t)))))
    (λ t. t)

-- a block that has a place is pending
placed_on : (pending : List (Entry Kept)) (id : List ℕ) (at : ℕ) → place_in pending id ≡ Some at → has_block (blocks_in pending) id ≡ true
placed_on pending id at h =
    let found = placed pending id at h in
    let bs = blocks_in pending in
    let within : at < length bs = omega (arith, slice_get_within pending at found.0 found.1, length-map pending (λ x. x.block)) in
    subst (λ q. has_block bs q ≡ true) (ap (λ (b : Header). b.id) (block_there pending at found.0 found.1) ∙ found.2) (has_own bs at found.0.block within)

-- so it isn't the last accepted one
pub placed_away : (last : List ℕ) (pending : List (Entry Kept)) (id : List ℕ) (at : ℕ) → IsGrown last (reverse (blocks_in pending)) → place_in pending id ≡ Some at
    → bytes_eq last id ≡ false
placed_away last pending id at g h =
    split_on (bytes_eq last id)
    (λ t. clash (has_block (blocks_in pending) id) (placed_on pending id at h) (ap (has_block (blocks_in pending)) (sym (same_id last id t)) ∙ last_off last (blocks_in pending) g))
    (λ t. t)

-- the last accepted block has none
pub no_place : (last : List ℕ) (pending : List (Entry Kept)) (id : List ℕ) → IsGrown last (reverse (blocks_in pending)) → bytes_eq last id ≡ true → place_in pending id ≡ None
no_place last pending id grown is = by (place_in pending id) refl
  where
    by : (o : Option ℕ) → place_in pending id ≡ o → place_in pending id ≡ None
    by None e = e
    by (Some at) e = clash (bytes_eq last id) is (placed_away last pending id at grown e)

-- a block on the board that isn't pending is the last accepted one
pub is_last : (last : List ℕ) (blocks : List Header) (id : List ℕ) → is_on last blocks id ≡ true → has_block blocks id ≡ false → bytes_eq last id ≡ true
is_last last blocks id on off = split_on (bytes_eq last id) (λ t. t) (λ t. clash (is_on last blocks id) on (ap (λ b. b || has_block blocks id) t ∙ off))

-- ---- the write

-- where the parent isn't among the blocks nothing changes
pub none_gained : (p : Parameters) (child : Header) (pending : List (Entry Kept)) → has_block (blocks_in pending) child.parent ≡ false → map (with_gain p child) pending ≡ pending
none_gained p child [] h = refl
none_gained p child (e ∷ pending) h =
    let parts = or_parts (bytes_eq e.block.id child.parent) (has_block (blocks_in pending) child.parent) h in
    rw (parts.0, none_gained p child pending parts.1) refl

-- the write at the parent's place is the change of all
pub one_gained : (last : List ℕ) (p : Parameters) (child : Header) (pending : List (Entry Kept)) (at : ℕ) (e : Entry Kept) → IsGrown last (reverse (blocks_in pending))
    → slice_get pending at ≡ Some e → e.block.id ≡ child.parent → set_load pending at (gained p child.id e.load) ≡ map (with_gain p child) pending
one_gained last p child pending at e g there is =
    same_slices (set_load pending at (gained p child.id e.load)) (map (with_gain p child) pending)
    (λ j. split_on (j == at)
    (λ t.
    let same : at ≡ j = sym (equal_number j at t) in
    let own : bytes_eq e.block.id child.parent ≡ true = id_same e.block.id child.parent is in
    subst (λ k. slice_get (set_load pending at (gained p child.id e.load)) k ≡ slice_get (map (with_gain p child) pending) k) same
    (set_here pending at e (gained p child.id e.load) there
    ∙ sym (slice_get-map (with_gain p child) pending at ∙ ap (option_map (with_gain p child)) there ∙ rw own refl)))
    (λ t.
    let other : j ≡ at → ⊥ = unequal_number j at t in
    set_other pending at j (gained p child.id e.load) other
    ∙ sym (slice_get-map (with_gain p child) pending j ∙ left j other (slice_get pending j) refl)))
  where
    left : (j : ℕ) → (j ≡ at → ⊥) → (o : Option (Entry Kept)) → slice_get pending j ≡ o → option_map (with_gain p child) o ≡ o
    left j other None h = refl
    left j other (Some x) h =
        let apart : bytes_eq x.block.id child.parent ≡ false = ap (bytes_eq x.block.id) (sym is) ∙ elsewhere last pending at j e x g there h other in
        rw apart refl

-- the blocks stay
pub blocks_gained : (p : Parameters) (child : Header) (pending : List (Entry Kept)) → blocks_in (map (with_gain p child) pending) ≡ blocks_in pending
blocks_gained p child [] = refl
blocks_gained p child (e ∷ pending) = ap (λ l. e.block ∷ l) (blocks_gained p child pending)

-- ---- what is shown

-- counters that are kept, with one child more
counters_joined : (p : Parameters) (id : List ℕ) (o : Option Conflict) → counters_in (Some (joined p id o)) ≡ with_child (bits id) (counters_in o)
counters_joined p id None = refl
counters_joined p id (Some c) = refl

-- a child may be added before the counters fail, or after
pub gained_shown : (p : Parameters) (polls : ℕ) (id : List ℕ) (kept : Kept) → AreGood p → shown p polls (gained p id kept) ≡ with_child (bits id) (shown p polls kept)
gained_shown p polls id kept good =
    ap (λ x. if kept.recorded == polls then x else failed p x) (counters_joined p id kept.conflict)
    ∙ split_on (kept.recorded == polls)
    (λ t. rw t refl)
    (λ t. rw t (fails_or_adds p (bits id) (counters_in kept.conflict) good))

-- the same of each block
gained_by_shown : (p : Parameters) (polls : ℕ) (child : Header) (id : List ℕ) (kept : Kept) → AreGood p → shown p polls (gained_by p child id kept) ≡ with_issued child id (shown p polls kept)
gained_by_shown p polls child id kept good =
    split_on (bytes_eq id child.parent) (λ t. rw t (gained_shown p polls child.id kept good)) (λ t. rw t refl)

-- and of all
all_gained_shown : (p : Parameters) (polls : ℕ) (child : Header) (pending : List (Entry Kept)) → AreGood p
    → all_pending p polls (map (with_gain p child) pending) ≡ map (with_counters (with_issued child)) (all_pending p polls pending)
all_gained_shown p polls child [] good = refl
all_gained_shown p polls child (e ∷ pending) good =
    λ i. record { block = e.block; counters = gained_by_shown p polls child e.block.id e.load good i } ∷ all_gained_shown p polls child pending good i

-- the new block gains nothing
new_bare : (p : Parameters) (child : Header) → bytes_eq child.id child.parent ≡ false
    → with_gain p child (record { block = child; load = bare }) ≡ record { block = child; load = bare }
new_bare p child other = rw other refl

-- all that are pending after an issue
pub pending_gained : (p : Parameters) (child : Header) (pending : List (Entry Kept)) → bytes_eq child.id child.parent ≡ false
    → map (with_gain p child) (pending ++ record { block = child; load = bare } ∷ []) ≡ map (with_gain p child) pending ++ record { block = child; load = bare } ∷ []
pending_gained p child pending other =
    map-append (with_gain p child) pending (record { block = child; load = bare } ∷ [])
    ∙ ap (λ e. map (with_gain p child) pending ++ e ∷ []) (new_bare p child other)

-- the board after an issue
pub issued_view : (p : Parameters) (polls : ℕ) (root : Kept) (held : Held Kept) (child : Header) → AreGood p → bytes_eq child.id child.parent ≡ false
    → view p polls (gained_by p child held.last root) (all_gained p child (inserted held child bare)) ≡ issued (view p polls root held) child
issued_view p polls root held child good other =
    let new : Entry Kept = record { block = child; load = bare } in
    let pending =
    ap (all_pending p polls) (pending_gained p child held.pending other)
    ∙ map-append (pending_of p polls) (map (with_gain p child) held.pending) (new ∷ [])
    ∙ ap (λ l. l ++ pending_of p polls new ∷ []) (all_gained_shown p polls child held.pending good)
    ∙ ap (λ c. map (with_counters (with_issued child)) (all_pending p polls held.pending) ++ record { block = child; counters = c } ∷ []) (shown_none p polls bare refl)
    in
    λ i. record {
      parameters = p;
      last = held.last;
      height = held.height;
      counters = gained_by_shown p polls child held.last root good i;
      pending = pending i;
    }

-- ---- what fits

-- what is kept of a block fits its children after an issue
fit_gained : (p : Parameters) (polls : ℕ) (bs : List Header) (child : Header) (id : List ℕ) (kept : Kept) → IsFit p polls (children_of bs id) kept
    → IsFit p polls (children_of (bs ++ child ∷ []) id) (gained_by p child id kept)
fit_gained p polls bs child id kept fit =
    let pushed : children_of (bs ++ child ∷ []) id ≡ children_of bs id ++ (if bytes_eq id child.parent then child.id ∷ [] else []) =
    children_push bs child id ∙ ap (λ t. children_of bs id ++ (if t then child.id ∷ [] else [])) (either_way child.parent id)
    in
    rw pushed
    (split_on (bytes_eq id child.parent)
    (λ t. rw t (record {
      past = fit.past;
      parameters = of_joined kept.conflict fit.parameters;
      ids = ids_joined kept.conflict ∙ ap (λ l. l ++ child.id ∷ []) fit.ids;
    }))
    (λ t. rw t (rw append-nil fit)))
  where
    of_joined : (o : Option Conflict) → IfSome o (λ c. c.parameters ≡ p) → (joined p child.id o).parameters ≡ p
    of_joined None h = refl
    of_joined (Some c) h = h

    ids_joined : (o : Option Conflict) → (joined p child.id o).ids ≡ ids_in o ++ child.id ∷ []
    ids_joined None = refl
    ids_joined (Some c) = refl

-- so does all that is kept
pub all_fit_gained : (p : Parameters) (polls : ℕ) (root : Kept) (held : Held Kept) (child : Header) → IsGrown held.last (reverse (blocks_in held.pending))
    → is_on held.last (blocks_in held.pending) child.id ≡ false → bytes_eq child.id child.parent ≡ false → AreFit p polls root held
    → AreFit p polls (gained_by p child held.last root) (all_gained p child (inserted held child bare))
all_fit_gained p polls root held child g unknown other fit =
    let bs = blocks_in held.pending in
    let new : Entry Kept = record { block = child; load = bare } in
    let pending = pending_gained p child held.pending other in
    let blocks : blocks_in (map (with_gain p child) (held.pending ++ new ∷ [])) ≡ bs ++ child ∷ [] =
    blocks_gained p child (held.pending ++ new ∷ []) ∙ map-append (λ e. e.block) held.pending (new ∷ [])
    in
    let Fits : Entry Kept → Type 0 = λ e. IsFit p polls (children_of (bs ++ child ∷ []) e.block.id) e.load in
    let off : is_on held.last (reverse bs) child.id ≡ false = ap (λ t. bytes_eq held.last child.id || t) (has_block-reverse bs child.id) ∙ unknown in
    let none : children_of (bs ++ child ∷ []) child.id ≡ [] =
    children_push bs child child.id ∙ rw (no_children held.last bs child.id g off, either_way child.parent child.id, other) refl
    in
    let all : All Fits (map (with_gain p child) held.pending ++ new ∷ []) =
    All-append Fits (map (with_gain p child) held.pending) (new ∷ [])
    (All-map Fits (with_gain p child) held.pending (λ k d l. fit_gained p polls bs child (get_or held.pending k d).block.id (get_or held.pending k d).load (fit.pending k d l)))
    (All-cons Fits new [] (record { past = omega arith; parameters = tt; ids = sym none }) (All-nil Fits))
    in
    record {
      root = subst (λ l. IsFit p polls (children_of l held.last) (gained_by p child held.last root)) (sym blocks) (fit_gained p polls bs child held.last root fit.root);
      pending =
          subst (λ l. All (λ e. IsFit p polls (children_of l e.block.id) e.load) (map (with_gain p child) (held.pending ++ new ∷ []))) (sym blocks)
          (subst (All Fits) (sym pending) all);
    }

-- a child that is new isn't its own parent
pub not_own : (last : List ℕ) (bs : List Header) (child : Header) → is_on last bs child.id ≡ false → is_on last bs child.parent ≡ true → bytes_eq child.id child.parent ≡ false
not_own last bs child new parent =
    split_on (bytes_eq child.id child.parent)
    (λ t. clash (is_on last bs child.parent) parent (ap (is_on last bs) (sym (same_id child.id child.parent t)) ∙ new))
    (λ t. t)

-- what holds where a call failed
pub err_after : {A E P : Type 0} (r : Result A E) → is_err r ≡ true → OnErr r P → P
err_after (Ok x) h p = absurd cc
err_after (Err e) h p = p

-- what holds holds where a call failed
pub on_err : {A E P : Type 0} (r : Result A E) → P → OnErr r P
on_err (Ok x) p = tt
on_err (Err e) p = p

-- ---- a child is added

-- a new block is the latest one
pub grown_inserted : (held : Held Kept) (child : Header) → IsGrown held.last (reverse (blocks_in held.pending)) → is_on held.last (blocks_in held.pending) child.id ≡ false
    → is_on held.last (blocks_in held.pending) child.parent ≡ true → IsGrown held.last (reverse (blocks_in (inserted held child bare).pending))
grown_inserted held child g new parent =
    let bs = blocks_in held.pending in
    let on : (id : List ℕ) → is_on held.last (reverse bs) id ≡ is_on held.last bs id = λ id. ap (λ t. bytes_eq held.last id || t) (has_block-reverse bs id) in
    subst (λ l. IsGrown held.last (reverse l)) (sym (map-append (λ e. e.block) held.pending (record { block = child; load = bare } ∷ [])))
    (subst (IsGrown held.last) (sym (reverse-append bs (child ∷ []))) (Grew child (reverse bs) (on child.id ∙ new) (on child.parent ∙ parent) g))

-- its parent stands where it stood
pub place_inserted : (held : Held Kept) (child : Header) (at : Option ℕ) → bytes_eq child.id child.parent ≡ false → at ≡ place_in held.pending child.parent
    → place_in (inserted held child bare).pending child.parent ≡ at
place_inserted held child at other is = place_kept (λ e. bytes_eq e.block.id child.parent) held.pending (record { block = child; load = bare }) other ∙ sym is

-- what is kept after a child was added below its parent
pub record Added {E : Type 0} (p : Parameters) (child : Header) (before : Kept) (held : Held Kept) (after : Kept) (now : Held Kept) (r : Result Unit E) : Type 0 where
  pub root : OnOk r (after ≡ gained_by p child held.last before)
  pub tree : OnOk r (now ≡ all_gained p child held)

-- where the load of a pending block stays, all stays
pub load_stays : {E : Type 0} (held : Held Kept) (at : ℕ) (load new : Kept) (r : Result Unit E) → option_map (λ e. e.load) (slice_get held.pending at) ≡ Some load
    → OnErr r (new ≡ load) → OnErr r (with_load held at new ≡ held)
load_stays held at load new r read err =
    let entry = entry_read (slice_get held.pending at) load read in
    on_err_weaker r (λ e. ap (λ l. record held { pending = l }) (ap (set_load held.pending at) (e ∙ sym entry.2) ∙ same_load held.pending at entry.0 entry.1)) err

-- it was added below a pending block
pub added_pending : {E : Type 0} (p : Parameters) (child : Header) (root : Kept) (held : Held Kept) (at : ℕ) (load new : Kept) (r : Result Unit E)
    → IsGrown held.last (reverse (blocks_in held.pending)) → place_in held.pending child.parent ≡ Some at → option_map (λ e. e.load) (slice_get held.pending at) ≡ Some load
    → OnOk r (new ≡ gained p child.id load) → Added p child root held root (with_load held at new) r
added_pending p child root held at load new r g place read ok =
    let parent = placed held.pending child.parent at place in
    let same : Some load ≡ Some parent.0.load = sym read ∙ ap (option_map (λ (e : Entry Kept). e.load)) parent.1 in
    let is : load ≡ parent.0.load = cc in
    record {
      root = on_ok r (rw (placed_away held.last held.pending child.parent at g place) refl);
      tree = on_ok_weaker r
          (λ e. ap (with_load held at) (e ∙ ap (gained p child.id) is)
          ∙ ap (λ l. record held { pending = l }) (one_gained held.last p child held.pending at parent.0 g parent.1 parent.2)) ok;
    }

-- a block that has a place has a load
pub has_load : (pending : List (Entry Kept)) (id : List ℕ) (at : ℕ) → place_in pending id ≡ Some at → option_map (λ e. e.load) (slice_get pending at) ≡ None → ⊥
has_load pending id at place none =
    let entry = placed pending id at place in
    none-some entry.0.load (sym none ∙ ap (option_map (λ (e : Entry Kept). e.load)) entry.1)

-- it was added below the last accepted block
pub added_last : {E : Type 0} (p : Parameters) (child : Header) (root new : Kept) (held : Held Kept) (r : Result Unit E)
    → bytes_eq held.last child.parent ≡ true → place_in held.pending child.parent ≡ None
    → OnOk r (new ≡ gained p child.id root) → Added p child root held new held r
added_last p child root new held r own place ok =
    let away = block_off held.pending child.parent place in
    record {
      root = rw own ok;
      tree = on_ok r (ap (λ l. record held { pending = l }) (sym (none_gained p child held.pending away)));
    }
