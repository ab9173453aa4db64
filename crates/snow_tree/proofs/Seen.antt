-- Lemmas on what is seen of the nodes.
use Rattle.std.proofs.Common.{◌≡◌, ℕ, zero, suc, ◌+◌, ◌-◌, Bool, true, false, not, cond, nat_lt, ◌||◌, List, [], ◌∷◌, ◌++◌, length, get_or, reverse, map, find, bytes_eq, All, Option, Some, None, IfSome, is_some, slice_get, Result, Ok, Err, is_err, OnOk, refl, sym, ap, subst, ◌∙◌, arith, length-append}
use Rattle.std.specs.List.{list_any, position, prefix_len}
use Rattle.std.specs.Map.{lookup}
use Rattle.std.specs.Option.{option_map}
use Rattle.std.proofs.lemmas.Bool.{or_parts, or_left, or_right}
use Rattle.std.proofs.lemmas.List.{length-map}
use Rattle.std.proofs.lemmas.Map.Entries.{place_from_lookup}
use Rattle.std.proofs.lemmas.Option.{none-some, slice_get-map, slice_get_within, get_or_from_slice_get}
use Rattle.std.proofs.lemmas.List.Elements.{All-cons, All-head, All-tail}
use Rattle.snow_tree.specs.Kept.Row.{set_load_at}
use Rattle.snow_base.specs.declared.block.Header.{Header}
use Rattle.snow_base.specs.Model.Ancestry.{line_in, child_on}
use Rattle.snow_board.specs.Kept.Grown.{has_block, is_on, IsGrown}
use Rattle.snow_board.proofs.Cases.{split_on, same_id, id_same, differs_back}
use Rattle.snow_board.proofs.Grown.{grown_parent, grown_rest, no_line, has_block-reverse}
use Rattle.snow_tree.specs.declared.node.Node.{Node}
use Rattle.snow_tree.specs.Kept.Held.{children_of, set_load}
use Rattle.snow_tree.specs.Kept.Nodes.{block_of, blocks_of, entry_of, with_children, IsKept}
use Rattle.snow_tree.proofs.Listed.{no_children}
use Rattle.snow_tree.proofs.Linked.{no_block}
use Rattle.snow_tree.proofs.Edges.{read_loaded}

-- what holds where a call succeeded, after one that did
pub ok_after : {A E P : Type 0} (r : Result A E) → is_err r ≡ false → OnOk r P → P
ok_after (Ok x) ok p = p
ok_after (Err e) ok p = absurd cc

-- the last of a list
pub last_seen : {X : Type 0} (xs : List X) (x : X) → slice_get (xs ++ x ∷ []) (length (xs ++ x ∷ []) - 1) ≡ Some x
last_seen {X = X} xs x =
    let n : length (xs ++ x ∷ []) - 1 ≡ length xs = omega (arith, length-append xs (x ∷ [])) in
    rw n (end xs)
  where
    end : (ys : List X) → slice_get (ys ++ x ∷ []) (length ys) ≡ Some x
    end [] = refl
    end (y ∷ ys) = end ys

-- ---- lines

-- the line of a block that is there has a child of the last accepted one
on_line : (last : List ℕ) (blocks : List Header) (id : List ℕ) → IsGrown last blocks → has_block blocks id ≡ true
    → is_some (find (λ b. bytes_eq b.parent last) (line_in blocks id)) ≡ true
on_line last [] id g h = absurd cc
on_line last (b ∷ earlier) id g h =
    split_on (bytes_eq b.id id)
    (λ t. rw t (split_on (bytes_eq b.parent last)
    (λ s. rw s refl)
    (λ s. let on : has_block earlier b.parent ≡ true = rw (differs_back last b.parent s) at (grown_parent g) in
    rw s (on_line last earlier b.parent (grown_rest g) on))))
    (λ t. let k = rw t at h in rw t (on_line last earlier id (grown_rest g) k))

-- so there is one exactly where the block is there
pub line_there : (last : List ℕ) (bs : List Header) (id : List ℕ) → IsGrown last (reverse bs) → is_some (child_on bs last id) ≡ has_block bs id
line_there last bs id g =
    split_on (has_block bs id)
    (λ t. rw t (on_line last (reverse bs) id g (has_block-reverse bs id ∙ t)))
    (λ t. rw t (ap (λ l. is_some (find (λ b. bytes_eq b.parent last) l)) (no_line (reverse bs) id (has_block-reverse bs id ∙ t))))

module _ {T : Type 0} where
  -- its place among what is seen
  pub place_seen : (nodes : List (List ℕ × Node T)) (id : List ℕ) → position (λ e. bytes_eq e.0 id) nodes ≡ position (λ e. bytes_eq e.block.id id) (map entry_of nodes)
  place_seen nodes id = λ j. cond (nat_lt (lens nodes j) (sym (length-map nodes entry_of) j)) (Some (lens nodes j)) None
    where
      lens : (xs : List (List ℕ × Node T)) → prefix_len (λ e. not (bytes_eq e.0 id)) xs ≡ prefix_len (λ e. not (bytes_eq e.block.id id)) (map entry_of xs)
      lens [] = refl
      lens (x ∷ xs) =
          split_on (bytes_eq x.0 id)
          (λ t. rw t refl)
          (λ t. rw t (ap (λ n. 1 + n) (lens xs)))

  -- what is seen doesn't show who is whose child
  pub seen_changed : (change : List ℕ → List (List ℕ) → List (List ℕ)) (nodes : List (List ℕ × Node T)) → map entry_of (map (with_children change) nodes) ≡ map entry_of nodes
  seen_changed change [] = refl
  seen_changed change (e ∷ nodes) = ap (λ l. entry_of e ∷ l) (seen_changed change nodes)

  -- the children that a node has are those of its block
  pub children_found : (last id : List ℕ) (first : List (List ℕ)) (nodes : List (List ℕ × Node T)) (most : ℕ) (n : Node T) → IsKept last first nodes most
      → lookup (bytes_eq id) nodes ≡ Some n → n.children ≡ children_of (blocks_of nodes) id
  children_found last id first nodes most n kept found =
      let at = place_from_lookup (bytes_eq id) nodes n found in
      let here : get_or nodes at.0 (at.1, n) ≡ (at.1, n) = get_or_from_slice_get nodes at.0 (at.1, n) (at.1, n) at.2 in
      ap (λ (e : List ℕ × Node T). e.1.children) (sym here)
      ∙ kept.below at.0 (at.1, n) (slice_get_within nodes at.0 (at.1, n) at.2)
      ∙ ap (λ (e : List ℕ × Node T). children_of (blocks_of nodes) e.0) here
      ∙ ap (children_of (blocks_of nodes)) (sym (same_id id at.1 at.3))

  -- what is neither there nor the last accepted block has none
  pub children_none : (last id : List ℕ) (first : List (List ℕ)) (nodes : List (List ℕ × Node T)) (most : ℕ) → IsKept last first nodes most
      → bytes_eq last id ≡ false → lookup (bytes_eq id) nodes ≡ None → children_of (blocks_of nodes) id ≡ []
  children_none last id first nodes most kept other none =
      let off : is_on last (reverse (blocks_of nodes)) id ≡ false = rw other (has_block-reverse (blocks_of nodes) id ∙ no_block nodes id none) in
      no_children last (blocks_of nodes) id kept.grown off

  -- the node of an entry that is seen
  pub found_back : (nodes : List (List ℕ × Node T)) (child parent : List ℕ) → option_map (λ e. e.block.parent) (find (λ e. bytes_eq e.block.id child) (map entry_of nodes)) ≡ Some parent
      → (n : Node T) × (lookup (bytes_eq child) nodes ≡ Some n) × (n.parent ≡ parent)
  found_back [] child parent h = absurd (none-some parent h)
  found_back (e ∷ nodes) child parent h =
      split_on (bytes_eq e.0 child)
      (λ t. let k = rw t at h in (e.1, rw (id_same child e.0 (sym (same_id e.0 child t))) refl, cc))
      (λ t. let k = rw t at h in
      let rest = found_back nodes child parent k in
      (rest.0, rw (differs_back child e.0 t) rest.1, rest.2))

  -- a node that was looked up, by its parent
  pub found_child : (o : Option (Node T)) (parent : List ℕ) → option_map (λ n. n.parent) o ≡ Some parent → (n : Node T) × (o ≡ Some n) × (n.parent ≡ parent)
  found_child None parent h = absurd (none-some parent h)
  found_child (Some n) parent h = (n, refl, cc)

  -- a child of a block is among its children
  listed : (nodes : List (List ℕ × Node T)) (child parent : List ℕ) (n : Node T) → lookup (bytes_eq child) nodes ≡ Some n → n.parent ≡ parent
      → list_any (λ x. bytes_eq x child) (children_of (blocks_of nodes) parent) ≡ true
  listed [] child parent n found is = absurd (none-some n found)
  listed (e ∷ nodes) child parent n found is =
      split_on (bytes_eq child e.0)
      (λ t.
      let same : Some e.1 ≡ Some n = rw t at found in
      let own : e.1 ≡ n = cc in
      let of : bytes_eq e.1.parent parent ≡ true = id_same e.1.parent parent (ap (λ (m : Node T). m.parent) own ∙ is) in
      rw of (or_left (bytes_eq e.0 child) (list_any (λ x. bytes_eq x child) (children_of (blocks_of nodes) parent)) (id_same e.0 child (sym (same_id child e.0 t)))))
      (λ t.
      let k = rw t at found in
      let rest = listed nodes child parent n k is in
      split_on (bytes_eq e.1.parent parent)
      (λ s. rw s (or_right (bytes_eq e.0 child) (list_any (λ x. bytes_eq x child) (children_of (blocks_of nodes) parent)) rest))
      (λ s. rw s rest))

  -- and the only one where there is no other
  pub only_child : (nodes : List (List ℕ × Node T)) (child parent : List ℕ) (n : Node T) → lookup (bytes_eq child) nodes ≡ Some n → n.parent ≡ parent
      → length (children_of (blocks_of nodes) parent) ≡ 1 → children_of (blocks_of nodes) parent ≡ child ∷ []
  only_child nodes child parent n found is one = alone (children_of (blocks_of nodes) parent) one (listed nodes child parent n found is)
    where
      alone : (xs : List (List ℕ)) → length xs ≡ 1 → list_any (λ x. bytes_eq x child) xs ≡ true → xs ≡ child ∷ []
      alone [] l h = absurd cc
      alone (x ∷ []) l h = ap (λ y. y ∷ []) (same_id x child ((or_false (bytes_eq x child)) ∙ h))
        where
          or_false : (t : Bool) → t ≡ (t || false)
          or_false true = refl
          or_false false = refl
      alone (x ∷ y ∷ xs) l h = absurd (omega (arith, l))

  -- the last accepted block isn't among fewer
  pub fewer_off : (nodes : List (List ℕ × Node T)) (e : List ℕ × Node T) (last : List ℕ) → has_block (blocks_of (nodes ++ e ∷ [])) last ≡ false → has_block (blocks_of nodes) last ≡ false
  fewer_off [] e last h = refl
  fewer_off (x ∷ nodes) e last h =
      let parts = or_parts (bytes_eq x.0 last) (has_block (blocks_of (nodes ++ e ∷ [])) last) h in
      rw parts.0 (fewer_off nodes e last parts.1)

  -- a load that is written
  pub load_seen : (nodes : List (List ℕ × Node T)) (i : ℕ) (w : T) → map entry_of (set_load_at nodes i w) ≡ set_load (map entry_of nodes) i w
  load_seen [] i w = refl
  load_seen (e ∷ nodes) zero w = refl
  load_seen (e ∷ nodes) (suc i) w = ap (λ l. entry_of e ∷ l) (load_seen nodes i w)

  -- a load that is read
  pub load_at : (nodes : List (List ℕ × Node T)) (i : ℕ) → option_map (λ e. e.load) (slice_get (map entry_of nodes) i) ≡ option_map (λ (n : Node T). n.load) (slice_get (map (λ e. e.1) nodes) i)
  load_at [] i = refl
  load_at (e ∷ nodes) zero = refl
  load_at (e ∷ nodes) (suc i) = load_at nodes i

  -- what is so of all is so with another load
  all_loaded : (P : List ℕ × Node T → Type 0) (nodes : List (List ℕ × Node T)) (i : ℕ) (w : T) → ((e : List ℕ × Node T) → P e → P (e.0, record e.1 { load = w })) → All P nodes → All P (set_load_at nodes i w)
  all_loaded P [] i w same all = all
  all_loaded P (e ∷ nodes) zero w same all = All-cons P (e.0, record e.1 { load = w }) nodes (same e (All-head P e nodes all)) (All-tail P e nodes all)
  all_loaded P (e ∷ nodes) (suc i) w same all = All-cons P e (set_load_at nodes i w) (All-head P e nodes all) (all_loaded P nodes i w same (All-tail P e nodes all))

  length-loaded : (nodes : List (List ℕ × Node T)) (i : ℕ) (w : T) → length (set_load_at nodes i w) ≡ length nodes
  length-loaded [] i w = refl
  length-loaded (e ∷ nodes) zero w = refl
  length-loaded (e ∷ nodes) (suc i) w = ap suc (length-loaded nodes i w)

  -- a load is no part of what is kept true
  pub kept_loaded : (last : List ℕ) (first : List (List ℕ)) (nodes : List (List ℕ × Node T)) (most i : ℕ) (w : T)
      → IsKept last first nodes most → IsKept last first (set_load_at nodes i w) most
  kept_loaded last first nodes most i w kept =
      let same : blocks_of (set_load_at nodes i w) ≡ blocks_of nodes = read_loaded block_of nodes i w (λ e. refl) in
      let Below : List ℕ × Node T → Type 0 = λ e. e.1.children ≡ children_of (blocks_of (set_load_at nodes i w)) e.0 in
      record {
        grown = subst (λ l. IsGrown last (reverse l)) (sym same) kept.grown;
        children = kept.children ∙ ap (λ l. children_of l last) (sym same);
        below = all_loaded Below nodes i w (λ e p. p) (λ k d l. kept.below k d l ∙ ap (λ x. children_of x (get_or nodes k d).0) (sym same));
        room = omega (arith, length-loaded nodes i w, kept.room);
      }

-- ---- where the parent of a block stands

module _ {T : Type 0} where
  one_seen : (x e : List ℕ × Node T) (o : Option (List ℕ × Node T)) → o ≡ Some x → o ≡ Some e → x ≡ e
  one_seen x e o h at = let both : Some x ≡ Some e = sym h ∙ at in cc

  -- the parent was looked for
  pub parent_found : (nodes : List (List ℕ × Node T)) (place : ℕ) (x : List ℕ × Node T) (r : Option ℕ) → slice_get nodes place ≡ Some x → r ≡ position (λ y. bytes_eq y.0 x.1.parent) nodes
      → (e : List ℕ × Node T) → slice_get nodes place ≡ Some e → r ≡ position (λ y. bytes_eq y.0 e.1.parent) nodes
  parent_found nodes place x r there is e at =
      let same = one_seen x e (slice_get nodes place) there at in
      is ∙ ap (λ (y : List ℕ × Node T). position (λ z. bytes_eq z.0 y.1.parent) nodes) same

  -- as it is seen
  pub parent_seen : (nodes : List (List ℕ × Node T)) (place : ℕ) (r : Option ℕ) → ((e : List ℕ × Node T) → slice_get nodes place ≡ Some e → r ≡ position (λ y. bytes_eq y.0 e.1.parent) nodes)
      → IfSome (slice_get (map entry_of nodes) place) (λ e. r ≡ position (λ y. bytes_eq y.block.id e.block.parent) (map entry_of nodes))
  parent_seen nodes place r each =
      subst (λ o. IfSome o (λ e. r ≡ position (λ y. bytes_eq y.block.id e.block.parent) (map entry_of nodes))) (sym (slice_get-map entry_of nodes place)) (by (slice_get nodes place) refl)
    where
      by : (o : Option (List ℕ × Node T)) → slice_get nodes place ≡ o → IfSome (option_map entry_of o) (λ e. r ≡ position (λ y. bytes_eq y.block.id e.block.parent) (map entry_of nodes))
      by None h = tt
      by (Some e) h = each e h ∙ place_seen nodes e.1.parent
