-- Lemmas on the nodes when a block is issued or taken back: its parent's children change.
use Rattle.std.proofs.Common.{◌≡◌, ℕ, zero, suc, ◌+◌, ◌-◌, ◌≤◌, true, false, ◌||◌, List, [], ◌∷◌, ◌++◌, length, get_or, take, reverse, map, bytes_eq, All, Some, None, Option, slice_get, Result, Ok, Err, OnOk, OnErr, refl, sym, ap, subst, ◌∙◌, length-append, append-nil, if◌then◌else◌, arith}
use Rattle.std.specs.List.{IsDistinct, position}
use Rattle.std.specs.Option.{option_map}
use Rattle.std.proofs.lemmas.Result.{on_ok_weaker, on_err_weaker}
use Rattle.std.specs.Map.{lookup, keys_of, values_of}
use Rattle.std.proofs.lemmas.List.{map-append, reverse-append, length-map}
use Rattle.std.proofs.lemmas.List.Elements.{All-append, All-map, All-cons, All-nil, All-head, All-tail}
use Rattle.std.proofs.lemmas.Bool.{or_parts}
use Rattle.std.proofs.lemmas.Option.{none-some, same_Some, slice_get-map}
use Rattle.snow_tree.specs.Kept.Row.{set_children_at}
use Rattle.snow_base.specs.declared.block.Header.{Header}
use Rattle.snow_board.specs.Kept.Grown.{has_block, is_on, IsGrown, Grew}
use Rattle.snow_board.proofs.Cases.{split_on, clash, same_id, differs_back}
use Rattle.snow_board.proofs.Grown.{grown_rest, has_block-reverse}
use Rattle.snow_tree.specs.declared.node.Node.{Node}
use Rattle.snow_tree.specs.Kept.Held.{children_of}
use Rattle.snow_tree.specs.Kept.Nodes.{block_of, blocks_of, linked, unlinked, with_children, IsKept}
use Rattle.snow_tree.proofs.Placed.{either_way, apart_off, found_at}
use Rattle.snow_tree.proofs.Listed.{children_push, no_children}
use Rattle.snow_tree.proofs.Numbered.{of_key}

-- a change of the parent's children alone
abbrev pub ChangesOnly : (List ℕ → List (List ℕ) → List (List ℕ)) → List ℕ → Type 0
ChangesOnly change parent = (q : List ℕ) (children : List (List ℕ)) → bytes_eq q parent ≡ false → change q children ≡ children

module _ {T : Type 0} where
  -- no block has an identifier that the nodes aren't found under
  pub no_block : (nodes : List (List ℕ × Node T)) (id : List ℕ) → lookup (bytes_eq id) nodes ≡ None → has_block (blocks_of nodes) id ≡ false
  no_block [] id h = refl
  no_block (e ∷ nodes) id h =
      split_on (bytes_eq id e.0)
      (λ t. absurd (none-some e.1 (let k = rw t at h in sym k)))
      (λ t. let k = rw t at h in rw (differs_back e.0 id t) (no_block nodes id k))

  -- and the other way round
  pub not_found : (nodes : List (List ℕ × Node T)) (id : List ℕ) → has_block (blocks_of nodes) id ≡ false → lookup (bytes_eq id) nodes ≡ None
  not_found [] id h = refl
  not_found (e ∷ nodes) id h =
      let parts = or_parts (bytes_eq e.0 id) (has_block (blocks_of nodes) id) h in
      rw (differs_back id e.0 parts.0) (not_found nodes id parts.1)

  -- writing what stands there changes nothing
  pub same_written : (nodes : List (List ℕ × Node T)) (i : ℕ) (n : Node T) → slice_get (values_of nodes) i ≡ Some n → set_children_at nodes i n.children ≡ nodes
  same_written [] i n h = refl
  same_written (e ∷ nodes) zero n h = let same : e.1 ≡ n = cc in ap (λ (m : Node T). (e.0, record e.1 { children = m.children }) ∷ nodes) (sym same)
  same_written (e ∷ nodes) (suc i) n h = ap (λ l. e ∷ l) (same_written nodes i n h)

  -- where the parent isn't among the nodes nothing changes
  pub none_changed : (change : List ℕ → List (List ℕ) → List (List ℕ)) (parent : List ℕ) → ChangesOnly change parent → (nodes : List (List ℕ × Node T))
      → has_block (blocks_of nodes) parent ≡ false → map (with_children change) nodes ≡ nodes
  none_changed change parent only [] h = refl
  none_changed change parent only (e ∷ nodes) h =
      let parts = or_parts (bytes_eq e.0 parent) (has_block (blocks_of nodes) parent) h in
      λ i. (e.0, record e.1 { children = only e.0 e.1.children parts.0 i }) ∷ none_changed change parent only nodes parts.1 i

  -- a write at the parent's place is the change of all
  pub one_changed : (change : List ℕ → List (List ℕ) → List (List ℕ)) (parent : List ℕ) → ChangesOnly change parent → (nodes : List (List ℕ × Node T)) (i : ℕ) (e : List ℕ × Node T)
      → IsDistinct bytes_eq (keys_of nodes) → slice_get nodes i ≡ Some e → bytes_eq e.0 parent ≡ true
      → set_children_at nodes i (change e.0 e.1.children) ≡ map (with_children change) nodes
  unfolding IsDistinct
  one_changed change parent only [] i e unique at is = absurd (none-some e at)
  one_changed change parent only (x ∷ nodes) zero e unique at is =
      let same : x ≡ e = cc in
      let off : has_block (blocks_of nodes) parent ≡ false = ap (has_block (blocks_of nodes)) (sym (ap (λ (y : List ℕ × Node T). y.0) same ∙ same_id e.0 parent is)) ∙ apart_off nodes x.0 unique.0 in
      rw same (ap (λ l. (e.0, record e.1 { children = change e.0 e.1.children }) ∷ l) (sym (none_changed change parent only nodes off)))
  one_changed change parent only (x ∷ nodes) (suc i) e unique at is =
      let other : bytes_eq x.0 parent ≡ false =
      ap (bytes_eq x.0) (sym (same_id e.0 parent is)) ∙ of_key (λ y. bytes_eq x.0 y ≡ false) nodes i e unique.0 at
      in
      λ j. (x.0, record x.1 { children = sym (only x.0 x.1.children other) j }) ∷ one_changed change parent only nodes i e unique.1 at is j

  -- the blocks stay
  pub blocks_changed : (change : List ℕ → List (List ℕ) → List (List ℕ)) (nodes : List (List ℕ × Node T)) → blocks_of (map (with_children change) nodes) ≡ blocks_of nodes
  blocks_changed change [] = refl
  blocks_changed change (e ∷ nodes) = ap (λ l. block_of e ∷ l) (blocks_changed change nodes)

-- what holds holds where a call succeeded
pub on_ok : {A E P : Type 0} (r : Result A E) → P → OnOk r P
on_ok (Ok x) p = p
on_ok (Err e) p = tt

module _ {T : Type 0} where
  -- a write that didn't come about
  pub kept_children : {A E : Type 0} (r : Result A E) (nodes : List (List ℕ × Node T)) (at : ℕ) (before children : List (List ℕ)) → option_map (λ n. n.children) (slice_get (values_of nodes) at) ≡ Some before
      → OnErr r (children ≡ before) → OnErr r (set_children_at nodes at children ≡ nodes)
  kept_children r nodes at before children there same = by (slice_get (values_of nodes) at) refl there
    where
      by : (o : Option (Node T)) → slice_get (values_of nodes) at ≡ o → option_map (λ n. n.children) o ≡ Some before → OnErr r (set_children_at nodes at children ≡ nodes)
      by None e h = absurd (none-some before h)
      by (Some n) e h = on_err_weaker r (λ is. ap (set_children_at nodes at) (is ∙ sym (same_Some n.children before h)) ∙ same_written nodes at n e) same

-- ---- issue

-- no other list changes
pub linked_only : (block : Header) → (q : List ℕ) (children : List (List ℕ)) → bytes_eq q block.parent ≡ false → linked block q children ≡ children
linked_only block q children h = rw h refl

-- the children of a block after an issue
linked_is : (bs : List Header) (b : Header) (q : List ℕ) (children : List (List ℕ)) → children ≡ children_of bs q → linked b q children ≡ children_of (bs ++ b ∷ []) q
linked_is bs b q children is =
    sym (children_push bs b q
    ∙ ap (λ t. children_of bs q ++ (if t then b.id ∷ [] else [])) (either_way b.parent q)
    ∙ ap (λ l. l ++ (if bytes_eq q b.parent then b.id ∷ [] else [])) (sym is)
    ∙ split_on (bytes_eq q b.parent) (λ t. rw t refl) (λ t. rw t (append-nil children)))

module _ {T : Type 0} where
  -- the block at the parent's place has one child more
  pub linked_at : {A E : Type 0} (r : Result A E) (block : Header) (nodes new : List (List ℕ × Node T)) (at : ℕ) → IsDistinct bytes_eq (keys_of nodes)
      → position (bytes_eq block.parent) (keys_of nodes) ≡ Some at
      → ((n : Node T) → slice_get (values_of nodes) at ≡ Some n → OnOk r (new ≡ set_children_at nodes at (n.children ++ block.id ∷ [])))
      → OnOk r (new ≡ map (with_children (linked block)) nodes)
  linked_at r block nodes new at unique place written =
      let found = found_at nodes block.parent at place in
      let e = found.0 in
      let same : linked block e.0 e.1.children ≡ e.1.children ++ block.id ∷ [] = rw found.2 refl in
      on_ok_weaker r
      (λ is. is ∙ ap (set_children_at nodes at) (sym same)
      ∙ one_changed (linked block) block.parent (linked_only block) nodes at e unique found.1 found.2)
      (written e.1 (slice_get-map (λ x. x.1) nodes at ∙ ap (option_map (λ x. x.1)) found.1))

  -- what is kept stays true when a block is issued
  pub kept_issued : (last : List ℕ) (children : List (List ℕ)) (nodes : List (List ℕ × Node T)) (old room : ℕ) (k : List ℕ) (n : Node T)
      → IsKept last children nodes old → n.children ≡ []
      → is_on last (blocks_of nodes) k ≡ false → is_on last (blocks_of nodes) n.parent ≡ true → length nodes + 1 ≤ room
      → IsKept last (linked (block_of (k, n)) last children) (map (with_children (linked (block_of (k, n)))) nodes ++ (k, n) ∷ []) room
  kept_issued last children nodes old room k n kept bare new parent fits =
      let b = block_of (k, n) in
      let bs = blocks_of nodes in
      let change = with_children (linked b) in
      let all : blocks_of (map change nodes ++ (k, n) ∷ []) ≡ bs ++ b ∷ [] =
      map-append block_of (map change nodes) ((k, n) ∷ []) ∙ ap (λ l. l ++ b ∷ []) (blocks_changed (linked b) nodes)
      in
      let on : (id : List ℕ) → is_on last (reverse bs) id ≡ is_on last bs id = λ id. ap (λ t. bytes_eq last id || t) (has_block-reverse bs id) in
      let other : bytes_eq b.parent b.id ≡ false =
      split_on (bytes_eq b.parent b.id) (λ t. clash (is_on last bs b.parent) parent (ap (is_on last bs) (same_id b.parent b.id t) ∙ new)) (λ t. t)
      in
      let grown : IsGrown last (b ∷ reverse bs) = Grew b (reverse bs) (on b.id ∙ new) (on b.parent ∙ parent) kept.grown in
      let childless : children_of bs k ≡ [] = no_children last bs k kept.grown (on k ∙ new) in
      let Below : List ℕ × Node T → Type 0 = λ e. e.1.children ≡ children_of (blocks_of (map change nodes ++ (k, n) ∷ [])) e.0 in
      let none : children_of (bs ++ b ∷ []) b.id ≡ [] = children_push bs b b.id ∙ rw (childless, other) refl in
      record {
        grown = subst (λ l. IsGrown last (reverse l)) (sym all) (subst (IsGrown last) (sym (reverse-append bs (b ∷ []))) grown);
        children = linked_is bs b last children kept.children ∙ ap (λ l. children_of l last) (sym all);
        below = All-append Below (map change nodes) ((k, n) ∷ [])
            (All-map Below change nodes (λ i d h. linked_is bs b (get_or nodes i d).0 (get_or nodes i d).1.children (kept.below i d h) ∙ ap (λ l. children_of l (get_or nodes i d).0) (sym all)))
            (All-cons Below (k, n) [] (bare ∙ sym none ∙ ap (λ l. children_of l k) (sym all)) (All-nil Below));
        room = omega (arith, length-append (map change nodes) ((k, n) ∷ []), length-map nodes change);
      }

-- ---- taking back

-- no other list changes
pub unlinked_only : (parent : List ℕ) → (q : List ℕ) (children : List (List ℕ)) → bytes_eq q parent ≡ false → unlinked parent q children ≡ children
unlinked_only parent q children h = rw h refl

-- all but the last of a list
pub all_but_last : {X : Type 0} (xs : List X) (x : X) → take (length (xs ++ x ∷ []) - 1) (xs ++ x ∷ []) ≡ xs
all_but_last {X = X} xs x =
    let n : length (xs ++ x ∷ []) - 1 ≡ length xs = omega (arith, length-append xs (x ∷ [])) in
    rw n (take_front xs)
  where
    take_front : (ys : List X) → take (length ys) (ys ++ x ∷ []) ≡ ys
    take_front [] = refl
    take_front (y ∷ ys) = ap (λ l. y ∷ l) (take_front ys)

-- the children of a block after the latest one was taken back
unlinked_is : (bs : List Header) (b : Header) (q : List ℕ) (children : List (List ℕ)) → children ≡ children_of (bs ++ b ∷ []) q → unlinked b.parent q children ≡ children_of bs q
unlinked_is bs b q children is =
    let whole : children ≡ children_of bs q ++ (if bytes_eq q b.parent then b.id ∷ [] else []) =
    is ∙ children_push bs b q ∙ ap (λ t. children_of bs q ++ (if t then b.id ∷ [] else [])) (either_way b.parent q)
    in
    rw whole
    (split_on (bytes_eq q b.parent) (λ t. rw t (all_but_last (children_of bs q) b.id)) (λ t. rw t (append-nil (children_of bs q))))

module _ {T : Type 0} where
  -- the block at the parent's place has one child less
  pub unlinked_at : (parent : List ℕ) (nodes new : List (List ℕ × Node T)) (at : ℕ) → IsDistinct bytes_eq (keys_of nodes)
      → position (bytes_eq parent) (keys_of nodes) ≡ Some at
      → ((n : Node T) → slice_get (values_of nodes) at ≡ Some n → new ≡ set_children_at nodes at (take (length n.children - 1) n.children))
      → new ≡ map (with_children (unlinked parent)) nodes
  unlinked_at parent nodes new at unique place written =
      let found = found_at nodes parent at place in
      let e = found.0 in
      let same : unlinked parent e.0 e.1.children ≡ take (length e.1.children - 1) e.1.children = rw found.2 refl in
      written e.1 (slice_get-map (λ x. x.1) nodes at ∙ ap (option_map (λ x. x.1)) found.1)
      ∙ ap (set_children_at nodes at) (sym same)
      ∙ one_changed (unlinked parent) parent (unlinked_only parent) nodes at e unique found.1 found.2

  -- what is kept stays true when the latest block is taken back
  pub kept_back : (last : List ℕ) (children : List (List ℕ)) (nodes : List (List ℕ × Node T)) (e : List ℕ × Node T) (room : ℕ)
      → IsKept last children (nodes ++ e ∷ []) room
      → IsKept last (unlinked e.1.parent last children) (map (with_children (unlinked e.1.parent)) nodes) room
  kept_back last children nodes e room kept =
      let b = block_of e in
      let bs = blocks_of nodes in
      let change = with_children (unlinked b.parent) in
      let all : blocks_of (nodes ++ e ∷ []) ≡ bs ++ b ∷ [] = map-append block_of nodes (e ∷ []) in
      let same : blocks_of (map change nodes) ≡ bs = blocks_changed (unlinked b.parent) nodes in
      let grown : IsGrown last (b ∷ reverse bs) = subst (IsGrown last) (ap reverse all ∙ reverse-append bs (b ∷ [])) kept.grown in
      let of : (q : List ℕ) (c : List (List ℕ)) → c ≡ children_of (blocks_of (nodes ++ e ∷ [])) q → unlinked b.parent q c ≡ children_of (blocks_of (map change nodes)) q =
      λ q c is. unlinked_is bs b q c (is ∙ ap (λ l. children_of l q) all) ∙ ap (λ l. children_of l q) (sym same)
      in
      let Was : List ℕ × Node T → Type 0 = λ x. x.1.children ≡ children_of (blocks_of (nodes ++ e ∷ [])) x.0 in
      let Below : List ℕ × Node T → Type 0 = λ x. x.1.children ≡ children_of (blocks_of (map change nodes)) x.0 in
      record {
        grown = subst (λ l. IsGrown last (reverse l)) (sym same) (grown_rest grown);
        children = of last children kept.children;
        below = All-map Below change nodes (λ i d h. of (get_or nodes i d).0 (get_or nodes i d).1.children (front Was nodes e kept.below i d h));
        room = omega (arith, length-append nodes (e ∷ []), length-map nodes change, kept.room);
      }
    where
      front : (P : List ℕ × Node T → Type 0) (xs : List (List ℕ × Node T)) (x : List ℕ × Node T) → All P (xs ++ x ∷ []) → All P xs
      front P [] x h = All-nil P
      front P (y ∷ xs) x h = All-cons P y xs (All-head P y (xs ++ x ∷ []) h) (front P xs x (All-tail P y (xs ++ x ∷ []) h))
