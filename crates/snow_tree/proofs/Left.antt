-- Lemmas on the nodes that stay when a child of the last accepted block is accepted.
use Rattle.std.proofs.Common.{◌≡◌, ℕ, ◌<◌, Bool, true, false, not, ◌&&◌, List, [], ◌∷◌, length, get_or, drop, reverse, map, filter, cond, bytes_eq, All, Some, None, IfSome, slice_get, find, refl, sym, ap, subst, ◌∙◌, arith}
use Rattle.std.specs.List.{list_any, AllByRecursion, IsDistinct}
use Rattle.std.specs.Map.{lookup, remove_entry, keys_of}
use Rattle.std.specs.Option.{option_map}
use Rattle.std.proofs.lemmas.List.{get_or-map, get_or_default, length-map}
use Rattle.std.proofs.lemmas.List.Sums.{length-filter, count_by-le-length}
use Rattle.std.proofs.lemmas.Map.Entries.{place_from_lookup}
use Rattle.std.proofs.lemmas.List.Elements.{All-head, All-tail, All-filter, filter_passes}
use Rattle.std.proofs.lemmas.Bool.{or_parts, or_left, or_right, and_parts}
use Rattle.std.proofs.lemmas.Option.{none-some, slice_get_within, get_or_from_slice_get}
use Rattle.snow_base.specs.declared.block.Header.{Header}
use Rattle.snow_base.specs.Model.Ancestry.{line_in, descends}
use Rattle.snow_board.specs.Kept.Grown.{has_block, IsGrown}
use Rattle.snow_board.proofs.Cases.{split_on, clash, same_id, id_same, differs_back}
use Rattle.snow_board.proofs.Grown.{grown_parent, grown_rest, has_block-reverse}
use Rattle.snow_board.proofs.Kept.{filter-reverse, grown_kept, has_own}
use Rattle.snow_tree.specs.declared.node.Node.{Node}
use Rattle.snow_tree.specs.Kept.Held.{children_of, stays_with, blocks_in}
use Rattle.snow_tree.specs.Kept.Nodes.{block_of, blocks_of, entry_of, left, outsiders, IsKept}
use Rattle.snow_tree.proofs.Descending.{line_at, descends_at, last_descends, parent_before}
use Rattle.snow_tree.proofs.Listed.{filter_kept}
use Rattle.snow_tree.proofs.Placed.{apart_off}

-- ---- the child itself

-- a block among them is itself or descends from itself
own_line : (blocks : List Header) (child : List ℕ) → has_block blocks child ≡ true → list_any (λ b. bytes_eq b.id child) (line_in blocks child) ≡ true
own_line [] child h = h
own_line (b ∷ earlier) child h =
    split_on (bytes_eq b.id child)
    (λ t. rw t (or_left (bytes_eq b.id child) (list_any (λ b. bytes_eq b.id child) (line_in earlier b.parent)) t))
    (λ t. let k = rw t at h in rw t (own_line earlier child k))

pub own : (bs : List Header) (child : List ℕ) → has_block bs child ≡ true → descends bs child child ≡ true
own bs child h = own_line (reverse bs) child (has_block-reverse bs child ∙ h)

module _ {T : Type 0} where
  -- ---- the only child

  -- where all have the child above them, only it leaves
  only_leaves : (blocks : List Header) (child : List ℕ) (nodes : List (List ℕ × Node T)) → IsDistinct bytes_eq (keys_of nodes)
      → All (λ e. descends blocks child e.0 ≡ true) nodes
      → remove_entry (bytes_eq child) nodes ≡ filter (λ e. descends blocks child e.0 && not (bytes_eq e.0 child)) nodes
  unfolding IsDistinct
  only_leaves blocks child [] unique all = refl
  only_leaves blocks child (e ∷ nodes) unique all =
      let rest : All (λ e. descends blocks child e.0 ≡ true) nodes = All-tail (λ e. descends blocks child e.0 ≡ true) e nodes all in
      let under : descends blocks child e.0 ≡ true = All-head (λ e. descends blocks child e.0 ≡ true) e nodes all in
      split_on (bytes_eq child e.0)
      (λ t.
      let is : e.0 ≡ child = sym (same_id child e.0 t) in
      rw (t, under, id_same e.0 child is) (sym (none_leaves nodes (ap (has_block (blocks_of nodes)) (sym is) ∙ apart_off nodes e.0 unique.0) rest)))
      (λ t. rw (t, under, differs_back e.0 child t) (ap (λ l. e ∷ l) (only_leaves blocks child nodes unique.1 rest)))
    where
      none_leaves : (xs : List (List ℕ × Node T)) → has_block (blocks_of xs) child ≡ false → All (λ e. descends blocks child e.0 ≡ true) xs
          → filter (λ e. descends blocks child e.0 && not (bytes_eq e.0 child)) xs ≡ xs
      none_leaves [] off all = refl
      none_leaves (x ∷ xs) off all =
          let parts = or_parts (bytes_eq x.0 child) (has_block (blocks_of xs) child) off in
          rw (All-head (λ e. descends blocks child e.0 ≡ true) x xs all, parts.0)
          (ap (λ l. x ∷ l) (none_leaves xs parts.1 (All-tail (λ e. descends blocks child e.0 ≡ true) x xs all)))

-- ---- all descend from an only child

-- among blocks, the latest first, whose only child of the last accepted one is this, all descend from it
under_in : (last child : List ℕ) (blocks : List Header) → IsGrown last blocks
    → AllByRecursion (λ b. bytes_eq b.id child ≡ true) (filter (λ b. bytes_eq b.parent last) blocks)
    → (id : List ℕ) → has_block blocks id ≡ true → list_any (λ b. bytes_eq b.id child) (line_in blocks id) ≡ true
under_in last child [] g only id h = h
under_in last child (b ∷ earlier) g only id h =
    let rest : AllByRecursion (λ b. bytes_eq b.id child ≡ true) (filter (λ b. bytes_eq b.parent last) earlier) = tail (bytes_eq b.parent last) only in
    split_on (bytes_eq b.id id)
    (λ t. rw t (split_on (bytes_eq last b.parent)
    (λ s.
    let is : bytes_eq b.id child ≡ true = let k = rw (id_same b.parent last (sym (same_id last b.parent s))) at only in k.0 in
    or_left (bytes_eq b.id child) (list_any (λ b. bytes_eq b.id child) (line_in earlier b.parent)) is)
    (λ s.
    let on : has_block earlier b.parent ≡ true = rw s at (grown_parent g) in
    or_right (bytes_eq b.id child) (list_any (λ b. bytes_eq b.id child) (line_in earlier b.parent)) (under_in last child earlier (grown_rest g) rest b.parent on))))
    (λ t. let k = rw t at h in rw t (under_in last child earlier (grown_rest g) rest id k))
  where
    tail : (t : Bool) → AllByRecursion (λ b. bytes_eq b.id child ≡ true) (cond t (b ∷ filter (λ b. bytes_eq b.parent last) earlier) (filter (λ b. bytes_eq b.parent last) earlier))
        → AllByRecursion (λ b. bytes_eq b.id child ≡ true) (filter (λ b. bytes_eq b.parent last) earlier)
    tail true h = h.1
    tail false h = h

-- the same in order of issue
pub all_under : (last child : List ℕ) (bs : List Header) → IsGrown last (reverse bs) → children_of bs last ≡ child ∷ [] → All (λ b. descends bs child b.id ≡ true) bs
all_under last child bs g only =
    let of : Header → Bool = λ b. bytes_eq b.parent last in
    let one : AllByRecursion (λ b. bytes_eq b.id child ≡ true) (filter of (reverse bs)) =
    subst (AllByRecursion (λ b. bytes_eq b.id child ≡ true)) (sym (filter-reverse of bs)) (single (filter of bs) only)
    in
    λ k d h. under_in last child (reverse bs) g one (get_or bs k d).id (has_block-reverse bs (get_or bs k d).id ∙ has_own bs k d h)
  where
    single : (xs : List Header) → map (λ b. b.id) xs ≡ child ∷ [] → AllByRecursion (λ b. bytes_eq b.id child ≡ true) (reverse xs)
    single [] e = absurd cc
    single (x ∷ []) e = (id_same x.id child (ap (λ l. head_or l) e), tt)
      where
        head_or : List (List ℕ) → List ℕ
        head_or [] = []
        head_or (y ∷ ys) = y
    single (x ∷ y ∷ xs) e = absurd cc

-- ---- what stays true

-- two blocks of one identifier are one
pub one_block : (last : List ℕ) (bs : List Header) (i j : ℕ) (d : Header) → IsGrown last (reverse bs) → i < length bs → j < length bs
    → (get_or bs i d).id ≡ (get_or bs j d).id → get_or bs i d ≡ get_or bs j d
one_block last bs i j d g h k same =
    let first = line_at last bs i d g h in
    let second = line_at last bs j d g k in
    let both : get_or bs i d ∷ line_in (reverse bs) (get_or bs i d).parent ≡ get_or bs j d ∷ line_in (reverse bs) (get_or bs j d).parent =
    sym first ∙ ap (line_in (reverse bs)) same ∙ second
    in
    cc

-- the children of the child and of its descendants all stay
pub children_stay : (last child q : List ℕ) (bs : List Header) → IsGrown last (reverse bs) → All (λ b. bytes_eq b.id child ≡ true → b.parent ≡ last) bs
    → descends bs child q ≡ true
    → children_of (filter (λ b. descends bs child b.id && not (bytes_eq b.id child)) bs) q ≡ children_of bs q
children_stay last child q bs g parent under =
    ap (map (λ b. b.id)) (filter_kept (λ b. bytes_eq b.parent q) (λ b. descends bs child b.id && not (bytes_eq b.id child)) bs
    (λ i d h t.
    let b = get_or bs i d in
    let is : b.parent ≡ q = same_id b.parent q t in
    let other : bytes_eq b.id child ≡ false =
    split_on (bytes_eq b.id child)
    (λ s. clash (descends bs child last) (ap (descends bs child) (sym (parent i d h s) ∙ is) ∙ under) (last_descends last bs child g))
    (λ s. s)
    in
    let below : descends bs child b.id ≡ true =
    descends_at last bs i d child g h ∙ or_right (bytes_eq b.id child) (descends bs child b.parent) (ap (descends bs child) is ∙ under)
    in
    rw (below, other) refl))

module _ {T : Type 0} where
  -- the blocks of the nodes that stay
  pub blocks-filter : (f : List ℕ → Bool) (nodes : List (List ℕ × Node T)) → blocks_of (filter (λ e. f e.0) nodes) ≡ filter (λ b. f b.id) (blocks_of nodes)
  blocks-filter f [] = refl
  blocks-filter f (e ∷ nodes) =
      split_on (f e.0)
      (λ t. rw t (ap (λ l. block_of e ∷ l) (blocks-filter f nodes)))
      (λ t. rw t (blocks-filter f nodes))

  -- each that stays came after its parent
  pub left_grown : (last child : List ℕ) (nodes : List (List ℕ × Node T)) → IsGrown last (reverse (blocks_of nodes)) → IsGrown child (reverse (blocks_of (left nodes child)))
  left_grown last child nodes g =
      let bs = blocks_of nodes in
      let keep : List ℕ → Bool = λ id. descends bs child id && not (bytes_eq id child) in
      subst (IsGrown child) (filter-reverse (λ b. keep b.id) bs ∙ ap reverse (sym (blocks-filter keep nodes))) (grown_kept last child (reverse bs) g)

  -- what is kept stays true when a child is accepted
  pub kept_accepted : (last child : List ℕ) (children : List (List ℕ)) (nodes now : List (List ℕ × Node T)) (room : ℕ) (n : Node T)
      → IsKept last children nodes room → lookup (bytes_eq child) nodes ≡ Some n → n.parent ≡ last
      → now ≡ left nodes child → IsKept child n.children now room
  kept_accepted last child children nodes now room n kept found parent staying =
      let bs = blocks_of nodes in
      let keep : List ℕ → Bool = λ id. descends bs child id && not (bytes_eq id child) in
      let same : blocks_of (left nodes child) ≡ filter (λ b. keep b.id) bs = blocks-filter keep nodes in
      let at = place_from_lookup (bytes_eq child) nodes n found in
      let inside : at.0 < length nodes = slice_get_within nodes at.0 (at.1, n) at.2 in
      let here : get_or nodes at.0 (at.1, n) ≡ (at.1, n) = get_or_from_slice_get nodes at.0 (at.1, n) (at.1, n) at.2 in
      let is : at.1 ≡ child = sym (same_id child at.1 at.3) in
      let block : get_or bs at.0 (block_of (at.1, n)) ≡ block_of (at.1, n) = get_or-map block_of nodes at.0 (at.1, n) (block_of (at.1, n)) inside ∙ ap block_of here in
      let within : at.0 < length bs = subst (λ m. at.0 < m) (sym (length-map nodes block_of)) inside in
      let on : All (λ b. bytes_eq b.id child ≡ true → b.parent ≡ last) bs =
      λ i d h t.
      ap (λ b. b.parent) (one_block last bs i at.0 d kept.grown h within
      (same_id (get_or bs i d).id child t ∙ sym is ∙ ap (λ b. b.id) (sym block) ∙ ap (λ b. b.id) (get_or_default bs at.0 (block_of (at.1, n)) d within)))
      ∙ ap (λ b. b.parent) (get_or_default bs at.0 d (block_of (at.1, n)) within ∙ block) ∙ parent
      in
      let there : has_block bs child ≡ true =
      ap (has_block bs) (sym is ∙ ap (λ b. b.id) (sym block)) ∙ has_own bs at.0 (block_of (at.1, n)) within
      in
      let stay : (q : List ℕ) → descends bs child q ≡ true → children_of (blocks_of (left nodes child)) q ≡ children_of bs q =
      λ q under. ap (λ l. children_of l q) same ∙ children_stay last child q bs kept.grown on under
      in
      let below : All (λ e. e.1.children ≡ children_of bs e.0) (left nodes child) = All-filter (λ e. keep e.0) (λ e. e.1.children ≡ children_of bs e.0) nodes kept.below in
      let passes : All (λ e. keep e.0 ≡ true) (left nodes child) = filter_passes (λ e. keep e.0) nodes in
      let seen : blocks_of now ≡ blocks_of (left nodes child) = ap blocks_of staying in
      record {
        grown = subst (λ l. IsGrown child (reverse l)) (sym seen) (left_grown last child nodes kept.grown);
        children = ap (λ (e : List ℕ × Node T). e.1.children) (sym here) ∙ kept.below at.0 (at.1, n) inside ∙ ap (λ (e : List ℕ × Node T). children_of bs e.0) here
            ∙ ap (children_of bs) is ∙ sym (stay child (own bs child there)) ∙ ap (λ l. children_of l child) (sym seen);
        below = subst (All (λ e. e.1.children ≡ children_of (blocks_of now) e.0)) (sym staying)
            (λ i d h.
            let id = (get_or (left nodes child) i d).0 in
            below i d h ∙ sym (stay id (and_parts (descends bs child id) (not (bytes_eq id child)) (passes i d h)).0) ∙ ap (λ l. children_of l id) (sym seen));
        room = omega (
          arith,
          ap length staying,
          length-filter (λ (e : List ℕ × Node T). keep e.0) nodes,
          count_by-le-length (λ (e : List ℕ × Node T). keep e.0) nodes,
          kept.room,
        );
      }

  -- ---- what is seen

  -- the pending blocks are those of the nodes
  pub same_blocks : (nodes : List (List ℕ × Node T)) → blocks_in (map entry_of nodes) ≡ blocks_of nodes
  same_blocks [] = refl
  same_blocks (e ∷ nodes) = ap (λ l. block_of e ∷ l) (same_blocks nodes)

  -- a filter of what is seen
  seen_filter : (f : List ℕ → Bool) (nodes : List (List ℕ × Node T)) → map entry_of (filter (λ e. f e.0) nodes) ≡ filter (λ e. f e.block.id) (map entry_of nodes)
  seen_filter f [] = refl
  seen_filter f (e ∷ nodes) =
      split_on (f e.0)
      (λ t. rw t (ap (λ l. entry_of e ∷ l) (seen_filter f nodes)))
      (λ t. rw t (seen_filter f nodes))

  -- the pending blocks that stay
  pub left_seen : (nodes : List (List ℕ × Node T)) (child : List ℕ)
      → map entry_of (left nodes child) ≡ filter (λ e. stays_with (map entry_of nodes) child e && not (bytes_eq e.block.id child)) (map entry_of nodes)
  left_seen nodes child =
      seen_filter (λ id. descends (blocks_of nodes) child id && not (bytes_eq id child)) nodes
      ∙ ap (λ l. filter (λ e. descends l child e.block.id && not (bytes_eq e.block.id child)) (map entry_of nodes)) (sym (same_blocks nodes))

  -- the blocks that are rejected
  pub outsiders_seen : (nodes : List (List ℕ × Node T)) (child : List ℕ)
      → outsiders nodes child ≡ map (λ e. e.block.id) (filter (λ e. not (stays_with (map entry_of nodes) child e)) (map entry_of nodes))
  outsiders_seen nodes child =
      ids (filter (λ e. not (descends (blocks_of nodes) child e.0)) nodes)
      ∙ ap (map (λ e. e.block.id)) (seen_filter (λ id. not (descends (blocks_of nodes) child id)) nodes)
      ∙ ap (λ l. map (λ e. e.block.id) (filter (λ e. not (descends l child e.block.id)) (map entry_of nodes))) (sym (same_blocks nodes))
    where
      ids : (xs : List (List ℕ × Node T)) → map (λ e. e.0) xs ≡ map (λ e. e.block.id) (map entry_of xs)
      ids [] = refl
      ids (x ∷ xs) = ap (λ l. x.0 ∷ l) (ids xs)

  -- the entry of an identifier
  pub found_seen : (nodes : List (List ℕ × Node T)) (child : List ℕ) (n : Node T) → lookup (bytes_eq child) nodes ≡ Some n
      → find (λ e. bytes_eq e.block.id child) (map entry_of nodes) ≡ Some (entry_of (child, n))
  found_seen [] child n h = absurd (none-some n h)
  found_seen (e ∷ nodes) child n h =
      split_on (bytes_eq child e.0)
      (λ t.
      let is : e.0 ≡ child = sym (same_id child e.0 t) in
      let same : Some e.1 ≡ Some n = rw t at h in
      rw (id_same e.0 child is) (cc))
      (λ t. let k = rw t at h in rw (differs_back e.0 child t) (found_seen nodes child n k))

  -- no entry has an identifier that isn't found
  pub none_seen : (nodes : List (List ℕ × Node T)) (child : List ℕ) → lookup (bytes_eq child) nodes ≡ None → find (λ e. bytes_eq e.block.id child) (map entry_of nodes) ≡ None
  none_seen [] child h = refl
  none_seen (e ∷ nodes) child h =
      split_on (bytes_eq child e.0)
      (λ t. absurd (none-some e.1 (let k = rw t at h in sym k)))
      (λ t. let k = rw t at h in rw (differs_back e.0 child t) (none_seen nodes child k))

  -- ---- the child that leaves, and an only child

  -- where the child is the only one, all descend from it
  all_stay : (last child : List ℕ) (nodes : List (List ℕ × Node T)) → IsGrown last (reverse (blocks_of nodes)) → children_of (blocks_of nodes) last ≡ child ∷ []
      → All (λ e. descends (blocks_of nodes) child e.0 ≡ true) nodes
  all_stay last child nodes g only =
      λ k d h.
      let bs = blocks_of nodes in
      subst (λ (b : Header). descends bs child b.id ≡ true) (get_or-map block_of nodes k d (block_of d) h)
      (all_under last child bs g only k (block_of d) (subst (λ n. k < n) (sym (length-map nodes block_of)) h))

  -- and it was issued first
  issued_first : (last child : List ℕ) (e : List ℕ × Node T) (nodes : List (List ℕ × Node T)) → IsGrown last (reverse (blocks_of (e ∷ nodes)))
      → children_of (blocks_of (e ∷ nodes)) last ≡ child ∷ [] → bytes_eq child e.0 ≡ true
  issued_first last child e nodes g only =
      let b = block_of e in
      split_on (bytes_eq last b.parent)
      (λ t.
      let whole : b.id ∷ children_of (blocks_of nodes) last ≡ child ∷ [] = rw (id_same b.parent last (sym (same_id last b.parent t))) at only in
      id_same child b.id (sym (first_is whole)))
      (λ t. absurd (let before : false ≡ true = parent_before last (blocks_of (e ∷ nodes)) 0 b g (omega arith) t in cc))
    where
      first_is : {x : List ℕ} {xs : List (List ℕ)} → x ∷ xs ≡ child ∷ [] → x ≡ child
      first_is h = cc

  -- so it alone leaves
  pub alone_left : (last child : List ℕ) (nodes : List (List ℕ × Node T)) → IsGrown last (reverse (blocks_of nodes)) → IsDistinct bytes_eq (keys_of nodes)
      → children_of (blocks_of nodes) last ≡ child ∷ [] → drop 1 nodes ≡ left nodes child
  alone_left last child [] g unique only = absurd cc
  alone_left last child (e ∷ nodes) g unique only =
      let gone : remove_entry (bytes_eq child) (e ∷ nodes) ≡ nodes = rw (issued_first last child e nodes g only) refl in
      sym gone ∙ only_leaves (blocks_of (e ∷ nodes)) child (e ∷ nodes) unique (all_stay last child (e ∷ nodes) g only)

  -- and it is the first node
  pub alone_found : (last child : List ℕ) (nodes : List (List ℕ × Node T)) → IsGrown last (reverse (blocks_of nodes)) → children_of (blocks_of nodes) last ≡ child ∷ []
      → option_map (λ e. e.1) (slice_get nodes 0) ≡ lookup (bytes_eq child) nodes
  alone_found last child [] g only = absurd cc
  alone_found last child (e ∷ nodes) g only = rw (issued_first last child e nodes g only) refl

  -- so what holds of the first node holds of it
  pub alone_first : (last child : List ℕ) (nodes : List (List ℕ × Node T)) (P : Node T → Type 0) → IsGrown last (reverse (blocks_of nodes))
      → children_of (blocks_of nodes) last ≡ child ∷ [] → ((e : List ℕ × Node T) (later : List (List ℕ × Node T)) → nodes ≡ e ∷ later → P e.1)
      → IfSome (lookup (bytes_eq child) nodes) P
  alone_first last child [] P g only first = absurd cc
  alone_first last child (e ∷ nodes) P g only first = subst (λ o. IfSome o P) (alone_found last child (e ∷ nodes) g only) (first e nodes refl)

  -- and none is rejected
  pub alone_told : (last child : List ℕ) (nodes : List (List ℕ × Node T)) → IsGrown last (reverse (blocks_of nodes)) → children_of (blocks_of nodes) last ≡ child ∷ []
      → outsiders nodes child ≡ []
  alone_told last child nodes g only = ap (map (λ e. e.0)) (none (λ e. descends (blocks_of nodes) child e.0) nodes (all_stay last child nodes g only))
    where
      none : (p : List ℕ × Node T → Bool) (xs : List (List ℕ × Node T)) → All (λ e. p e ≡ true) xs → filter (λ e. not (p e)) xs ≡ []
      none p [] all = refl
      none p (x ∷ xs) all = rw (All-head (λ e. p e ≡ true) x xs all) (none p xs (All-tail (λ e. p e ≡ true) x xs all))
