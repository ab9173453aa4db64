-- Lemmas on nodes, of which the edges to their parents are kept in order.
use Rattle.std.proofs.Common.{◌≡◌, ℕ, zero, suc, ◌+◌, ◌<◌, ◌≤◌, Bool, false, not, nat_eq, nat_lt, cond, List, [], ◌∷◌, ◌++◌, length, take, drop, map, bytes_eq, Option, Some, None, is_some, ◌==◌, ◌||◌, reverse, slice_get, slice_set, slice_index_or, refl, sym, ap, subst, ◌∙◌, arith, append-nil}
use Rattle.std.specs.List.{AllByRecursion, IsDistinct, list_any, position, prefix_len, remove}
use Rattle.std.specs.Map.{keys_of, lookup, values_of}
use Rattle.std.specs.Option.{option_map, option_map_or}
use Rattle.std.proofs.lemmas.Bool.{eqb-true}
use Rattle.std.proofs.lemmas.List.{length-map, map-append}
use Rattle.std.proofs.lemmas.Option.{none-some, same_Some, slice_get-map, slice_get_within}
use Rattle.snow_board.proofs.Cases.{split_on, differs_back}
use Rattle.snow_tree.specs.declared.node.Node.{Node}
use Rattle.snow_tree.specs.Kept.Hints.{hint_of, slot_of}
use Rattle.snow_tree.specs.Kept.Row.{Edge, IsBefore, IsOwn, AreInOrder, IsNumbered, edge_of, edges_of, gives_way, number_at, set_children_at, set_load_at, untold}
use Rattle.snow_tree.proofs.Ordered.{split_at, of_all, none_position, position_at, another_number, number_tests}
use Rattle.snow_tree.proofs.Searched.{node_at}
use Rattle.snow_tree.proofs.Told.{one_gone, own_number, way_at}
use Rattle.snow_board.specs.Kept.Grown.{is_on, IsGrown}
use Rattle.snow_board.proofs.Grown.{has_block-reverse}
use Rattle.snow_tree.specs.Kept.Held.{children_of}
use Rattle.snow_tree.specs.Kept.Nodes.{blocks_of}
use Rattle.snow_tree.proofs.Listed.{no_children}
use Rattle.snow_tree.proofs.Placed.{place_same, position_cons}

-- ---- the edges of nodes

-- a place in a list that is read
position-map : {X Y : Type 0} (f : X → Y) (p : Y → Bool) (xs : List X) → position p (map f xs) ≡ position (λ x. p (f x)) xs
position-map {X = X} f p xs = λ j. cond (nat_lt (lens xs j) (length-map xs f j)) (Some (lens xs j)) None
  where
    lens : (ys : List X) → prefix_len (λ y. not (p y)) (map f ys) ≡ prefix_len (λ x. not (p (f x))) ys
    lens [] = refl
    lens (y ∷ ys) =
        split_on (p (f y))
        (λ t. rw t refl)
        (λ t. rw t (ap (λ n. 1 + n) (lens ys)))

module _ {T : Type 0} where
  -- a block's place among the edges is its node's
  pub edge_place : (nodes : List (List ℕ × Node T)) (id : List ℕ) → position (λ x. bytes_eq x.id id) (edges_of nodes) ≡ position (λ e. bytes_eq e.0 id) nodes
  edge_place nodes id = position-map edge_of (λ x. bytes_eq x.id id) nodes

  -- so it depends on the keys alone
  pub edge_key : (nodes : List (List ℕ × Node T)) (id : List ℕ) → position (λ x. bytes_eq x.id id) (edges_of nodes) ≡ position (bytes_eq id) (keys_of nodes)
  edge_key nodes id = edge_place nodes id ∙ sym (place_same nodes id)

  -- no key stands twice
  pub keys_apart : (nodes : List (List ℕ × Node T)) → AreInOrder (edges_of nodes) → IsDistinct bytes_eq (keys_of nodes)
  unfolding IsDistinct
  keys_apart [] h = tt
  keys_apart (e ∷ nodes) h = (others e nodes h.0, keys_apart nodes h.1)
    where
      others : (x : List ℕ × Node T) (xs : List (List ℕ × Node T)) → AllByRecursion (IsBefore (edge_of x)) (edges_of xs) → AllByRecursion (λ y. bytes_eq x.0 y ≡ false) (keys_of xs)
      others x [] h = tt
      others x (y ∷ xs) h = (h.0.apart, others x xs h.1)

  -- ---- writes that keep what is read

  pub read_through : {Y : Type 0} (f : List ℕ × Node T → Y) (change : List ℕ × Node T → List ℕ × Node T) → ((e : List ℕ × Node T) → f (change e) ≡ f e) → (nodes : List (List ℕ × Node T))
      → map f (map change nodes) ≡ map f nodes
  read_through f change same [] = refl
  read_through f change same (e ∷ nodes) = λ j. same e j ∷ read_through f change same nodes j

  -- another load
  pub read_loaded : {Y : Type 0} (f : List ℕ × Node T → Y) (nodes : List (List ℕ × Node T)) (i : ℕ) (w : T) → ((e : List ℕ × Node T) → f (e.0, record e.1 { load = w }) ≡ f e) → map f (set_load_at nodes i w) ≡ map f nodes
  read_loaded f [] i w same = refl
  read_loaded f (e ∷ nodes) zero w same = ap (λ y. y ∷ map f nodes) (same e)
  read_loaded f (e ∷ nodes) (suc i) w same = ap (λ l. f e ∷ l) (read_loaded f nodes i w same)

  pub load_written : (nodes : List (List ℕ × Node T)) (i : ℕ) (e : List ℕ × Node T) (w : T) → i < length nodes → e ≡ slice_index_or nodes i e → slice_set nodes i (e.0, record e.1 { load = w }) ≡ set_load_at nodes i w
  load_written [] i e w h is = absurd (omega (arith, h))
  load_written (x ∷ nodes) zero e w h is = ap (λ (y : List ℕ × Node T). (y.0, record y.1 { load = w }) ∷ nodes) is
  load_written (x ∷ nodes) (suc i) e w h is = ap (λ l. x ∷ l) (load_written nodes i e w (omega (arith, h)) is)

  -- other children
  pub read_linked : {Y : Type 0} (f : List ℕ × Node T → Y) (nodes : List (List ℕ × Node T)) (i : ℕ) (w : List (List ℕ)) → ((e : List ℕ × Node T) → f (e.0, record e.1 { children = w }) ≡ f e) → map f (set_children_at nodes i w) ≡ map f nodes
  read_linked f [] i w same = refl
  read_linked f (e ∷ nodes) zero w same = ap (λ y. y ∷ map f nodes) (same e)
  read_linked f (e ∷ nodes) (suc i) w same = ap (λ l. f e ∷ l) (read_linked f nodes i w same)

  pub children_written : (nodes : List (List ℕ × Node T)) (i : ℕ) (e : List ℕ × Node T) (w : List (List ℕ)) → i < length nodes → e ≡ slice_index_or nodes i e → slice_set nodes i (e.0, record e.1 { children = w }) ≡ set_children_at nodes i w
  children_written [] i e w h is = absurd (omega (arith, h))
  children_written (x ∷ nodes) zero e w h is = ap (λ (y : List ℕ × Node T). (y.0, record y.1 { children = w }) ∷ nodes) is
  children_written (x ∷ nodes) (suc i) e w h is = ap (λ l. x ∷ l) (children_written nodes i e w (omega (arith, h)) is)

  -- what stands at a place
  pub node_there : (nodes : List (List ℕ × Node T)) (i : ℕ) (e : List ℕ × Node T) → i < length nodes → e ≡ slice_index_or nodes i e → slice_get nodes i ≡ Some e
  node_there [] i e h is = absurd (omega (arith, h))
  node_there (x ∷ nodes) zero e h is = ap Some (sym is)
  node_there (x ∷ nodes) (suc i) e h is = node_there nodes i e (omega (arith, h)) is

  pub value_there : (nodes : List (List ℕ × Node T)) (i : ℕ) (e : List ℕ × Node T) → slice_get nodes i ≡ Some e → Some e.1 ≡ slice_get (values_of nodes) i
  value_there nodes i e at = sym (slice_get-map (λ x. x.1) nodes i ∙ ap (option_map (λ x. x.1)) at)

  pub value_missing : (nodes : List (List ℕ × Node T)) (i : ℕ) → length nodes ≤ i → None ≡ slice_get (values_of nodes) i
  value_missing [] zero h = refl
  value_missing [] (suc i) h = refl
  value_missing (e ∷ nodes) zero h = absurd (omega (arith, h))
  value_missing (e ∷ nodes) (suc i) h = value_missing nodes i (omega (arith, h))

  pub node_missing : (nodes : List (List ℕ × Node T)) (i : ℕ) → length nodes ≤ i → None ≡ slice_get nodes i
  node_missing [] zero h = refl
  node_missing [] (suc i) h = refl
  node_missing (e ∷ nodes) zero h = absurd (omega (arith, h))
  node_missing (e ∷ nodes) (suc i) h = node_missing nodes i (omega (arith, h))

  -- the number at a place
  pub number_read : (nodes : List (List ℕ × Node T)) (place r : ℕ) → ((e : List ℕ × Node T) → slice_get nodes place ≡ Some e → r ≡ e.1.number) → (slice_get nodes place ≡ None → r ≡ 0) → r ≡ number_at nodes (Some place)
  number_read nodes place r some none = by (slice_get nodes place) refl
    where
      by : (o : Option (List ℕ × Node T)) → slice_get nodes place ≡ o → r ≡ option_map_or (λ e. e.1.number) o 0
      by None e = none e
      by (Some x) e = some x e

  -- ---- nodes that leave

  pub last_own : (nodes : List (List ℕ × Node T)) (e : List ℕ × Node T) (number : List ℕ → Option ℕ) (slots : List ℕ) (next : ℕ) → IsNumbered (edges_of (nodes ++ e ∷ [])) number slots next
      → number e.0 ≡ untold (hint_of slots e.0) (Some e.1.number)
  last_own nodes e number slots next is = own_number (edges_of (nodes ++ e ∷ [])) (length nodes) (edge_of e) number slots next is (slice_get-map edge_of (nodes ++ e ∷ []) (length nodes) ∙ ap (option_map edge_of) (end nodes))
    where
      end : (xs : List (List ℕ × Node T)) → slice_get (xs ++ e ∷ []) (length xs) ≡ Some e
      end [] = refl
      end (x ∷ xs) = end xs

  pub last_gone : (nodes : List (List ℕ × Node T)) (e : List ℕ × Node T) (number now : List ℕ → Option ℕ) (slots : List ℕ) (next : ℕ) → IsNumbered (edges_of (nodes ++ e ∷ [])) number slots next
      → ((q : List ℕ) → now q ≡ cond (bytes_eq e.0 q) None (number q)) → IsNumbered (edges_of nodes) now slots next
  last_gone nodes e number now slots next is says =
      subst (λ l. IsNumbered l now slots next) (append-nil (edges_of nodes))
      (one_gone (edges_of nodes) (edge_of e) [] number now slots next (subst (λ l. IsNumbered l number slots next) (map-append edge_of nodes (e ∷ [])) is) says)

  pub place_own : (nodes : List (List ℕ × Node T)) (i : ℕ) (e : List ℕ × Node T) (number : List ℕ → Option ℕ) (slots : List ℕ) (next : ℕ) → IsNumbered (edges_of nodes) number slots next
      → slice_get nodes i ≡ Some e → number e.0 ≡ untold (hint_of slots e.0) (Some e.1.number)
  place_own nodes i e number slots next is at = own_number (edges_of nodes) i (edge_of e) number slots next is (slice_get-map edge_of nodes i ∙ ap (option_map edge_of) at)

  pub place_gone : (nodes : List (List ℕ × Node T)) (i : ℕ) (e : List ℕ × Node T) (number now : List ℕ → Option ℕ) (slots : List ℕ) (next : ℕ) → IsNumbered (edges_of nodes) number slots next
      → slice_get nodes i ≡ Some e → ((q : List ℕ) → now q ≡ cond (bytes_eq e.0 q) None (number q)) → IsNumbered (edges_of (remove nodes i)) now slots next
  place_gone nodes i e number now slots next is at says =
      let front = take i nodes in
      let back = drop (suc i) nodes in
      let parts : edges_of nodes ≡ edges_of front ++ edge_of e ∷ edges_of back = ap edges_of (split_at nodes i e at) ∙ map-append edge_of front (e ∷ back) in
      subst (λ l. IsNumbered l now slots next) (sym (map-append edge_of front back))
      (one_gone (edges_of front) (edge_of e) (edges_of back) number now slots next (subst (λ l. IsNumbered l number slots next) parts is) says)

  -- ---- what is looked up

  abbrev value_at : List (List ℕ × Node T) → Option ℕ → Option (Node T)
  value_at nodes None = None
  value_at nodes (Some i) = slice_get (values_of nodes) i

  value_found : (test : List ℕ → Bool) (nodes : List (List ℕ × Node T)) → value_at nodes (position test (keys_of nodes)) ≡ lookup test nodes
  value_found test [] = refl
  value_found test (e ∷ nodes) =
      ap (value_at (e ∷ nodes)) (position_cons test e.0 (keys_of nodes))
      ∙ split_on (test e.0)
      (λ t. rw t refl)
      (λ t. rw t (later (position test (keys_of nodes)) ∙ value_found test nodes))
    where
      later : (o : Option ℕ) → value_at (e ∷ nodes) (option_map suc o) ≡ value_at nodes o
      later None = refl
      later (Some i) = refl

  -- the node at the place of an identifier
  pub looked_at : (nodes : List (List ℕ × Node T)) (id : List ℕ) (at : Option ℕ) (r : Option (Node T)) → at ≡ position (λ x. bytes_eq x.id id) (edges_of nodes)
      → ((i : ℕ) → at ≡ Some i → r ≡ slice_get (values_of nodes) i) → (at ≡ None → r ≡ None) → r ≡ lookup (bytes_eq id) nodes
  looked_at nodes id at r is some none = by (position (bytes_eq id) (keys_of nodes)) refl
    where
      same : at ≡ position (bytes_eq id) (keys_of nodes)
      same = is ∙ edge_key nodes id

      by : (o : Option ℕ) → position (bytes_eq id) (keys_of nodes) ≡ o → r ≡ lookup (bytes_eq id) nodes
      by None e = none (same ∙ e) ∙ sym (ap (value_at nodes) e) ∙ value_found (bytes_eq id) nodes
      by (Some i) e = some i (same ∙ e) ∙ sym (ap (value_at nodes) e) ∙ value_found (bytes_eq id) nodes

  -- ---- a node that comes

  unfound_apart : (nodes : List (List ℕ × Node T)) (k : List ℕ) → lookup (bytes_eq k) nodes ≡ None → AllByRecursion (λ e. bytes_eq e.id k ≡ false) (edges_of nodes)
  unfound_apart [] k none = tt
  unfound_apart (e ∷ nodes) k none =
      split_on (bytes_eq k e.0)
      (λ t. absurd (none-some e.1 (let m = rw t at none in sym m)))
      (λ t. let m = rw t at none in (differs_back e.0 k t, unfound_apart nodes k m))

  -- the number of its parent's place leads to the parent alone
  leads_up : (nodes : List (List ℕ × Node T)) (parent : List ℕ) (at : Option ℕ) (next : ℕ) → AreInOrder (edges_of nodes) → AllByRecursion (IsOwn next) (edges_of nodes)
      → at ≡ position (λ e. bytes_eq e.id parent) (edges_of nodes) → AllByRecursion (λ e. bytes_eq e.id parent ≡ nat_eq e.number (number_at nodes at)) (edges_of nodes)
  leads_up nodes parent None next order own is = both (edges_of nodes) own (none_position (λ e. bytes_eq e.id parent) (edges_of nodes) (sym is))
    where
      both : (xs : List Edge) → AllByRecursion (IsOwn next) xs → AllByRecursion (λ e. bytes_eq e.id parent ≡ false) xs → AllByRecursion (λ e. bytes_eq e.id parent ≡ nat_eq e.number 0) xs
      both [] o h = tt
      both (x ∷ xs) o h = (h.0 ∙ sym (another_number x.number 0 (omega (arith, o.0.up))), both xs o.1 h.1)
  leads_up nodes parent (Some i) next order own is =
      let x = position_at (λ e. bytes_eq e.id parent) (edges_of nodes) i (sym is) in
      let n = node_at nodes i x.0 x.1 in
      let shape = split_at (edges_of nodes) i x.0 x.1 in
      let tests = number_tests (take i (edges_of nodes)) x.0 (drop (suc i) (edges_of nodes)) parent (subst AreInOrder shape order) x.2 in
      let number : number_at nodes (Some i) ≡ x.0.number = ap (λ o. option_map_or (λ e. e.1.number) o 0) n.1 ∙ ap (λ (e : Edge). e.number) n.2 in
      subst (λ m. AllByRecursion (λ e. bytes_eq e.id parent ≡ nat_eq e.number m) (edges_of nodes)) (sym number)
      (subst (AllByRecursion (λ e. bytes_eq e.id parent ≡ nat_eq e.number x.0.number)) (sym shape) tests)

  low_up : (nodes : List (List ℕ × Node T)) (at : Option ℕ) (next : ℕ) → 0 < next → AllByRecursion (IsOwn next) (edges_of nodes) → number_at nodes at < next
  low_up nodes None next begun own = begun
  low_up nodes (Some i) next begun own = by (slice_get nodes i) refl
    where
      by : (o : Option (List ℕ × Node T)) → slice_get nodes i ≡ o → option_map_or (λ e. e.1.number) o 0 < next
      by None e = begun
      by (Some x) e = let is : IsOwn next (edge_of x) = of_all (IsOwn next) (edges_of nodes) i (edge_of x) own (slice_get-map edge_of nodes i ∙ ap (option_map edge_of) e) in is.number

  -- so all stand before it
  pub before_new : (nodes : List (List ℕ × Node T)) (x : Edge) (at : Option ℕ) (number : List ℕ → Option ℕ) (slots : List ℕ) (next : ℕ) → IsNumbered (edges_of nodes) number slots next
      → x.number ≡ next → x.up ≡ number_at nodes at → bytes_eq x.id x.parent ≡ false → lookup (bytes_eq x.id) nodes ≡ None → at ≡ position (λ e. bytes_eq e.0 x.parent) nodes
      → AllByRecursion (λ e. bytes_eq x.id e.parent ≡ false) (edges_of nodes) → AllByRecursion (λ e. IsBefore e x) (edges_of nodes) × IsOwn (next + 1) x
  before_new nodes x at number slots next is new up other unfound place childless = (
    all (edges_of nodes) is.own (unfound_apart nodes x.id unfound) (leads_up nodes x.parent at next is.order is.own (place ∙ sym (edge_place nodes x.parent))) childless,
    record { up = omega (arith, up, new, low_up nodes at next is.begun is.own); number = omega (arith, new); other = other },
  )
    where
      all : (xs : List Edge) → AllByRecursion (IsOwn next) xs → AllByRecursion (λ e. bytes_eq e.id x.id ≡ false) xs → AllByRecursion (λ e. bytes_eq e.id x.parent ≡ nat_eq e.number (number_at nodes at)) xs
          → AllByRecursion (λ e. bytes_eq x.id e.parent ≡ false) xs → AllByRecursion (λ e. IsBefore e x) xs
      all [] o a l c = tt
      all (y ∷ ys) o a l c =
          (record { rises = omega (arith, o.0.number, new); apart = a.0; leads = l.0 ∙ ap (nat_eq y.number) (sym up); first = c.0 }, all ys o.1 a.1 l.1 c.1)

  -- whether one that has its number where another is told gives way
  pub gives_way_at : (nodes : List (List ℕ × Node T)) (slots : List ℕ) (n place : ℕ) (e : List ℕ × Node T) (k q : List ℕ) → AreInOrder (edges_of nodes)
      → position (λ x. nat_eq x.number n) (edges_of nodes) ≡ Some place → e ≡ slice_index_or nodes place e
      → gives_way slots (edges_of nodes) n k q ≡ cond (bytes_eq e.0 q) (slot_of (length slots) e.0 == slot_of (length slots) k) false
  gives_way_at nodes slots n place e k q order at is =
      let x = position_at (λ y. nat_eq y.number n) (edges_of nodes) place at in
      let node = node_at nodes place x.0 x.1 in
      let there : slice_get nodes place ≡ Some e = node_there nodes place e (slice_get_within nodes place node.0 node.1) is in
      let seen : slice_get (edges_of nodes) place ≡ Some (edge_of e) = slice_get-map edge_of nodes place ∙ ap (option_map edge_of) there in
      let number : e.1.number ≡ n = ap (λ (y : Edge). y.number) (same_Some (edge_of e) x.0 (sym seen ∙ x.1)) ∙ eqb-true x.0.number n x.2 in
      ap (λ m. gives_way slots (edges_of nodes) m k q) (sym number) ∙ way_at slots (edges_of nodes) place (edge_of e) k q order seen

  -- whether a number is that of one of them
  pub number_among : (nodes : List (List ℕ × Node T)) (n : ℕ) → is_some (position (λ e. nat_eq e.number n) (edges_of nodes)) ≡ list_any (λ x. nat_eq x.1.number n) nodes
  number_among [] n = refl
  number_among (e ∷ nodes) n =
      ap is_some (position_cons (λ x. nat_eq x.number n) (edge_of e) (edges_of nodes))
      ∙ split_on (nat_eq e.1.number n)
      (λ t. rw t refl)
      (λ t. rw t (mapped (position (λ x. nat_eq x.number n) (edges_of nodes)) ∙ number_among nodes n))
    where
      mapped : (o : Option ℕ) → is_some (option_map suc o) ≡ is_some o
      mapped None = refl
      mapped (Some i) = refl

  -- a change that keeps identifiers keeps places
  pub same_place : (nodes : List (List ℕ × Node T)) (change : List ℕ × Node T → List ℕ × Node T) (id : List ℕ) → ((e : List ℕ × Node T) → edge_of (change e) ≡ edge_of e)
      → position (λ e. bytes_eq e.0 id) nodes ≡ position (λ e. bytes_eq e.0 id) (map change nodes)
  same_place nodes change id same =
      sym (edge_place nodes id) ∙ ap (position (λ x. bytes_eq x.id id)) (sym (read_through edge_of change same nodes)) ∙ edge_place (map change nodes) id

  -- what isn't on the board is nobody's parent
  pub childless_edges : (last : List ℕ) (nodes : List (List ℕ × Node T)) (k : List ℕ) → IsGrown last (reverse (blocks_of nodes)) → is_on last (blocks_of nodes) k ≡ false
      → AllByRecursion (λ e. bytes_eq k e.parent ≡ false) (edges_of nodes)
  childless_edges last nodes k grown off =
      none nodes (no_children last (blocks_of nodes) k grown (ap (λ t. bytes_eq last k || t) (has_block-reverse (blocks_of nodes) k) ∙ off))
    where
      none : (xs : List (List ℕ × Node T)) → children_of (blocks_of xs) k ≡ [] → AllByRecursion (λ e. bytes_eq k e.parent ≡ false) (edges_of xs)
      none [] h = tt
      none (x ∷ xs) h =
          split_on (bytes_eq x.1.parent k)
          (λ t. absurd (let m = rw t at h in cc))
          (λ t. let m = rw t at h in (differs_back k x.1.parent t, none xs m))
