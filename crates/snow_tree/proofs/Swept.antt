-- Lemmas on the pass in which those leave that don't descend from the child that is accepted.
use Rattle.std.proofs.Common.{◌≡◌, ℕ, suc, Bool, true, false, not, ◌&&◌, ◌||◌, nat_eq, List, [], ◌∷◌, ◌++◌, get_or, take, drop, reverse, map, filter, cond, bytes_eq, Some, slice_get, refl, sym, ap, subst, ◌∙◌, append_assoc, append-nil, arith, if◌then◌else◌}
use Rattle.std.specs.List.{AllByRecursion, list_any, remove}
use Rattle.std.specs.Option.{option_map}
use Rattle.std.proofs.lemmas.Bool.{or_left, or_right}
use Rattle.std.proofs.lemmas.List.{map-append}
use Rattle.std.proofs.lemmas.List.Elements.{filter-append}
use Rattle.std.proofs.lemmas.Option.{slice_get-map, slice_get_within, get_or_from_slice_get}
use Rattle.snow_base.specs.declared.block.Header.{Header}
use Rattle.snow_base.specs.Model.Ancestry.{descends}
use Rattle.snow_board.specs.Kept.Grown.{has_block, IsGrown}
use Rattle.snow_board.proofs.Cases.{split_on, same_id, differs_back}
use Rattle.snow_board.proofs.Grown.{no_line, has_block-reverse}
use Rattle.snow_board.proofs.Kept.{has_filtered}
use Rattle.snow_tree.specs.declared.node.Node.{Node}
use Rattle.snow_tree.specs.Kept.Nodes.{block_of, blocks_of, left, outsiders}
use Rattle.snow_tree.specs.Kept.Row.{Edge, IsBefore, AreInOrder, IsOwn, edge_of, edges_of, is_above, staying, leaving}
use Rattle.snow_tree.proofs.Descending.{descends_at}
use Rattle.snow_tree.proofs.Left.{own, blocks-filter}
use Rattle.snow_tree.proofs.Ordered.{all_without, all_there, all_left, all_weaker, another_number, split_at, order_without, order_front, order_back}

-- whether the block of an identifier stays
abbrev pub stays : List Header → List ℕ → List ℕ → Bool
stays bs child id = descends bs child id && not (bytes_eq id child)

-- who descends from the child is there
descendant_there : (bs : List Header) (child q : List ℕ) → descends bs child q ≡ true → has_block bs q ≡ true
descendant_there bs child q under =
    split_on (has_block bs q)
    (λ t. t)
    (λ t. absurd (let none = ap (list_any (λ b. bytes_eq b.id child)) (no_line (reverse bs) q (has_block-reverse bs q ∙ t)) in let clashes : true ≡ false = sym under ∙ none in cc))

-- what is so of each is so of all
all_of : {X : Type 0} (P : X → Type 0) (xs : List X) → ((i : ℕ) (x : X) → slice_get xs i ≡ Some x → P x) → AllByRecursion P xs
all_of P [] h = tt
all_of P (x ∷ xs) h = (h 0 x refl, all_of P xs (λ i y at. h (suc i) y at))

all_append : {X : Type 0} (P : X → Type 0) (xs ys : List X) → AllByRecursion P xs → AllByRecursion P ys → AllByRecursion P (xs ++ ys)
all_append P [] ys front back = back
all_append P (x ∷ xs) ys front back = (front.0, all_append P xs ys front.1 back)

module _ {T : Type 0} where
  -- what is known of a node when another is accepted: it isn't that one, and its note leads there exactly where that is its parent
  pub record IsOther (bs : List Header) (child : List ℕ) (number : ℕ) (e : List ℕ × Node T) : Type 0 where
    pub step : descends bs child e.0 ≡ (bytes_eq e.0 child || descends bs child e.1.parent)
    pub other : bytes_eq e.0 child ≡ false
    pub leads : bytes_eq child e.1.parent ≡ nat_eq number e.1.up

  -- all are in order, each is another one, and who descends from that one is among them
  pub record AreOthers (bs : List Header) (child : List ℕ) (number next : ℕ) (rest : List (List ℕ × Node T)) : Type 0 where
    pub order : AreInOrder (edges_of rest)
    pub own : AllByRecursion (IsOwn next) (edges_of rest)
    pub others : AllByRecursion (IsOther bs child number) rest
    pub itself : descends bs child child ≡ true
    pub there : (q : List ℕ) → descends bs child q ≡ true → bytes_eq q child ≡ false → has_block (blocks_of rest) q ≡ true

  through-map : (P : Edge → Type 0) (xs : List (List ℕ × Node T)) → AllByRecursion P (edges_of xs) → AllByRecursion (λ e. P (edge_of e)) xs
  through-map P [] h = tt
  through-map P (x ∷ xs) h = (h.0, through-map P xs h.1)

  there-append : (xs ys : List (List ℕ × Node T)) (q : List ℕ) → has_block (blocks_of (xs ++ ys)) q ≡ (has_block (blocks_of xs) q || has_block (blocks_of ys) q)
  there-append [] ys q = refl
  there-append (x ∷ xs) ys q =
      split_on (bytes_eq x.0 q)
      (λ t. rw t refl)
      (λ t. rw t (there-append xs ys q))

  -- no block is the parent of one before it
  later_off : (e : List ℕ × Node T) (later : List (List ℕ × Node T)) → AllByRecursion (IsBefore (edge_of e)) (edges_of later) → has_block (blocks_of later) e.1.parent ≡ false
  later_off e [] h = refl
  later_off e (x ∷ later) h = rw h.0.first (later_off e later h.1)

  -- a note leads to one of those that stay exactly where the parent is one of them
  leads_among : (keep : List ℕ × Node T → Bool) (e : List ℕ × Node T) (done : List (List ℕ × Node T)) → AllByRecursion (λ d. IsBefore d (edge_of e)) (edges_of done)
      → list_any (λ x. nat_eq x.1.number e.1.up) (filter keep done) ≡ has_block (blocks_of (filter keep done)) e.1.parent
  leads_among keep e [] h = refl
  leads_among keep e (d ∷ done) h =
      split_on (keep d)
      (λ t. rw t (λ j. sym h.0.leads j || leads_among keep e done h.1 j))
      (λ t. rw t (leads_among keep e done h.1))

  -- so a node is found above the child exactly where it stays
  decides : (bs : List Header) (child : List ℕ) (number next : ℕ) (done : List (List ℕ × Node T)) (e : List ℕ × Node T) (later : List (List ℕ × Node T))
      → AreOthers bs child number next (done ++ e ∷ later) → IsOther bs child number e
      → is_above number (filter (λ x. stays bs child x.0) done) e ≡ stays bs child e.0
  decides bs child number next done e later are is =
      let q = e.1.parent in
      let keep : List ℕ × Node T → Bool = λ x. stays bs child x.0 in
      let shape : edges_of (done ++ e ∷ later) ≡ edges_of done ++ edge_of e ∷ edges_of later = map-append edge_of done (e ∷ later) in
      let order = subst AreInOrder shape are.order in
      let own : IsOwn next (edge_of e) = all_there (IsOwn next) (edges_of done) (edge_of e) (edges_of later) (subst (AllByRecursion (IsOwn next)) shape are.own) in
      let among : has_block (blocks_of (filter keep done)) q ≡ (has_block (blocks_of done) q && stays bs child q) =
      ap (λ l. has_block l q) (blocks-filter (stays bs child) done) ∙ has_filtered (stays bs child) (blocks_of done) q
      in
      let here : (bytes_eq child q || (has_block (blocks_of done) q && stays bs child q)) ≡ descends bs child q =
      split_on (bytes_eq child q)
      (λ t. rw t (sym (ap (descends bs child) (sym (same_id child q t)) ∙ are.itself)))
      (λ t.
      let apart : bytes_eq q child ≡ false = differs_back q child t in
      rw (t, apart) (split_on (descends bs child q)
      (λ w.
      let on : has_block (blocks_of (done ++ e ∷ later)) q ≡ true = are.there q w apart in
      let off : (bytes_eq e.0 q || has_block (blocks_of later) q) ≡ false =
      rw own.other (later_off e later (order_back (edges_of done) (edge_of e) (edges_of later) order))
      in
      rw (w, front (has_block (blocks_of done) q) _ (sym (there-append done (e ∷ later) q) ∙ on) off) refl)
      (λ w. rw w (none (has_block (blocks_of done) q)))))
      in
      (λ j. sym is.leads j || (leads_among keep e done (order_front (edges_of done) (edge_of e) (edges_of later) order) ∙ among) j)
      ∙ here
      ∙ sym (kept (descends bs child e.0) (bytes_eq e.0 child) (descends bs child q) is.step is.other)
    where
      kept : (under same above : Bool) → under ≡ (same || above) → same ≡ false → (under && not same) ≡ above
      kept true false above step other = step
      kept false false above step other = step
      kept under true above step other = absurd cc

      front : (a b : Bool) → (a || b) ≡ true → b ≡ false → a ≡ true
      front true b h off = refl
      front false b h off = absurd (let clashes : true ≡ false = sym h ∙ off in cc)

      none : (a : Bool) → (a && false) ≡ false
      none true = refl
      none false = refl

  -- those that stay with the first of them, and all
  swept : (bs : List Header) (child : List ℕ) (number next : ℕ) (done later : List (List ℕ × Node T)) → AreOthers bs child number next (done ++ later)
      → AllByRecursion (IsOther bs child number) later
      → staying number (filter (λ x. stays bs child x.0) done) later ≡ filter (λ x. stays bs child x.0) (done ++ later)
  swept bs child number next done [] are each = ap (filter (λ x. stays bs child x.0)) (sym (append-nil done))
  swept bs child number next done (e ∷ later) are each =
      let keep : List ℕ × Node T → Bool = λ x. stays bs child x.0 in
      let shape : (done ++ e ∷ []) ++ later ≡ done ++ e ∷ later = append_assoc done (e ∷ []) later in
      let more = swept bs child number next (done ++ e ∷ []) later (subst (AreOthers bs child number next) (sym shape) are) each.1 in
      let one = filter-append keep done (e ∷ []) in
      ap (λ b. if b then staying number (filter keep done ++ e ∷ []) later else staying number (filter keep done) later) (decides bs child number next done e later are each.0)
      ∙ split_on (keep e)
      (λ t. rw t (ap (λ l. staying number l later) (sym (one ∙ rw t refl)) ∙ more ∙ ap (filter keep) shape))
      (λ t. rw t (ap (λ l. staying number l later) (sym (one ∙ rw t (append-nil (filter keep done)))) ∙ more ∙ ap (filter keep) shape))

  told : (bs : List Header) (child : List ℕ) (number next : ℕ) (done later : List (List ℕ × Node T)) → AreOthers bs child number next (done ++ later)
      → AllByRecursion (IsOther bs child number) later
      → leaving number (filter (λ x. stays bs child x.0) done) later ≡ map (λ x. x.0) (filter (λ x. not (descends bs child x.0)) later)
  told bs child number next done [] are each = refl
  told bs child number next done (e ∷ later) are each =
      let keep : List ℕ × Node T → Bool = λ x. stays bs child x.0 in
      let shape : (done ++ e ∷ []) ++ later ≡ done ++ e ∷ later = append_assoc done (e ∷ []) later in
      let more = told bs child number next (done ++ e ∷ []) later (subst (AreOthers bs child number next) (sym shape) are) each.1 in
      let one = filter-append keep done (e ∷ []) in
      ap (λ b. if b then leaving number (filter keep done ++ e ∷ []) later else e.0 ∷ leaving number (filter keep done) later)
      (decides bs child number next done e later are each.0)
      ∙ split_on (descends bs child e.0)
      (λ t.
      let in_it : keep e ≡ true = rw (t, each.0.other) refl in
      rw (t, each.0.other) (ap (λ l. leaving number l later) (sym (one ∙ rw in_it refl)) ∙ more))
      (λ t.
      let out : keep e ≡ false = rw t refl in
      rw t (ap (λ l. e.0 ∷ l) (ap (λ l. leaving number l later) (sym (one ∙ rw out (append-nil (filter keep done)))) ∙ more)))

  -- ---- before the pass

  -- a node of the identifier that is accepted, at a place
  others : (last child : List ℕ) (front : List (List ℕ × Node T)) (c : List ℕ × Node T) (back : List (List ℕ × Node T)) (next : ℕ)
      → IsGrown last (reverse (blocks_of (front ++ c ∷ back))) → AreInOrder (edges_of (front ++ c ∷ back)) → AllByRecursion (IsOwn next) (edges_of (front ++ c ∷ back)) → bytes_eq c.0 child ≡ true
      → AreOthers (blocks_of (front ++ c ∷ back)) child c.1.number next (front ++ back)
  others last child front c back next grown order own_all is =
      let all = front ++ c ∷ back in
      let bs = blocks_of all in
      let same : c.0 ≡ child = same_id c.0 child is in
      let shape : edges_of all ≡ edges_of front ++ edge_of c ∷ edges_of back = map-append edge_of front (c ∷ back) in
      let rest : edges_of (front ++ back) ≡ edges_of front ++ edges_of back = map-append edge_of front back in
      let ordered = subst AreInOrder shape order in
      let owned = subst (AllByRecursion (IsOwn next)) shape own_all in
      let there : has_block bs child ≡ true =
      there-append front (c ∷ back) child ∙ or_right (has_block (blocks_of front) child) (bytes_eq c.0 child || has_block (blocks_of back) child) (or_left (bytes_eq c.0 child) (has_block (blocks_of back) child) is)
      in
      let step : AllByRecursion (λ e. descends bs child e.0 ≡ (bytes_eq e.0 child || descends bs child e.1.parent)) all =
      all_of (λ e. descends bs child e.0 ≡ (bytes_eq e.0 child || descends bs child e.1.parent)) all
      (λ i e at.
      let seen : slice_get bs i ≡ Some (block_of e) = slice_get-map block_of all i ∙ ap (option_map block_of) at in
      let get : get_or bs i (block_of e) ≡ block_of e = get_or_from_slice_get bs i (block_of e) (block_of e) seen in
      subst (λ (b : Header). descends bs child b.id ≡ (bytes_eq b.id child || descends bs child b.parent)) get
      (descends_at last bs i (block_of e) child grown (slice_get_within bs i (block_of e) seen)))
      in
      let front_owned = all_left (IsOwn next) (edges_of front) (edge_of c ∷ edges_of back) owned in
      let before = both (λ e. IsBefore e (edge_of c)) (IsOwn next) (edges_of front) (order_front (edges_of front) (edge_of c) (edges_of back) ordered) front_owned in
      let behind = order_back (edges_of front) (edge_of c) (edges_of back) ordered in
      let steps = all_without (λ e. descends bs child e.0 ≡ (bytes_eq e.0 child || descends bs child e.1.parent)) front c back step in
      record {
        order = subst AreInOrder (sym rest) (order_without (edges_of front) (edge_of c) (edges_of back) ordered);
        own = subst (AllByRecursion (IsOwn next)) (sym rest) (all_without (IsOwn next) (edges_of front) (edge_of c) (edges_of back) owned);
        others = each bs same (front ++ back) steps
            (all_append (λ e. (bytes_eq e.0 c.0 ≡ false) × (bytes_eq c.0 e.1.parent ≡ nat_eq c.1.number e.1.up)) front back
            (all_weaker (λ e. IsBefore (edge_of e) (edge_of c) × IsOwn next (edge_of e)) (λ e. (bytes_eq e.0 c.0 ≡ false) × (bytes_eq c.0 e.1.parent ≡ nat_eq c.1.number e.1.up))
            (λ e b. (b.0.apart, b.0.first ∙ sym (another_number c.1.number e.1.up (omega (arith, b.0.rises, b.1.up)))))
            front (through-map (λ e. IsBefore e (edge_of c) × IsOwn next e) front before))
            (all_weaker (λ e. IsBefore (edge_of c) (edge_of e)) (λ e. (bytes_eq e.0 c.0 ≡ false) × (bytes_eq c.0 e.1.parent ≡ nat_eq c.1.number e.1.up))
            (λ e b. (differs_back e.0 c.0 b.apart, b.leads)) back (through-map (IsBefore (edge_of c)) back behind)));
        itself = own bs child there;
        there = λ q under apart.
            let on = sym (there-append front (c ∷ back) q) ∙ descendant_there bs child q under in
            let off : bytes_eq c.0 q ≡ false = ap (λ k. bytes_eq k q) same ∙ differs_back child q apart in
            there-append front back q ∙ ap (λ b. has_block (blocks_of front) q || (b || has_block (blocks_of back) q)) (sym off) ∙ on;
      }
    where
      both : (P Q : Edge → Type 0) (xs : List Edge) → AllByRecursion P xs → AllByRecursion Q xs → AllByRecursion (λ e. P e × Q e) xs
      both P Q [] p q = tt
      both P Q (x ∷ xs) p q = ((p.0, q.0), both P Q xs p.1 q.1)

      each : (bs : List Header) → c.0 ≡ child → (xs : List (List ℕ × Node T)) → AllByRecursion (λ e. descends bs child e.0 ≡ (bytes_eq e.0 child || descends bs child e.1.parent)) xs
          → AllByRecursion (λ e. (bytes_eq e.0 c.0 ≡ false) × (bytes_eq c.0 e.1.parent ≡ nat_eq c.1.number e.1.up)) xs → AllByRecursion (IsOther bs child c.1.number) xs
      each bs same [] step h = tt
      each bs same (x ∷ xs) step h =
          (record { step = step.0; other = ap (bytes_eq x.0) (sym same) ∙ h.0.0; leads = ap (λ k. bytes_eq k x.1.parent) (sym same) ∙ h.0.1 }, each bs same xs step.1 h.1)

  -- ---- the pass

  filter_skip : (p : List ℕ × Node T → Bool) (front : List (List ℕ × Node T)) (c : List ℕ × Node T) (back : List (List ℕ × Node T)) → p c ≡ false → filter p (front ++ back) ≡ filter p (front ++ c ∷ back)
  filter_skip p [] c back fails = sym (rw fails refl)
  filter_skip p (x ∷ front) c back fails = ap (λ l. cond (p x) (x ∷ l) l) (filter_skip p front c back fails)

  pub all_swept : (last child : List ℕ) (all : List (List ℕ × Node T)) (place : ℕ) (c : List ℕ × Node T) (next : ℕ) → IsGrown last (reverse (blocks_of all)) → AreInOrder (edges_of all)
      → AllByRecursion (IsOwn next) (edges_of all) → slice_get all place ≡ Some c → bytes_eq c.0 child ≡ true
      → (staying c.1.number [] (remove all place) ≡ left all child) × (leaving c.1.number [] (remove all place) ≡ outsiders all child)
  all_swept last child all place c next grown order own_all at is =
      let front = take place all in
      let back = drop (suc place) all in
      let shape : all ≡ front ++ c ∷ back = split_at all place c at in
      let bs = blocks_of (front ++ c ∷ back) in
      let are = others last child front c back next (subst (λ l. IsGrown last (reverse (blocks_of l))) shape grown) (subst (λ l. AreInOrder (edges_of l)) shape order)
      (subst (λ l. AllByRecursion (IsOwn next) (edges_of l)) shape own_all) is
      in
      let gone : stays bs child c.0 ≡ false = rw is (none (descends bs child c.0)) in
      let under : not (descends bs child c.0) ≡ false = ap (λ id. not (descends bs child id)) (same_id c.0 child is) ∙ ap not are.itself in (
        swept bs child c.1.number next [] (front ++ back) are are.others ∙ filter_skip (λ e. stays bs child e.0) front c back gone ∙ ap (λ l. left l child) (sym shape),
        told bs child c.1.number next [] (front ++ back) are are.others ∙ ap (map (λ e. e.0)) (filter_skip (λ e. not (descends bs child e.0)) front c back under) ∙ ap (λ l. outsiders l child) (sym shape),
      )
    where
      none : (a : Bool) → (a && false) ≡ false
      none true = refl
      none false = refl
