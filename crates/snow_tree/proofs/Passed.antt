-- Lemmas on the pass over nodes in which those that stay move up to those that stay before them.
use Rattle.std.proofs.Common.{◌≡◌, ℕ, zero, suc, ◌+◌, ◌<◌, ◌≤◌, true, false, cond, List, [], ◌∷◌, ◌++◌, length, take, drop, bytes_eq, Option, Some, None, slice_get, slice_set, slice_index_or, refl, sym, ap, subst, ◌∙◌, arith, append_assoc, append-nil, length-append, drop_of_length-le, take-append-drop}
use Rattle.std.specs.List.{swap}
use Rattle.std.proofs.lemmas.List.{map-append, length-drop, length-take-le}
use Rattle.std.proofs.lemmas.Option.{none-some, same_Some}
use Rattle.snow_board.proofs.Cases.{split_on}
use Rattle.snow_tree.specs.declared.node.Node.{Node}
use Rattle.snow_tree.specs.Kept.Row.{AreInOrder, edge_of, edges_of, IsFront, IsNumbered, is_above, staying, leaving, untold}
use Rattle.snow_tree.specs.Kept.Hints.{hint_of}
use Rattle.snow_tree.proofs.Ordered.{order_left}
use Rattle.snow_tree.proofs.Searched.{there}
use Rattle.snow_tree.proofs.Edges.{place_own}
use Rattle.snow_tree.proofs.Told.{one_gone}

module _ {X : Type 0} where
  seam_set : (xs : List X) (y a : X) (ys : List X) → slice_set (xs ++ y ∷ ys) (length xs) a ≡ xs ++ a ∷ ys
  seam_set [] y a ys = refl
  seam_set (x ∷ xs) y a ys = ap (λ l. x ∷ l) (seam_set xs y a ys)

  seam_read : (xs : List X) (y d : X) (ys : List X) → slice_index_or (xs ++ y ∷ ys) (length xs) d ≡ y
  seam_read [] y d ys = refl
  seam_read (x ∷ xs) y d ys = seam_read xs y d ys

  swap_set : (all : List X) (i j : ℕ) (now : List X) → ([] ≡ all → ⊥) → ((d : X) → slice_set (slice_set all i (slice_index_or all j d)) j (slice_index_or all i d) ≡ now) → swap all i j ≡ now
  swap_set [] i j now some written = absurd (some refl)
  swap_set (d ∷ l) i j now some written = written d

  some_shape : (xs : List X) (x : X) (ys : List X) → [] ≡ xs ++ x ∷ ys → ⊥
  some_shape [] x ys h = cc
  some_shape (z ∷ xs) x ys h = cc

  -- an element takes the place of one before it
  swapped : (xs : List X) (g : X) (gs : List X) (e : X) (rest : List X)
      → swap (xs ++ g ∷ (gs ++ e ∷ rest)) (length xs) (length xs + suc (length gs)) ≡ xs ++ e ∷ (gs ++ g ∷ rest)
  swapped xs g gs e rest =
      swap_set (xs ++ g ∷ (gs ++ e ∷ rest)) (length xs) (length xs + suc (length gs)) (xs ++ e ∷ (gs ++ g ∷ rest)) (some_shape xs g (gs ++ e ∷ rest)) written
    where
      written : (d : X) → slice_set (slice_set (xs ++ g ∷ (gs ++ e ∷ rest)) (length xs) (slice_index_or (xs ++ g ∷ (gs ++ e ∷ rest)) (length xs + suc (length gs)) d)) (length xs + suc (length gs))
          (slice_index_or (xs ++ g ∷ (gs ++ e ∷ rest)) (length xs) d) ≡ xs ++ e ∷ (gs ++ g ∷ rest)
      written d =
          let all = xs ++ g ∷ (gs ++ e ∷ rest) in
          let far = length xs + suc (length gs) in
          let long : (y : X) → length (xs ++ y ∷ gs) ≡ far = λ y. length-append xs (y ∷ gs) in
          let shape : (y : X) → xs ++ y ∷ (gs ++ e ∷ rest) ≡ (xs ++ y ∷ gs) ++ e ∷ rest = λ y. sym (append_assoc xs (y ∷ gs) (e ∷ rest)) in
          let one : slice_index_or all far d ≡ e =
          ap (λ l. slice_index_or l far d) (shape g) ∙ ap (λ n. slice_index_or ((xs ++ g ∷ gs) ++ e ∷ rest) n d) (sym (long g)) ∙ seam_read (xs ++ g ∷ gs) e d rest
          in
          let other : slice_index_or all (length xs) d ≡ g = seam_read xs g d (gs ++ e ∷ rest) in
          (λ j. slice_set (slice_set all (length xs) (one j)) far (other j))
          ∙ ap (λ l. slice_set l far g) (seam_set xs g e (gs ++ e ∷ rest) ∙ shape e)
          ∙ ap (λ n. slice_set ((xs ++ e ∷ gs) ++ e ∷ rest) n g) (sym (long e))
          ∙ seam_set (xs ++ e ∷ gs) e g rest
          ∙ append_assoc xs (e ∷ gs) (g ∷ rest)

  -- or stays where it is
  unswapped : (xs : List X) (e : X) (rest : List X) → swap (xs ++ e ∷ rest) (length xs) (length xs) ≡ xs ++ e ∷ rest
  unswapped xs e rest =
      swap_set (xs ++ e ∷ rest) (length xs) (length xs) (xs ++ e ∷ rest) (some_shape xs e rest)
      (λ d.
      let own : slice_index_or (xs ++ e ∷ rest) (length xs) d ≡ e = seam_read xs e d rest in
      (λ j. slice_set (slice_set (xs ++ e ∷ rest) (length xs) (own j)) (length xs) (own j))
      ∙ ap (λ l. slice_set l (length xs) e) (seam_set xs e e rest)
      ∙ seam_set xs e e rest)

  -- those that leave, once one that stays took the place of the first of them
  abbrev pub turned : List X → List X
  turned [] = []
  turned (g ∷ gs) = gs ++ g ∷ []

  moved_up : (stay gone : List X) (e : X) (rest : List X) → swap ((stay ++ gone) ++ e ∷ rest) (length stay) (length (stay ++ gone)) ≡ ((stay ++ e ∷ []) ++ turned gone) ++ rest
  moved_up stay [] e rest =
      (λ j. swap (append-nil stay j ++ e ∷ rest) (length stay) (length (append-nil stay j)))
      ∙ unswapped stay e rest
      ∙ sym (ap (λ l. l ++ rest) (append-nil (stay ++ e ∷ [])) ∙ append_assoc stay (e ∷ []) rest)
  moved_up stay (g ∷ gs) e rest =
      (λ j. swap (append_assoc stay (g ∷ gs) (e ∷ rest) j) (length stay) (length-append stay (g ∷ gs) j))
      ∙ swapped stay g gs e rest
      ∙ sym (append_assoc (stay ++ e ∷ []) (gs ++ g ∷ []) rest ∙ append_assoc stay (e ∷ []) ((gs ++ g ∷ []) ++ rest) ∙ ap (λ l. stay ++ e ∷ l) (append_assoc gs (g ∷ []) rest))

  length-turned : (gone : List X) → length (turned gone) ≡ length gone
  length-turned [] = refl
  length-turned (g ∷ gs) = length-append gs (g ∷ []) ∙ omega arith

module _ {T : Type 0} where
  -- on the way: those that stay, behind them those that leave, and behind these the others
  pub record HasPassed (all now : List (List ℕ × Node T)) (number few place : ℕ) (before said : List (List ℕ)) (map_before map_now : List ℕ → Option ℕ) (slots : List ℕ) : Type 0 where
    pub stay : List (List ℕ × Node T)
    pub gone : List (List ℕ × Node T)
    pub shape : now ≡ (stay ++ gone) ++ drop place all
    pub kept : length stay ≡ few
    pub passed : length (stay ++ gone) ≡ place
    pub left : staying number stay (drop place all) ≡ staying number [] all
    pub told : said ++ leaving number stay (drop place all) ≡ before ++ leaving number [] all
    pub numbered : (next : ℕ) → IsNumbered (edges_of all) map_before slots next → IsNumbered (edges_of (stay ++ drop place all)) map_now slots next

  -- where none of the first nodes leaves, all of them stay as they are
  none_left : (number : ℕ) (stay xs ys : List (List ℕ × Node T)) → leaving number stay xs ≡ []
      → (staying number stay (xs ++ ys) ≡ staying number (stay ++ xs) ys) × (leaving number stay (xs ++ ys) ≡ leaving number (stay ++ xs) ys)
  none_left number stay [] ys none = (ap (λ l. staying number l ys) (sym (append-nil stay)), ap (λ l. leaving number l ys) (sym (append-nil stay)))
  none_left number stay (e ∷ xs) ys none =
      split_on (is_above number stay e)
      (λ t.
      let more = none_left number (stay ++ e ∷ []) xs ys (rw t at none) in
      let shape = append_assoc stay (e ∷ []) xs in
      (rw t (more.0 ∙ ap (λ l. staying number l ys) shape), rw t (more.1 ∙ ap (λ l. leaving number l ys) shape)))
      (λ t. absurd (let some = rw t at none in cc))

  pub none_passed : (all : List (List ℕ × Node T)) (number from : ℕ) (before : List (List ℕ)) (notes : List ℕ → Option ℕ) (slots : List ℕ) → IsFront number from all
      → HasPassed all all number from from before before notes notes slots
  none_passed all number from before notes slots front =
      let first = take from all in
      let whole : first ++ drop from all ≡ all = take-append-drop from all in
      let stay = none_left number [] first (drop from all) front.none in
      let long : length first ≡ from = length-take-le from all front.most in
      record {
        stay = first;
        gone = [];
        shape = sym (ap (λ l. l ++ drop from all) (append-nil first) ∙ whole);
        kept = long;
        passed = ap length (append-nil first) ∙ long;
        left = sym stay.0 ∙ ap (staying number []) whole;
        told = ap (λ l. before ++ l) (sym stay.1 ∙ ap (leaving number []) whole);
        numbered = λ next h. subst (λ l. IsNumbered (edges_of l) notes slots next) (sym whole) h;
      }

  -- the node at the place
  pub next_one : (all now : List (List ℕ × Node T)) (number kept place : ℕ) (before told : List (List ℕ)) (map_before map_now : List ℕ → Option ℕ) (slots : List ℕ)
      → HasPassed all now number kept place before told map_before map_now slots → place < length all
      → (e : List ℕ × Node T) × (drop place all ≡ e ∷ drop (place + 1) all) × (slice_get now place ≡ Some e)
  next_one all now number kept place before told map_before map_now slots s h =
      let x = there all place h in
      let front : drop place all ≡ x.0 ∷ drop (place + 1) all = dropped all place x.0 x.1 in
      (x.0, front, ap (λ l. slice_get l place) (s.shape ∙ ap (λ l. (s.stay ++ s.gone) ++ l) front) ∙ ap (slice_get ((s.stay ++ s.gone) ++ x.0 ∷ drop (place + 1) all)) (sym s.passed) ∙ seam_get (s.stay ++ s.gone) x.0 (drop (place + 1) all))
    where
      dropped : (xs : List (List ℕ × Node T)) (i : ℕ) (x : List ℕ × Node T) → slice_get xs i ≡ Some x → drop i xs ≡ x ∷ drop (i + 1) xs
      dropped [] i x at = absurd (none-some x at)
      dropped (y ∷ xs) zero x at = ap (λ z. z ∷ xs) (same_Some y x at)
      dropped (y ∷ xs) (suc i) x at = let n : suc (i + 1) ≡ suc i + 1 = omega arith in dropped xs i x at ∙ ap (λ m. x ∷ drop m (y ∷ xs)) n

      seam_get : (xs : List (List ℕ × Node T)) (x : List ℕ × Node T) (ys : List (List ℕ × Node T)) → slice_get (xs ++ x ∷ ys) (length xs) ≡ Some x
      seam_get [] x ys = refl
      seam_get (z ∷ xs) x ys = seam_get xs x ys

  -- it stays
  pub one_stays : (all now next_now : List (List ℕ × Node T)) (number kept place : ℕ) (before told : List (List ℕ)) (map_before map_now : List ℕ → Option ℕ) (slots : List ℕ)
      (s : HasPassed all now number kept place before told map_before map_now slots) (e : List ℕ × Node T) → drop place all ≡ e ∷ drop (place + 1) all
      → is_above number s.stay e ≡ true → next_now ≡ swap now kept place
      → HasPassed all next_now number (kept + 1) (place + 1) before told map_before map_now slots
  one_stays all now next_now number kept place before told map_before map_now slots s e front above moved =
      let rest = drop (place + 1) all in
      record {
        stay = s.stay ++ e ∷ [];
        gone = turned s.gone;
        shape = moved ∙ (λ j. swap ((s.shape ∙ ap (λ l. (s.stay ++ s.gone) ++ l) front) j) (sym s.kept j) (sym s.passed j)) ∙ moved_up s.stay s.gone e rest;
        kept = omega (arith, length-append s.stay (e ∷ []), s.kept);
        passed = omega (arith, length-append (s.stay ++ e ∷ []) (turned s.gone), length-append s.stay (e ∷ []), length-turned s.gone, length-append s.stay s.gone, s.passed);
        left = sym (ap (staying number s.stay) front ∙ rw above refl) ∙ s.left;
        told = ap (λ l. told ++ l) (sym (ap (leaving number s.stay) front ∙ rw above refl)) ∙ s.told;
        numbered = λ next h. subst (λ l. IsNumbered (edges_of l) map_now slots next) (ap (λ l. s.stay ++ l) front ∙ sym (append_assoc s.stay (e ∷ []) rest)) (s.numbered next h);
      }

  -- or it leaves
  pub one_leaves : (all now : List (List ℕ × Node T)) (number kept place : ℕ) (before told next_told : List (List ℕ)) (map_before map_now map_next : List ℕ → Option ℕ) (slots : List ℕ)
      (s : HasPassed all now number kept place before told map_before map_now slots) (e : List ℕ × Node T) → drop place all ≡ e ∷ drop (place + 1) all
      → is_above number s.stay e ≡ false → next_told ≡ told ++ e.0 ∷ [] → ((q : List ℕ) → map_next q ≡ cond (bytes_eq e.0 q) None (map_now q))
      → HasPassed all now number kept (place + 1) before next_told map_before map_next slots
  one_leaves all now number kept place before told next_told map_before map_now map_next slots s e front above says gone =
      let rest = drop (place + 1) all in
      record {
        stay = s.stay;
        gone = s.gone ++ e ∷ [];
        shape = s.shape ∙ ap (λ l. (s.stay ++ s.gone) ++ l) front ∙ sym (append_assoc (s.stay ++ s.gone) (e ∷ []) rest) ∙ ap (λ l. l ++ rest) (append_assoc s.stay s.gone (e ∷ []));
        kept = s.kept;
        passed = omega (arith, length-append s.stay (s.gone ++ e ∷ []), length-append s.gone (e ∷ []), length-append s.stay s.gone, s.passed);
        left = sym (ap (staying number s.stay) front ∙ rw above refl) ∙ s.left;
        told = ap (λ l. l ++ leaving number s.stay rest) says ∙ append_assoc told (e.0 ∷ []) (leaving number s.stay rest) ∙ ap (λ l. told ++ l) (sym (ap (leaving number s.stay) front ∙ rw above refl)) ∙ s.told;
        numbered = λ next h.
            let parts : edges_of (s.stay ++ drop place all) ≡ edges_of s.stay ++ edge_of e ∷ edges_of rest =
            ap (λ l. edges_of (s.stay ++ l)) front ∙ map-append edge_of s.stay (e ∷ rest)
            in
            subst (λ l. IsNumbered l map_next slots next) (sym (map-append edge_of s.stay rest))
            (one_gone (edges_of s.stay) (edge_of e) (edges_of rest) map_now map_next slots next (subst (λ l. IsNumbered l map_now slots next) parts (s.numbered next h)) gone);
      }

  -- those that stay stand in front, in order
  pub front_kept : (all now : List (List ℕ × Node T)) (number kept place next : ℕ) (before told : List (List ℕ)) (map_before map_now : List ℕ → Option ℕ) (slots : List ℕ)
      (s : HasPassed all now number kept place before told map_before map_now slots) → take kept now ≡ s.stay
  front_kept all now number kept place next before told map_before map_now slots s =
      (λ j. take (sym s.kept j) ((s.shape ∙ append_assoc s.stay s.gone (drop place all)) j)) ∙ take_front s.stay (s.gone ++ drop place all)
    where
      take_front : (xs ys : List (List ℕ × Node T)) → take (length xs) (xs ++ ys) ≡ xs
      take_front [] ys = refl
      take_front (x ∷ xs) ys = ap (λ l. x ∷ l) (take_front xs ys)

  pub order_kept : (all now : List (List ℕ × Node T)) (number kept place next : ℕ) (before told : List (List ℕ)) (map_before map_now : List ℕ → Option ℕ) (slots : List ℕ)
      (s : HasPassed all now number kept place before told map_before map_now slots) → IsNumbered (edges_of all) map_before slots next → AreInOrder (edges_of (take kept now))
  order_kept all now number kept place next before told map_before map_now slots s is =
      subst (λ l. AreInOrder (edges_of l)) (sym (front_kept all now number kept place next before told map_before map_now slots s))
      (order_left (edges_of s.stay) (edges_of (drop place all)) (subst AreInOrder (map-append edge_of s.stay (drop place all)) (s.numbered next is).order))

  -- no node is lost on the way
  pub length_passed : (all now : List (List ℕ × Node T)) (number kept place : ℕ) (before told : List (List ℕ)) (map_before map_now : List ℕ → Option ℕ) (slots : List ℕ)
      → HasPassed all now number kept place before told map_before map_now slots → place ≤ length all → length now ≡ length all
  length_passed all now number kept place before told map_before map_now slots s h =
      ap length s.shape ∙ length-append (s.stay ++ s.gone) (drop place all) ∙ ap (λ n. n + length (drop place all)) s.passed ∙ omega (arith, h, length-drop place all)

  -- what the map has of the node at the place
  pub own_passed : (all now : List (List ℕ × Node T)) (number kept place next : ℕ) (before told : List (List ℕ)) (map_before map_now : List ℕ → Option ℕ) (slots : List ℕ)
      (s : HasPassed all now number kept place before told map_before map_now slots) (e : List ℕ × Node T) → drop place all ≡ e ∷ drop (place + 1) all → IsNumbered (edges_of all) map_before slots next
      → map_now e.0 ≡ untold (hint_of slots e.0) (Some e.1.number)
  own_passed all now number kept place next before told map_before map_now slots s e front is =
      place_own (s.stay ++ e ∷ drop (place + 1) all) (length s.stay) e map_now slots next (subst (λ l. IsNumbered (edges_of (s.stay ++ l)) map_now slots next) front (s.numbered next is)) (at s.stay)
    where
      at : (xs : List (List ℕ × Node T)) → slice_get (xs ++ e ∷ drop (place + 1) all) (length xs) ≡ Some e
      at [] = refl
      at (x ∷ xs) = at xs

  -- behind the last one
  pub all_passed : (all now : List (List ℕ × Node T)) (number kept place : ℕ) (before told : List (List ℕ)) (map_before map_now : List ℕ → Option ℕ) (slots : List ℕ)
      (s : HasPassed all now number kept place before told map_before map_now slots) → length all ≤ place
      → (s.stay ≡ staying number [] all) × (told ≡ before ++ leaving number [] all) × ((next : ℕ) → IsNumbered (edges_of all) map_before slots next → IsNumbered (edges_of s.stay) map_now slots next)
  all_passed all now number kept place before told map_before map_now slots s past =
      let none : drop place all ≡ [] = drop_of_length-le all past in (
        ap (staying number s.stay) (sym none) ∙ s.left,
        sym (append-nil told) ∙ ap (λ l. told ++ leaving number s.stay l) (sym none) ∙ s.told,
        λ next is. subst (λ l. IsNumbered (edges_of l) map_now slots next) (ap (λ l. s.stay ++ l) none ∙ append-nil s.stay) (s.numbered next is),
      )
