-- Lemmas on the nodes before the first brother of a child that is accepted: all descend from the child, so none of them leaves. The next node is the brother.
use Rattle.std.proofs.Common.{◌≡◌, ℕ, zero, suc, ◌-◌, ◌<◌, true, false, ◌||◌, nat_eq, if◌then◌else◌, List, [], ◌∷◌, ◌++◌, get_or, length, take, drop, reverse, bytes_eq, Option, Some, None, slice_get, unwrap_or, refl, sym, ap, subst, ◌∙◌, arith, append_assoc, take-append-drop}
use mathlib.Core.List.{reverse-cons}
use Rattle.std.specs.List.{AllByRecursion, list_any, position, remove}
use Rattle.std.proofs.lemmas.List.Folds.{list_any_at}
use Rattle.std.specs.Map.{keys_of}
use Rattle.std.specs.Option.{option_map}
use Rattle.std.proofs.lemmas.List.{map-append, reverse-append}
use Rattle.std.proofs.lemmas.Option.{get_or_from_slice_get, none-some, same_Some, slice_get_within}
use Rattle.snow_base.specs.declared.block.Header.{Header}
use Rattle.snow_board.specs.Kept.Grown.{has_block, IsGrown}
use Rattle.snow_board.proofs.Cases.{split_on, clash, same_id, id_itself, id_same, differs_back}
use Rattle.snow_board.proofs.Grown.{grown_before, grown_parent, has_block-reverse}
use Rattle.snow_tree.specs.declared.node.Node.{Node}
use Rattle.snow_tree.specs.Kept.Held.{children_of}
use Rattle.snow_tree.specs.Kept.Nodes.{block_of, blocks_of}
use Rattle.snow_tree.specs.Kept.Row.{IsBefore, AreInOrder, EndsBefore, IsFront, edge_of, edges_of, is_above, leaving}
use Rattle.snow_tree.proofs.Ordered.{of_all, order_front, position_at}
use Rattle.snow_tree.proofs.Placed.{place_same, place_within, position_cons}

-- the parent of a block that is no child of the last accepted one stands before it
parent_in_front : (last : List ℕ) (front : List Header) (b : Header) (back : List Header) → IsGrown last (reverse (front ++ b ∷ back)) → bytes_eq last b.parent ≡ false → has_block front b.parent ≡ true
parent_in_front last front b back grown other =
    let shape : reverse (front ++ b ∷ back) ≡ reverse back ++ b ∷ reverse front =
    reverse-append front (b ∷ back) ∙ ap (λ l. l ++ reverse front) (reverse-cons b back) ∙ append_assoc (reverse back) (b ∷ []) (reverse front)
    in
    let here = grown_before last (reverse back) (b ∷ reverse front) (subst (IsGrown last) shape grown) in
    sym (has_block-reverse front b.parent) ∙ (rw other at (grown_parent here))

module _ {T : Type 0} where
  -- a note leads to one of those before a node exactly where the parent is one of them
  leads_front : (e : List ℕ × Node T) (done : List (List ℕ × Node T)) → AllByRecursion (λ d. IsBefore d (edge_of e)) (edges_of done)
      → list_any (λ x. nat_eq x.1.number e.1.up) done ≡ has_block (blocks_of done) e.1.parent
  leads_front e [] h = refl
  leads_front e (d ∷ done) h = λ j. sym h.0.leads j || leads_front e done h.1 j

  -- so none leaves behind the first node and others until a child of the last accepted block comes
  none_leaves : (last : List ℕ) (c : List ℕ × Node T) (done xs ys : List (List ℕ × Node T)) → IsGrown last (reverse (blocks_of (c ∷ done ++ (xs ++ ys)))) → AreInOrder (edges_of (c ∷ done ++ (xs ++ ys)))
      → AllByRecursion (λ e. bytes_eq last e.1.parent ≡ false) xs → leaving c.1.number done xs ≡ []
  none_leaves last c done [] ys grown order off = refl
  none_leaves last c done (e ∷ xs) ys grown order off =
      let blocks : blocks_of (c ∷ done ++ e ∷ (xs ++ ys)) ≡ blocks_of (c ∷ done) ++ block_of e ∷ blocks_of (xs ++ ys) = map-append block_of (c ∷ done) (e ∷ (xs ++ ys)) in
      let edges : edges_of (c ∷ done ++ e ∷ (xs ++ ys)) ≡ edges_of (c ∷ done) ++ edge_of e ∷ edges_of (xs ++ ys) = map-append edge_of (c ∷ done) (e ∷ (xs ++ ys)) in
      let parent : has_block (blocks_of (c ∷ done)) e.1.parent ≡ true =
      parent_in_front last (blocks_of (c ∷ done)) (block_of e) (blocks_of (xs ++ ys)) (subst (λ l. IsGrown last (reverse l)) blocks grown) off.0
      in
      let before = order_front (edges_of (c ∷ done)) (edge_of e) (edges_of (xs ++ ys)) (subst AreInOrder edges order) in
      let above : is_above c.1.number done e ≡ true = leads_front e (c ∷ done) before ∙ parent in
      let shape : done ++ e ∷ (xs ++ ys) ≡ (done ++ e ∷ []) ++ (xs ++ ys) = sym (append_assoc done (e ∷ []) (xs ++ ys)) in
      rw above (none_leaves last c (done ++ e ∷ []) xs ys (subst (λ l. IsGrown last (reverse (blocks_of (c ∷ l)))) shape grown) (subst (λ l. AreInOrder (edges_of (c ∷ l))) shape order) off.1)

  -- no child of the last accepted block stands before the first of them
  none_before : (last first : List ℕ) (xs : List (List ℕ × Node T)) (i : ℕ) → slice_get (children_of (blocks_of xs) last) 0 ≡ Some first → position (λ e. bytes_eq e.0 first) xs ≡ Some i
      → AllByRecursion (λ e. bytes_eq last e.1.parent ≡ false) (take i xs)
  none_before last first [] i is at = absurd (none-some first is)
  none_before last first (x ∷ xs) i is at =
      split_on (bytes_eq x.0 first)
      (λ t. let k = rw t at whole in subst (λ n. AllByRecursion (λ e. bytes_eq last e.1.parent ≡ false) (take n (x ∷ xs))) (same_Some 0 i k) tt)
      (λ t.
      let k = rw t at whole in
      let later = lower (position (λ e. bytes_eq e.0 first) xs) k in
      let other : bytes_eq x.1.parent last ≡ false =
      split_on (bytes_eq x.1.parent last)
      (λ s. let one = rw s at is in clash (bytes_eq x.0 first) (id_same x.0 first (same_Some x.0 first one)) t)
      (λ s. s)
      in
      let rest : slice_get (children_of (blocks_of xs) last) 0 ≡ Some first = rw other at is in
      subst (λ n. AllByRecursion (λ e. bytes_eq last e.1.parent ≡ false) (take n (x ∷ xs))) later.2 (differs_back last x.1.parent other, none_before last first xs later.0 rest later.1))
    where
      whole : (if bytes_eq x.0 first then Some 0 else option_map suc (position (λ e. bytes_eq e.0 first) xs)) ≡ Some i
      whole = sym (position_cons (λ e. bytes_eq e.0 first) x xs) ∙ at

      lower : (o : Option ℕ) → option_map suc o ≡ Some i → (j : ℕ) × (o ≡ Some j) × (suc j ≡ i)
      lower None k = absurd (none-some i k)
      lower (Some j) k = (j, refl, same_Some (suc j) i k)

  -- the first node is a child of the last accepted block
  child_first : (last : List ℕ) (x : List ℕ × Node T) (xs : List (List ℕ × Node T)) → IsGrown last (reverse (blocks_of (x ∷ xs))) → bytes_eq x.1.parent last ≡ true
  child_first last x xs grown =
      split_on (bytes_eq x.1.parent last)
      (λ s. s)
      (λ s. absurd (let none : false ≡ true = parent_in_front last [] (block_of x) (blocks_of xs) grown (differs_back last x.1.parent s) in cc))

  -- no node is a front of none
  pub no_front : (number : ℕ) (nodes : List (List ℕ × Node T)) → IsFront number 0 nodes
  no_front number nodes = record { most = omega arith; none = refl }

  -- those between the child that was issued first and its first brother
  pub first_front : (last brother : List ℕ) (nodes : List (List ℕ × Node T)) (c : List ℕ × Node T) → IsGrown last (reverse (blocks_of nodes)) → AreInOrder (edges_of nodes)
      → slice_get (children_of (blocks_of nodes) last) 1 ≡ Some brother → slice_get nodes 0 ≡ Some c
      → IsFront c.1.number (unwrap_or (position (bytes_eq brother) (keys_of nodes)) 0 - 1) (remove nodes 0)
  first_front last brother [] c grown order second is = absurd (none-some c is)
  first_front last brother (x ∷ xs) c grown order second is =
      subst (λ (y : List ℕ × Node T). IsFront y.1.number (unwrap_or (position (bytes_eq brother) (keys_of (x ∷ xs))) 0 - 1) xs) (same_Some x c is)
      (subst (λ o. IsFront x.1.number (unwrap_or o 0 - 1) xs) (sym (place_same (x ∷ xs) brother ∙ position_cons (λ e. bytes_eq e.0 brother) x xs))
      (split_on (bytes_eq x.0 brother)
      (λ t. rw t (no_front x.1.number xs))
      (λ t. rw t (front (position (λ e. bytes_eq e.0 brother) xs) refl))))
    where
      child : bytes_eq x.1.parent last ≡ true
      child = child_first last x xs grown

      front : (o : Option ℕ) → position (λ e. bytes_eq e.0 brother) xs ≡ o → IsFront x.1.number (unwrap_or (option_map suc o) 0 - 1) xs
      front None at = no_front x.1.number xs
      front (Some j) at =
          let first : slice_get (children_of (blocks_of xs) last) 0 ≡ Some brother = rw child at second in
          let shape : xs ≡ take j xs ++ drop j xs = sym (take-append-drop j xs) in
          let within : j < length xs = place_within xs brother j at in
          let before : j ≡ suc j - 1 = omega arith in
          subst (λ n. IsFront x.1.number n xs) before
          (record {
            most = omega (arith, within);
            none = none_leaves last x [] (take j xs) (drop j xs) (subst (λ l. IsGrown last (reverse (blocks_of (x ∷ l)))) shape grown) (subst (λ l. AreInOrder (edges_of (x ∷ l))) shape order)
                (none_before last brother xs j first at);
          })

  -- what stands at a place is among these where it has the identifier of one
  among : (ids : List (List ℕ)) (i : ℕ) (id : List ℕ) (nodes : List (List ℕ × Node T)) (from : ℕ) (e : List ℕ × Node T) → slice_get ids i ≡ Some id
      → slice_get nodes from ≡ Some e → bytes_eq e.0 id ≡ true → EndsBefore ids from nodes
  among ids i id nodes from e is at same =
      let here : bytes_eq e.0 (get_or ids i []) ≡ true = ap (bytes_eq e.0) (get_or_from_slice_get ids i id [] is) ∙ same in
      ap (option_map (λ (y : List ℕ × Node T). list_any (bytes_eq y.0) ids)) at ∙ ap Some (list_any_at (bytes_eq e.0) ids i [] (slice_get_within ids i id is) here)

  -- where another than the first node leaves, a brother stands in front
  pub brother_first : (last : List ℕ) (nodes : List (List ℕ × Node T)) (place : ℕ) → IsGrown last (reverse (blocks_of nodes)) → 1 < length (children_of (blocks_of nodes) last)
      → (place ≡ 0 → ⊥) → EndsBefore (children_of (blocks_of nodes) last) 0 (remove nodes place)
  brother_first last [] place grown two other = absurd (omega (arith, two))
  brother_first last (x ∷ xs) zero grown two other = absurd (other refl)
  brother_first last (x ∷ xs) (suc place) grown two other =
      let child = child_first last x xs grown in
      let is : slice_get (children_of (blocks_of (x ∷ xs)) last) 0 ≡ Some x.0 = rw child refl in
      among (children_of (blocks_of (x ∷ xs)) last) 0 x.0 (remove (x ∷ xs) (suc place)) 0 x is refl (id_itself x.0)

  -- behind a node with another identifier a place is one further on
  one_on : (x : List ℕ × Node T) (xs : List (List ℕ × Node T)) (id : List ℕ) (i : ℕ) → bytes_eq x.0 id ≡ false → position (λ e. bytes_eq e.0 id) xs ≡ Some i
      → position (λ e. bytes_eq e.0 id) (x ∷ xs) ≡ Some (suc i)
  one_on x xs id i other at =
      position_cons (λ e. bytes_eq e.0 id) x xs
      ∙ ap (λ b. if b then Some 0 else option_map suc (position (λ e. bytes_eq e.0 id) xs)) other
      ∙ ap (option_map suc) at

  -- the first child stands somewhere
  child_stands : (last first : List ℕ) (xs : List (List ℕ × Node T)) → slice_get (children_of (blocks_of xs) last) 0 ≡ Some first → (i : ℕ) × (position (λ e. bytes_eq e.0 first) xs ≡ Some i)
  child_stands last first [] is = absurd (none-some first is)
  child_stands last first (x ∷ xs) is =
      split_on (bytes_eq x.0 first)
      (λ t. (0, position_cons (λ e. bytes_eq e.0 first) x xs ∙ ap (λ b. if b then Some 0 else option_map suc (position (λ e. bytes_eq e.0 first) xs)) t))
      (λ t.
      let other : bytes_eq x.1.parent last ≡ false =
      split_on (bytes_eq x.1.parent last)
      (λ s. let one = rw s at is in clash (bytes_eq x.0 first) (id_same x.0 first (same_Some x.0 first one)) t)
      (λ s. s)
      in
      let rest : slice_get (children_of (blocks_of xs) last) 0 ≡ Some first = rw other at is in
      let later = child_stands last first xs rest in
      (suc later.0, one_on x xs first later.0 t later.1))

  -- where the first node leaves, its first brother comes behind those that descend from it
  pub brother_next : (last brother : List ℕ) (nodes : List (List ℕ × Node T)) → IsGrown last (reverse (blocks_of nodes)) → AreInOrder (edges_of nodes)
      → slice_get (children_of (blocks_of nodes) last) 1 ≡ Some brother
      → EndsBefore (children_of (blocks_of nodes) last) (unwrap_or (position (bytes_eq brother) (keys_of nodes)) 0 - 1) (remove nodes 0)
  brother_next last brother [] grown order second = absurd (none-some brother second)
  brother_next last brother (x ∷ xs) grown order second =
      let child = child_first last x xs grown in
      let first : slice_get (children_of (blocks_of xs) last) 0 ≡ Some brother = rw child at second in
      let stands = child_stands last brother xs first in
      let there = position_at (λ e. bytes_eq e.0 brother) xs stands.0 stands.1 in
      let before : IsBefore (edge_of x) (edge_of there.0) = of_all (λ e. IsBefore (edge_of x) (edge_of e)) xs stands.0 there.0 (each xs order.0) there.1 in
      let other : bytes_eq x.0 brother ≡ false = ap (bytes_eq x.0) (sym (same_id there.0.0 brother there.2)) ∙ before.apart in
      let place : position (bytes_eq brother) (keys_of (x ∷ xs)) ≡ Some (suc stands.0) = place_same (x ∷ xs) brother ∙ one_on x xs brother stands.0 other stands.1 in
      let from : stands.0 ≡ suc stands.0 - 1 = omega arith in
      subst (λ o. EndsBefore (children_of (blocks_of (x ∷ xs)) last) (unwrap_or o 0 - 1) xs) (sym place)
      (subst (λ n. EndsBefore (children_of (blocks_of (x ∷ xs)) last) n xs) from
      (among (children_of (blocks_of (x ∷ xs)) last) 1 brother xs stands.0 there.0 second there.1 there.2))
    where
      each : (ys : List (List ℕ × Node T)) → AllByRecursion (IsBefore (edge_of x)) (edges_of ys) → AllByRecursion (λ e. IsBefore (edge_of x) (edge_of e)) ys
      each [] h = tt
      each (y ∷ ys) h = (h.0, each ys h.1)
