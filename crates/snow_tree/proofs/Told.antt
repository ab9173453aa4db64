-- Lemmas on the numbers of blocks: which of them the slots tell, and which the map has.
use Rattle.std.proofs.Common.{◌≡◌, ℕ, zero, suc, ◌+◌, ◌<◌, ◌==◌, ◌&&◌, true, false, cond, nat_eq, if◌then◌else◌, List, [], ◌∷◌, ◌++◌, length, get_or, slice_set, find, bytes_eq, Bool, Option, Some, None, slice_get, refl, sym, ap, ◌∙◌, arith, length-append, append-nil}
use Rattle.std.specs.List.{AllByRecursion, position}
use Rattle.std.specs.Option.{option_map, option_map_or}
use Rattle.std.proofs.lemmas.Bool.{eqb-true, eq-eqb, ne_eqb}
use Rattle.std.proofs.lemmas.List.{length-set, get_or-set_same, get_or-set_other}
use Rattle.std.proofs.lemmas.Nat.{mod_below}
use Rattle.std.proofs.lemmas.Option.{none-some, same_Some}
use Rattle.snow_board.proofs.Cases.{split_on, clash, same_id, id_itself}
use Rattle.snow_tree.specs.Kept.Hints.{seat_of, slot_of, hint_of}
use Rattle.snow_tree.specs.Kept.Row.{Edge, IsBefore, AreInOrder, IsOwn, number_in, untold, gives_way, IsNumbered}
use Rattle.snow_tree.proofs.Ordered.{all_without, all_joined, all_weaker, of_all, found_there, find_more, find_skip, order_without, order_more, own_found, whose_number, number_without, numbered, position_none, place_is, find_none}

-- where another number is told, this one isn't
untold_other : (hint m : ℕ) → (m ≡ hint → ⊥) → untold hint (Some m) ≡ Some m
untold_other hint m other = rw (ne_eqb m hint other) refl

told_same : (hint m : ℕ) → m ≡ hint → untold hint (Some m) ≡ None
told_same hint m same = rw (eq-eqb m hint same) refl

-- a slot that is set tells the new number to those that share it
hint_set : (slots k q : List ℕ) (n : ℕ) → 0 < length slots
    → hint_of (slice_set slots (slot_of (length slots) k) n) q ≡ (if slot_of (length slots) q == slot_of (length slots) k then n else hint_of slots q)
hint_set slots k q n some =
    let at = slot_of (length slots) k in
    let of = slot_of (length slots) q in
    let there : at < length slots = mod_below (seat_of k) (length slots) some in
    ap (λ (l : ℕ). get_or (slice_set slots at n) (slot_of l q) 0) (length-set slots at n)
    ∙ split_on (of == at)
    (λ t. rw t (ap (λ i. get_or (slice_set slots at n) i 0) (eqb-true of at t) ∙ get_or-set_same slots at n 0 there))
    (λ t. rw t (get_or-set_other slots at of n 0 (λ same. clash (of == at) (eq-eqb of at same) t)))

-- what the map has of one that shares a slot, or doesn't, once another number is told there
way : (shares : Bool) (o : Option ℕ) (hint told n : ℕ) (number : Option ℕ) → number ≡ untold hint o → (shares ≡ true → hint ≡ told) → (o ≡ Some n → ⊥)
    → cond (shares && option_map_or (λ m. m == told) o false) (Some told) number ≡ untold (if shares then n else hint) o
way false o hint told n number is same free = is
way true None hint told n number is same free = is
way true (Some m) hint told n number is same free =
    let new = untold_other n m (λ e. free (ap Some e)) in
    split_on (m == told)
    (λ t. rw t (ap Some (sym (eqb-true m told t)) ∙ sym new))
    (λ t. rw t (is ∙ untold_other hint m (λ e. clash (m == told) (eq-eqb m told (e ∙ same refl)) t) ∙ sym new))

and_true : (a b : Bool) → b ≡ true → (a && b) ≡ a
and_true true b is = is
and_true false b is = refl

and_false : (a b : Bool) → b ≡ false → (a && b) ≡ false
and_false true b is = is
and_false false b is = refl

-- ---- who gives way

-- where a block has the number that is told: it, if it shares the slot
pub way_at : (slots : List ℕ) (edges : List Edge) (i : ℕ) (x : Edge) (k q : List ℕ) → AreInOrder edges → slice_get edges i ≡ Some x
    → gives_way slots edges x.number k q ≡ cond (bytes_eq x.id q) (slot_of (length slots) x.id == slot_of (length slots) k) false
way_at slots edges i x k q h at =
    let own = whose_number edges i x q h at in
    split_on (bytes_eq x.id q)
    (λ t.
    rw t (and_true (slot_of (length slots) q == slot_of (length slots) k) _ (own ∙ t)
    ∙ ap (λ id. slot_of (length slots) id == slot_of (length slots) k) (sym (same_id x.id q t))))
    (λ t. rw t (and_false (slot_of (length slots) q == slot_of (length slots) k) _ (own ∙ t)))

-- no identifier has a number that leads nowhere
pub unplaced : (edges : List Edge) (k : List ℕ) (n : ℕ) → AreInOrder edges → position (λ e. nat_eq e.number n) edges ≡ None → number_in edges k ≡ Some n → ⊥
unplaced edges k n h none told =
    let block = numbered edges k n told in
    let there = found_there (λ x. bytes_eq x.id k) edges block.0 block.1 in
    none-some there.0 (sym none ∙ ap (λ l. position (λ x. nat_eq x.number l) edges) (sym block.2) ∙ place_is edges there.0 block.0 h there.1)

-- and where none has it: none
pub no_way : (slots : List ℕ) (edges : List Edge) (n : ℕ) (k q : List ℕ) → AreInOrder edges → position (λ e. nat_eq e.number n) edges ≡ None → gives_way slots edges n k q ≡ false
no_way slots edges n k q h none = and_false (slot_of (length slots) q == slot_of (length slots) k) _ (by (number_in edges q) refl)
  where
    by : (o : Option ℕ) → number_in edges q ≡ o → option_map_or (λ m. m == n) o false ≡ false
    by None e = refl
    by (Some m) e = ne_eqb m n (λ same. unplaced edges q n h none (e ∙ ap Some same))

-- ---- blocks that come and go

-- one that stands behind all others
pub one_told : (edges : List Edge) (x : Edge) (number now : List ℕ → Option ℕ) (slots : List ℕ) (next : ℕ) → IsNumbered edges number slots next → 0 < length slots
    → x.number ≡ next → AllByRecursion (λ e. IsBefore e x) edges → IsOwn (next + 1) x
    → ((q : List ℕ) → now q ≡ cond (gives_way slots edges (hint_of slots x.id) x.id q) (Some (hint_of slots x.id)) (number q))
    → IsNumbered (edges ++ x ∷ []) now (slice_set slots (slot_of (length slots) x.id) next) (next + 1)
one_told edges x number now slots next is some new before own says =
    let p : List ℕ → Edge → Bool = λ q e. bytes_eq e.id q in
    let to = slice_set slots (slot_of (length slots) x.id) next in
    let told : (q : List ℕ) → hint_of to q ≡ (if slot_of (length slots) q == slot_of (length slots) x.id then next else hint_of slots q) = λ q. hint_set slots x.id q next some in
    let free : (q : List ℕ) → number_in edges q ≡ Some next → ⊥ =
    λ q e.
    let block = numbered edges q next e in
    let there = found_there (p q) edges block.0 block.1 in
    let low : IsOwn next block.0 = of_all (IsOwn next) edges there.0 block.0 is.own there.1 in
    omega (arith, low.number, block.2)
    in
    let all : (q : List ℕ) → now q ≡ untold (hint_of to q) (number_in edges q) =
    λ q.
    says q
    ∙ way (slot_of (length slots) q == slot_of (length slots) x.id) (number_in edges q) (hint_of slots q) (hint_of slots x.id) next (number q) (is.found q)
    (λ t. ap (λ i. get_or slots i 0) (eqb-true _ _ t)) (free q)
    ∙ ap (λ h. untold h (number_in edges q)) (sym (told q))
    in
    record {
      begun = omega (arith, is.begun);
      order = order_more edges x is.order before;
      own = all_joined (IsOwn (next + 1)) edges x []
          (all_weaker (IsOwn next) (IsOwn (next + 1)) (λ e o. record { up = o.up; number = omega (arith, o.number); other = o.other }) edges is.own)
          own tt;
      found = λ q.
          split_on (bytes_eq x.id q)
          (λ t.
          let same : x.id ≡ q = same_id x.id q t in
          let none : find (p q) edges ≡ None = find_none (p q) edges
          (all_weaker (λ e. IsBefore e x) (λ e. bytes_eq e.id q ≡ false) (λ e b. ap (bytes_eq e.id) (sym same) ∙ b.apart) edges before) in
          let there : number_in (edges ++ x ∷ []) q ≡ Some next = ap (option_map (λ (e : Edge). e.number)) (find_more (p q) edges x none t) ∙ ap Some new in
          let own_slot : hint_of to q ≡ next =
          told q ∙ ap (λ b. if b then next else hint_of slots q) (eq-eqb (slot_of (length slots) q) (slot_of (length slots) x.id) (ap (slot_of (length slots)) (sym same)))
          in
          all q
          ∙ ap (λ o. untold (hint_of to q) (option_map (λ (e : Edge). e.number) o)) none
          ∙ sym (ap (untold (hint_of to q)) there ∙ told_same (hint_of to q) next (sym own_slot)))
          (λ t. all q ∙ ap (λ o. untold (hint_of to q) (option_map (λ (e : Edge). e.number) o)) (ap (find (p q)) (sym (append-nil edges)) ∙ find_skip (p q) edges x [] t));
      slotted = λ h. omega (arith, some, length-set slots (slot_of (length slots) x.id) next);
    }

-- one that leaves
pub one_gone : (xs : List Edge) (x : Edge) (ys : List Edge) (number now : List ℕ → Option ℕ) (slots : List ℕ) (next : ℕ) → IsNumbered (xs ++ x ∷ ys) number slots next
    → ((q : List ℕ) → now q ≡ cond (bytes_eq x.id q) None (number q)) → IsNumbered (xs ++ ys) now slots next
one_gone xs x ys number now slots next is says =
    let without : (q : List ℕ) → number_in (xs ++ ys) q ≡ cond (bytes_eq x.id q) None (number_in (xs ++ x ∷ ys) q) = λ q. number_without xs x ys q is.order in
    record {
      begun = is.begun;
      order = order_without xs x ys is.order;
      own = all_without (IsOwn next) xs x ys is.own;
      found = λ q.
          says q
          ∙ split_on (bytes_eq x.id q)
          (λ t. rw t (sym (ap (untold (hint_of slots q)) (without q ∙ ap (λ b. cond b None (number_in (xs ++ x ∷ ys) q)) t))))
          (λ t. rw t (is.found q ∙ sym (ap (untold (hint_of slots q)) (without q ∙ ap (λ b. cond b None (number_in (xs ++ x ∷ ys) q)) t))));
      slotted = λ h. is.slotted (omega (arith, h, length-append xs ys, length-append xs (x ∷ ys)));
    }

-- and what the map has of it
pub own_number : (edges : List Edge) (i : ℕ) (x : Edge) (number : List ℕ → Option ℕ) (slots : List ℕ) (next : ℕ) → IsNumbered edges number slots next → slice_get edges i ≡ Some x
    → number x.id ≡ untold (hint_of slots x.id) (Some x.number)
own_number edges i x number slots next is at =
    is.found x.id ∙ ap (λ o. untold (hint_of slots x.id) (option_map (λ (e : Edge). e.number) o)) (own_found edges i x x.id is.order at (id_itself x.id))

-- ---- what is looked up

-- one that isn't told its number has it in the map
pub looked_up : (edges : List Edge) (number : List ℕ → Option ℕ) (slots : List ℕ) (next : ℕ) (k : List ℕ) → IsNumbered edges number slots next
    → (number_in edges k ≡ Some (hint_of slots k) → ⊥) → number k ≡ number_in edges k
looked_up edges number slots next k is untold_here = is.found k ∙ by (number_in edges k) refl
  where
    by : (o : Option ℕ) → number_in edges k ≡ o → untold (hint_of slots k) o ≡ o
    by None e = refl
    by (Some m) e = untold_other (hint_of slots k) m (λ same. untold_here (e ∙ ap Some same))

-- no number, no place
pub no_number : (edges : List Edge) (k : List ℕ) → number_in edges k ≡ None → position (λ e. bytes_eq e.id k) edges ≡ None
no_number edges k none = position_none (λ e. bytes_eq e.id k) edges (λ i x at. by i x at (bytes_eq x.id k) refl (find (λ e. bytes_eq e.id k) edges) refl)
  where
    missing : (xs : List Edge) (i : ℕ) (x : Edge) → slice_get xs i ≡ Some x → bytes_eq x.id k ≡ true → find (λ e. bytes_eq e.id k) xs ≡ None → ⊥
    missing [] i x at is f = none-some x at
    missing (y ∷ xs) zero x at is f = none-some y (let t = ap (λ (z : Edge). bytes_eq z.id k) (same_Some y x at) ∙ is in let m = rw t at f in sym m)
    missing (y ∷ xs) (suc i) x at is f =
        split_on (bytes_eq y.id k)
        (λ t. none-some y (let m = rw t at f in sym m))
        (λ t. let m = rw t at f in missing xs i x at is m)

    by : (i : ℕ) (x : Edge) → slice_get edges i ≡ Some x → (b : Bool) → bytes_eq x.id k ≡ b → (o : Option Edge) → find (λ e. bytes_eq e.id k) edges ≡ o → bytes_eq x.id k ≡ false
    by i x at false e o f = e
    by i x at true e (Some y) f = absurd (none-some y.number (sym none ∙ ap (option_map (λ (z : Edge). z.number)) f))
    by i x at true e None f = absurd (missing edges i x at e f)
