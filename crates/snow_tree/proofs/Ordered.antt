-- Lemmas on blocks in order of issue, and where their numbers lead.
use Rattle.std.proofs.Common.{◌≡◌, ℕ, zero, suc, ◌<◌, true, false, cond, nat_eq, if◌then◌else◌, List, [], ◌∷◌, ◌++◌, take, drop, find, bytes_eq, Bool, Option, Some, None, slice_get, refl, sym, ap, subst, ◌∙◌, arith, ne_eqb}
use Rattle.std.specs.List.{AllByRecursion, position}
use Rattle.std.specs.Option.{option_map, option_map_or}
use Rattle.std.proofs.lemmas.Bool.{eq-eqb}
use Rattle.std.proofs.lemmas.Option.{none-some, same_Some}
use Rattle.snow_board.proofs.Cases.{split_on, clash, same_id, differs_back}
use Rattle.snow_tree.specs.Kept.Row.{Edge, IsBefore, AreInOrder, IsOwn, number_in}
use Rattle.snow_tree.proofs.Placed.{position_cons}

-- ---- what is so of all

module _ {X : Type 0} where
  pub all_without : (P : X → Type 0) (xs : List X) (x : X) (ys : List X) → AllByRecursion P (xs ++ x ∷ ys) → AllByRecursion P (xs ++ ys)
  all_without P [] x ys h = h.1
  all_without P (z ∷ xs) x ys h = (h.0, all_without P xs x ys h.1)

  pub all_there : (P : X → Type 0) (xs : List X) (x : X) (ys : List X) → AllByRecursion P (xs ++ x ∷ ys) → P x
  all_there P [] x ys h = h.0
  all_there P (z ∷ xs) x ys h = all_there P xs x ys h.1

  pub all_joined : (P : X → Type 0) (xs : List X) (x : X) (ys : List X) → AllByRecursion P xs → P x → AllByRecursion P ys → AllByRecursion P (xs ++ x ∷ ys)
  all_joined P [] x ys front is back = (is, back)
  all_joined P (z ∷ xs) x ys front is back = (front.0, all_joined P xs x ys front.1 is back)

  pub all_left : (P : X → Type 0) (xs ys : List X) → AllByRecursion P (xs ++ ys) → AllByRecursion P xs
  all_left P [] ys h = tt
  all_left P (z ∷ xs) ys h = (h.0, all_left P xs ys h.1)

  pub all_weaker : (P Q : X → Type 0) → ((x : X) → P x → Q x) → (xs : List X) → AllByRecursion P xs → AllByRecursion Q xs
  all_weaker P Q weaker [] h = tt
  all_weaker P Q weaker (x ∷ xs) h = (weaker x h.0, all_weaker P Q weaker xs h.1)

  pub of_all : (P : X → Type 0) (xs : List X) (i : ℕ) (x : X) → AllByRecursion P xs → slice_get xs i ≡ Some x → P x
  of_all P [] i x h at = absurd (none-some x at)
  of_all P (y ∷ xs) zero x h at = subst P (same_Some y x at) h.0
  of_all P (y ∷ xs) (suc i) x h at = of_all P xs i x h.1 at

  -- a list around one of its elements
  pub split_at : (xs : List X) (i : ℕ) (x : X) → slice_get xs i ≡ Some x → xs ≡ take i xs ++ x ∷ drop (suc i) xs
  split_at [] i x at = absurd (none-some x at)
  split_at (y ∷ xs) zero x at = ap (λ z. z ∷ xs) (same_Some y x at)
  split_at (y ∷ xs) (suc i) x at = ap (λ l. y ∷ l) (split_at xs i x at)

  -- ---- places

  pub same_position : (p q : X → Bool) (xs : List X) → AllByRecursion (λ x. p x ≡ q x) xs → position p xs ≡ position q xs
  same_position p q [] h = refl
  same_position p q (x ∷ xs) h =
      position_cons p x xs
      ∙ (λ j. if h.0 j then Some 0 else option_map suc (same_position p q xs h.1 j))
      ∙ sym (position_cons q x xs)

  -- what is found stands somewhere
  pub found_there : (p : X → Bool) (xs : List X) (x : X) → find p xs ≡ Some x → (i : ℕ) × (slice_get xs i ≡ Some x) × (p x ≡ true)
  found_there p [] x h = absurd (none-some x h)
  found_there p (y ∷ xs) x h =
      split_on (p y)
      (λ t. let k = rw t at h in let is = same_Some y x k in (0, ap Some is, ap p (sym is) ∙ t))
      (λ t. let k = rw t at h in let rest = found_there p xs x k in (suc rest.0, rest.1, rest.2))

  pub find_none : (p : X → Bool) (xs : List X) → AllByRecursion (λ x. p x ≡ false) xs → find p xs ≡ None
  find_none p [] h = refl
  find_none p (x ∷ xs) h = rw h.0 (find_none p xs h.1)

  pub find_skip : (p : X → Bool) (xs : List X) (x : X) (ys : List X) → p x ≡ false → find p (xs ++ ys) ≡ find p (xs ++ x ∷ ys)
  find_skip p [] x ys fails = sym (rw fails refl)
  find_skip p (z ∷ xs) x ys fails = ap (λ o. cond (p z) (Some z) o) (find_skip p xs x ys fails)

  pub find_more : (p : X → Bool) (xs : List X) (x : X) → find p xs ≡ None → p x ≡ true → find p (xs ++ x ∷ []) ≡ Some x
  find_more p [] x none is = rw is refl
  find_more p (z ∷ xs) x none is =
      split_on (p z)
      (λ t. absurd (none-some z (let k = rw t at none in sym k)))
      (λ t. let k = rw t at none in rw t (find_more p xs x k is))

  -- the place that is found
  pub position_at : (p : X → Bool) (xs : List X) (i : ℕ) → position p xs ≡ Some i → (x : X) × (slice_get xs i ≡ Some x) × (p x ≡ true)
  position_at p [] i h = absurd (none-some i h)
  position_at p (x ∷ xs) i h =
      let whole : (if p x then Some 0 else option_map suc (position p xs)) ≡ Some i = sym (position_cons p x xs) ∙ h in
      split_on (p x)
      (λ t. let k = rw t at whole in subst (λ j. (y : X) × (slice_get (x ∷ xs) j ≡ Some y) × (p y ≡ true)) (same_Some 0 i k) (x, refl, t))
      (λ t.
      let k = rw t at whole in
      let before = lower (position p xs) k in
      let rest = position_at p xs before.0 before.1 in
      subst (λ j. (y : X) × (slice_get (x ∷ xs) j ≡ Some y) × (p y ≡ true)) before.2 rest)
    where
      lower : (o : Option ℕ) → option_map suc o ≡ Some i → (j : ℕ) × (o ≡ Some j) × (suc j ≡ i)
      lower None k = absurd (none-some i k)
      lower (Some j) k = (j, refl, same_Some (suc j) i k)

  pub position_none : (p : X → Bool) (xs : List X) → ((i : ℕ) (x : X) → slice_get xs i ≡ Some x → p x ≡ false) → position p xs ≡ None
  position_none p [] h = refl
  position_none p (x ∷ xs) h = position_cons p x xs ∙ rw (h 0 x refl) (ap (option_map suc) (position_none p xs (λ i y at. h (suc i) y at)))

  pub none_position : (p : X → Bool) (xs : List X) → position p xs ≡ None → AllByRecursion (λ x. p x ≡ false) xs
  none_position p [] h = tt
  none_position p (x ∷ xs) h =
      split_on (p x)
      (λ t. absurd (none-some 0 (let k = rw t at whole in sym k)))
      (λ t. let k = rw t at whole in (t, none_position p xs (missing (position p xs) k)))
    where
      whole : (if p x then Some 0 else option_map suc (position p xs)) ≡ None
      whole = sym (position_cons p x xs) ∙ h

      missing : (o : Option ℕ) → option_map suc o ≡ None → o ≡ None
      missing None e = refl
      missing (Some i) e = absurd (none-some (suc i) (sym e))

-- ---- blocks in order

pub order_without : (xs : List Edge) (x : Edge) (ys : List Edge) → AreInOrder (xs ++ x ∷ ys) → AreInOrder (xs ++ ys)
order_without [] x ys h = h.1
order_without (z ∷ xs) x ys h = (all_without (IsBefore z) xs x ys h.0, order_without xs x ys h.1)

pub order_more : (xs : List Edge) (x : Edge) → AreInOrder xs → AllByRecursion (λ e. IsBefore e x) xs → AreInOrder (xs ++ x ∷ [])
order_more [] x h all = (tt, tt)
order_more (z ∷ xs) x h all = (all_joined (IsBefore z) xs x [] h.0 all.0 tt, order_more xs x h.1 all.1)

pub order_left : (xs ys : List Edge) → AreInOrder (xs ++ ys) → AreInOrder xs
order_left [] ys h = tt
order_left (z ∷ xs) ys h = (all_left (IsBefore z) xs ys h.0, order_left xs ys h.1)

-- those before a block, and those behind it
pub order_front : (xs : List Edge) (x : Edge) (ys : List Edge) → AreInOrder (xs ++ x ∷ ys) → AllByRecursion (λ e. IsBefore e x) xs
order_front [] x ys h = tt
order_front (z ∷ xs) x ys h = (all_there (IsBefore z) xs x ys h.0, order_front xs x ys h.1)

pub order_back : (xs : List Edge) (x : Edge) (ys : List Edge) → AreInOrder (xs ++ x ∷ ys) → AllByRecursion (IsBefore x) ys
order_back [] x ys h = h.0
order_back (z ∷ xs) x ys h = order_back xs x ys h.1

-- numbers rise
pub rises : (edges : List Edge) (i j : ℕ) (x y : Edge) → AreInOrder edges → i < j → slice_get edges i ≡ Some x → slice_get edges j ≡ Some y → x.number < y.number
rises [] i j x y h less at there = absurd (none-some x at)
rises (e ∷ edges) i zero x y h less at there = absurd (omega (arith, less))
rises (e ∷ edges) zero (suc j) x y h less at there =
    let before : IsBefore e y = of_all (IsBefore e) edges j y h.0 there in
    subst (λ (z : Edge). z.number < y.number) (same_Some e x at) before.rises
rises (e ∷ edges) (suc i) (suc j) x y h less at there = rises edges i j x y h.1 (omega (arith, less)) at there

-- ---- numbers

pub other_number : (m n : ℕ) → m < n → nat_eq m n ≡ false
other_number m n less = ne_eqb m n (λ e. omega (arith, less, e))

pub another_number : (m n : ℕ) → n < m → nat_eq m n ≡ false
another_number m n less = ne_eqb m n (λ e. omega (arith, less, e))

same_number : (m : ℕ) → nat_eq m m ≡ true
same_number m = eq-eqb m m refl

-- a block's note of its parent's number leads to the parent and to no other
pub parent_tests : (xs : List Edge) (x : Edge) (ys : List Edge) (next : ℕ) → AreInOrder (xs ++ x ∷ ys) → IsOwn next x
    → AllByRecursion (λ e. bytes_eq e.id x.parent ≡ nat_eq e.number x.up) (xs ++ x ∷ ys)
parent_tests xs x ys next h own =
    all_joined (λ e. bytes_eq e.id x.parent ≡ nat_eq e.number x.up) xs x ys
    (all_weaker (λ e. IsBefore e x) (λ e. bytes_eq e.id x.parent ≡ nat_eq e.number x.up) (λ e b. b.leads) xs (order_front xs x ys h))
    (own.other ∙ sym (another_number x.number x.up own.up))
    (all_weaker (IsBefore x) (λ e. bytes_eq e.id x.parent ≡ nat_eq e.number x.up)
    (λ e b. b.first ∙ sym (another_number e.number x.up (omega (arith, b.rises, own.up)))) ys (order_back xs x ys h))

-- a block's own number is no other's
pub number_tests : (xs : List Edge) (x : Edge) (ys : List Edge) (k : List ℕ) → AreInOrder (xs ++ x ∷ ys) → bytes_eq x.id k ≡ true
    → AllByRecursion (λ e. bytes_eq e.id k ≡ nat_eq e.number x.number) (xs ++ x ∷ ys)
number_tests xs x ys k h is =
    let same : x.id ≡ k = same_id x.id k is in
    all_joined (λ e. bytes_eq e.id k ≡ nat_eq e.number x.number) xs x ys
    (all_weaker (λ e. IsBefore e x) (λ e. bytes_eq e.id k ≡ nat_eq e.number x.number)
    (λ e b. ap (bytes_eq e.id) (sym same) ∙ b.apart ∙ sym (other_number e.number x.number b.rises)) xs (order_front xs x ys h))
    (is ∙ sym (same_number x.number))
    (all_weaker (IsBefore x) (λ e. bytes_eq e.id k ≡ nat_eq e.number x.number)
    (λ e b. ap (bytes_eq e.id) (sym same) ∙ differs_back e.id x.id b.apart ∙ sym (another_number e.number x.number b.rises)) ys (order_back xs x ys h))

-- the place of the number of the block at a place
pub place_is : (edges : List Edge) (i : ℕ) (x : Edge) → AreInOrder edges → slice_get edges i ≡ Some x → position (λ e. nat_eq e.number x.number) edges ≡ Some i
place_is [] i x h at = absurd (none-some x at)
place_is (e ∷ edges) zero x h at =
    position_cons (λ e. nat_eq e.number x.number) e edges ∙ rw (ap (λ (y : Edge). nat_eq y.number x.number) (same_Some e x at) ∙ same_number x.number) refl
place_is (e ∷ edges) (suc i) x h at =
    let before : IsBefore e x = of_all (IsBefore e) edges i x h.0 at in
    position_cons (λ e. nat_eq e.number x.number) e edges ∙ rw (other_number e.number x.number before.rises) (ap (option_map suc) (place_is edges i x h.1 at))

-- the place of the parent of the block at a place
pub parent_place : (edges : List Edge) (i : ℕ) (x : Edge) (next : ℕ) → AreInOrder edges → AllByRecursion (IsOwn next) edges → slice_get edges i ≡ Some x
    → position (λ e. nat_eq e.number x.up) edges ≡ position (λ e. bytes_eq e.id x.parent) edges
parent_place edges i x next h own at =
    let shape = split_at edges i x at in
    let tests = parent_tests (take i edges) x (drop (suc i) edges) next (subst AreInOrder shape h) (of_all (IsOwn next) edges i x own at) in
    sym (same_position (λ e. bytes_eq e.id x.parent) (λ e. nat_eq e.number x.up) edges
    (subst (AllByRecursion (λ e. bytes_eq e.id x.parent ≡ nat_eq e.number x.up)) (sym shape) tests))

-- of an identifier that stands at a place the block there is found
pub own_found : (edges : List Edge) (i : ℕ) (x : Edge) (k : List ℕ) → AreInOrder edges → slice_get edges i ≡ Some x → bytes_eq x.id k ≡ true → find (λ e. bytes_eq e.id k) edges ≡ Some x
own_found [] i x k h at is = absurd (none-some x at)
own_found (e ∷ edges) zero x k h at is = rw (ap (λ (y : Edge). bytes_eq y.id k) (same_Some e x at) ∙ is) at
own_found (e ∷ edges) (suc i) x k h at is =
    let before : IsBefore e x = of_all (IsBefore e) edges i x h.0 at in
    rw (ap (bytes_eq e.id) (sym (same_id x.id k is)) ∙ before.apart) (own_found edges i x k h.1 at is)

-- the block that has an identifier's number
pub numbered : (edges : List Edge) (k : List ℕ) (n : ℕ) → number_in edges k ≡ Some n → (x : Edge) × (find (λ e. bytes_eq e.id k) edges ≡ Some x) × (x.number ≡ n)
numbered edges k n h = by (find (λ e. bytes_eq e.id k) edges) refl h
  where
    by : (o : Option Edge) → find (λ e. bytes_eq e.id k) edges ≡ o → option_map (λ e. e.number) o ≡ Some n → (x : Edge) × (find (λ e. bytes_eq e.id k) edges ≡ Some x) × (x.number ≡ n)
    by None e told = absurd (none-some n told)
    by (Some x) e told = (x, e, same_Some x.number n told)

-- where an identifier's number leads, the identifier stands
pub number_place : (edges : List Edge) (k : List ℕ) (n : ℕ) → AreInOrder edges → number_in edges k ≡ Some n → position (λ e. nat_eq e.number n) edges ≡ position (λ e. bytes_eq e.id k) edges
number_place edges k n h told =
    let block = numbered edges k n told in
    let x = block.0 in
    let there = found_there (λ e. bytes_eq e.id k) edges x block.1 in
    let shape = split_at edges there.0 x there.1 in
    let tests = number_tests (take there.0 edges) x (drop (suc there.0) edges) k (subst AreInOrder shape h) there.2 in
    ap (λ m. position (λ e. nat_eq e.number m) edges) (sym block.2)
    ∙ sym (same_position (λ e. bytes_eq e.id k) (λ e. nat_eq e.number x.number) edges
    (subst (AllByRecursion (λ e. bytes_eq e.id k ≡ nat_eq e.number x.number)) (sym shape) tests))

-- an identifier that stands at a place has no other
pub own_place : (edges : List Edge) (i : ℕ) (x : Edge) (k : List ℕ) → AreInOrder edges → slice_get edges i ≡ Some x → bytes_eq x.id k ≡ true → position (λ e. bytes_eq e.id k) edges ≡ Some i
own_place edges i x k h at is =
    sym (number_place edges k x.number h (ap (option_map (λ (e : Edge). e.number)) (own_found edges i x k h at is))) ∙ place_is edges i x h at

-- who has the number of the block at a place
pub whose_number : (edges : List Edge) (i : ℕ) (x : Edge) (q : List ℕ) → AreInOrder edges → slice_get edges i ≡ Some x → option_map_or (λ m. nat_eq m x.number) (number_in edges q) false ≡ bytes_eq x.id q
whose_number edges i x q h at =
    split_on (bytes_eq x.id q)
    (λ t. ap (λ o. option_map_or (λ m. nat_eq m x.number) (option_map (λ (e : Edge). e.number) o) false) (own_found edges i x q h at t) ∙ same_number x.number ∙ sym t)
    (λ t. other t (number_in edges q) refl ∙ sym t)
  where
    other : bytes_eq x.id q ≡ false → (o : Option ℕ) → number_in edges q ≡ o → option_map_or (λ m. nat_eq m x.number) o false ≡ false
    other t None told = refl
    other t (Some m) told =
        ne_eqb m x.number
        (λ same.
        let here = position_at (λ e. bytes_eq e.id q) edges i (sym (number_place edges q m h told) ∙ ap (λ n. position (λ e. nat_eq e.number n) edges) same ∙ place_is edges i x h at) in
        clash (bytes_eq x.id q) (ap (λ (y : Edge). bytes_eq y.id q) (same_Some x here.0 (sym at ∙ here.1)) ∙ here.2) t)

-- the number of an identifier without one of the blocks
pub number_without : (xs : List Edge) (x : Edge) (ys : List Edge) (q : List ℕ) → AreInOrder (xs ++ x ∷ ys)
    → number_in (xs ++ ys) q ≡ cond (bytes_eq x.id q) None (number_in (xs ++ x ∷ ys) q)
number_without xs x ys q h =
    let p : Edge → Bool = λ e. bytes_eq e.id q in
    split_on (bytes_eq x.id q)
    (λ t.
    let same : x.id ≡ q = same_id x.id q t in
    rw t (ap (option_map (λ (e : Edge). e.number)) (find_none p (xs ++ ys) (gone xs same (order_front xs x ys h) (order_back xs x ys h)))))
    (λ t. rw t (ap (option_map (λ (e : Edge). e.number)) (find_skip p xs x ys t)))
  where
    gone : (zs : List Edge) → x.id ≡ q → AllByRecursion (λ e. IsBefore e x) zs → AllByRecursion (IsBefore x) ys → AllByRecursion (λ e. bytes_eq e.id q ≡ false) (zs ++ ys)
    gone [] same front back = all_weaker (IsBefore x) (λ e. bytes_eq e.id q ≡ false) (λ e b. ap (bytes_eq e.id) (sym same) ∙ differs_back e.id x.id b.apart) ys back
    gone (z ∷ zs) same front back = (ap (bytes_eq z.id) (sym same) ∙ front.0.apart, gone zs same front.1 back)
