-- What a map has once an entry came or went under its seat, or in the order.
use Rattle.std.proofs.Common.{◌≡◌, ℕ, zero, suc, replicate, ◌++◌, Bool, true, false, not, cond, nat_eq, List, [], ◌∷◌, Option, None, Some, Result, Ok, Err, bytes_eq, rules, refl, sym, ap, ap₂, subst, ◌∙◌}
use Rattle.std.specs.List.{IsDistinct}
use Rattle.std.specs.List.Sorted.{IsPermutation}
use Rattle.std.specs.Map.{lookup, keys_of, remove_entry}
use Rattle.std.specs.Option.{option_or, option_map, is_some, IsSome}
use Rattle.std.specs.Result.{OnOk, OnErr, IsOk, IfOk}
use Rattle.std.specs.Bool.{⊤}
use Rattle.std.proofs.lemmas.Bool.{eqb-true, eq-eqb, true≢false}
use Rattle.std.proofs.lemmas.Option.{same_Some}
use Rattle.snow_map.specs.Clauses.Entries.{value_of, HasAt}
use Rattle.snow_map.specs.Kept.Placed.{place_of, mark_of, is_marked, gives, entries_of, is_own, is_far_by, IsPlaced, IsInOrder, IsKept}
use Rattle.snow_map.proofs.Lists.{split_on, clash, same_id, id_itself, id_turned, or_none, one_added, one_left}
use Rattle.snow_map.proofs.Seats.{Near, found, all_distinct}

-- the parts of a map that is changed at an identifier
pub record IsChanged {V : Type 0} (near near' : Near V) (far far' : List (List ℕ × V)) (id : List ℕ) (value : Option V) : Type 0 where
  pub kept : IsKept near' far'
  pub has : HasAt (entries_of near far) (entries_of near' far') id value

-- cases on a result
on_result : {T E A B P : Type 0} (r : Result T E) → OnOk r A → OnErr r B → (A → P) → (B → P) → P
on_result (Ok value) ok err holds fails = holds ok
on_result (Err e) ok err holds fails = fails err

-- what is so where a call succeeded
pub when_ok : {T E A B : Type 0} (r : Result T E) → OnOk r A → (A → B) → OnOk r B
when_ok (Ok value) ok f = f ok
when_ok (Err e) ok f = tt

pub when_ok_with : {T E : Type 0} {P Q : T → Type 0} (r : Result T E) → IfOk r P → ((value : T) → P value → Q value) → IfOk r Q
when_ok_with (Ok value) ok f = f value ok
when_ok_with (Err e) ok f = tt

pub some_within : {X Y : Type 0} (o : Option (X × Y)) → IsSome (option_map (λ e. e.1) o) → IsSome o
some_within None some = some
some_within (Some x) some = search (rules)

-- a call that fails only where there is nothing
pub must_succeed : {T E X : Type 0} (r : Result T E) (o : Option X) → OnErr r (o ≡ None) → IsSome o → IsOk r
must_succeed (Ok value) o absent some = search (rules)
must_succeed (Err e) o absent some = search (rules, absent, some)

none_there : {X : Type 0} (o : Option X) → is_some o ≡ false → o ≡ None
none_there None is = refl
none_there (Some x) is = absurd (true≢false is)

no_value : {X : Type 0} (o : Option X) (b : Bool) → o ≡ None → cond b o o ≡ None
no_value o true none = none
no_value o false none = none

-- a map without entries
pub none_kept : {V : Type 0} (near : Near V) (far : List (List ℕ × V)) → near ≡ [] → far ≡ [] → IsKept near far
unfolding IsDistinct
none_kept near far none nothing =
    subst (λ n. IsKept n far) (sym none) (subst (IsKept []) (sym nothing) (record { unique = tt; once = tt; placed = λ place e is. absurd (none_some is) }))
  where
    none_some : {X : Type 0} {x : X} → None ≡ Some x → ⊥
    none_some h = cc

-- marks that come behind others and aren't set change none
pub marks_behind : (marks : List Bool) (n at : ℕ) → is_marked (marks ++ replicate n false) at ≡ is_marked marks at
marks_behind [] n at = none n at
  where
    none : (n at : ℕ) → is_marked (replicate n false) at ≡ false
    none zero at = refl
    none (suc n) zero = refl
    none (suc n) (suc at) = none n at
marks_behind (m ∷ marks) n zero = refl
marks_behind (m ∷ marks) n (suc at) = marks_behind marks n at

-- an entry comes into the order, and its mark is set
pub noted_with : {V : Type 0} (marks marks' : List Bool) (far far' : List (List ℕ × V)) (id : List ℕ) (v : V) → IsInOrder marks far
    → ((at : ℕ) → is_marked marks' at ≡ cond (nat_eq (mark_of id) at) true (is_marked marks at)) → HasAt far far' id (Some v)
    → (q : List ℕ) → is_marked marks' (mark_of q) ≡ false → value_of far' q ≡ None
noted_with marks marks' far far' id v kept notes puts q none =
    split_on (nat_eq (mark_of id) (mark_of q))
    (λ t. clash (is_marked marks' (mark_of q)) (notes (mark_of q) ∙ ap (λ b. cond b true (is_marked marks (mark_of q))) t) none)
    (λ f.
    puts q ∙ ap (λ b. cond b (Some v) (value_of far q)) (split_on (bytes_eq id q) (λ t. clash (nat_eq (mark_of id) (mark_of q)) (eq-eqb (mark_of id) (mark_of q) (ap mark_of (same_id id q t))) f) (λ u. u))
    ∙ kept.noted q (sym (notes (mark_of q) ∙ ap (λ b. cond b true (is_marked marks (mark_of q))) f) ∙ none))

-- an entry in the order goes, and the marks stay
pub noted_without : {V : Type 0} (marks : List Bool) (far far' : List (List ℕ × V)) (id : List ℕ) → IsInOrder marks far → HasAt far far' id None
    → (q : List ℕ) → is_marked marks (mark_of q) ≡ false → value_of far' q ≡ None
noted_without marks far far' id kept puts q none = puts q ∙ ap (cond (bytes_eq id q) None) (kept.noted q none) ∙ no_value None (bytes_eq id q) refl

module _ {V : Type 0} (near : Near V) (far : List (List ℕ × V)) (id : List ℕ) (kept : IsKept near far) where
  -- no entry is in both places
  pub added : (near' : Near V) (far' : List (List ℕ × V)) (v : V) → IsChanged near near' far far' id (Some v) → value_of (entries_of near far) id ≡ None → IsPermutation ((id, v) ∷ entries_of near far) (entries_of near' far')
  added near' far' v changed = one_added (entries_of near far) (entries_of near' far') id v (all_distinct near far kept) (all_distinct near' far' changed.kept) changed.has

  pub left : (near' : Near V) (far' : List (List ℕ × V)) → IsChanged near near' far far' id None → IsPermutation (remove_entry (bytes_eq id) (entries_of near far)) (entries_of near' far')
  left near' far' changed = one_left (entries_of near far) (entries_of near' far') id (all_distinct near far kept) (all_distinct near' far' changed.kept) changed.has

  abbrev seat : Option (List ℕ × V)
  seat = lookup (nat_eq (place_of id)) near

  -- what stands under the seat is the identifier's own, if there is anything
  abbrev IsOwn : Option (List ℕ × V) → Type 0
  IsOwn None = ⊤
  IsOwn (Some e) = bytes_eq id e.0 ≡ true

  -- so it gives nobody else anything
  nothing_else : (o : Option (List ℕ × V)) → IsOwn o → (q : List ℕ) → bytes_eq id q ≡ false → gives o q ≡ None
  nothing_else None own q f = refl
  nothing_else (Some e) own q f = ap (λ b. cond b (Some e.1) None) (ap (bytes_eq q) (sym (same_id id e.0 own)) ∙ id_turned q id ∙ f)

  own_gives : (o : Option (List ℕ × V)) → IsOwn o → gives o id ≡ option_map (λ e. e.1) o
  own_gives None own = refl
  own_gives (Some e) own = ap (λ b. cond b (Some e.1) None) own

  own_alone : (o : Option (List ℕ × V)) → seat ≡ o → IsOwn o → is_far_by o far id ≡ false → value_of far id ≡ None
  own_alone None is own not_far = none_there (value_of far id) not_far
  own_alone (Some e) is own not_far = ap (value_of far) (same_id id e.0 own) ∙ (kept.placed (place_of id) e is).alone

  own_near : (o : Option (List ℕ × V)) → is_far_by o far id ≡ false → IsOwn o
  own_near None not_far = tt
  own_near (Some e) not_far = split_on (bytes_eq id e.0) (λ t. t) (λ f. clash (not (bytes_eq id e.0)) (ap not f) not_far)

  own_has : (o : Option (List ℕ × V)) → is_own o id ≡ true → IsOwn o
  own_has None has = absurd (true≢false (sym has))
  own_has (Some e) has = has

  not_far_has : (o : Option (List ℕ × V)) → is_own o id ≡ true → is_far_by o far id ≡ false
  not_far_has None has = absurd (true≢false (sym has))
  not_far_has (Some e) has = ap not has

  far_nothing : (o : Option (List ℕ × V)) → is_far_by o far id ≡ true → gives o id ≡ None
  far_nothing None is_so = refl
  far_nothing (Some e) is_so = split_on (bytes_eq id e.0) (λ t. clash (not (bytes_eq id e.0)) is_so (ap not t)) (λ f. ap (λ b. cond b (Some e.1) None) f)

  other_nothing : (o : Option (List ℕ × V)) → is_own o id ≡ false → gives o id ≡ None
  other_nothing None has = refl
  other_nothing (Some e) has = ap (λ b. cond b (Some e.1) None) has

  -- the value at the identifier, by where its entry stands
  pub own_value : is_far_by seat far id ≡ false → value_of (entries_of near far) id ≡ option_map (λ e. e.1) seat
  own_value not_far =
      let own = own_near seat not_far in
      found near far kept id ∙ ap₂ option_or (own_gives seat own) (own_alone seat refl own not_far) ∙ or_none (option_map (λ e. e.1) seat)

  pub near_value : is_own seat id ≡ true → value_of (entries_of near far) id ≡ option_map (λ e. e.1) seat
  near_value has = own_value (not_far_has seat has)

  in_order_value : gives seat id ≡ None → value_of (entries_of near far) id ≡ value_of far id
  in_order_value none = found near far kept id ∙ ap (λ o. option_or o (value_of far id)) none

  pub far_value : is_far_by seat far id ≡ true → value_of (entries_of near far) id ≡ value_of far id
  far_value is_so = in_order_value (far_nothing seat is_so)

  pub other_value : is_own seat id ≡ false → value_of (entries_of near far) id ≡ value_of far id
  other_value has = in_order_value (other_nothing seat has)

  -- what the map has then, by what stands under each seat and in the order
  now_has : (near' : Near V) (far' : List (List ℕ × V)) (value : Option V) → IsKept near' far'
      → ((q : List ℕ) → option_or (gives (lookup (nat_eq (place_of q)) near') q) (value_of far' q) ≡ cond (bytes_eq id q) value (option_or (gives (lookup (nat_eq (place_of q)) near) q) (value_of far q)))
      → IsChanged near near' far far' id value
  now_has near' far' value kept' has = record {
    kept = kept';
    has = λ q. found near' far' kept' q ∙ has q ∙ ap (λ o. cond (bytes_eq id q) value o) (sym (found near far kept q));
  }

  -- what another identifier finds where another entry, or none, stands under the seat
  elsewhere : (near' : Near V) (w : Option (List ℕ × V)) → IsOwn seat → IsOwn w → ((p : ℕ) → lookup (nat_eq p) near' ≡ cond (nat_eq (place_of id) p) w (lookup (nat_eq p) near))
      → (q : List ℕ) → bytes_eq id q ≡ false → gives (lookup (nat_eq (place_of q)) near') q ≡ gives (lookup (nat_eq (place_of q)) near) q
  elsewhere near' w own own' puts q f =
      split_on (nat_eq (place_of id) (place_of q))
      (λ t.
      ap (λ o. gives o q) (puts (place_of q) ∙ ap (λ b. cond b w (lookup (nat_eq (place_of q)) near)) t) ∙ nothing_else w own' q f
      ∙ sym (ap (λ o. gives o q) (ap (λ p. lookup (nat_eq p) near) (sym (eqb-true (place_of id) (place_of q) t))) ∙ nothing_else seat own q f))
      (λ u. ap (λ o. gives o q) (puts (place_of q) ∙ ap (λ b. cond b w (lookup (nat_eq (place_of q)) near)) u))

  here : (near' : Near V) (w : Option (List ℕ × V)) → ((p : ℕ) → lookup (nat_eq p) near' ≡ cond (nat_eq (place_of id) p) w (lookup (nat_eq p) near)) → lookup (nat_eq (place_of id)) near' ≡ w
  here near' w puts = puts (place_of id) ∙ ap (λ b. cond b w seat) (eq-eqb (place_of id) (place_of id) refl)

  -- an entry comes to stand under its seat, in place of its own if there was one
  pub near_put : (near' : Near V) (v : V) → is_far_by seat far id ≡ false → ((p : ℕ) → lookup (nat_eq p) near' ≡ cond (nat_eq (place_of id) p) (Some (id, v)) (lookup (nat_eq p) near))
      → IsDistinct nat_eq (keys_of near') → IsChanged near near' far far id (Some v)
  near_put near' v not_far puts unique = now_has near' far (Some v) kept' has
    where
      own : IsOwn seat
      own = own_near seat not_far

      alone : value_of far id ≡ None
      alone = own_alone seat refl own not_far

      kept' : IsKept near' far
      kept' = record {
        unique = unique;
        once = kept.once;
        placed = λ p e is. split_on (nat_eq (place_of id) p)
            (λ t.
            let one = same_Some (id, v) e (sym (puts p ∙ ap (λ b. cond b (Some (id, v)) (lookup (nat_eq p) near)) t) ∙ is) in
            subst (IsPlaced far p) one (record { here = eqb-true (place_of id) p t; alone = alone }))
            (λ f. kept.placed p e (sym (puts p ∙ ap (λ b. cond b (Some (id, v)) (lookup (nat_eq p) near)) f) ∙ is));
      }

      has : (q : List ℕ) → option_or (gives (lookup (nat_eq (place_of q)) near') q) (value_of far q) ≡ cond (bytes_eq id q) (Some v) (option_or (gives (lookup (nat_eq (place_of q)) near) q) (value_of far q))
      has q =
          split_on (bytes_eq id q)
          (λ t.
          subst (λ x. option_or (gives (lookup (nat_eq (place_of x)) near') x) (value_of far x) ≡ cond (bytes_eq id x) (Some v) (option_or (gives (lookup (nat_eq (place_of x)) near) x) (value_of far x)))
          (same_id id q t)
          (ap (λ o. option_or o (value_of far id)) (ap (λ o. gives o id) (here near' (Some (id, v)) puts) ∙ ap (λ b. cond b (Some v) None) (id_itself id))
          ∙ sym (ap (λ b. cond b (Some v) (option_or (gives seat id) (value_of far id))) (id_itself id))))
          (λ f.
          ap (λ o. option_or o (value_of far q)) (elsewhere near' (Some (id, v)) own (id_itself id) puts q f)
          ∙ sym (ap (λ b. cond b (Some v) (option_or (gives (lookup (nat_eq (place_of q)) near) q) (value_of far q))) f))

  -- whether or not the call succeeded
  pub near_put_kept : {T E : Type 0} (r : Result T E) (near' : Near V) (v : V) → is_far_by seat far id ≡ false → OnOk r ((p : ℕ) → lookup (nat_eq p) near' ≡ cond (nat_eq (place_of id) p) (Some (id, v)) (lookup (nat_eq p) near))
      → OnErr r (near' ≡ near) → IsDistinct nat_eq (keys_of near') → IsKept near' far
  near_put_kept r near' v not_far ok err unique = on_result r ok err (λ puts. (near_put near' v not_far puts unique).kept) (λ same. subst (λ n. IsKept n far) (sym same) kept)

  -- an entry under its seat goes
  pub near_take : (near' : Near V) → is_own seat id ≡ true → ((p : ℕ) → lookup (nat_eq p) near' ≡ cond (nat_eq (place_of id) p) None (lookup (nat_eq p) near)) → IsDistinct nat_eq (keys_of near') → IsChanged near near' far far id None
  near_take near' has_it puts unique = now_has near' far None kept' has
    where
      own : IsOwn seat
      own = own_has seat has_it

      alone : value_of far id ≡ None
      alone = own_alone seat refl own (not_far_has seat has_it)

      none_some : {e : List ℕ × V} → None ≡ Some e → ⊥
      none_some h = cc

      kept' : IsKept near' far
      kept' = record {
        unique = unique;
        once = kept.once;
        placed = λ p e is. split_on (nat_eq (place_of id) p)
            (λ t. absurd (none_some (sym (puts p ∙ ap (λ b. cond b None (lookup (nat_eq p) near)) t) ∙ is)))
            (λ f. kept.placed p e (sym (puts p ∙ ap (λ b. cond b None (lookup (nat_eq p) near)) f) ∙ is));
      }

      has : (q : List ℕ) → option_or (gives (lookup (nat_eq (place_of q)) near') q) (value_of far q) ≡ cond (bytes_eq id q) None (option_or (gives (lookup (nat_eq (place_of q)) near) q) (value_of far q))
      has q =
          split_on (bytes_eq id q)
          (λ t.
          subst (λ x. option_or (gives (lookup (nat_eq (place_of x)) near') x) (value_of far x) ≡ cond (bytes_eq id x) None (option_or (gives (lookup (nat_eq (place_of x)) near) x) (value_of far x)))
          (same_id id q t)
          (ap₂ option_or (ap (λ o. gives o id) (here near' None puts)) alone
          ∙ sym (ap (λ b. cond b None (option_or (gives seat id) (value_of far id))) (id_itself id))))
          (λ f.
          ap (λ o. option_or o (value_of far q)) (elsewhere near' None own tt puts q f)
          ∙ sym (ap (λ b. cond b None (option_or (gives (lookup (nat_eq (place_of q)) near) q) (value_of far q))) f))

  -- an entry in the order changes, comes or goes
  far_changed : (far' : List (List ℕ × V)) (value : Option V) → gives seat id ≡ None → ((p : ℕ) (e : List ℕ × V) → lookup (nat_eq p) near ≡ Some e → cond (bytes_eq id e.0) value None ≡ None)
      → HasAt far far' id value → IsDistinct bytes_eq (keys_of far') → IsChanged near near far far' id value
  far_changed far' value nothing apart puts once = now_has near far' value kept' has
    where
      kept' : IsKept near far'
      kept' = record {
        unique = kept.unique;
        once = once;
        placed = λ p e is. record {
          here = (kept.placed p e is).here;
          alone = puts e.0 ∙ ap (λ o. cond (bytes_eq id e.0) value o) (kept.placed p e is).alone ∙ apart p e is;
        };
      }

      has : (q : List ℕ) → option_or (gives (lookup (nat_eq (place_of q)) near) q) (value_of far' q) ≡ cond (bytes_eq id q) value (option_or (gives (lookup (nat_eq (place_of q)) near) q) (value_of far q))
      has q =
          split_on (bytes_eq id q)
          (λ t.
          subst (λ x. option_or (gives (lookup (nat_eq (place_of x)) near) x) (value_of far' x) ≡ cond (bytes_eq id x) value (option_or (gives (lookup (nat_eq (place_of x)) near) x) (value_of far x)))
          (same_id id q t)
          (ap₂ option_or nothing (puts id ∙ ap (λ b. cond b value (value_of far id)) (id_itself id))
          ∙ sym (ap (λ b. cond b value (option_or (gives seat id) (value_of far id))) (id_itself id))))
          (λ f.
          ap (option_or (gives (lookup (nat_eq (place_of q)) near) q)) (puts q ∙ ap (λ b. cond b value (value_of far q)) f)
          ∙ sym (ap (λ b. cond b value (option_or (gives (lookup (nat_eq (place_of q)) near) q) (value_of far q))) f))

  pub far_put : (far' : List (List ℕ × V)) (v : V) → is_far_by seat far id ≡ true → HasAt far far' id (Some v) → IsDistinct bytes_eq (keys_of far') → IsChanged near near far far' id (Some v)
  far_put far' v is_so puts once = far_changed far' (Some v) (far_nothing seat is_so) apart puts once
    where
      apart : (p : ℕ) (e : List ℕ × V) → lookup (nat_eq p) near ≡ Some e → cond (bytes_eq id e.0) (Some v) None ≡ None
      apart p e is =
          split_on (bytes_eq id e.0)
          (λ t.
          let at : seat ≡ Some e = ap (λ x. lookup (nat_eq x) near) (ap place_of (same_id id e.0 t) ∙ (kept.placed p e is).here) ∙ is in
          clash (not (bytes_eq id e.0)) (sym (ap (λ o. is_far_by o far id) at) ∙ is_so) (ap not t))
          (λ f. ap (λ b. cond b (Some v) None) f)

  pub far_put_kept : {T E : Type 0} (r : Result T E) (far' : List (List ℕ × V)) (v : V) → is_far_by seat far id ≡ true → OnOk r (HasAt far far' id (Some v)) → OnErr r (far' ≡ far) → IsDistinct bytes_eq (keys_of far') → IsKept near far'
  far_put_kept r far' v is_so ok err once = on_result r ok err (λ puts. (far_put far' v is_so puts once).kept) (λ same. subst (IsKept near) (sym same) kept)

  pub far_take : (far' : List (List ℕ × V)) → is_own seat id ≡ false → HasAt far far' id None → IsDistinct bytes_eq (keys_of far') → IsChanged near near far far' id None
  far_take far' has_not puts once = far_changed far' None (other_nothing seat has_not) (λ p e is. no_value None (bytes_eq id e.0) refl) puts once
