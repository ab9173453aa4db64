-- Entries as a list: look-ups in order, in two lists, and what lists that give the same have in common.
use Rattle.std.proofs.Common.{◌≡◌, ℕ, Bool, true, false, cond, List, [], ◌∷◌, ◌++◌, Option, None, Some, Result, Ok, Err, bytes_eq, refl, sym, ap, ap₂, subst, ◌∙◌}
use Rattle.std.specs.Cmp.{IsEquivalence}
use Rattle.std.specs.Cmp.Lexicographic.{slice_cmp}
use Rattle.std.specs.List.{IsDistinct, AllByRecursion}
use Rattle.std.specs.List.Sorted.{IsPermutation, IsStrictlySortedBy}
use Rattle.std.specs.Map.{lookup, keys_of, remove_entry}
use Rattle.std.specs.Option.{option_or}
use Rattle.std.specs.Result.{OnErr}
use Rattle.std.specs.Ordering.{is_eq, nat_cmp}
use Rattle.std.proofs.lemmas.Bool.{true≢false}
use Rattle.std.proofs.lemmas.List.Sorted.{IsPermutation-refl, IsPermutation-cons, IsPermutation-middle, IsPermutation-trans}
use Rattle.std.proofs.lemmas.Map.{NonePasses, none_passes_from_lookup, lookup-remove_entry}
use Rattle.std.proofs.lemmas.Map.Keys.{IsDistinct-from_sorted, IsDistinct-cons, IsDistinct-head, IsDistinct-tail}
use Rattle.std.proofs.lemmas.Map.Text.{is_eq-slice_cmp}
use Rattle.std.proofs.lemmas.Option.{same_Some}
use Rattle.std.proofs.lemmas.Slice.Eq.{bytes_eq-Decides}
use Rattle.snow_map.specs.Clauses.Entries.{value_of, HasAt}

pub when_err : {T E A : Type 0} (r : Result T E) → A → OnErr r A
when_err (Ok value) a = tt
when_err (Err e) a = a

-- cases on a test
pub split_on : {P : Type 0} (b : Bool) → (b ≡ true → P) → (b ≡ false → P) → P
split_on true holds fails = holds refl
split_on false holds fails = fails refl

pub or_none : {X : Type 0} (o : Option X) → option_or o None ≡ o
or_none None = refl
or_none (Some x) = refl

-- a test is not both
pub clash : {P : Type 0} (b : Bool) → b ≡ true → b ≡ false → P
clash b s t = absurd (true≢false (sym s ∙ t))

pub same_id : (a b : List ℕ) → bytes_eq a b ≡ true → a ≡ b
same_id a b = (bytes_eq-Decides a b).0

pub id_itself : (a : List ℕ) → bytes_eq a a ≡ true
id_itself a = (bytes_eq-Decides a a).1 refl

apart_ids : (a b : List ℕ) → (a ≡ b → ⊥) → bytes_eq a b ≡ false
apart_ids a b h = split_on (bytes_eq a b) (λ t. absurd (h (same_id a b t))) (λ t. t)

pub id_turned : (a b : List ℕ) → bytes_eq a b ≡ bytes_eq b a
id_turned a b = split_on (bytes_eq a b)
    (λ t. t ∙ sym ((bytes_eq-Decides b a).1 (sym (same_id a b t))))
    (λ f. f ∙ sym (apart_ids b a (λ e. clash (bytes_eq a b) ((bytes_eq-Decides a b).1 (sym e)) f)))

-- identifiers that are found equal are one
pub ids_are_one : IsEquivalence bytes_eq
ids_are_one = record {
  refl = id_itself;
  symm = id_turned;
  congr = λ a b z t. ap (λ x. bytes_eq x z) (same_id a b t);
}

module _ {V : Type 0} where
  -- a look-up by order is one by equality
  pub in_order : (es : List (List ℕ × V)) (id : List ℕ) → lookup (λ k. is_eq (slice_cmp nat_cmp id k)) es ≡ value_of es id
  in_order [] id = refl
  in_order (e ∷ es) id = ap₂ (λ b o. cond b (Some e.1) o) (is_eq-slice_cmp id e.0) (in_order es id)

  -- a look-up in two lists, one behind the other
  pub appended : (xs ys : List (List ℕ × V)) (id : List ℕ) → value_of (xs ++ ys) id ≡ option_or (value_of xs id) (value_of ys id)
  appended [] ys id = refl
  appended (x ∷ xs) ys id =
      elim (bytes_eq id x.0) as (λ b. cond b (Some x.1) (value_of (xs ++ ys) id) ≡ option_or (cond b (Some x.1) (value_of xs id)) (value_of ys id)) [
        | true ↦ refl
        | false ↦ appended xs ys id
      ]

  no_key : (id : List ℕ) (es : List (List ℕ × V)) → NonePasses (bytes_eq id) es → AllByRecursion (λ y. bytes_eq id y ≡ false) (keys_of es)
  no_key id [] none = tt
  no_key id (e ∷ es) none = (none.0, no_key id es none.1)

  -- one more key that stands nowhere
  pub one_more : (id : List ℕ) (v : V) (es : List (List ℕ × V)) → value_of es id ≡ None → IsDistinct bytes_eq (keys_of es) → IsDistinct bytes_eq (id ∷ keys_of es)
  one_more id v es none once = IsDistinct-cons bytes_eq id (keys_of es) (no_key id es (none_passes_from_lookup (bytes_eq id) es none)) once

  none_of : (id : List ℕ) (es : List (List ℕ × V)) → AllByRecursion (λ y. bytes_eq id y ≡ false) (keys_of es) → value_of es id ≡ None
  none_of id [] all = refl
  none_of id (e ∷ es) all = ap (λ b. cond b (Some e.1) (value_of es id)) all.0 ∙ none_of id es all.1

  -- two lists of which none gives what the other does
  pub both_once : (xs ys : List (List ℕ × V)) → IsDistinct bytes_eq (keys_of xs) → IsDistinct bytes_eq (keys_of ys) → ((id : List ℕ) (v : V) → value_of xs id ≡ Some v → value_of ys id ≡ None)
      → IsDistinct bytes_eq (keys_of (xs ++ ys))
  both_once [] ys s t apart = t
  both_once (x ∷ xs) ys s t apart =
      one_more x.0 x.1 (xs ++ ys) (appended xs ys x.0 ∙ ap₂ option_or (none_of x.0 xs (IsDistinct-head bytes_eq x.0 (keys_of xs) s)) (apart x.0 x.1 (ap (λ b. cond b (Some x.1) (value_of xs x.0)) (id_itself x.0))))
      (both_once xs ys (IsDistinct-tail bytes_eq x.0 (keys_of xs) s) t
      (λ id v is. split_on (bytes_eq id x.0)
      (λ u. apart id x.1 (ap (λ b. cond b (Some x.1) (value_of xs id)) u))
      (λ f. apart id v (ap (λ b. cond b (Some x.1) (value_of xs id)) f ∙ is))))

  fewer : (test : List ℕ → Bool) (p : List ℕ → Bool) (es : List (List ℕ × V)) → AllByRecursion (λ y. p y ≡ false) (keys_of es) → AllByRecursion (λ y. p y ≡ false) (keys_of (remove_entry test es))
  fewer test p [] all = tt
  fewer test p (e ∷ es) all =
      elim (test e.0) as (λ b. AllByRecursion (λ y. p y ≡ false) (keys_of (cond b es (e ∷ remove_entry test es)))) [
        | true ↦ all.1
        | false ↦ (all.0, fewer test p es all.1)
      ]

  still_once : (test : List ℕ → Bool) (es : List (List ℕ × V)) → IsDistinct bytes_eq (keys_of es) → IsDistinct bytes_eq (keys_of (remove_entry test es))
  still_once test [] once = once
  still_once test (e ∷ es) once =
      elim (test e.0) as (λ b. IsDistinct bytes_eq (keys_of (cond b es (e ∷ remove_entry test es)))) [
        | true ↦ IsDistinct-tail bytes_eq e.0 (keys_of es) once
        | false ↦
            IsDistinct-cons bytes_eq e.0 (keys_of (remove_entry test es)) (fewer test (bytes_eq e.0) es (IsDistinct-head bytes_eq e.0 (keys_of es) once))
            (still_once test es (IsDistinct-tail bytes_eq e.0 (keys_of es) once))
      ]

  -- an entry may be taken to the front
  front_taken : (ys : List (List ℕ × V)) (id : List ℕ) (v : V) → value_of ys id ≡ Some v → IsPermutation ((id, v) ∷ remove_entry (bytes_eq id) ys) ys
  front_taken [] id v is = absurd cc
  front_taken (y ∷ ys) id v is =
      (elim (bytes_eq id y.0) as
      (λ b. bytes_eq id y.0 ≡ b → cond b (Some y.1) (value_of ys id) ≡ Some v → IsPermutation ((id, v) ∷ cond b ys (y ∷ remove_entry (bytes_eq id) ys)) (y ∷ ys)) [
        | true ↦ λ t same. subst (λ e. IsPermutation (e ∷ ys) (y ∷ ys)) (ap₂ (λ (k : List ℕ) (w : V). (k, w)) (sym (same_id id y.0 t)) (same_Some y.1 v same)) (IsPermutation-refl (y ∷ ys))
        | false ↦ λ t same.
            IsPermutation-trans ((id, v) ∷ y ∷ remove_entry (bytes_eq id) ys) (y ∷ (id, v) ∷ remove_entry (bytes_eq id) ys) (y ∷ ys)
            (IsPermutation-middle ((id, v) ∷ []) y (remove_entry (bytes_eq id) ys))
            (IsPermutation-cons y ((id, v) ∷ remove_entry (bytes_eq id) ys) ys (front_taken ys id v same))
      ]) refl is

  -- what is left gives nothing there, and elsewhere what it gave
  gives_rest : (ys : List (List ℕ × V)) (id q : List ℕ) → IsDistinct bytes_eq (keys_of ys) → value_of (remove_entry (bytes_eq id) ys) q ≡ cond (bytes_eq id q) None (value_of ys q)
  gives_rest ys id q once = lookup-remove_entry ids_are_one (bytes_eq id) (λ a b t. ap (λ z. bytes_eq z b) (same_id id a t)) q ys once

  -- lists that give the same are the same, in some order
  same_entries : (xs ys : List (List ℕ × V)) → IsDistinct bytes_eq (keys_of xs) → IsDistinct bytes_eq (keys_of ys) → ((id : List ℕ) → value_of xs id ≡ value_of ys id) → IsPermutation xs ys
  same_entries [] [] s t same = IsPermutation-refl []
  same_entries [] (y ∷ ys) s t same = absurd (none_some (same y.0 ∙ ap (λ b. cond b (Some y.1) (value_of ys y.0)) (id_itself y.0)))
    where
      none_some : {v : V} → None ≡ Some v → ⊥
      none_some h = cc
  same_entries (x ∷ xs) ys s t same =
      let here = sym (same x.0) ∙ ap (λ b. cond b (Some x.1) (value_of xs x.0)) (id_itself x.0) in
      let rest = remove_entry (bytes_eq x.0) ys in
      IsPermutation-trans (x ∷ xs) (x ∷ rest) ys
      (IsPermutation-cons x xs rest
      (same_entries xs rest (IsDistinct-tail bytes_eq x.0 (keys_of xs) s) (still_once (bytes_eq x.0) ys t)
      (λ q.
      split_on (bytes_eq x.0 q)
      (λ u. ap (value_of xs) (sym (same_id x.0 q u)) ∙ none_of x.0 xs (IsDistinct-head bytes_eq x.0 (keys_of xs) s) ∙ sym (gives_rest ys x.0 q t ∙ ap (λ b. cond b None (value_of ys q)) u))
      (λ u.
      sym (ap (λ b. cond b (Some x.1) (value_of xs q)) (id_turned q x.0 ∙ u)) ∙ same q
      ∙ sym (gives_rest ys x.0 q t ∙ ap (λ b. cond b None (value_of ys q)) u)))))
      (front_taken ys x.0 x.1 here)

  -- so where one entry came, and where one went
  pub one_added : (before now : List (List ℕ × V)) (id : List ℕ) (v : V) → IsDistinct bytes_eq (keys_of before) → IsDistinct bytes_eq (keys_of now) → HasAt before now id (Some v) → value_of before id ≡ None
      → IsPermutation ((id, v) ∷ before) now
  one_added before now id v once once' has none =
      same_entries ((id, v) ∷ before) now (one_more id v before none once) once'
      (λ q. ap (λ b. cond b (Some v) (value_of before q)) (id_turned q id) ∙ sym (has q))

  pub one_left : (before now : List (List ℕ × V)) (id : List ℕ) → IsDistinct bytes_eq (keys_of before) → IsDistinct bytes_eq (keys_of now) → HasAt before now id None
      → IsPermutation (remove_entry (bytes_eq id) before) now
  one_left before now id once once' has =
      same_entries (remove_entry (bytes_eq id) before) now (still_once (bytes_eq id) before once) once'
      (λ q. gives_rest before id q once ∙ sym (has q))

-- keys in order are distinct
all_so : (k : List ℕ) (ys : List (List ℕ)) → AllByRecursion (λ y. is_eq (slice_cmp nat_cmp k y) ≡ false) ys → AllByRecursion (λ y. bytes_eq k y ≡ false) ys
all_so k [] all = tt
all_so k (y ∷ ys) all = (sym (is_eq-slice_cmp k y) ∙ all.0, all_so k ys all.1)

retold : (ys : List (List ℕ)) → IsDistinct (λ x y. is_eq (slice_cmp nat_cmp x y)) ys → IsDistinct bytes_eq ys
unfolding IsDistinct
retold [] once = tt
retold (y ∷ ys) once = (all_so y ys once.0, retold ys once.1)

pub once_in_order : (ks : List (List ℕ)) → IsStrictlySortedBy (slice_cmp nat_cmp) ks → IsDistinct bytes_eq ks
once_in_order ks sorted = retold ks (IsDistinct-from_sorted (slice_cmp nat_cmp) ks sorted)
