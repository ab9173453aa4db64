-- The lowest child at a wrong height, by the two lowest children.
use Rattle.std.proofs.Common.{◌≡◌, ℕ, ◌+◌, ◌<◌, Bool, true, false, ◌==◌, ◌&&◌, not, List, [], ◌∷◌, Option, Some, None, bytes_eq, nat_lt, if◌then◌else◌, ◌⊎◌, inl, inr, refl, sym, ap, subst, ◌∙◌, arith, eqb-true}
use Rattle.std.specs.Option.{option_map, option_and_then}
use Rattle.std.specs.Prelude.{is_some}
use Rattle.std.proofs.lemmas.Bool.{ne_eqb, lt-ltb, le-ltb, cases_order}
use Rattle.snow_store.specs.declared.store.KeptBlock.{KeptBlock}
use Rattle.snow_store.specs.declared.index.Children.{Children}
use Rattle.snow_store.specs.Model.Keeping.{held, lower, strays, stray}
use Rattle.snow_store.specs.Laws.Linking.{AreApart, held_heights}
use Rattle.snow_store.specs.Kept.Indexing.{lower_height, with_child, children_of, stray_height}
use Rattle.snow_store.proofs.Cases.{split_on, clash, same_some, none_not, picked}
use Rattle.snow_store.proofs.Holding.{held_first, held_later}

-- children are kept, the second one above the first
pub record AreKept (kept : List KeptBlock) (c : Children) : Type 0 where
  pub lowest : held_heights kept c.lowest ≡ true
  pub second : (k : ℕ) → c.second ≡ Some k → (c.lowest < k) × (held_heights kept k ≡ true)

-- a height that is held is another than one that isn't
pub other_height : (kept : List KeptBlock) (h k : ℕ) → held kept h ≡ None → held_heights kept k ≡ true → h ≡ k → ⊥
other_height kept h k none some same = clash (held_heights kept k) some (ap is_some (ap (held kept) (sym same) ∙ none))

-- a height stays held
still_held : (kept : List KeptBlock) (b : KeptBlock) (k : ℕ) → held_heights kept k ≡ true → held_heights (b ∷ kept) k ≡ true
unfolding held
still_held kept b k some = by_test (b.header.height == k)
  where
    by_test : (t : Bool) → is_some (if t then Some b else held kept k) ≡ true
    by_test true = refl
    by_test false = some

first_held : (kept : List KeptBlock) (b : KeptBlock) → held_heights (b ∷ kept) b.header.height ≡ true
first_held kept b = ap is_some (held_first kept b)

-- a height is another, lower or higher
apart_cases : (x l : ℕ) → (x ≡ l → ⊥) → (x < l) ⊎ (l < x)
apart_cases x l other =
    elim (cases_order x l) [ inl same ↦ absurd (other same) | inr rest ↦ rest ]

with_child_kept : (kept : List KeptBlock) (b : KeptBlock) (o : Option Children) → held kept b.header.height ≡ None → ((c : Children) → o ≡ Some c → AreKept kept c)
    → AreKept (b ∷ kept) (with_child b.header.height o)
with_child_kept kept b None free are = record { lowest = first_held kept b; second = λ k e. none_not k e }
with_child_kept kept b (Some c) free are =
    let old = are c refl in
    let x = b.header.height in
    elim (apart_cases x c.lowest (other_height kept x c.lowest free old.lowest)) [
      | inl less ↦
          let is : with_child x (Some c) ≡ record { lowest = x; second = Some c.lowest } = rw (lt-ltb x c.lowest less) refl in
          subst (AreKept (b ∷ kept)) (sym is) record {
            lowest = first_held kept b;
            second = λ k e.
                let same : c.lowest ≡ k = same_some c.lowest k e in
                (omega (arith, less, same), ap (held_heights (b ∷ kept)) (sym same) ∙ still_held kept b c.lowest old.lowest);
          }
      | inr more ↦
          let is : with_child x (Some c) ≡ record { lowest = c.lowest; second = Some (lower_height x c.second) } = rw (le-ltb x c.lowest (omega (arith, more))) refl in
          subst (AreKept (b ∷ kept)) (sym is) record {
            lowest = still_held kept b c.lowest old.lowest;
            second = λ k e. subst (λ n. (c.lowest < n) × (held_heights (b ∷ kept) n ≡ true)) (same_some (lower_height x c.second) k e) (of_two c.second old.second more);
          }
    ]
  where
    of_two : (o : Option ℕ) → ((k : ℕ) → o ≡ Some k → (c.lowest < k) × (held_heights kept k ≡ true)) → c.lowest < b.header.height
        → (c.lowest < lower_height b.header.height o) × (held_heights (b ∷ kept) (lower_height b.header.height o) ≡ true)
    of_two None old more = (more, first_held kept b)
    of_two (Some k) old more = by_test (nat_lt k b.header.height)
      where
        by_test : (t : Bool) → (c.lowest < (if t then k else b.header.height)) × (held_heights (b ∷ kept) (if t then k else b.header.height) ≡ true)
        by_test true = ((old k refl).0, still_held kept b k (old k refl).1)
        by_test false = (more, first_held kept b)

still_kept : (kept : List KeptBlock) (b : KeptBlock) (c : Children) → AreKept kept c → AreKept (b ∷ kept) c
still_kept kept b c old = record {
  lowest = still_held kept b c.lowest old.lowest;
  second = λ k e. ((old.second k e).0, still_held kept b k (old.second k e).1);
}

pub children_kept : (kept : List KeptBlock) (parent : List ℕ) (c : Children) → AreApart kept → children_of kept parent ≡ Some c → AreKept kept c
unfolding children_of
children_kept [] parent c apart e = none_not c e
children_kept (b ∷ kept) parent c apart e =
    elim (picked (bytes_eq b.header.parent parent) (with_child b.header.height (children_of kept parent)) c (children_of kept parent) e) [
      | inl q ↦ subst (AreKept (b ∷ kept)) q.1 (with_child_kept kept b (children_of kept parent) apart.0 (λ d is. children_kept kept parent d apart.1 is))
      | inr q ↦ still_kept kept b c (children_kept kept parent c apart.1 q.1)
    ]

-- the lower of a height and the lowest child at a wrong height
one_more : (h x : ℕ) (o : Option Children) → ((c : Children) → o ≡ Some c → (x ≡ c.lowest → ⊥) × ((k : ℕ) → c.second ≡ Some k → c.lowest < k))
    → (if not (x == h + 1) then Some (lower_height x (stray_height h o)) else stray_height h o) ≡ stray_height h (Some (with_child x o))
one_more h x None are = by_test (x == h + 1)
  where
    by_test : (t : Bool) → (let r : Option ℕ = if not t then Some x else None in r) ≡ (if t then None else Some x)
    by_test true = refl
    by_test false = refl
one_more h x (Some c) are =
    elim (apart_cases x c.lowest (are c refl).0) [
      | inl less ↦ rw (lt-ltb x c.lowest less) (lower_first less)
      | inr more ↦ rw (le-ltb x c.lowest (omega (arith, more))) (higher_first more)
    ]
  where
    keeps_lower : (o : Option ℕ) → ((k : ℕ) → o ≡ Some k → c.lowest < k) → x < c.lowest → lower_height x o ≡ x
    keeps_lower None above less = refl
    keeps_lower (Some k) above less = rw (le-ltb k x (omega (arith, above k refl, less))) refl

    lower_first : x < c.lowest → (if not (x == h + 1) then Some (lower_height x (stray_height h (Some c))) else stray_height h (Some c)) ≡ (if x == h + 1 then Some c.lowest else Some x)
    lower_first less =
        split_on (x == h + 1)
        (λ at.
        let there : x ≡ h + 1 = eqb-true x (h + 1) at in
        rw (at, ne_eqb c.lowest (h + 1) (λ e. omega (arith, e, there, less))) refl)
        (λ off. rw off (ap (λ n. Some n) (split_on (c.lowest == h + 1)
        (λ low. rw low (keeps_lower c.second (are c refl).1 less))
        (λ low. rw (low, le-ltb c.lowest x (omega (arith, less))) refl))))

    higher_first : c.lowest < x → (if not (x == h + 1) then Some (lower_height x (stray_height h (Some c))) else stray_height h (Some c))
        ≡ (if c.lowest == h + 1 then Some (lower_height x c.second) else Some c.lowest)
    higher_first more =
        split_on (c.lowest == h + 1)
        (λ low.
        let there : c.lowest ≡ h + 1 = eqb-true c.lowest (h + 1) low in
        rw (low, ne_eqb x (h + 1) (λ e. omega (arith, e, there, more))) refl)
        (λ low. rw low (split_on (x == h + 1)
        (λ at. rw at refl)
        (λ off. rw (off, lt-ltb c.lowest x more) refl)))

-- the height of the lower of two
lower_is : (b : KeptBlock) (o : Option KeptBlock) → (lower b o).header.height ≡ lower_height b.header.height (option_map (λ x. x.header.height) o)
lower_is b None = refl
lower_is b (Some c) = by_test (nat_lt c.header.height b.header.height)
  where
    by_test : (t : Bool) → (if t then c else b).header.height ≡ (if t then c.header.height else b.header.height)
    by_test true = refl
    by_test false = refl

-- one child more
stray_step : (kept : List KeptBlock) (b : KeptBlock) (parent : List ℕ) (h : ℕ) → AreApart (b ∷ kept)
    → option_map (λ x. x.header.height) (stray kept parent h) ≡ stray_height h (children_of kept parent)
    → option_map (λ x. x.header.height) (if bytes_eq b.header.parent parent && not (b.header.height == h + 1) then Some (lower b (stray kept parent h)) else stray kept parent h)
    ≡ stray_height h (if bytes_eq b.header.parent parent then Some (with_child b.header.height (children_of kept parent)) else children_of kept parent)
stray_step kept b parent h apart more = by_child (bytes_eq b.header.parent parent) refl
  where
    low : Option KeptBlock → Option ℕ
    low o = option_map (λ x. x.header.height) o

    by_height : (t : Bool) → low (if t then Some (lower b (stray kept parent h)) else stray kept parent h)
        ≡ (if t then Some (lower_height b.header.height (stray_height h (children_of kept parent))) else stray_height h (children_of kept parent))
    by_height true = ap (λ n. Some n) (lower_is b (stray kept parent h) ∙ ap (lower_height b.header.height) more)
    by_height false = more

    are : (c : Children) → children_of kept parent ≡ Some c → (b.header.height ≡ c.lowest → ⊥) × ((k : ℕ) → c.second ≡ Some k → c.lowest < k)
    are c e =
        let k = children_kept kept parent c apart.1 e in
        (other_height kept b.header.height c.lowest apart.0 k.lowest, λ n is. (k.second n is).0)

    by_child : (t : Bool) → bytes_eq b.header.parent parent ≡ t
        → low (if t && not (b.header.height == h + 1) then Some (lower b (stray kept parent h)) else stray kept parent h)
        ≡ stray_height h (if t then Some (with_child b.header.height (children_of kept parent)) else children_of kept parent)
    by_child true e = by_height (not (b.header.height == h + 1)) ∙ one_more h b.header.height (children_of kept parent) are
    by_child false e = more

-- the lowest child at a wrong height is at the height that the two lowest children tell
pub stray_at : (kept : List KeptBlock) (parent : List ℕ) (h : ℕ) → AreApart kept → option_map (λ x. x.header.height) (stray kept parent h) ≡ stray_height h (children_of kept parent)
unfolding stray children_of
stray_at [] parent h apart = refl
stray_at (b ∷ kept) parent h apart = stray_step kept b parent h apart (stray_at kept parent h apart.1)

-- a block that is kept stays the one at its height
deeper : (kept : List KeptBlock) (c b : KeptBlock) → AreApart (c ∷ kept) → held kept b.header.height ≡ Some b → held (c ∷ kept) b.header.height ≡ Some b
deeper kept c b apart is =
    split_on (c.header.height == b.header.height)
    (λ same. none_not b (sym apart.0 ∙ ap (held kept) (eqb-true c.header.height b.header.height same) ∙ is))
    (λ other. held_later kept c b.header.height other ∙ is)

of_lower : (kept : List KeptBlock) (c b : KeptBlock) (o : Option KeptBlock) → AreApart (c ∷ kept) → ((d : KeptBlock) → o ≡ Some d → held kept d.header.height ≡ Some d) → lower c o ≡ b
    → held (c ∷ kept) b.header.height ≡ Some b
of_lower kept c b None apart are e = subst (λ x. held (c ∷ kept) x.header.height ≡ Some x) e (held_first kept c)
of_lower kept c b (Some d) apart are e = by_test (nat_lt d.header.height c.header.height) e
  where
    by_test : (t : Bool) → (if t then d else c) ≡ b → held (c ∷ kept) b.header.height ≡ Some b
    by_test true e = deeper kept c b apart (are b (ap (λ x. Some x) e))
    by_test false e = subst (λ x. held (c ∷ kept) x.header.height ≡ Some x) e (held_first kept c)

-- and is the block at its height
pub stray_held : (kept : List KeptBlock) (parent : List ℕ) (h : ℕ) (b : KeptBlock) → AreApart kept → stray kept parent h ≡ Some b → held kept b.header.height ≡ Some b
unfolding stray
stray_held [] parent h b apart e = none_not b e
stray_held (c ∷ kept) parent h b apart e =
    elim (picked (strays parent h c) (lower c (stray kept parent h)) b (stray kept parent h) e) [
      | inl q ↦ of_lower kept c b (stray kept parent h) apart (λ d is. stray_held kept parent h d apart.1 is) q.1
      | inr q ↦ deeper kept c b apart (stray_held kept parent h b apart.1 q.1)
    ]

-- the lowest child at a wrong height is the block at that height
pub stray_found : (kept : List KeptBlock) (parent : List ℕ) (h : ℕ) → AreApart kept → option_and_then (held kept) (stray_height h (children_of kept parent)) ≡ stray kept parent h
stray_found kept parent h apart = ap (option_and_then (held kept)) (sym (stray_at kept parent h apart)) ∙ found (stray kept parent h) refl
  where
    found : (s : Option KeptBlock) → stray kept parent h ≡ s → option_and_then (held kept) (option_map (λ x. x.header.height) s) ≡ s
    found None e = refl
    found (Some b) e = stray_held kept parent h b apart e
