-- The path of a kept block: where it ends, and what is on it.
use Rattle.std.proofs.Common.{◌≡◌, ℕ, zero, suc, ◌+◌, ◌-◌, ◌≤◌, Bool, true, false, List, [], ◌∷◌, ◌++◌, reverse, Option, Some, None, if◌then◌else◌, ◌⊎◌, inl, inr, refl, sym, ap, subst, ◌∙◌, arith, append_assoc, append-nil, add-one}
use Rattle.std.specs.Prelude.{is_some}
use Rattle.std.proofs.lemmas.List.{reverse-append}
use Rattle.snow_interval.specs.Model.Heights.{Heights, lowest}
use Rattle.snow_store.specs.declared.store.KeptBlock.{KeptBlock}
use Rattle.snow_store.specs.Model.Keeping.{Store, held}
use Rattle.snow_store.specs.Model.Paths.{path, last_of}
use Rattle.snow_store.specs.Laws.Linking.{IsLinked, held_heights, listed, upward}
use Rattle.std.proofs.lemmas.Bool.Decides.{leb_tells}
use Rattle.snow_store.proofs.Cases.{split_on, id_same}
use Rattle.snow_store.proofs.Holding.{held_height, held_above}

-- a block, or none
option_cases : (o : Option KeptBlock) → (o ≡ None) ⊎ ((b : KeptBlock) × (o ≡ Some b))
option_cases None = inl refl
option_cases (Some b) = inr (b, refl)

-- the path of a block begins with it
pub path_at : (kept : List KeptBlock) (below : ℕ) (b : KeptBlock) → held kept (suc below) ≡ Some b → path kept (suc below) b.header.id ≡ b ∷ path kept below b.header.parent
unfolding path
path_at kept below b e = rw (e, id_same b.header.id b.header.id refl) refl

-- no path begins where no block is
pub path_none : (kept : List KeptBlock) (h : ℕ) (id : List ℕ) → held kept h ≡ None → path kept h id ≡ []
unfolding path
path_none kept zero id e = refl
path_none kept (suc below) id e = rw e refl

-- a run goes on below a height that is held
run_on : (held : Heights) (below : ℕ) → held below ≡ true → lowest held (suc below) ≡ lowest held below
unfolding lowest
run_on held below e = rw e refl

-- and begins where the height below isn't
run_begins : (held : Heights) (below : ℕ) → held below ≡ false → lowest held (suc below) ≡ suc below
unfolding lowest
run_begins held below e = rw e refl

-- no block is kept at height 0
none_at_zero : (s : Store) (b : KeptBlock) {P : Type 0} → IsLinked s → held s.kept zero ≡ Some b → P
none_at_zero s b l e = absurd (omega (arith, held_above s.height s.kept zero b l.above e, held_height s.kept zero b e))

-- the parent of a block is the one below it, if one is held there
parent_below : (s : Store) (below : ℕ) (x b : KeptBlock) → IsLinked s → held s.kept below ≡ Some x → held s.kept (suc below) ≡ Some b → b.header.parent ≡ x.header.id
parent_below s below x b l e f = l.linked below x b e (ap (held s.kept) (add-one below) ∙ f)

-- the path of the block at a height ends at the lowest height of its run
pub bottom : (s : Store) (h : ℕ) (b : KeptBlock) → IsLinked s → held s.kept h ≡ Some b → last_of (path s.kept h b.header.id) ≡ held s.kept (lowest (held_heights s.kept) h)
bottom s zero b l e = none_at_zero s b l e
bottom s (suc below) b l e =
    elim (option_cases (held s.kept below)) [
      | inl none ↦
          let none_held : held_heights s.kept below ≡ false = ap is_some none in
          rw (path_at s.kept below b e, path_none s.kept below b.header.parent none, run_begins (held_heights s.kept) below none_held) (sym e)
      | inr there ↦
          let parent = parent_below s below there.0 b l there.1 e in
          let is_held : held_heights s.kept below ≡ true = ap is_some there.1 in
          ap last_of (path_at s.kept below b e ∙ ap (λ p. b ∷ path s.kept below p) parent)
          ∙ last_behind s below there.0 b l there.1
          ∙ bottom s below there.0 l there.1
          ∙ ap (held s.kept) (sym (run_on (held_heights s.kept) below is_held))
    ]
  where
    last_behind : (s : Store) (below : ℕ) (x b : KeptBlock) → IsLinked s → held s.kept below ≡ Some x → last_of (b ∷ path s.kept below x.header.id) ≡ last_of (path s.kept below x.header.id)
    last_behind s zero x b l e = none_at_zero s x l e
    last_behind s (suc under) x b l e = rw (path_at s.kept under x e) refl

-- the same for the block at its own height
pub path_bottom : (s : Store) (b : KeptBlock) → IsLinked s → held s.kept b.header.height ≡ Some b
    → last_of (path s.kept b.header.height b.header.id) ≡ held s.kept (lowest (held_heights s.kept) b.header.height)
path_bottom s b l e = bottom s b.header.height b l e

-- the last of the blocks upwards
pub upward_more : (kept : List KeptBlock) (from n : ℕ) → upward kept from (suc n) ≡ upward kept from n ++ listed (held kept (from + n))
unfolding upward
upward_more kept from zero = append-nil (listed (held kept from)) ∙ ap (λ m. listed (held kept m)) (let e : from ≡ from + zero = omega arith in e)
upward_more kept from (suc n) =
    let e : suc from + n ≡ from + suc n = omega arith in
    ap (λ l. listed (held kept from) ++ l) (upward_more kept (suc from) n ∙ ap (λ m. upward kept (suc from) n ++ listed (held kept m)) e)
    ∙ sym (append_assoc (listed (held kept from)) (upward kept (suc from) n) (listed (held kept (from + suc n))))

-- a run is no higher than its height
pub at_most : (held : Heights) (h : ℕ) → lowest held h ≤ h
unfolding lowest
at_most held zero = omega arith
at_most held (suc below) = split_on (held below) (λ e. rw e (omega (arith, at_most held below))) (λ e. rw e (omega arith))

-- one block upwards
upward_only : (kept : List KeptBlock) (h : ℕ) → upward kept h (suc zero) ≡ listed (held kept h)
unfolding upward
upward_only kept h = append-nil (listed (held kept h))

-- a path upwards has the block at each height of its run
pub path_upward : (s : Store) (h : ℕ) (b : KeptBlock) → IsLinked s → held s.kept h ≡ Some b → (n : ℕ) → lowest (held_heights s.kept) h + n ≡ suc h
    → reverse (path s.kept h b.header.id) ≡ upward s.kept (lowest (held_heights s.kept) h) n
path_upward s zero b l e n at = none_at_zero s b l e
path_upward s (suc below) b l e n at =
    elim (option_cases (held s.kept below)) [
      | inl none ↦
          let none_held : held_heights s.kept below ≡ false = ap is_some none in
          let low : lowest (held_heights s.kept) (suc below) ≡ suc below = run_begins (held_heights s.kept) below none_held in
          let one : n ≡ suc zero = omega (arith, low, at) in
          ap reverse (path_at s.kept below b e ∙ ap (λ l. b ∷ l) (path_none s.kept below b.header.parent none))
          ∙ sym (upward_only s.kept (suc below) ∙ ap listed e)
          ∙ ap (λ m. upward s.kept m (suc zero)) (sym low)
          ∙ ap (upward s.kept (lowest (held_heights s.kept) (suc below))) (sym one)
      | inr there ↦
          let parent = parent_below s below there.0 b l there.1 e in
          let is_held : held_heights s.kept below ≡ true = ap is_some there.1 in
          let low : lowest (held_heights s.kept) (suc below) ≡ lowest (held_heights s.kept) below = run_on (held_heights s.kept) below is_held in
          let m : ℕ = suc below - lowest (held_heights s.kept) below in
          let bound : lowest (held_heights s.kept) below ≤ below = at_most (held_heights s.kept) below in
          let sum : lowest (held_heights s.kept) below + m ≡ suc below = omega (arith, bound) in
          let more : n ≡ suc m = omega (arith, low, at, sum) in
          let at_top : held s.kept (lowest (held_heights s.kept) below + m) ≡ Some b = ap (held s.kept) sum ∙ e in
          ap reverse (path_at s.kept below b e ∙ ap (λ p. b ∷ path s.kept below p) parent)
          ∙ reverse-append (b ∷ []) (path s.kept below there.0.header.id)
          ∙ ap (λ l. l ++ b ∷ []) (path_upward s below there.0 l there.1 m sum)
          ∙ ap (λ o. upward s.kept (lowest (held_heights s.kept) below) m ++ listed o) (sym at_top)
          ∙ sym (upward_more s.kept (lowest (held_heights s.kept) below) m)
          ∙ ap (λ k. upward s.kept k (suc m)) (sym low)
          ∙ ap (upward s.kept (lowest (held_heights s.kept) (suc below))) (sym more)
    ]

-- a height of the run is the top or in the run below
in_run : (held : Heights) (below k : ℕ) (t : Bool) → held (suc below) ≡ true → (if t then lowest held below else suc below) ≤ k → k ≤ suc below
    → (t ≡ true → lowest held below ≤ k → k ≤ below → held k ≡ true) → held k ≡ true
in_run held below k false at low high more = subst (λ n. held n ≡ true) (let e : suc below ≡ k = omega (arith, low, high) in e) at
in_run held below k true at low high more =
    elim (leb_tells k below) [
      | inl le ↦ more refl low le.1
      | inr gt ↦ subst (λ n. held n ≡ true) (let e : suc below ≡ k = omega (arith, gt.1, high) in e) at
    ]

-- all heights of a run are held
pub run_held : (held : Heights) (h : ℕ) → held h ≡ true → (k : ℕ) → lowest held h ≤ k → k ≤ h → held k ≡ true
unfolding lowest
run_held held zero at k low high = subst (λ n. held n ≡ true) (let e : zero ≡ k = omega arith in e) at
run_held held (suc below) at k low high = in_run held below k (held below) at low high (λ e low le. run_held held below e k low le)
