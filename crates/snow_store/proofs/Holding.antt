-- Kept blocks by height and by identifier.
use Rattle.std.proofs.Common.{◌≡◌, ℕ, ◌<◌, Bool, true, false, ◌==◌, List, [], ◌∷◌, Option, Some, None, bytes_eq, nat_lt, if◌then◌else◌, ◌⊎◌, inl, inr, refl, sym, ap, subst, ◌∙◌, eq-eqb, eqb-true}
use Rattle.snow_store.specs.declared.store.KeptBlock.{KeptBlock}
use Rattle.snow_store.specs.Model.Keeping.{held, highest, higher}
use Rattle.snow_store.specs.Laws.Linking.{AreApart, AreAbove}
use Rattle.snow_store.proofs.Cases.{split_on, same_id, same_some, none_not, picked}

-- the block at a height has it
pub held_height : (kept : List KeptBlock) (h : ℕ) (b : KeptBlock) → held kept h ≡ Some b → b.header.height ≡ h
unfolding held
held_height [] h b e = none_not b e
held_height (c ∷ kept) h b e =
    elim (picked (c.header.height == h) c b (held kept h) e) [
      | inl p ↦ sym (ap (λ (x : KeptBlock). x.header.height) p.1) ∙ eqb-true c.header.height h p.0
      | inr p ↦ held_height kept h b p.1
    ]

-- the block at a height is above what all are above
pub held_above : (floor : ℕ) (kept : List KeptBlock) (h : ℕ) (b : KeptBlock) → AreAbove floor kept → held kept h ≡ Some b → floor < b.header.height
unfolding held
held_above floor [] h b above e = none_not b e
held_above floor (c ∷ kept) h b above e =
    elim (picked (c.header.height == h) c b (held kept h) e) [
      | inl p ↦ subst (λ (x : KeptBlock). floor < x.header.height) p.1 above.0
      | inr p ↦ held_above floor kept h b above.1 p.1
    ]

-- a block that is kept is the one at its height
pub held_first : (kept : List KeptBlock) (c : KeptBlock) → held (c ∷ kept) c.header.height ≡ Some c
unfolding held
held_first kept c = rw (eq-eqb c.header.height c.header.height refl) refl

-- an earlier one is at another height
pub held_later : (kept : List KeptBlock) (c : KeptBlock) (h : ℕ) → (c.header.height == h) ≡ false → held (c ∷ kept) h ≡ held kept h
unfolding held
held_later kept c h other = rw other refl

-- the block at its height stays that, where one more comes at another height
pub held_deeper : (kept : List KeptBlock) (c b : KeptBlock) → AreApart (c ∷ kept) → held kept b.header.height ≡ Some b → held (c ∷ kept) b.header.height ≡ Some b
held_deeper kept c b apart h =
    split_on (c.header.height == b.header.height)
    (λ same. none_not b (sym apart.0 ∙ ap (held kept) (eqb-true c.header.height b.header.height same) ∙ h))
    (λ other. held_later kept c b.header.height other ∙ h)

-- the higher of two is one of them
higher_cases : (c : KeptBlock) (rest : Option KeptBlock) (b : KeptBlock) → Some (higher c rest) ≡ Some b → (c ≡ b) ⊎ (rest ≡ Some b)
higher_cases c None b e = inl (same_some c b e)
higher_cases c (Some d) b e = of_two (nat_lt c.header.height d.header.height) (same_some _ b e)
  where
    of_two : (t : Bool) → (if t then d else c) ≡ b → (c ≡ b) ⊎ (Some d ≡ Some b)
    of_two true e = inr (ap (λ x. Some x) e)
    of_two false e = inl e

-- the highest block of an identifier has it, and is the one at its height
pub highest_held : (kept : List KeptBlock) (id : List ℕ) (b : KeptBlock) → AreApart kept → highest kept id ≡ Some b
    → (held kept b.header.height ≡ Some b) × (b.header.id ≡ id)
unfolding highest
highest_held [] id b apart e = none_not b e
highest_held (c ∷ kept) id b apart e =
    split_on (bytes_eq c.header.id id)
    (λ same.
    let made : Some (higher c (highest kept id)) ≡ Some b = rw same at e in
    elim (higher_cases c (highest kept id) b made) [
      | inl is ↦ (subst (λ x. held (c ∷ kept) x.header.height ≡ Some x) is (held_first kept c), ap (λ (x : KeptBlock). x.header.id) (sym is) ∙ same_id c.header.id id same)
      | inr later ↦ let h = highest_held kept id b apart.1 later in (held_deeper kept c b apart h.0, h.1)
    ])
    (λ other. let h = highest_held kept id b apart.1 (rw other at e) in (held_deeper kept c b apart h.0, h.1))
