-- Taking a block keeps the kept blocks linked.
use Rattle.std.proofs.Common.{◌≡◌, ℕ, ◌+◌, ◌-◌, ◌<◌, Bool, true, false, ◌==◌, ◌&&◌, not, List, ◌∷◌, length, Option, Some, None, bytes_eq, nat_le, if◌then◌else◌, ◌⊎◌, inl, inr, refl, sym, ap, subst, ◌∙◌, arith, eq-eqb, eqb-true}
use Rattle.std.specs.Prelude.{Result, Ok, Err}
use Rattle.std.specs.Option.{option_or}
use Rattle.std.proofs.lemmas.Bool.{leb-false}
use Rattle.snow_base.specs.declared.block.Header.{Header}
use Rattle.snow_base.specs.declared.limits.TheConstants.{MOST_KEPT}
use Rattle.snow_store.specs.declared.store.KeptBlock.{KeptBlock}
use Rattle.snow_store.specs.declared.stop.BootStop.{BootStop}
use Rattle.snow_store.specs.declared.stop.BootStop.TheVariants as stop
use Rattle.snow_store.specs.declared.stop.Verdict.{Verdict}
use Rattle.snow_store.specs.declared.stop.Verdict.TheVariants as verdict
use Rattle.snow_store.specs.Model.Keeping.{Store, held, stray, unless, child_stop, fork_stop, below_stop, above_stop, misplaced, placed, taken, keeping}
use Rattle.snow_store.specs.Laws.Linking.{IsLinked}
use Rattle.snow_store.proofs.Cases.{split_on, same_id, same_some, not_none, none_not, picked}

-- what is known of a block that is kept
pub record IsPlaced (s : Store) (b : Header) : Type 0 where
  pub above : s.height < b.height
  pub free : held s.kept b.height ≡ None
  pub few : length s.kept < 32768
  pub child : (stray s.kept b.id b.height) ≡ None
  pub fork : fork_stop s b ≡ None
  pub below : below_stop b (held s.kept (b.height - 1)) ≡ None
  pub next : above_stop b (held s.kept (b.height + 1)) ≡ None

-- no stop came
no_stop : (why : Option BootStop) (v : Result Verdict BootStop) → unless why v ≡ Ok verdict.Keeps → (why ≡ None) × (v ≡ Ok verdict.Keeps)
no_stop None v e = (refl, e)
no_stop (Some why) v e = cc

-- the first of two stops didn't come, nor did the second
neither : (a b : Option BootStop) → option_or a b ≡ None → (a ≡ None) × (b ≡ None)
neither None b e = (refl, e)
neither (Some a) b e = not_none a e

-- no child strays
no_child : (child : Option KeptBlock) → child_stop child ≡ None → child ≡ None
no_child None e = refl
no_child (Some c) e = cc

-- it is above the last accepted block
is_above : (low : Bool) (v : Result Verdict BootStop) → (if low then Ok verdict.Low else v) ≡ Ok verdict.Keeps → (low ≡ false) × (v ≡ Ok verdict.Keeps)
is_above true v e = cc
is_above false v e = (refl, e)

-- there is room
has_room : (s : Store) (b : Header) (full : Bool) → (if full then Err stop.Full else unless (misplaced s b) (Ok verdict.Keeps)) ≡ Ok verdict.Keeps
    → (full ≡ false) × (misplaced s b ≡ None)
has_room s b true e = cc
has_room s b false e = (refl, (no_stop (misplaced s b) (Ok verdict.Keeps) e).0)

-- where its height isn't free it isn't kept
not_known : {P : Type 0} (same : Bool) (why : BootStop) → (if same then Ok verdict.Known else Err why) ≡ Ok verdict.Keeps → P
not_known true why e = cc
not_known false why e = cc

-- its height is free, and there is room
is_free : (s : Store) (b : Header) (other : Option KeptBlock) → placed s b other ≡ Ok verdict.Keeps → (other ≡ None) × (nat_le MOST_KEPT (length s.kept) ≡ false) × (misplaced s b ≡ None)
is_free s b None e = let room = has_room s b (nat_le MOST_KEPT (length s.kept)) e in (refl, room.0, room.1)
is_free s b (Some other) e = not_known (bytes_eq other.header.id b.id) (stop.Conflict b.height other.header.id b.id) e

-- a block that is kept fits
pub keeps_facts : (s : Store) (b : Header) → taken s b ≡ Ok verdict.Keeps → IsPlaced s b
unfolding taken
keeps_facts s b e =
    let p = no_stop (child_stop (stray s.kept b.id b.height)) _ e in
    let q = is_above (nat_le b.height s.height) _ p.1 in
    let r = is_free s b (held s.kept b.height) q.1 in
    let m = neither (fork_stop s b) _ r.2 in
    let n = neither (below_stop b (held s.kept (b.height - 1))) _ m.1 in record {
      above = leb-false b.height s.height q.0;
      free = r.0;
      few = leb-false 32768 (length s.kept) r.1;
      child = no_child (stray s.kept b.id b.height) p.0;
      fork = m.0;
      below = n.0;
      next = n.1;
    }

-- right above the last accepted block its parent is that block
founded_by : (s : Store) (b : Header) → fork_stop s b ≡ None → b.height ≡ s.height + 1 → b.parent ≡ s.last
founded_by s b e at = same_id b.parent s.last (by_tests (b.height == s.height + 1) (bytes_eq b.parent s.last) (eq-eqb b.height (s.height + 1) at) e)
  where
    by_tests : (t u : Bool) → t ≡ true → (if t && not u then Some (stop.Fork b.id b.parent) else None) ≡ None → u ≡ true
    by_tests true true p e = refl
    by_tests true false p e = cc
    by_tests false u p e = cc

-- the block below is its parent
linked_below : (b : Header) (x : KeptBlock) (below : Option KeptBlock) → below_stop b below ≡ None → below ≡ Some x → b.parent ≡ x.header.id
linked_below b x None e is = none_not x is
linked_below b x (Some y) e is =
    split_on (bytes_eq y.header.id b.parent)
    (λ same. sym (same_id y.header.id b.parent same) ∙ ap (λ (z : KeptBlock). z.header.id) (same_some y x is))
    (λ other. not_none (stop.Conflict (b.height - 1) y.header.id b.parent) (rw other at e))

-- it is the parent of the block above
pub linked_above : (b : Header) (x : KeptBlock) (above : Option KeptBlock) → above_stop b above ≡ None → above ≡ Some x → x.header.parent ≡ b.id
linked_above b x None e is = none_not x is
linked_above b x (Some y) e is =
    split_on (bytes_eq y.header.parent b.id)
    (λ same. ap (λ (z : KeptBlock). z.header.parent) (sym (same_some y x is)) ∙ same_id y.header.parent b.id same)
    (λ other. not_none (stop.Conflict b.height y.header.parent b.id) (rw other at e))

-- the block at a height, once one more is kept
kept_cases : (kept : List KeptBlock) (b : KeptBlock) (h : ℕ) (x : KeptBlock) → held (b ∷ kept) h ≡ Some x → ((b.header.height ≡ h) × (b ≡ x)) ⊎ (held kept h ≡ Some x)
unfolding held
kept_cases kept b h x e =
    elim (picked (b.header.height == h) b x (held kept h) e) [ inl p ↦ inl (eqb-true b.header.height h p.0, p.1) | inr p ↦ inr p.1 ]

-- one block more, and the blocks are linked
pub kept_linked : (s : Store) (b : KeptBlock) → IsLinked s → taken s b.header ≡ Ok verdict.Keeps → IsLinked (keeping s b)
kept_linked s b l e =
    let p = keeps_facts s b.header e in record {
      apart = (p.free, l.apart);
      above = (p.above, l.above);
      founded = λ x at.
          elim (kept_cases s.kept b (s.height + 1) x at) [
            | inl q ↦ subst (λ (z : KeptBlock). z.header.parent ≡ s.last) q.1 (founded_by s b.header p.fork q.0)
            | inr q ↦ l.founded x q
          ];
      linked = λ h x y at_x at_y.
          elim (kept_cases s.kept b h x at_x) [
            | inl q ↦
                elim (kept_cases s.kept b (h + 1) y at_y) [
                  | inl r ↦ absurd (omega (arith, q.0, r.0))
                  | inr r ↦
                      let there : held s.kept (b.header.height + 1) ≡ Some y = ap (λ n. held s.kept (n + 1)) q.0 ∙ r in
                      linked_above b.header y (held s.kept (b.header.height + 1)) p.next there ∙ ap (λ (z : KeptBlock). z.header.id) q.1
                ]
            | inr q ↦
                elim (kept_cases s.kept b (h + 1) y at_y) [
                  | inl r ↦
                      let e : b.header.height - 1 ≡ h = omega (arith, r.0) in
                      let there : held s.kept (b.header.height - 1) ≡ Some x = ap (held s.kept) e ∙ q in
                      ap (λ (z : KeptBlock). z.header.parent) (sym r.1) ∙ linked_below b.header x (held s.kept (b.header.height - 1)) p.below there
                  | inr r ↦ l.linked h x y q r
                ]
          ];
    }
