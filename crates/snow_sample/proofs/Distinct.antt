-- No unit is drawn twice.
use Rattle.std.proofs.Common.{◌≡◌, ◌≢◌, ℕ, zero, suc, ◌+◌, ◌-◌, ◌<◌, ◌≤◌, true, false, cond, List, [], ◌∷◌, length, None, Some, Option, All, ◌==◌, refl, sym, ap, ◌∙◌, arith, inl, inr}
use Rattle.std.specs.List.{AllPairs}
use Rattle.std.specs.Option.{option_and_then}
use Rattle.std.proofs.lemmas.Bool.{cases_eq, cond-true, cond-false, cond_both, eq-eqb, ne_eqb}
use Rattle.std.proofs.lemmas.List.Elements.{All-cons}
use Rattle.std.proofs.lemmas.List.Kept.{AllPairs-cons}
use Rattle.snow_sample.specs.Model.Words.{choice}
use Rattle.snow_sample.specs.Model.Sampling.{swapped, with_unit, drawn_from, drawn}
use Rattle.snow_sample.proofs.Choosing.{choice_within}
use Rattle.snow_sample.proofs.Drawing.{after_choice, drawn_step, drawn_end}

-- the position that a position is exchanged with
abbrev other : ℕ → ℕ → ℕ → ℕ
other i j p = cond (p == i) j (cond (p == j) i p)

-- exchanging positions, unit by unit
moved : (f : ℕ → ℕ) (i j p : ℕ) → swapped f i j p ≡ f (other i j p)
moved f i j p =
    elim (p == i) as (λ a. cond a (f j) (cond (p == j) (f i) (f p)) ≡ f (cond a j (cond (p == j) i p))) [
      | true ↦ refl
      | false ↦ elim (p == j) as (λ b. cond b (f i) (f p) ≡ f (cond b i p)) [ true ↦ refl | false ↦ refl ]
    ]

-- the one position goes to the other
at_first : (i j p : ℕ) → p ≡ i → other i j p ≡ j
at_first i j p is = cond-true _ j _ (eq-eqb p i is)

-- and the other to the one
at_second : (i j p : ℕ) → p ≢ i → p ≡ j → other i j p ≡ i
at_second i j p differ is = cond-false _ j _ (ne_eqb p i differ) ∙ cond-true _ i p (eq-eqb p j is)

-- each other position stays
at_others : (i j p : ℕ) → p ≢ i → p ≢ j → other i j p ≡ p
at_others i j p one two = cond-false _ j _ (ne_eqb p i one) ∙ cond-false _ i p (ne_eqb p j two)

-- exchanging twice changes nothing
twice : (i j p : ℕ) → other i j (other i j p) ≡ p
twice i j p =
    elim (cases_eq p i) [
      | inl first ↦
          ap (other i j) (at_first i j p first)
          ∙ elim (cases_eq j i) [ inl one ↦ at_first i j j one ∙ one ∙ sym first | inr differ ↦ at_second i j j differ refl ∙ sym first ]
      | inr differ ↦
          elim (cases_eq p j) [
            | inl second ↦ ap (other i j) (at_second i j p differ second) ∙ at_first i j i refl ∙ sym second
            | inr apart ↦ ap (other i j) (at_others i j p differ apart) ∙ at_others i j p differ apart
          ]
    ]

-- different positions from j on have different units
abbrev AreApart : ℕ → ℕ → (ℕ → ℕ) → Type 0
AreApart j total units = (p q : ℕ) → j ≤ p → p < total → j ≤ q → q < total → units p ≡ units q → p ≡ q

-- a position from j on is exchanged with one from j on
other_within : (i j p total : ℕ) → j ≤ i → i < total → j < total → j ≤ p → p < total → (j ≤ other i j p) × (other i j p < total)
other_within i j p total above small first from high =
    cond_both (p == i) j (cond (p == j) i p) (λ x. (j ≤ x) × (x < total)) (λ _. (omega arith, first))
    (λ _. cond_both (p == j) i p (λ x. (j ≤ x) × (x < total)) (λ _. (above, small)) (λ _. (from, high)))

-- and so after an exchange
still_apart : (i j total : ℕ) (units : ℕ → ℕ) → j ≤ i → i < total → j < total → AreApart j total units → AreApart j total (swapped units i j)
still_apart i j total units above small first apart p q from_p high_p from_q high_q same =
    let at_p = other_within i j p total above small first from_p high_p in
    let at_q = other_within i j q total above small first from_q high_q in
    let one : other i j p ≡ other i j q =
    apart (other i j p) (other i j q) at_p.0 at_p.1 at_q.0 at_q.1 (sym (moved units i j p) ∙ same ∙ moved units i j q) in
    sym (twice i j p) ∙ ap (other i j) one ∙ twice i j q

-- this unit stands at a position from j on
abbrev StandsFrom : ℕ → ℕ → (ℕ → ℕ) → ℕ → Type 0
StandsFrom j total units unit = (p : ℕ) × (j ≤ p) × (p < total) × (unit ≡ units p)

-- the units that k draws from draw j on give
pub record AreTaken (k total j : ℕ) (units : ℕ → ℕ) (taken : List ℕ) : Type 0 where
  pub long : length taken ≡ k
  pub stood : All (StandsFrom j total units) taken
  pub distinct : AllPairs (λ u v. u ≢ v) taken

-- one more unit, in front of those that are drawn after it
taken_more : (k total j i : ℕ) (units : ℕ → ℕ) (later : List ℕ) → j ≤ i → i < total → j < total → AreApart j total units
    → AreTaken k total (j + 1) (swapped units i j) later → AreTaken (suc k) total j units (swapped units i j j ∷ later)
taken_more k total j i units later above small first apart rest =
    let unit : ℕ = swapped units i j j in
    let back : (u : ℕ) → StandsFrom j total (swapped units i j) u → StandsFrom j total units u = λ u at.
    let within = other_within i j at.0 total above small first at.1 at.2 in
    (other i j at.0, within.0, within.1, at.3 ∙ moved units i j at.0) in
    record {
      long = ap suc rest.long;
      stood = All-cons (StandsFrom j total units) unit later (back unit (j, omega arith, first, refl))
          (λ n d h. let at = rest.stood n d h in back _ (at.0, omega arith, at.2, at.3));
      distinct = AllPairs-cons (λ u v. u ≢ v) unit later
          (λ n d h same. let at = rest.stood n d h in
          let one : j ≡ at.0 = still_apart i j total units above small first apart j at.0 (omega arith) first (omega arith) at.2 (same ∙ at.3) in
          omega arith)
          rest.distinct;
    }

-- the units of an answer
abbrev units_of : Option (List ℕ × List ℕ) → List ℕ
units_of None = []
units_of (Some (units, left)) = units

-- all draws take different units
taken_from : (k total j : ℕ) (units : ℕ → ℕ) (words taken left : List ℕ) → j + k ≤ total → AreApart j total units
    → drawn_from k total j units words ≡ Some (taken, left) → AreTaken k total j units taken
taken_from zero total j units words taken left enough apart is =
    let none : [] ≡ taken = ap units_of (sym (drawn_end total j units words) ∙ is) in
    rw (← none) (record { long = refl; stood = λ n d h. absurd (omega arith); distinct = λ m n d p q. absurd (omega arith) })
taken_from (suc k) total j units words taken left enough apart is =
    let Taken : Type 0 = AreTaken (suc k) total j units taken in
    let after : (c : ℕ × List ℕ) → choice (total - 1 - j) words ≡ Some c → after_choice k total j units c ≡ Some (taken, left) → Taken = λ c chosen now.
    let small : c.0 ≤ total - 1 - j = choice_within (total - 1 - j) c.0 words c.1 chosen in
    let next : ℕ → ℕ = swapped units (j + c.0) j in
    elim (drawn_from k total (j + 1) next c.1) as (λ o. drawn_from k total (j + 1) next c.1 ≡ o → with_unit (next j) o ≡ Some (taken, left) → Taken) [
      | None ↦ λ was then. absurd (cc)
      | Some later ↦ λ was then.
          let whole : next j ∷ later.0 ≡ taken = ap units_of then in
          rw (← whole)
          (taken_more k total j (j + c.0) units later.0 (omega arith) (omega arith) (omega arith) apart
          (taken_from k total (j + 1) next c.1 later.0 later.1 (omega arith)
          (λ p q from_p high_p from_q high_q same.
          still_apart (j + c.0) j total units (omega arith) (omega arith) (omega arith) apart p q (omega arith) high_p (omega arith) high_q same)
          was))
    ] refl now in
    elim (choice (total - 1 - j) words) as (λ o. choice (total - 1 - j) words ≡ o → option_and_then (after_choice k total j units) o ≡ Some (taken, left) → Taken) [
      | None ↦ λ chosen now. absurd (cc)
      | Some c ↦ λ chosen now. after c chosen now
    ] refl (sym (drawn_step k total j units words) ∙ is)

-- and so those of a sample
pub taken_distinct : (k total : ℕ) (words units left : List ℕ) → k ≤ total → drawn k total words ≡ Some (units, left)
    → (length units ≡ k) × All (λ unit. unit < total) units × AllPairs (λ u v. u ≢ v) units
taken_distinct k total words units left enough is =
    let taken = taken_from k total 0 (λ unit. unit) words units left (omega arith) (λ p q _ _ _ _ same. same) is in
    (taken.long, λ n d h. let at = taken.stood n d h in omega (arith, at.2, at.3), taken.distinct)
