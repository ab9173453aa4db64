-- Exchanging positions draws what exchanging the elements of the whole list draws.
use Rattle.std.proofs.Common.{◌≡◌, ℕ, zero, suc, ◌+◌, ◌-◌, ◌<◌, ◌≤◌, List, [], length, get_or, set, None, Some, Option, refl, sym, ap, ◌∙◌, arith, inl, inr, swap, zero-add}
use Rattle.std.specs.List.{range_with_len}
use Rattle.std.specs.Option.{option_and_then}
use Rattle.std.proofs.lemmas.Bool.{cases_eq, cond-true, cond-false, eq-eqb, ne_eqb}
use Rattle.std.proofs.lemmas.List.{get_or-set_same, get_or-set_other, length-set}
use Rattle.std.proofs.lemmas.List.Edits.{swap_is, length-swap}
use Rattle.std.proofs.lemmas.List.FromFn.{length-range_with_len, get_or-range_with_len}
use Rattle.snow_sample.specs.Model.Words.{choice}
use Rattle.snow_sample.specs.Model.Sampling.{swapped, with_unit, drawn_from, drawn}
use Rattle.snow_sample.specs.Laws.Law.{listed_from}
use Rattle.snow_sample.proofs.Choosing.{choice_within}
use Rattle.snow_sample.proofs.Drawing.{swapped_same, after_choice, drawn_step, drawn_end}

-- what stands at a position once two elements are exchanged
at_swapped : (list : List ℕ) (i j p d : ℕ) → i < length list → j < length list → p < length list
    → get_or (swap list i j) p d ≡ swapped (λ q. get_or list q d) i j p
at_swapped list i j p d at_i at_j at_p =
    let first : List ℕ = set list i (get_or list j d) in
    let long : j < length first = omega (arith, length-set list i (get_or list j d)) in
    ap (λ l. get_or l p d) (sym (swap_is list i j d at_i at_j))
    ∙ elim (cases_eq p j) [
      | inl is ↦
          ap (λ q. get_or (set first j (get_or list i d)) q d) is ∙ get_or-set_same first j (get_or list i d) d long
          ∙ elim (cases_eq p i) [
            | inl one ↦ ap (λ q. get_or list q d) (sym one ∙ is) ∙ sym (cond-true _ (get_or list j d) _ (eq-eqb p i one))
            | inr other ↦ sym (cond-false _ (get_or list j d) _ (ne_eqb p i other) ∙ cond-true _ (get_or list i d) (get_or list p d) (eq-eqb p j is))
          ]
      | inr differ ↦
          get_or-set_other first j p (get_or list i d) d differ
          ∙ elim (cases_eq p i) [
            | inl one ↦
                ap (λ q. get_or first q d) one ∙ get_or-set_same list i (get_or list j d) d at_i ∙ sym (cond-true _ (get_or list j d) _ (eq-eqb p i one))
            | inr other ↦
                get_or-set_other list i p (get_or list j d) d other
                ∙ sym (cond-false _ (get_or list j d) _ (ne_eqb p i other) ∙ cond-false _ (get_or list i d) (get_or list p d) (ne_eqb p j differ))
          ]
    ]

-- a draw from the list, and those after it, once a position is chosen
abbrev listed_choice : ℕ → ℕ → ℕ → List ℕ → ℕ × List ℕ → Option (List ℕ × List ℕ)
listed_choice k total j list (r, left) = with_unit (get_or (swap list (j + r) j) j 0) (listed_from k total (j + 1) (swap list (j + r) j) left)

-- a step of the definition
listed_step : (k total j : ℕ) (list words : List ℕ) → listed_from (suc k) total j list words ≡ option_and_then (listed_choice k total j list) (choice (total - 1 - j) words)
unfolding listed_from
listed_step k total j list words = refl

-- its end
listed_end : (total j : ℕ) (list words : List ℕ) → listed_from zero total j list words ≡ Some ([], words)
unfolding listed_from
listed_end total j list words = refl

-- the same is drawn where the list has what stands at the positions
same_listed : (k total j : ℕ) (units : ℕ → ℕ) (list words : List ℕ) → length list ≡ total → j + k ≤ total
    → ((p : ℕ) → p < total → units p ≡ get_or list p 0) → drawn_from k total j units words ≡ listed_from k total j list words
same_listed zero total j units list words long enough same = drawn_end total j units words ∙ sym (listed_end total j list words)
same_listed (suc k) total j units list words long enough same =
    drawn_step k total j units words
    ∙ elim (choice (total - 1 - j) words) as (λ o. choice (total - 1 - j) words ≡ o
    → option_and_then (after_choice k total j units) o ≡ option_and_then (listed_choice k total j list) o) [
      | None ↦ λ is. refl
      | Some c ↦ λ is.
          let small : c.0 ≤ total - 1 - j = choice_within (total - 1 - j) c.0 words c.1 is in
          let at_i : units (j + c.0) ≡ get_or list (j + c.0) 0 = same (j + c.0) (omega arith) in
          let at_j : units j ≡ get_or list j 0 = same j (omega arith) in
          let as_list : (p : ℕ) → p < total → swapped units (j + c.0) j p ≡ get_or (swap list (j + c.0) j) p 0 = λ p h.
          swapped_same units (λ q. get_or list q 0) (j + c.0) j p at_i at_j (same p h)
          ∙ sym (at_swapped list (j + c.0) j p 0 (omega arith) (omega arith) (omega arith)) in
          ap (λ u. with_unit u (drawn_from k total (j + 1) (swapped units (j + c.0) j) c.1)) (as_list j (omega arith))
          ∙ ap (with_unit (get_or (swap list (j + c.0) j) j 0))
          (same_listed k total (j + 1) (swapped units (j + c.0) j) (swap list (j + c.0) j) c.1 (omega (arith, length-swap list (j + c.0) j)) (omega arith) as_list)
    ] refl
    ∙ sym (listed_step k total j list words)

-- and so from the whole list
pub as_listed : (k total : ℕ) (words : List ℕ) → k ≤ total → drawn k total words ≡ listed_from k total 0 (range_with_len 0 total) words
as_listed k total words enough =
    same_listed k total 0 (λ unit. unit) (range_with_len 0 total) words (length-range_with_len 0 total) (omega arith)
    (λ p h. sym (get_or-range_with_len 0 total p 0 h ∙ zero-add p))
