-- Lemmas on what is kept of a block when a poll comes to it.
use Rattle.std.proofs.Common.{◌≡◌, ℕ, zero, suc, ◌+◌, ◌<◌, ◌≤◌, Bool, List, [], ◌∷◌, Option, Some, None, slice_get, IfSome, refl, sym, ap, ◌∙◌, arith}
use Rattle.std.specs.Option.{option_map}
use Rattle.std.proofs.lemmas.Option.{none-some}
use Rattle.snow_flake.specs.Model.Parameters.{Parameters, AreGood}
use Rattle.snow_board.specs.Model.Conflict.{all_polled}
use Rattle.snow_board.proofs.Failing.{few_fail}
use Rattle.snow_tree.specs.Kept.Held.{Entry, set_load}
use Rattle.snow_topo.specs.Kept.Children.{Conflict, Kept, shown, IsFit}
use Rattle.snow_topo.proofs.Stamped.{later}

-- the entry whose load was read
pub entry_read : (o : Option (Entry Kept)) (load : Kept) → option_map (λ e. e.load) o ≡ Some load → (e : Entry Kept) × (o ≡ Some e) × (e.load ≡ load)
entry_read None load h = absurd (none-some load h)
entry_read (Some e) load h = (e, refl, cc)

-- writing the load that is there changes nothing
pub same_load : (pending : List (Entry Kept)) (at : ℕ) (e : Entry Kept) → slice_get pending at ≡ Some e → set_load pending at e.load ≡ pending
same_load [] at e h = refl
same_load (x ∷ pending) zero e h = let same : x ≡ e = cc in ap (λ (y : Entry Kept). record x { load = y.load } ∷ pending) (sym same)
same_load (x ∷ pending) (suc at) e h = ap (λ l. x ∷ l) (same_load pending at e h)

-- where there is no quorum nothing is recorded
pub left_alone : (p : Parameters) (polls : ℕ) (children : List (List ℕ)) (kept : Kept) (votes : List Bool → ℕ) → AreGood p → IsFit p polls children kept → ((front : List Bool) → votes front < p.alpha_preference)
    → (shown p (polls + 1) kept ≡ all_polled p votes (shown p polls kept)) × IsFit p (polls + 1) children kept
left_alone p polls children kept votes good fit few = (
  later p polls kept good fit.past ∙ sym (few_fail p votes (shown p polls kept) few),
  record { past = omega (arith, fit.past); parameters = fit.parameters; ids = fit.ids },
)

-- votes of at most K are so of the parameters of what fits
pub at_most : (p : Parameters) (o : Option Conflict) (n : ℕ) → IfSome o (λ c. c.parameters ≡ p) → n ≤ p.k → IfSome o (λ c. n ≤ c.parameters.k)
at_most p None n is h = tt
at_most p (Some c) n is h = rw is h
