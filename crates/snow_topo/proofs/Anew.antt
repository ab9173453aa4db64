-- Lemmas on numbers of polls that begin anew.
use Rattle.std.proofs.Common.{◌≡◌, ℕ, zero, suc, ◌≤◌, ◌==◌, Bool, true, false, List, [], ◌∷◌, length, get_or, map, All, Some, slice_get, refl, sym, ap, subst, arith, if◌then◌else◌}
use Rattle.std.proofs.lemmas.List.Elements.{All-map}
use Rattle.snow_flake.specs.Model.Parameters.{Parameters}
use Rattle.snow_board.proofs.Cases.{split_on}
use Rattle.snow_tree.specs.Kept.Held.{Entry, Held, blocks_in, children_of, set_load}
use Rattle.snow_topo.specs.Kept.Children.{Kept, shown, IsFit}
use Rattle.snow_topo.specs.Kept.View.{view, all_pending, AreFit}
use Rattle.snow_topo.specs.Kept.Renewed.{renewed, renewed_entry, all_renewed}

-- what is shown stays
shown_anew : (p : Parameters) (polls : ℕ) (kept : Kept) → shown p 1 (renewed polls kept) ≡ shown p polls kept
shown_anew p polls kept = split_on (kept.recorded == polls) (λ t. rw t refl) (λ t. rw t refl)

-- and fits
fit_anew : (p : Parameters) (polls : ℕ) (children : List (List ℕ)) (kept : Kept) → IsFit p polls children kept → IsFit p 1 children (renewed polls kept)
fit_anew p polls children kept fit = record { past = small (kept.recorded == polls); parameters = fit.parameters; ids = fit.ids }
  where
    small : (t : Bool) → (if t then 1 else 0) ≤ 1
    small true = omega arith
    small false = omega arith

pending_anew : (p : Parameters) (polls : ℕ) (pending : List (Entry Kept)) → all_pending p 1 (map (renewed_entry polls) pending) ≡ all_pending p polls pending
pending_anew p polls [] = refl
pending_anew p polls (e ∷ pending) = λ i. record { block = e.block; counters = shown_anew p polls e.load i } ∷ pending_anew p polls pending i

blocks_anew : (polls : ℕ) (pending : List (Entry Kept)) → blocks_in (map (renewed_entry polls) pending) ≡ blocks_in pending
blocks_anew polls [] = refl
blocks_anew polls (e ∷ pending) = ap (λ l. e.block ∷ l) (blocks_anew polls pending)

-- so the board stays
pub view_anew : (p : Parameters) (polls : ℕ) (root : Kept) (held : Held Kept) → view p 1 (renewed polls root) (all_renewed polls held) ≡ view p polls root held
view_anew p polls root held = λ i. record {
  parameters = p;
  last = held.last;
  height = held.height;
  counters = shown_anew p polls root i;
  pending = pending_anew p polls held.pending i;
}

-- and all fits
pub all_fit_anew : (p : Parameters) (polls : ℕ) (root : Kept) (held : Held Kept) → AreFit p polls root held → AreFit p 1 (renewed polls root) (all_renewed polls held)
all_fit_anew p polls root held fit =
    let same = sym (blocks_anew polls held.pending) in
    record {
      root = subst (λ bs. IsFit p 1 (children_of bs held.last) (renewed polls root)) same (fit_anew p polls (children_of (blocks_in held.pending) held.last) root fit.root);
      pending = subst (λ bs. All (λ e. IsFit p 1 (children_of bs e.block.id) e.load) (map (renewed_entry polls) held.pending)) same
          (All-map (λ e. IsFit p 1 (children_of (blocks_in held.pending) e.block.id) e.load) (renewed_entry polls) held.pending
          (λ k d l. fit_anew p polls (children_of (blocks_in held.pending) (get_or held.pending k d).block.id) (get_or held.pending k d).load (fit.pending k d l)));
    }

-- ---- one after the other

-- the first n begin anew
abbrev pub renewed_to : ℕ → ℕ → List (Entry Kept) → List (Entry Kept)
renewed_to polls zero pending = pending
renewed_to polls (suc n) [] = []
renewed_to polls (suc n) (e ∷ pending) = renewed_entry polls e ∷ renewed_to polls n pending

-- one more
pub renewed_next : (polls n : ℕ) (pending : List (Entry Kept)) (e : Entry Kept) → slice_get (renewed_to polls n pending) n ≡ Some e
    → set_load (renewed_to polls n pending) n (renewed polls e.load) ≡ renewed_to polls (suc n) pending
renewed_next polls zero [] e h = refl
renewed_next polls zero (x ∷ pending) e h = let same : x ≡ e = cc in ap (λ (y : Entry Kept). record x { load = renewed polls y.load } ∷ pending) (sym same)
renewed_next polls (suc n) [] e h = refl
renewed_next polls (suc n) (x ∷ pending) e h = ap (λ l. renewed_entry polls x ∷ l) (renewed_next polls n pending e h)

-- none is taken out
pub renewed_length : (polls n : ℕ) (pending : List (Entry Kept)) → length (renewed_to polls n pending) ≡ length pending
renewed_length polls zero pending = refl
renewed_length polls (suc n) [] = refl
renewed_length polls (suc n) (x ∷ pending) = ap suc (renewed_length polls n pending)

-- all
pub renewed_all : (polls : ℕ) (pending : List (Entry Kept)) → renewed_to polls (length pending) pending ≡ map (renewed_entry polls) pending
renewed_all polls [] = refl
renewed_all polls (x ∷ pending) = ap (λ l. renewed_entry polls x ∷ l) (renewed_all polls pending)
