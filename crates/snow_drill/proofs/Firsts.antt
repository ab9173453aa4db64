-- The places of the first blocks of their identifiers.
use Rattle.std.proofs.Common.{◌≡◌, ℕ, zero, suc, Bool, true, false, cond, List, [], ◌∷◌, ◌++◌, length, bytes_eq, Option, Some, None, refl, ap}
use Rattle.std.specs.List.{slice_get}
use Rattle.std.specs.Option.{option_map, option_or}
use Rattle.std.proofs.lemmas.List.Folds.{find-append}
use Rattle.std.proofs.lemmas.Option.{none-some, same_Some}
use Rattle.snow_base.specs.declared.block.Header.{Header}
use Rattle.snow_drill.specs.Model.Made.{block_of}
use Rattle.snow_drill.specs.Kept.Firsts.{HasFirsts}

at_end : (made : List Header) (b : Header) → slice_get (made ++ b ∷ []) (length made) ≡ Some b
at_end [] b = refl
at_end (c ∷ made) b = at_end made b

still_at : (made : List Header) (b x : Header) (n : ℕ) → slice_get made n ≡ Some x → slice_get (made ++ b ∷ []) n ≡ Some x
still_at [] b x n e = absurd (none-some x e)
still_at (c ∷ made) b x zero e = e
still_at (c ∷ made) b x (suc n) e = still_at made b x n e

-- one more block is the first of its identifier where none of it was there
pub first_placed : (made after : List Header) (b : Header) (first now : List ℕ → Option ℕ) → HasFirsts made first → after ≡ made ++ b ∷ []
    → ((id : List ℕ) → now id ≡ option_or (first id) (cond (bytes_eq b.id id) (Some (length made)) None)) → HasFirsts after now
first_placed made after b first now has items says = λ id.
    rw (items, says id, find-append (λ x. bytes_eq x.id id) made (b ∷ [])) (by (bytes_eq b.id id) (first id) (block_of made id) (has id))
  where
    by : (t : Bool) (place : Option ℕ) (found : Option Header) → option_map (slice_get made) place ≡ option_map Some found
        → option_map (slice_get (made ++ b ∷ [])) (option_or place (cond t (Some (length made)) None)) ≡ option_map Some (option_or found (cond t (Some b) None))
    by true None None e = ap Some (at_end made b)
    by false None None e = refl
    by t (Some n) (Some x) e = ap Some (still_at made b x n (same_Some _ _ e))
    by t None (Some x) e = cc
    by t (Some n) None e = cc
