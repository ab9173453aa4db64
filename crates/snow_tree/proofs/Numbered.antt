-- Lemmas on the numbers by which the entries of a row are found.
use Rattle.std.proofs.Common.{◌≡◌, ℕ, zero, suc, true, false, if◌then◌else◌, List, [], ◌∷◌, ◌++◌, bytes_eq, Bool, Option, Some, None, slice_get, refl, sym, ap, subst, ◌∙◌}
use Rattle.std.specs.List.{AllByRecursion, IsDistinct, position}
use Rattle.std.specs.Map.{keys_of}
use Rattle.std.specs.Option.{option_map}
use Rattle.std.proofs.lemmas.Bool.{true≢false}
use Rattle.std.proofs.lemmas.Option.{none-some}
use Rattle.snow_board.proofs.Cases.{split_on, same_id, id_same}
pub use Rattle.snow_map.proofs.Places.{place_kept}
use Rattle.snow_map.proofs.Places.{position_cons}

module _ {V : Type 0} where
  -- what is so of each key is so of one
  pub of_key : (P : List ℕ → Type 0) (entries : List (List ℕ × V)) (i : ℕ) (e : List ℕ × V) → AllByRecursion P (keys_of entries) → slice_get entries i ≡ Some e → P e.0
  of_key P [] i e h at = absurd (none-some e at)
  of_key P (x ∷ entries) zero e h at = subst (λ o. P (key_or o)) at h.0
    where
      key_or : Option (List ℕ × V) → List ℕ
      key_or None = x.0
      key_or (Some y) = y.0
  of_key P (x ∷ entries) (suc i) e h at = of_key P entries i e h.1 at

  -- the first differs from the others
  pub first_apart : (e : List ℕ × V) (entries : List (List ℕ × V)) → IsDistinct bytes_eq (keys_of (e ∷ entries)) → AllByRecursion (λ y. bytes_eq e.0 y ≡ false) (keys_of entries) × IsDistinct bytes_eq (keys_of entries)
  unfolding IsDistinct
  first_apart e entries unique = unique

  -- an identifier that stands at a place has no other
  pub one_place : (id : List ℕ) (entries : List (List ℕ × V)) (place : ℕ) (e : List ℕ × V) → IsDistinct bytes_eq (keys_of entries) → slice_get entries place ≡ Some e → bytes_eq id e.0 ≡ true
      → position (bytes_eq id) (keys_of entries) ≡ Some place
  one_place id [] place e unique at is = absurd (none-some e at)
  one_place id (x ∷ entries) zero e unique at is =
      let same : x ≡ e = cc in
      let here : bytes_eq id x.0 ≡ true = ap (λ (y : List ℕ × V). bytes_eq id y.0) same ∙ is in
      position_cons (bytes_eq id) x.0 (keys_of entries) ∙ rw here refl
  one_place id (x ∷ entries) (suc place) e unique at is =
      let apart = first_apart x entries unique in
      let other : bytes_eq x.0 e.0 ≡ false = of_key (λ y. bytes_eq x.0 y ≡ false) entries place e apart.0 at in
      let first : bytes_eq id x.0 ≡ false =
      split_on (bytes_eq id x.0)
      (λ t. absurd (true≢false (sym (id_same x.0 e.0 (sym (same_id id x.0 t) ∙ same_id id e.0 is)) ∙ other)))
      (λ t. t)
      in
      position_cons (bytes_eq id) x.0 (keys_of entries) ∙ rw first (ap (option_map suc) (one_place id entries place e apart.1 at is))
