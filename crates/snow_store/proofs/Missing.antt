-- The identifiers that the targets miss.
use Rattle.std.proofs.Common.{◌≡◌, ℕ, Bool, true, false, ◌&&◌, ◌||◌, not, List, [], ◌∷◌, Option, Some, None, bytes_eq, inl, inr, refl, sym, ap, ◌∙◌}
use Rattle.std.specs.List.{list_all}
use Rattle.std.specs.Prelude.{is_none, Ok}
use Rattle.std.proofs.lemmas.Bool.{or_right}
use Rattle.snow_store.specs.declared.store.KeptBlock.{KeptBlock}
use Rattle.snow_store.specs.declared.stop.Verdict.TheVariants as verdict
use Rattle.snow_store.specs.Model.Keeping.{taken, keeping}
use Rattle.snow_store.specs.Laws.Linking.{IsLinked}
use Rattle.snow_store.specs.Model.Needing.{need_at, names, is_missed}
use Rattle.snow_store.specs.Model.Paths.{Fetch, has_id, missed}
use Rattle.snow_store.proofs.Cases.{split_on, clash, same_id, id_same}
use Rattle.snow_store.proofs.Needed.{with_kept, keep_moves, keep_stays}
use Rattle.snow_store.proofs.Whole.{first_or, later, first}

-- ---- tests

or_splits : (a b : Bool) → (a || b) ≡ false → (a ≡ false) × (b ≡ false)
or_splits true b e = clash true refl e
or_splits false b e = (refl, e)

-- ---- what is missed

-- a target that misses an identifier
pub misser : (f : Fetch) (targets : List (List ℕ)) (id : List ℕ) → is_missed f targets id ≡ true → (t : List ℕ) × (has_id targets t ≡ true) × (missed f t ≡ Some id)
misser f [] id e = clash true refl (sym e)
misser f (t ∷ targets) id e = by_test (names (missed f t) id) refl (misser f targets id) e
  where
    named : (o : Option (List ℕ)) → names o id ≡ true → o ≡ Some id
    named None e = clash true refl (sym e)
    named (Some x) e = ap (λ y. Some y) (same_id x id e)

    by_test : (u : Bool) → names (missed f t) id ≡ u → (is_missed f targets id ≡ true → (v : List ℕ) × (has_id targets v ≡ true) × (missed f v ≡ Some id)) → (u || is_missed f targets id) ≡ true
        → (v : List ℕ) × (has_id (t ∷ targets) v ≡ true) × (missed f v ≡ Some id)
    by_test true is more e = (t, first t targets, named (missed f t) is)
    by_test false is more e = let m = more e in (m.0, later t m.0 targets m.1, m.2)

names_it : (o : Option (List ℕ)) (id : List ℕ) → o ≡ Some id → names o id ≡ true
names_it o id e = ap (λ p. names p id) e ∙ id_same id id refl

pub missed_by : (f : Fetch) (targets : List (List ℕ)) (t id : List ℕ) → has_id targets t ≡ true → missed f t ≡ Some id → is_missed f targets id ≡ true
missed_by f [] t id among e = clash true refl (sym among)
missed_by f (u ∷ targets) t id among e =
    elim (first_or u t targets among) [
      | inl same ↦ ap (λ b. b || is_missed f targets id) (names_it (missed f u) id (ap (missed f) same ∙ e))
      | inr other ↦ ap (λ b. names (missed f u) id || b) (missed_by f targets t id other e) ∙ or_right (names (missed f u) id) true refl
    ]

-- nothing is missed just where no identifier is
pub none_missed : (f : Fetch) (targets : List (List ℕ)) → ((id : List ℕ) → is_missed f targets id ≡ false) → list_all (λ t. is_none (missed f t)) targets ≡ true
none_missed f [] none = refl
none_missed f (t ∷ targets) none =
    rw (by_missed (missed f t) (λ id. (or_splits (names (missed f t) id) (is_missed f targets id) (none id)).0))
    (none_missed f targets (λ id. (or_splits (names (missed f t) id) (is_missed f targets id) (none id)).1))
  where
    by_missed : (o : Option (List ℕ)) → ((id : List ℕ) → names o id ≡ false) → is_none o ≡ true
    by_missed None none = refl
    by_missed (Some x) none = clash (bytes_eq x x) (id_same x x refl) (none x)

pub some_missed : (f : Fetch) (targets : List (List ℕ)) (id : List ℕ) → is_missed f targets id ≡ true → list_all (λ t. is_none (missed f t)) targets ≡ false
some_missed f [] id e = clash true refl (sym e)
some_missed f (t ∷ targets) id e = by_missed (missed f t) (some_missed f targets id) e
  where
    by_missed : (o : Option (List ℕ)) → (is_missed f targets id ≡ true → list_all (λ t. is_none (missed f t)) targets ≡ false) → (names o id || is_missed f targets id) ≡ true
        → (is_none o && list_all (λ t. is_none (missed f t)) targets) ≡ false
    by_missed None more e = more e
    by_missed (Some x) more e = refl

-- ---- one block more

-- what one target misses
pub name_kept : (f : Fetch) (b : KeptBlock) (t id : List ℕ) → IsLinked f.store → taken f.store b.header ≡ Ok verdict.Keeps
    → (b.header.id ≡ t → names (missed f t) b.header.id ≡ false → missed (with_kept f b) t ≡ missed f t)
    → names (missed (with_kept f b) t) id
    ≡ ((names (missed f t) id && not (bytes_eq b.header.id id)) || (names (missed f t) b.header.id && names (need_at (keeping f.store b) b.header.height) id))
name_kept f b t id l fits new =
    split_on (names (missed f t) b.header.id)
    (λ e. ap (λ o. names o id) (keep_moves f b t l fits e) ∙ by_moving (missed f t) e)
    (λ e. ap (λ o. names o id) (stays e) ∙ by_staying (missed f t) e)
  where
    stays : names (missed f t) b.header.id ≡ false → missed (with_kept f b) t ≡ missed f t
    stays e =
        split_on (bytes_eq b.header.id t)
        (λ same. new (same_id b.header.id t same) e)
        (λ other. keep_stays f b t l fits e (λ is. clash (bytes_eq b.header.id t) (id_same b.header.id t is) other))

    need : Bool
    need = names (need_at (keeping f.store b) b.header.height) id

    never : (u : Bool) → (u && not u) ≡ false
    never true = refl
    never false = refl

    by_moving : (o : Option (List ℕ)) → names o b.header.id ≡ true → need ≡ ((names o id && not (bytes_eq b.header.id id)) || (names o b.header.id && need))
    by_moving None e = clash true refl (sym e)
    by_moving (Some x) e =
        sym (ap (λ i. (bytes_eq i id && not (bytes_eq b.header.id id)) || (bytes_eq x b.header.id && need)) (same_id x b.header.id e)
        ∙ ap (λ u. u || (bytes_eq x b.header.id && need)) (never (bytes_eq b.header.id id))
        ∙ ap (λ u. u && need) e)

    by_staying : (o : Option (List ℕ)) → names o b.header.id ≡ false → names o id ≡ ((names o id && not (bytes_eq b.header.id id)) || (names o b.header.id && need))
    by_staying o e = sym (ap (λ u. (names o id && not (bytes_eq b.header.id id)) || (u && need)) e ∙ by_test (bytes_eq b.header.id id) refl)
      where
        by_name : (u : Bool) → u ≡ false → ((u && false) || false) ≡ u
        by_name true e = clash true refl e
        by_name false e = refl

        as_was : (u : Bool) → ((u && true) || false) ≡ u
        as_was true = refl
        as_was false = refl

        by_test : (u : Bool) → bytes_eq b.header.id id ≡ u → ((names o id && not u) || false) ≡ names o id
        by_test true same = by_name (names o id) (ap (names o) (sym (same_id b.header.id id same)) ∙ e)
        by_test false other = as_was (names o id)
