-- What a store keeps of its blocks, with one block more; and what a target misses, by the runs of heights.
use Rattle.std.proofs.Common.{◌≡◌, ℕ, zero, suc, ◌^◌, ◌<◌, Bool, true, false, ◌==◌, ◌||◌, List, [], ◌∷◌, Option, Some, None, if◌then◌else◌, refl, sym, ap, subst, ◌∙◌, arith, eqb-true}
use Rattle.std.specs.BTreeMap.{BTreeMap}
use Rattle.std.specs.Option.{option_map}
use Rattle.std.specs.Prelude.{is_some, Ok}
use Rattle.snow_interval.specs.Model.Heights.{Heights, with_height, lowest}
use Rattle.snow_store.specs.declared.store.KeptBlock.{KeptBlock}
use Rattle.snow_store.specs.declared.index.Links.{Links}
use Rattle.snow_store.specs.declared.stop.Verdict.TheVariants as verdict
use Rattle.snow_store.specs.Model.Keeping.{Store, held, highest, taken, keeping}
use Rattle.snow_store.specs.Laws.Linking.{IsLinked, held_heights}
use Rattle.snow_store.specs.Model.Paths.{Fetch, path, last_of, wanted_below, missed_from, missed}
use Rattle.snow_store.specs.Kept.Indexing.{IsStored, HasPlaces, HasLinks, top_of}
use Rattle.snow_store.proofs.Cases.{clash, none_not, same_some}
use Rattle.snow_store.proofs.Indexed.{turned}
use Rattle.snow_store.proofs.Holding.{highest_held}
use Rattle.snow_store.proofs.Linked.{keeps_facts, kept_linked}
use Rattle.snow_store.proofs.Walking.{bottom}

-- the heights that are held, with one block more
pub more_heights : (kept : List KeptBlock) (b : KeptBlock) (h : ℕ) → held_heights (b ∷ kept) h ≡ ((b.header.height == h) || held_heights kept h)
unfolding held
more_heights kept b h = by_test (b.header.height == h)
  where
    by_test : (t : Bool) → is_some (if t then Some b else held kept h) ≡ (t || is_some (held kept h))
    by_test true = refl
    by_test false = refl

-- a store with one block more
pub stored_more : (s : Store) (b : KeptBlock) (places more_places : BTreeMap ℕ ℕ) (by_id more_by_id : List (List ℕ × Links))
    (floor : ℕ) (now_floor : ℕ) (runs more_runs : Heights)
    → IsStored s places by_id floor runs → taken s b.header ≡ Ok verdict.Keeps → b.header.height < 2 ^ 64
    → (HasPlaces places s.kept → HasPlaces more_places (b ∷ s.kept)) → (HasLinks by_id s.kept → HasLinks more_by_id (b ∷ s.kept))
    → now_floor ≡ floor → ((h : ℕ) → more_runs h ≡ with_height runs b.header.height h)
    → IsStored (keeping s b) more_places more_by_id now_floor more_runs
stored_more s b places more_places by_id more_by_id floor now_floor runs more_runs is e small p l same_floor grown =
    let facts = keeps_facts s b.header e in
    let few = facts.few in record {
      linked = kept_linked s b is.linked e;
      few = omega (arith, few);
      places = p is.places;
      links = l is.links;
      floor = same_floor ∙ is.floor;
      runs = λ h. grown h ∙ ap (λ x. x || runs h) (turned h b.header.height) ∙ ap (λ x. (b.header.height == h) || x) (is.runs h) ∙ sym (more_heights s.kept b h);
      fits = λ h at. by_test h (b.header.height == h) refl (sym (more_heights s.kept b h) ∙ at);
    }
  where
    by_test : (h : ℕ) (x : Bool) → (b.header.height == h) ≡ x → (x || held_heights s.kept h) ≡ true → h < 2 ^ 64
    by_test h true same at = subst (λ n. n < 2 ^ 64) (eqb-true b.header.height h same) small
    by_test h false same at = is.fits h at

of_test : (t : Bool) {x y : ℕ} (z : ℕ) → x ≡ y → (if t then x else z) ≡ (if t then y else z)
of_test true z same = same
of_test false z same = refl

-- sets that hold the same heights have the same runs
pub same_lowest : (a b : Heights) → ((h : ℕ) → a h ≡ b h) → (n : ℕ) → lowest a n ≡ lowest b n
unfolding lowest
same_lowest a b same zero = refl
same_lowest a b same (suc n) = rw (same n) (of_test (b n) (suc n) (same_lowest a b same n))

-- an identifier's highest block is at the height that is kept for it
top_block : (kept : List KeptBlock) (id : List ℕ) (top : ℕ) → top_of kept id ≡ Some top → (b : KeptBlock) × (highest kept id ≡ Some b) × (b.header.height ≡ top)
top_block kept id top e = of_one (highest kept id) refl e
  where
    of_one : (o : Option KeptBlock) → highest kept id ≡ o → option_map (λ b. b.header.height) o ≡ Some top → (b : KeptBlock) × (highest kept id ≡ Some b) × (b.header.height ≡ top)
    of_one None is e = none_not top e
    of_one (Some b) is e = (b, is, same_some b.header.height top e)

-- the height that is kept for an identifier is held
pub top_held : (s : Store) (id : List ℕ) (top : ℕ) → IsLinked s → top_of s.kept id ≡ Some top → held_heights s.kept top ≡ true
top_held s id top l e =
    let t = top_block s.kept id top e in
    subst (λ n. held_heights s.kept n ≡ true) t.2 (ap is_some (highest_held s.kept id t.0 l.apart t.1).0)

-- what a kept target misses, by the lowest block of its run
pub missed_kept : (s : Store) (noted : List (List ℕ)) (id : List ℕ) (top low : ℕ) (runs : Heights) → IsLinked s → ((h : ℕ) → runs h ≡ held_heights s.kept h) → top_of s.kept id ≡ Some top
    → low ≡ lowest runs top → missed_from s noted id (highest s.kept id) ≡ wanted_below s.height (held s.kept low)
missed_kept s noted id top low runs l same e is =
    let t = top_block s.kept id top e in
    let at = highest_held s.kept id t.0 l.apart t.1 in
    let where_low : lowest (held_heights s.kept) t.0.header.height ≡ low = ap (lowest (held_heights s.kept)) t.2 ∙ sym (is ∙ same_lowest runs (held_heights s.kept) same top) in
    ap (missed_from s noted id) t.1
    ∙ ap (λ i. wanted_below s.height (last_of (path s.kept t.0.header.height i))) (sym at.1)
    ∙ ap (wanted_below s.height) (bottom s t.0.header.height t.0 l at.0 ∙ ap (held s.kept) where_low)

-- what a target misses, by its highest block
pub missed_is : (f : Fetch) (t : List ℕ) → missed_from f.store f.found t (highest f.store.kept t) ≡ missed f t
unfolding missed
missed_is f t = refl

-- nothing is kept
pub none_stored : (last : List ℕ) (height : ℕ) (places : BTreeMap ℕ ℕ) (by_id : List (List ℕ × Links)) (floor : ℕ) (runs : Heights)
    → HasPlaces places [] → HasLinks by_id [] → floor ≡ height → ((h : ℕ) → runs h ≡ false)
    → IsStored record { last = last; height = height; kept = [] } places by_id floor runs
unfolding held
none_stored last height places by_id floor runs p l f none = record {
  linked = record { apart = tt; above = tt; founded = λ b e. none_not b e; linked = λ h x b e e2. none_not x e };
  few = omega arith;
  places = p;
  links = l;
  floor = f;
  runs = none;
  fits = λ h at. clash false at refl;
}
