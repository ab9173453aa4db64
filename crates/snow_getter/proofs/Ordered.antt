-- Lemmas on the pending blocks by identifier, and the list of them in order of issue.
use Rattle.std.proofs.Common.{◌≡◌, ℕ, zero, suc, ◌<◌, ◌≤◌, ◌==◌, Bool, true, false, not, ltb, cond, List, [], ◌∷◌, ◌++◌, map, filter, find, length, Option, Some, None, refl, sym, ap, ◌∙◌, arith, ⊎_elim}
use Rattle.std.specs.Cmp.Lexicographic.{nat_list_eq_equiv}
use Rattle.std.specs.List.{AllByRecursion, IsDistinct}
use Rattle.std.specs.List.Sorted.{IsPermutation}
use Rattle.std.specs.Map.{lookup, remove_entry, keys_of}
use Rattle.std.specs.Option.{IfSome, is_some, option_map, option_or}
use Rattle.std.specs.Str.{bytes_eq}
use Rattle.std.proofs.lemmas.Bool.{cond-true, cond-false, lt-ltb, le-ltb, ne_eqb, eq-eqb, eqb-true, cases_order}
use Rattle.std.proofs.lemmas.List.Elements.{filter-append, All-from_recursion, recursion_from_All}
use Rattle.std.proofs.lemmas.List.Folds.{find-append}
use Rattle.std.proofs.lemmas.List.Sorted.{All-permutation, IsPermutation-map}
use Rattle.std.proofs.lemmas.Slice.Eq.{bytes_eq-Decides}
use Rattle.std.proofs.lemmas.Map.{NonePasses, lookup-none, none_passes_from_lookup}
use Rattle.std.proofs.lemmas.Map.Entries.{none_past_head}
use Rattle.std.proofs.lemmas.Map.Views.{All-map-remove_entry}
use Rattle.std.proofs.lemmas.Map.Keys.{IsDistinct-head, IsDistinct-tail, IsDistinct-cons, IsDistinct-IsPermutation}
use Rattle.snow_getter.specs.declared.served.Served.{Served}
use Rattle.snow_getter.specs.declared.pending.Issued.{Issued}
use Rattle.snow_getter.specs.Model.Serving.{is_block, without}
use Rattle.snow_getter.specs.Kept.Order.{block_at, block_of, issued_before, numbered, IsIssued, AreIssued}
use Rattle.snow_getter.proofs.Permuted.{only_one_stays}

abbrev pub Entries : Type 0
Entries = List (List ℕ × Issued)

-- whether a key is this identifier
abbrev pub by_id : List ℕ → List ℕ → Bool
by_id id = bytes_eq id

abbrev has_number : ℕ → List ℕ × Issued → Bool
has_number n e = e.1.number == n

abbrev blocks_at : ℕ → Entries → List Served
blocks_at n es = map block_of (numbered n es)

abbrev AreDistinct : Entries → Type 0
AreDistinct es = IsDistinct bytes_eq (keys_of es)

abbrev Each : ℕ → Entries → Type 0
Each next es = AllByRecursion (IsIssued next) es

abbrev AreApart : Entries → Type 0
AreApart es = (n : ℕ) → length (numbered n es) ≤ 1

-- a block is that of its key
tells : (id : List ℕ) (e : List ℕ × Issued) → is_block id (block_of e) ≡ by_id id e.0
tells id e = nat_list_eq_equiv.symm e.0 id

-- no later key is that of the first entry
none_later : (id : List ℕ) (e : List ℕ × Issued) (es : Entries) → AreDistinct (e ∷ es) → by_id id e.0 ≡ true → NonePasses (by_id id) es
none_later id e es unique same = none_past_head nat_list_eq_equiv id e es unique same

-- ---- a block is found

abbrev at_number : List ℕ → ℕ → Option Issued → Option Served
at_number id n None = None
at_number id n (Some v) = cond (v.number == n) (Some (block_at id v)) None

abbrev below_number : List ℕ → ℕ → Option Issued → Option Served
below_number id n None = None
below_number id n (Some v) = cond (ltb v.number n) (Some (block_at id v)) None

found_at : (n : ℕ) (id : List ℕ) (es : Entries) → AreDistinct es → find (is_block id) (blocks_at n es) ≡ at_number id n (lookup (by_id id) es)
found_at n id [] unique = refl
found_at n id (e ∷ es) unique =
    let same = tells id e in
    let rest = found_at n id es (IsDistinct-tail bytes_eq e.0 (keys_of es) unique) in
    let first : (b : Bool) → by_id id e.0 ≡ b
    → cond (is_block id (block_of e)) (Some (block_of e)) (find (is_block id) (blocks_at n es)) ≡ cond b (Some (block_of e)) (find (is_block id) (blocks_at n es)) =
    λ b t. ap (λ x. cond x (Some (block_of e)) (find (is_block id) (blocks_at n es))) (same ∙ t) in
    (elim (by_id id e.0) as (λ b. by_id id e.0 ≡ b → find (is_block id) (blocks_at n (e ∷ es)) ≡ at_number id n (cond b (Some e.1) (lookup (by_id id) es))) [
      | true ↦ λ t.
          let own : e.0 ≡ id = sym ((bytes_eq-Decides id e.0).0 t) in
          elim (has_number n e) as
          (λ m. find (is_block id) (map block_of (cond m (e ∷ filter (has_number n) es) (numbered n es))) ≡ cond m (Some (block_at id e.1)) None) [
            | true ↦ first true t ∙ ap (λ k. Some (block_at k e.1)) own
            | false ↦ rest ∙ ap (at_number id n) (lookup-none (by_id id) es (none_later id e es unique t))
          ]
      | false ↦ λ t.
          elim (has_number n e) as
          (λ m. find (is_block id) (map block_of (cond m (e ∷ filter (has_number n) es) (numbered n es)))
          ≡ at_number id n (lookup (by_id id) es)) [
            | true ↦ first false t ∙ rest
            | false ↦ rest
          ]
    ]) refl

joined : (id : List ℕ) (n : ℕ) (o : Option Issued) → option_or (below_number id n o) (at_number id n o) ≡ below_number id (suc n) o
joined id n None = refl
joined id n (Some v) =
    ⊎_elim
    (λ (same : v.number ≡ n). rw (le-ltb v.number n (omega (arith, same)), eq-eqb v.number n same, lt-ltb v.number (suc n) (omega (arith, same))) refl)
    (λ apart. ⊎_elim
    (λ (less : v.number < n). rw (lt-ltb v.number n less, lt-ltb v.number (suc n) (omega (arith, less))) refl)
    (λ (more : n < v.number). rw (le-ltb v.number n (omega (arith, more)), ne_eqb v.number n (λ e. omega (arith, e, more)), le-ltb v.number (suc n) (omega (arith, more))) refl)
    apart)
    (cases_order v.number n)

none_below : (id : List ℕ) (o : Option Issued) → None ≡ below_number id 0 o
none_below id None = refl
none_below id (Some v) = rw (le-ltb v.number 0 (omega arith)) refl

found_before : (n : ℕ) (id : List ℕ) (es : Entries) → AreDistinct es → find (is_block id) (issued_before n es) ≡ below_number id n (lookup (by_id id) es)
unfolding issued_before
found_before zero id es unique = none_below id (lookup (by_id id) es)
found_before (suc n) id es unique =
    find-append (is_block id) (issued_before n es) (blocks_at n es)
    ∙ ap (λ o. option_or o (find (is_block id) (blocks_at n es))) (found_before n id es unique)
    ∙ ap (option_or (below_number id n (lookup (by_id id) es))) (found_at n id es unique)
    ∙ joined id n (lookup (by_id id) es)

number_found : (next : ℕ) (id : List ℕ) (es : Entries) → Each next es → IfSome (lookup (by_id id) es) (λ v. v.number < next)
number_found next id [] is = tt
number_found next id (e ∷ es) is =
    elim (by_id id e.0) as (λ b. IfSome (cond b (Some e.1) (lookup (by_id id) es)) (λ v. v.number < next)) [
      | true ↦ is.0
      | false ↦ number_found next id es is.1
    ]

below_all : (id : List ℕ) (next : ℕ) (o : Option Issued) → IfSome o (λ v. v.number < next) → below_number id next o ≡ option_map (block_at id) o
below_all id next None low = refl
below_all id next (Some v) low = rw (lt-ltb v.number next low) refl

-- the block of an identifier is the one that the map has
pub block_found : (next : ℕ) (id : List ℕ) (es : Entries) → AreIssued next es
    → find (is_block id) (issued_before next es) ≡ option_map (block_at id) (lookup (by_id id) es)
block_found next id es is =
    found_before next id es is.unique ∙ below_all id next (lookup (by_id id) es) (number_found next id es is.each)

-- ---- entries that change places

same_before : (n : ℕ) (es fs : Entries) → IsPermutation es fs → AreApart es → issued_before n fs ≡ issued_before n es
unfolding issued_before
same_before zero es fs moved apart = refl
same_before (suc n) es fs moved apart =
    ap (λ l. l ++ blocks_at n fs) (same_before n es fs moved apart)
    ∙ ap (λ (l : Entries). issued_before n es ++ map block_of l) (sym (only_one_stays (has_number n) es fs moved (apart n)))

apart_moved : (es fs : Entries) → IsPermutation es fs → AreApart es → AreApart fs
apart_moved es fs moved apart n =
    let same = ap (λ l. length l) (only_one_stays (has_number n) es fs moved (apart n)) in
    let few = apart n in
    omega (arith, same, few)

each_moved : (next : ℕ) (es fs : Entries) → IsPermutation es fs → Each next es → Each next fs
each_moved next es fs moved each =
    recursion_from_All (IsIssued next) fs (All-permutation (IsIssued next) es fs moved (All-from_recursion (IsIssued next) es each))

distinct_moved : (es fs : Entries) → IsPermutation es fs → AreDistinct es → AreDistinct fs
distinct_moved es fs moved unique =
    IsDistinct-IsPermutation bytes_eq nat_list_eq_equiv.symm (keys_of es) (keys_of fs) (IsPermutation-map (λ e. e.0) es fs moved) unique

-- ---- a block is issued

none_at : (n : ℕ) (es : Entries) → Each n es → numbered n es ≡ []
none_at n [] is = refl
none_at n (e ∷ es) is =
    let low : e.1.number < n = is.0 in
    cond-false _ _ _ (ne_eqb e.1.number n (λ same. omega (arith, same, low))) ∙ none_at n es is.1

before_same : (n : ℕ) (es : Entries) (k : List ℕ) (v : Issued) → n ≤ v.number → issued_before n ((k, v) ∷ es) ≡ issued_before n es
unfolding issued_before
before_same zero es k v low = refl
before_same (suc n) es k v low =
    ap (λ l. l ++ blocks_at n ((k, v) ∷ es)) (before_same n es k v (omega (arith, low)))
    ∙ ap (λ (l : Entries). issued_before n es ++ map block_of l) (cond-false _ _ _ (ne_eqb v.number n (λ same. omega (arith, same, low))))

put_behind : (es : Entries) (k : List ℕ) (v : Issued) → Each v.number es → issued_before (suc v.number) ((k, v) ∷ es) ≡ issued_before v.number es ++ block_at k v ∷ []
unfolding issued_before
put_behind es k v is =
    ap (λ l. l ++ blocks_at v.number ((k, v) ∷ es)) (before_same v.number es k v (omega arith))
    ∙ ap (λ (l : Entries). issued_before v.number es ++ map block_of l)
    (cond-true _ _ _ (eq-eqb v.number v.number refl) ∙ ap (λ l. (k, v) ∷ l) (none_at v.number es is))

apart_put : (es : Entries) (k : List ℕ) (v : Issued) → Each v.number es → AreApart es → AreApart ((k, v) ∷ es)
apart_put es k v is apart n =
    let few = apart n in
    (elim (v.number == n) as (λ b. (v.number == n) ≡ b → length (cond b ((k, v) ∷ numbered n es) (numbered n es)) ≤ 1) [
      | true ↦ λ e.
          let none = ap (λ l. length l) (ap (λ m. numbered m es) (sym (eqb-true v.number n e)) ∙ none_at v.number es is) in
          omega (arith, none)
      | false ↦ λ e. few
    ]) refl

-- no key is this identifier where no entry is that of it
no_key : (id : List ℕ) (es : Entries) → NonePasses (by_id id) es → AllByRecursion (λ key. bytes_eq id key ≡ false) (keys_of es)
no_key id [] none = tt
no_key id (e ∷ es) none = (none.0, no_key id es none.1)

distinct_put : (es : Entries) (k : List ℕ) (v : Issued) → AreDistinct es → lookup (by_id k) es ≡ None → AreDistinct ((k, v) ∷ es)
distinct_put es k v unique none = IsDistinct-cons bytes_eq k (keys_of es) (no_key k es (none_passes_from_lookup (by_id k) es none)) unique

-- a block with the next number stands behind all others
pub block_pushed : (es fs : Entries) (k : List ℕ) (v : Issued) → AreIssued v.number es → IsPermutation ((k, v) ∷ es) fs
    → issued_before (suc v.number) fs ≡ issued_before v.number es ++ block_at k v ∷ []
block_pushed es fs k v is moved =
    same_before (suc v.number) ((k, v) ∷ es) fs moved (apart_put es k v is.each is.apart) ∙ put_behind es k v is.each

later : (next : ℕ) (es : Entries) → Each next es → Each (suc next) es
later next [] is = tt
later next (e ∷ es) is = let low : e.1.number < next = is.0 in (omega (arith, low), later next es is.1)

pub issued_pushed : (es fs : Entries) (k : List ℕ) (v : Issued) → AreIssued v.number es → lookup (by_id k) es ≡ None → IsPermutation ((k, v) ∷ es) fs
    → AreIssued (suc v.number) fs
issued_pushed es fs k v is none moved =
    let all : Entries = (k, v) ∷ es in
    record {
      each = each_moved (suc v.number) all fs moved (omega arith, later v.number es is.each);
      apart = apart_moved all fs moved (apart_put es k v is.each is.apart);
      unique = distinct_moved all fs moved (distinct_put es k v is.unique none);
    }

-- ---- a block goes

kept_at : (n : ℕ) (id : List ℕ) (es : Entries) → NonePasses (by_id id) es → blocks_at n es ≡ without id (blocks_at n es)
kept_at n id [] none = refl
kept_at n id (e ∷ es) none =
    let other : not (is_block id (block_of e)) ≡ true = ap not (tells id e ∙ none.0) in
    let rest = kept_at n id es none.1 in
    elim (has_number n e) as
    (λ m. map block_of (cond m (e ∷ filter (has_number n) es) (numbered n es))
    ≡ without id (map block_of (cond m (e ∷ filter (has_number n) es) (numbered n es)))) [
      | true ↦ ap (λ l. (block_of e) ∷ l) rest ∙ sym (cond-true _ _ _ other)
      | false ↦ rest
    ]

left_at : (n : ℕ) (id : List ℕ) (es : Entries) → AreDistinct es → blocks_at n (remove_entry (by_id id) es) ≡ without id (blocks_at n es)
left_at n id [] unique = refl
left_at n id (e ∷ es) unique =
    let same = tells id e in
    let rest = left_at n id es (IsDistinct-tail bytes_eq e.0 (keys_of es) unique) in
    (elim (by_id id e.0) as
    (λ b. by_id id e.0 ≡ b → blocks_at n (cond b es (e ∷ remove_entry (by_id id) es)) ≡ without id (blocks_at n (e ∷ es))) [
      | true ↦ λ t.
          let kept = kept_at n id es (none_later id e es unique t) in
          elim (has_number n e) as
          (λ m. blocks_at n es ≡ without id (map block_of (cond m (e ∷ filter (has_number n) es) (numbered n es)))) [
            | true ↦ kept ∙ sym (cond-false _ _ _ (ap not (same ∙ t)))
            | false ↦ kept
          ]
      | false ↦ λ t.
          elim (has_number n e) as
          (λ m. map block_of (cond m (e ∷ filter (has_number n) (remove_entry (by_id id) es)) (numbered n (remove_entry (by_id id) es)))
          ≡ without id (map block_of (cond m (e ∷ filter (has_number n) es) (numbered n es)))) [
            | true ↦ ap (λ l. (block_of e) ∷ l) rest ∙ sym (cond-true _ _ _ (ap not (same ∙ t)))
            | false ↦ rest
          ]
    ]) refl

left_before : (n : ℕ) (id : List ℕ) (es : Entries) → AreDistinct es → issued_before n (remove_entry (by_id id) es) ≡ without id (issued_before n es)
unfolding issued_before
left_before zero id es unique = refl
left_before (suc n) id es unique =
    ap (λ l. l ++ blocks_at n (remove_entry (by_id id) es)) (left_before n id es unique)
    ∙ ap (λ l. without id (issued_before n es) ++ l) (left_at n id es unique)
    ∙ sym (filter-append (λ b. not (is_block id b)) (issued_before n es) (blocks_at n es))

apart_left : (id : List ℕ) (es : Entries) → AreApart es → AreApart (remove_entry (by_id id) es)
apart_left id es apart n = let few = apart n in let fewer = fewer_left n id es in omega (arith, few, fewer)
  where
    fewer_left : (n : ℕ) (id : List ℕ) (es : Entries) → length (numbered n (remove_entry (by_id id) es)) ≤ length (numbered n es)
    fewer_left n id [] = omega arith
    fewer_left n id (e ∷ es) =
        let rest = fewer_left n id es in
        elim (by_id id e.0) as (λ b. length (numbered n (cond b es (e ∷ remove_entry (by_id id) es))) ≤ length (cond (has_number n e) (e ∷ numbered n es) (numbered n es))) [
          | true ↦ elim (has_number n e) as (λ m. length (numbered n es) ≤ length (cond m (e ∷ numbered n es) (numbered n es))) [ true ↦ omega arith | false ↦ omega arith ]
          | false ↦
              elim (has_number n e) as
              (λ m. length (cond m (e ∷ numbered n (remove_entry (by_id id) es)) (numbered n (remove_entry (by_id id) es))) ≤ length (cond m (e ∷ numbered n es) (numbered n es))) [
                | true ↦ omega (arith, rest)
                | false ↦ rest
              ]
        ]

each_left : (next : ℕ) (id : List ℕ) (es : Entries) → Each next es → Each next (remove_entry (by_id id) es)
each_left next id [] is = tt
each_left next id (e ∷ es) is =
    elim (by_id id e.0) as (λ b. Each next (cond b es (e ∷ remove_entry (by_id id) es))) [
      | true ↦ is.1
      | false ↦ (is.0, each_left next id es is.1)
    ]

-- what is said of all keys stays said of those that are left
keys_left : (P : List ℕ → Type 0) (id : List ℕ) (es : Entries) → AllByRecursion P (keys_of es) → AllByRecursion P (keys_of (remove_entry (by_id id) es))
keys_left P id es all =
    recursion_from_All P (keys_of (remove_entry (by_id id) es)) (All-map-remove_entry (by_id id) (λ e. e.0) P es (All-from_recursion P (keys_of es) all))

distinct_left : (id : List ℕ) (es : Entries) → AreDistinct es → AreDistinct (remove_entry (by_id id) es)
distinct_left id [] unique = unique
distinct_left id (e ∷ es) unique =
    let later = IsDistinct-tail bytes_eq e.0 (keys_of es) unique in
    elim (by_id id e.0) as (λ b. AreDistinct (cond b es (e ∷ remove_entry (by_id id) es))) [
      | true ↦ later
      | false ↦
          IsDistinct-cons bytes_eq e.0 (keys_of (remove_entry (by_id id) es))
          (keys_left (λ key. bytes_eq e.0 key ≡ false) id es (IsDistinct-head bytes_eq e.0 (keys_of es) unique)) (distinct_left id es later)
    ]

-- without its entry the block of an identifier is gone
pub block_left : (next : ℕ) (id : List ℕ) (es fs : Entries) → AreIssued next es → IsPermutation (remove_entry (by_id id) es) fs
    → issued_before next fs ≡ without id (issued_before next es)
block_left next id es fs is moved =
    same_before next (remove_entry (by_id id) es) fs moved (apart_left id es is.apart) ∙ left_before next id es is.unique

pub issued_left : (next : ℕ) (id : List ℕ) (es fs : Entries) → AreIssued next es → IsPermutation (remove_entry (by_id id) es) fs → AreIssued next fs
issued_left next id es fs is moved =
    let left = remove_entry (by_id id) es in
    record {
      each = each_moved next left fs moved (each_left next id es is.each);
      apart = apart_moved left fs moved (apart_left id es is.apart);
      unique = distinct_moved left fs moved (distinct_left id es is.unique);
    }

-- ---- a block that isn't there

none_of : (id : List ℕ) (o : Option Issued) → is_some (option_map (block_at id) o) ≡ false → o ≡ None
none_of id None none = refl
none_of id (Some v) none = absurd cc

-- the map has none either
pub missing : (next : ℕ) (id : List ℕ) (es : Entries) → AreIssued next es → is_some (find (is_block id) (issued_before next es)) ≡ false
    → lookup (by_id id) es ≡ None
missing next id es is none = none_of id (lookup (by_id id) es) (ap is_some (sym (block_found next id es is)) ∙ none)
