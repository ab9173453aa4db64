-- How many targets miss an identifier, and the table of these numbers.
use Rattle.std.proofs.Common.{◌≡◌, ℕ, zero, suc, ◌+◌, ◌-◌, ◌<◌, ◌≤◌, Bool, true, false, ◌&&◌, ◌||◌, not, cond, List, [], ◌∷◌, ◌++◌, length, Option, Some, None, bytes_eq, if◌then◌else◌, refl, sym, ap, subst, ◌∙◌, arith}
use Rattle.std.specs.BTreeMap.{BTreeMap, get, is_at, btree_map_len}
use Rattle.std.specs.Cmp.Lexicographic.{slice_cmp}
use Rattle.std.specs.List.{AllByRecursion, IsDistinct}
use Rattle.std.specs.Option.{unwrap_or}
use Rattle.std.specs.Ordering.{nat_cmp}
use Rattle.std.specs.Prelude.{is_some, Ok}
use Rattle.std.proofs.lemmas.Map.Text.{is_eq-slice_cmp}
use Rattle.snow_store.specs.declared.store.KeptBlock.{KeptBlock}
use Rattle.snow_store.specs.declared.stop.Verdict.TheVariants as verdict
use Rattle.snow_store.specs.Model.Keeping.{taken, keeping}
use Rattle.snow_store.specs.Laws.Linking.{IsLinked}
use Rattle.snow_store.specs.Model.Needing.{need_at, names, is_missed, missing, counted, Counts, has_need, HasNeeds, with_more, with_less, with_none, passed_on}
use Rattle.snow_store.specs.Model.Paths.{Fetch, has_id, missed, is_whole}
use Rattle.snow_store.proofs.Cases.{split_on, clash, same_id, id_same, same_some, none_not}
use Rattle.snow_store.proofs.Missing.{name_kept, none_missed, some_missed}
use Rattle.snow_store.proofs.Needed.{with_kept, with_found, low_names}
use Rattle.snow_store.proofs.Whole.{first, later}

abbrev Table : Type 0
Table = BTreeMap (List ℕ) ℕ

-- ---- numbers that are there

some_counted : (n : ℕ) → 0 < n → Some n ≡ counted n
some_counted zero some = absurd (omega (arith, some))
some_counted (suc n) some = refl

of_some : (n m : ℕ) → Some n ≡ counted m → n ≡ m
of_some n zero e = none_not n (sym e)
of_some n (suc m) e = same_some n (suc m) e

none_counted : (m : ℕ) → m ≡ 0 → None ≡ counted m
none_counted m e = ap counted (sym e)

pub some_there : (needs : Table) (count : List ℕ → ℕ) (id : List ℕ) (n : ℕ) → Counts needs count → Some n ≡ get (slice_cmp nat_cmp) needs id → (n ≡ count id) × (0 < n)
some_there needs count id n counts is =
    let e : Some n ≡ counted (count id) = is ∙ counts id in
    let same = of_some n (count id) e in (same, positive (count id) e same)
  where
    positive : (m : ℕ) → Some n ≡ counted m → n ≡ m → 0 < n
    positive zero e same = none_not n (sym e)
    positive (suc m) e same = omega (arith, same)

pub counts_same : (needs : Table) (a b : List ℕ → ℕ) → Counts needs a → ((q : List ℕ) → a q ≡ b q) → Counts needs b
counts_same needs a b counts same q = counts q ∙ ap counted (same q)

pub there_is : (needs : Table) (count : List ℕ → ℕ) (id : List ℕ) → Counts needs count → unwrap_or (get (slice_cmp nat_cmp) needs id) 0 ≡ count id
there_is needs count id counts = ap (λ o. unwrap_or o 0) (counts id) ∙ by (count id)
  where
    by : (m : ℕ) → unwrap_or (counted m) 0 ≡ m
    by zero = refl
    by (suc m) = refl

-- ---- one number changes

abbrev pub IsSet : Table → List ℕ → Option ℕ → Table → Type 0
IsSet before id n now = (q : List ℕ) → get (slice_cmp nat_cmp) now q ≡ cond (is_at (slice_cmp nat_cmp id) q) n (get (slice_cmp nat_cmp) before q)

set_at : (before now : Table) (id : List ℕ) (n : Option ℕ) → IsSet before id n now → (q : List ℕ) → get (slice_cmp nat_cmp) now q ≡ cond (bytes_eq id q) n (get (slice_cmp nat_cmp) before q)
set_at before now id n change q = change q ∙ ap (λ t. cond t n (get (slice_cmp nat_cmp) before q)) (is_eq-slice_cmp id q)

pub added : (before now : Table) (id : List ℕ) (missed : Option (List ℕ)) (there n sum : ℕ) (count : List ℕ → ℕ) → IsSet before id (Some sum) now → sum ≡ there + n
    → there ≡ unwrap_or (get (slice_cmp nat_cmp) before id) 0 → missed ≡ Some id → 0 < n → Counts before count → Counts now (with_more missed n count)
added before now id missed there n sum count change is was named some counts q =
    set_at before now id (Some sum) change q ∙ by (bytes_eq id q) refl ∙ ap (λ o. counted (with_more o n count q)) (sym named)
  where
    by : (t : Bool) → bytes_eq id q ≡ t → cond t (Some sum) (get (slice_cmp nat_cmp) before q) ≡ counted (if t then count q + n else count q)
    by true same =
        ap (λ m. (let o : Option ℕ = Some m in o)) (is ∙ ap (λ m. m + n) (was ∙ there_is before count id counts ∙ ap count (same_id id q same)))
        ∙ some_counted (count q + n) (omega (arith, some))
    by false other = counts q

pub has_added : (before now : Table) (id : List ℕ) (n : ℕ) → IsSet before id (Some n) now → (q : List ℕ) → has_need now q ≡ (has_need before q || bytes_eq id q)
has_added before now id n change q = ap is_some (set_at before now id (Some n) change q) ∙ by (bytes_eq id q) (get (slice_cmp nat_cmp) before q)
  where
    by : (t : Bool) (o : Option ℕ) → is_some (cond t (Some n) o) ≡ (is_some o || t)
    by true None = refl
    by true (Some m) = refl
    by false None = refl
    by false (Some m) = refl

pub removed : (before now : Table) (id : List ℕ) (count : List ℕ → ℕ) → IsSet before id None now → Counts before count → Counts now (with_none id count)
removed before now id count change counts q = set_at before now id None change q ∙ by (bytes_eq id q)
  where
    by : (t : Bool) → cond t None (get (slice_cmp nat_cmp) before q) ≡ counted (if t then 0 else count q)
    by true = refl
    by false = counts q

pub has_removed : (before now : Table) (id : List ℕ) → IsSet before id None now → (q : List ℕ) → has_need now q ≡ true → has_need before q ≡ true
has_removed before now id change q e = by (bytes_eq id q) (sym (ap is_some (set_at before now id None change q)) ∙ e)
  where
    by : (t : Bool) → is_some (cond t None (get (slice_cmp nat_cmp) before q)) ≡ true → has_need before q ≡ true
    by true e = clash true refl (sym e)
    by false e = e

-- where nobody misses a block, nothing is passed on
pub none_there : (needs : Table) (count : List ℕ → ℕ) (id : List ℕ) (need : Option (List ℕ)) → Counts needs count → None ≡ get (slice_cmp nat_cmp) needs id
    → (q : List ℕ) → with_none id count q ≡ passed_on id need count q
none_there needs count id need counts none q = by (names need q) (with_none id count q) (count id) (zero_is (count id) (none ∙ counts id))
  where
    zero_is : (m : ℕ) → None ≡ counted m → m ≡ 0
    zero_is zero e = refl
    zero_is (suc m) e = none_not (suc m) e

    by : (u : Bool) (n k : ℕ) → k ≡ 0 → n ≡ (if u then n + k else n)
    by true n k e = omega (arith, e)
    by false n k e = refl

-- one of more than one is left
pub lessened : (before now : Table) (id : List ℕ) (n : ℕ) (count : List ℕ → ℕ) → IsSet before id (Some (n - 1)) now → n ≡ count id → 1 < n → Counts before count
    → Counts now (with_less (Some id) count)
lessened before now id n count change is some counts q = set_at before now id (Some (n - 1)) change q ∙ by (bytes_eq id q) refl
  where
    by : (t : Bool) → bytes_eq id q ≡ t → cond t (Some (n - 1)) (get (slice_cmp nat_cmp) before q) ≡ counted (if t then count q - 1 else count q)
    by true same =
        let here : n ≡ count q = is ∙ ap count (same_id id q same) in
        some_counted (n - 1) (omega (arith, some)) ∙ ap (λ m. counted (m - 1)) here
    by false other = counts q

pub has_lessened : (before now : Table) (id : List ℕ) (n : ℕ) → IsSet before id (Some (n - 1)) now → n ≡ unwrap_or (get (slice_cmp nat_cmp) before id) 0 → 1 < n
    → (q : List ℕ) → has_need now q ≡ true → has_need before q ≡ true
has_lessened before now id n change is some q e = by (bytes_eq id q) refl (sym (ap is_some (set_at before now id (Some (n - 1)) change q)) ∙ e)
  where
    there : (o : Option ℕ) → n ≡ unwrap_or o 0 → is_some o ≡ true
    there None is = absurd (omega (arith, some, is))
    there (Some m) is = refl

    by : (t : Bool) → bytes_eq id q ≡ t → is_some (cond t (Some (n - 1)) (get (slice_cmp nat_cmp) before q)) ≡ true → has_need before q ≡ true
    by true same e = ap (has_need before) (sym (same_id id q same)) ∙ there (get (slice_cmp nat_cmp) before id) is
    by false other e = e

-- the last one leaves
pub lessened_all : (before now : Table) (id : List ℕ) (count : List ℕ → ℕ) → IsSet before id None now → count id ≤ 1 → Counts before count → Counts now (with_less (Some id) count)
lessened_all before now id count change few counts q = set_at before now id None change q ∙ by (bytes_eq id q) refl
  where
    by : (t : Bool) → bytes_eq id q ≡ t → cond t None (get (slice_cmp nat_cmp) before q) ≡ counted (if t then count q - 1 else count q)
    by true same = none_counted (count q - 1) (let less : count q ≤ 1 = subst (λ i. count i ≤ 1) (same_id id q same) few in omega (arith, less))
    by false other = counts q

-- ---- how many miss an identifier

abbrev one : Bool → ℕ
one t = if t then 1 else 0

pub missing_last : (f : Fetch) (targets : List (List ℕ)) (t q : List ℕ) → with_more (missed f t) 1 (missing f targets) q ≡ missing f (targets ++ t ∷ []) q
unfolding missing
missing_last f [] t q = by (names (missed f t) q)
  where
    by : (u : Bool) → (if u then 0 + 1 else 0) ≡ one u + 0
    by true = refl
    by false = refl
missing_last f (s ∷ targets) t q = by (names (missed f t) q) (one (names (missed f s) q)) (missing f targets q) ∙ ap (λ n. one (names (missed f s) q) + n) (missing_last f targets t q)
  where
    by : (u : Bool) (a m : ℕ) → (if u then (a + m) + 1 else a + m) ≡ a + (if u then m + 1 else m)
    by true a m = omega arith
    by false a m = refl

some_missing : (n : ℕ) → 0 < n → is_some (counted n) ≡ true
some_missing zero some = absurd (omega (arith, some))
some_missing (suc n) some = refl

are_missing : (f : Fetch) (targets : List (List ℕ)) (q : List ℕ) → is_some (counted (missing f targets q)) ≡ is_missed f targets q
unfolding missing
are_missing f [] q = refl
are_missing f (t ∷ targets) q = by (names (missed f t) q) (are_missing f targets q)
  where
    by : (u : Bool) → is_some (counted (missing f targets q)) ≡ is_missed f targets q → is_some (counted (one u + missing f targets q)) ≡ (u || is_missed f targets q)
    by true more = some_missing (1 + missing f targets q) (omega arith)
    by false more = ap (λ n. is_some (counted n)) (let e : 0 + missing f targets q ≡ missing f targets q = omega arith in e) ∙ more

-- what the table has is what is missed
pub has_missed : (needs : Table) (f : Fetch) → HasNeeds needs f → (q : List ℕ) → has_need needs q ≡ is_missed f f.targets q
has_missed needs f has q = ap is_some (has q) ∙ are_missing f f.targets q

none_in : (needs : Table) → (0 < btree_map_len needs → ⊥) → (id : List ℕ) → get (slice_cmp nat_cmp) needs id ≡ None
none_in needs none id = by_entries needs.entries refl none
  where
    by_entries : (es : List (List ℕ × ℕ)) → needs.entries ≡ es → (0 < length es → ⊥) → get (slice_cmp nat_cmp) needs id ≡ None
    by_entries [] is none = rw is refl
    by_entries (e ∷ es) is none = absurd (none (omega arith))

-- nothing is missed
pub met : (needs : Table) (f : Fetch) → (0 < btree_map_len needs → ⊥) → HasNeeds needs f → is_whole f ≡ true
met needs f none has = none_missed f f.targets (λ id. sym (has_missed needs f has id) ∙ ap is_some (none_in needs none id))

-- something is
pub unmet : (needs : Table) (f : Fetch) (id : List ℕ) (n : ℕ) → get (slice_cmp nat_cmp) needs id ≡ Some n → HasNeeds needs f → is_whole f ≡ false
unmet needs f id n there has = some_missed f f.targets id (sym (has_missed needs f has id) ∙ ap is_some there)

-- where there is no target, nothing is missed
pub none_needed : (needs : Table) (f : Fetch) → needs.entries ≡ [] → f.targets ≡ [] → HasNeeds needs f
unfolding missing
none_needed needs f empty none q =
    none_in needs (λ some. omega (arith, some, ap length empty)) q ∙ ap (λ ts. counted (missing f ts q)) (sym none)

pub no_counts : (needs : Table) (f : Fetch) → needs.entries ≡ [] → Counts needs (missing f [])
unfolding missing
no_counts needs f empty q = none_in needs (λ some. omega (arith, some, ap length empty)) q

-- ---- one block more

passed_sum : (block : List ℕ) (need : Option (List ℕ)) (a b : List ℕ → ℕ) (q : List ℕ) → passed_on block need (λ r. a r + b r) q ≡ passed_on block need a q + passed_on block need b q
passed_sum block need a b q = by (names need q) (bytes_eq block q) (a block) (b block) (a q) (b q)
  where
    by : (u v : Bool) (k l m n : ℕ) → (if u then (if v then 0 else m + n) + (k + l) else if v then 0 else m + n)
        ≡ (if u then (if v then 0 else m) + k else if v then 0 else m) + (if u then (if v then 0 else n) + l else if v then 0 else n)
    by true true k l m n = omega arith
    by true false k l m n = omega arith
    by false true k l m n = refl
    by false false k l m n = refl

passed_same : (block : List ℕ) (need : Option (List ℕ)) (a b : List ℕ → ℕ) → ((r : List ℕ) → a r ≡ b r) → (q : List ℕ) → passed_on block need a q ≡ passed_on block need b q
passed_same block need a b same q =
    ap (λ n. if names need q then (if bytes_eq block q then 0 else n) + a block else if bytes_eq block q then 0 else n) (same q)
    ∙ ap (λ n. if names need q then (if bytes_eq block q then 0 else b q) + n else if bytes_eq block q then 0 else b q) (same block)

abbrev need_of : Fetch → KeptBlock → Option (List ℕ)
need_of f b = need_at (keeping f.store b) b.header.height

-- what one target misses
one_kept : (f : Fetch) (b : KeptBlock) (t q : List ℕ) → IsLinked f.store → taken f.store b.header ≡ Ok verdict.Keeps
    → (b.header.id ≡ t → names (missed f t) b.header.id ≡ false → missed (with_kept f b) t ≡ missed f t)
    → one (names (missed (with_kept f b) t) q) ≡ passed_on b.header.id (need_of f b) (λ r. one (names (missed f t) r)) q
one_kept f b t q l fits new =
    ap one (name_kept f b t q l fits new) ∙ by (names (missed f t) q) (bytes_eq b.header.id q) (names (missed f t) b.header.id) (names (need_of f b) q) (both (missed f t))
  where
    both : (o : Option (List ℕ)) → names o q ≡ true → names o b.header.id ≡ true → bytes_eq b.header.id q ≡ true
    both None e k = clash true refl (sym e)
    both (Some x) e k = id_same b.header.id q (sym (same_id x b.header.id k) ∙ same_id x q e)

    by : (x y z w : Bool) → (x ≡ true → z ≡ true → y ≡ true) → one ((x && not y) || (z && w)) ≡ (if w then (if y then 0 else one x) + one z else if y then 0 else one x)
    by true true true true e = refl
    by true true true false e = refl
    by true true false true e = refl
    by true true false false e = refl
    by true false true w e = clash true refl (sym (e refl refl))
    by true false false true e = refl
    by true false false false e = refl
    by false true true true e = refl
    by false true true false e = refl
    by false true false true e = refl
    by false true false false e = refl
    by false false true true e = refl
    by false false true false e = refl
    by false false false true e = refl
    by false false false false e = refl

-- what all miss, where none misses something else for a block more
pub missing_kept : (f : Fetch) (b : KeptBlock) (targets : List (List ℕ)) → IsLinked f.store → taken f.store b.header ≡ Ok verdict.Keeps
    → ((t : List ℕ) → has_id targets t ≡ true → b.header.id ≡ t → names (missed f t) b.header.id ≡ false → missed (with_kept f b) t ≡ missed f t)
    → (q : List ℕ) → passed_on b.header.id (need_of f b) (missing f targets) q ≡ missing (with_kept f b) targets q
unfolding missing
missing_kept f b [] l fits new q = by (names (need_of f b) q) (bytes_eq b.header.id q)
  where
    by : (u v : Bool) → (if u then (if v then 0 else 0) + 0 else if v then 0 else 0) ≡ 0
    by true true = refl
    by true false = refl
    by false true = refl
    by false false = refl
missing_kept f b (t ∷ targets) l fits new q =
    passed_sum b.header.id (need_of f b) (λ r. one (names (missed f t) r)) (missing f targets) q
    ∙ ap (λ n. n + passed_on b.header.id (need_of f b) (missing f targets) q) (sym (one_kept f b t q l fits (new t (first t targets))))
    ∙ ap (λ n. one (names (missed (with_kept f b) t) q) + n) (missing_kept f b targets l fits (λ u among. new u (later t u targets among)) q)

-- a target misses what it misses
pub counted_once : (f : Fetch) (targets : List (List ℕ)) (t r : List ℕ) → has_id targets t ≡ true → names (missed f t) r ≡ true → 1 ≤ missing f targets r
unfolding missing
counted_once f [] t r among e = clash true refl (sym among)
counted_once f (s ∷ targets) t r among e =
    split_on (bytes_eq s t)
    (λ same. let it : names (missed f s) r ≡ true = ap (λ i. names (missed f i) r) (same_id s t same) ∙ e in subst (λ u. 1 ≤ one u + missing f targets r) (sym it) (omega arith))
    (λ other. let more = counted_once f targets t r (sym (ap (λ u. u || has_id targets t) other) ∙ among) e in omega (arith, more))

-- a target that misses something else than a block leaves as well once the block was passed on
pub left_later : (block : List ℕ) (need o : Option (List ℕ)) (count : List ℕ → ℕ) → names o block ≡ false → ((r : List ℕ) → names o r ≡ true → 1 ≤ count r) → (q : List ℕ)
    → with_less o (passed_on block need count) q ≡ passed_on block need (with_less o count) q
left_later block need o count other some q =
    by (names need q) (bytes_eq block q) (names o q) (names o block) (count block) (count q) other
    (λ same named. clash (names o block) (ap (names o) (same_id block q same) ∙ named) other) (some q)
  where
    by : (u v w x : Bool) (k n : ℕ) → x ≡ false → (v ≡ true → w ≡ true → ⊥) → (w ≡ true → 1 ≤ n)
        → (if w then (if u then (if v then 0 else n) + k else if v then 0 else n) - 1 else if u then (if v then 0 else n) + k else if v then 0 else n)
        ≡ (if u then (if v then 0 else if w then n - 1 else n) + (if x then k - 1 else k) else if v then 0 else if w then n - 1 else n)
    by u v w true k n e apart one = clash true refl e
    by true true true false k n e apart one = absurd (apart refl refl)
    by false true true false k n e apart one = absurd (apart refl refl)
    by true false true false k n e apart one = let more = one refl in omega (arith, more)
    by false false true false k n e apart one = refl
    by true true false false k n e apart one = refl
    by true false false false k n e apart one = refl
    by false true false false k n e apart one = refl
    by false false false false k n e apart one = refl

-- one target less, which is the first or a later one
less_first : (o : Option (List ℕ)) (m : List ℕ → ℕ) (r : List ℕ) → with_less o (λ q. one (names o q) + m q) r ≡ m r
less_first o m r = by (names o r) (m r)
  where
    by : (u : Bool) (n : ℕ) → (if u then (one u + n) - 1 else one u + n) ≡ n
    by true n = omega arith
    by false n = omega arith

less_later : (o : Option (List ℕ)) (a m : List ℕ → ℕ) (r : List ℕ) → (names o r ≡ true → 1 ≤ m r) → with_less o (λ q. a q + m q) r ≡ a r + with_less o m r
less_later o a m r some = by (names o r) refl
  where
    by : (u : Bool) → names o r ≡ u → (if u then (a r + m r) - 1 else a r + m r) ≡ a r + (if u then m r - 1 else m r)
    by true e = let n = some e in omega (arith, n)
    by false e = refl

more_first : (o : Option (List ℕ)) (m : List ℕ → ℕ) (q : List ℕ) → with_more o 1 m q ≡ one (names o q) + m q
more_first o m q = by (names o q) (m q)
  where
    by : (u : Bool) (n : ℕ) → (if u then n + 1 else n) ≡ one u + n
    by true n = omega arith
    by false n = omega arith

more_later : (o : Option (List ℕ)) (a : ℕ) (m k : List ℕ → ℕ) (q : List ℕ) → k q ≡ a + m q → with_more o 1 k q ≡ a + with_more o 1 m q
more_later o a m k q is = ap (λ n. if names o q then n + 1 else n) is ∙ by (names o q) (m q)
  where
    by : (u : Bool) (n : ℕ) → (if u then (a + n) + 1 else a + n) ≡ a + (if u then n + 1 else n)
    by true n = omega arith
    by false n = refl

-- what all miss, where the target of the block misses something else
pub missing_moved : (f : Fetch) (b : KeptBlock) (targets : List (List ℕ)) → IsLinked f.store → taken f.store b.header ≡ Ok verdict.Keeps → IsDistinct bytes_eq targets → has_id targets b.header.id ≡ true
    → (q : List ℕ)
    → with_more (missed (with_kept f b) b.header.id) 1 (passed_on b.header.id (need_of f b) (with_less (missed f b.header.id) (missing f targets))) q ≡ missing (with_kept f b) targets q
unfolding missing IsDistinct
missing_moved f b [] l fits apart among q = clash true refl (sym among)
missing_moved f b (s ∷ targets) l fits apart among q = split_on (bytes_eq s b.header.id) here (there (λ more. missing_moved f b targets l fits apart.1 more q))
  where
    g : Fetch
    g = with_kept f b

    o : Option (List ℕ)
    o = missed f b.header.id

    pass : (List ℕ → ℕ) → List ℕ → ℕ
    pass count = passed_on b.header.id (need_of f b) count

    all : List ℕ → ℕ
    all r = one (names (missed f s) r) + missing f targets r

    expected : ℕ
    expected = one (names (missed g s) q) + missing g targets q

    none_later : (i : List ℕ) → s ≡ i → (u : List ℕ) (ts : List (List ℕ)) → AllByRecursion (λ y. bytes_eq s y ≡ false) ts → has_id ts u ≡ true → i ≡ u → ⊥
    none_later i is u [] other e same = clash true refl (sym e)
    none_later i is u (t ∷ ts) other e same =
        split_on (bytes_eq t u)
        (λ it. clash (bytes_eq s t) (id_same s t (is ∙ same ∙ sym (same_id t u it))) other.0)
        (λ no. none_later i is u ts other.1 (sym (ap (λ x. x || has_id ts u) no) ∙ e) same)

    here : bytes_eq s b.header.id ≡ true → with_more (missed g b.header.id) 1 (pass (with_less o all)) q ≡ expected
    here same =
        let is : s ≡ b.header.id = same_id s b.header.id same in
        let firsts : (r : List ℕ) → with_less o all r ≡ missing f targets r =
        λ r. ap (λ i. with_less o (λ k. one (names (missed f i) k) + missing f targets k) r) is ∙ less_first o (missing f targets) r in
        more_first (missed g b.header.id) (pass (with_less o all)) q
        ∙ ap (λ i. one (names (missed g i) q) + pass (with_less o all) q) (sym is)
        ∙ ap (λ n. one (names (missed g s) q) + n)
        (passed_same b.header.id (need_of f b) (with_less o all) (missing f targets) firsts q
        ∙ missing_kept f b targets l fits (λ u among e new. absurd (none_later b.header.id is u targets apart.0 among e)) q)

    there : (has_id targets b.header.id ≡ true
        → with_more (missed g b.header.id) 1 (passed_on b.header.id (need_of f b) (with_less o (missing f targets))) q ≡ missing g targets q)
        → bytes_eq s b.header.id ≡ false → with_more (missed g b.header.id) 1 (pass (with_less o all)) q ≡ expected
    there rest other =
        let more : has_id targets b.header.id ≡ true = sym (ap (λ x. x || has_id targets b.header.id) other) ∙ among in
        let its : List ℕ → ℕ = λ r. one (names (missed f s) r) in
        let theirs : List ℕ → ℕ = with_less o (missing f targets) in
        let splits : (r : List ℕ) → with_less o all r ≡ its r + theirs r = λ r. less_later o its (missing f targets) r (λ e. counted_once f targets b.header.id r more e) in
        let sums : pass (with_less o all) q ≡ one (names (missed g s) q) + pass theirs q =
        passed_same b.header.id (need_of f b) (with_less o all) (λ r. its r + theirs r) splits q
        ∙ passed_sum b.header.id (need_of f b) its theirs q
        ∙ ap (λ n. n + pass theirs q) (sym (one_kept f b s q l fits (λ e new. clash (bytes_eq s b.header.id) (id_same s b.header.id (sym e)) other))) in
        more_later (missed g b.header.id) (one (names (missed g s) q)) (pass theirs) (pass (with_less o all)) q sums
        ∙ ap (λ n. one (names (missed g s) q) + n) (rest more)

-- nobody misses a block that is too low
pub missing_low : (f : Fetch) (b : KeptBlock) (targets : List (List ℕ)) → IsLinked f.store → taken f.store b.header ≡ Ok verdict.Low
    → ((t : List ℕ) → has_id targets t ≡ true → has_id f.targets t ≡ true) → (q : List ℕ) → with_none b.header.id (missing f targets) q ≡ missing (with_found f b) targets q
unfolding missing
missing_low f b [] l fits among q = by (bytes_eq b.header.id q)
  where
    none : ℕ
    none = 0

    by : (t : Bool) → (if t then none else none) ≡ none
    by true = refl
    by false = refl
missing_low f b (t ∷ targets) l fits among q =
    by (names (missed f t) q) (bytes_eq b.header.id q) (missing f targets q)
    ∙ ap (λ u. one u + with_none b.header.id (missing f targets) q) (sym (low_names f b t q l fits (among t (first t targets))))
    ∙ ap (λ n. one (names (missed (with_found f b) t) q) + n) (missing_low f b targets l fits (λ u is. among u (later t u targets is)) q)
  where
    by : (u v : Bool) (n : ℕ) → (if v then 0 else one u + n) ≡ one (u && not v) + (if v then 0 else n)
    by true true n = refl
    by true false n = refl
    by false true n = refl
    by false false n = refl
