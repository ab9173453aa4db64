-- What is missed is known from one block to the next, and what is due covers what is newly missed.
use Rattle.std.proofs.Common.{◌≡◌, ◌+◌, ◌<◌, ◌≤◌, ℕ, Bool, true, false, ◌||◌, List, Option, Some, None, bytes_eq, if◌then◌else◌, refl, sym, ap, subst, ◌∙◌, arith}
use Rattle.std.specs.BTreeMap.{BTreeMap, get}
use Rattle.std.specs.Cmp.Lexicographic.{slice_cmp}
use Rattle.std.specs.List.{IsDistinct}
use Rattle.std.specs.Ordering.{nat_cmp}
use Rattle.std.specs.Prelude.{is_some, Result, Ok, Err, OnOk, IfOk}
use Rattle.snow_base.specs.declared.block.Header.{Header}
use Rattle.snow_store.specs.declared.store.KeptBlock.{KeptBlock}
use Rattle.snow_store.specs.declared.needs.Due.{Due}
use Rattle.snow_store.specs.declared.stop.Verdict.{Verdict}
use Rattle.snow_store.specs.declared.stop.Verdict.TheVariants as verdict
use Rattle.snow_store.specs.Clauses.Coming.{after_verdict}
use Rattle.snow_store.specs.Model.Keeping.{Store, taken, keeping, after_taking}
use Rattle.snow_store.specs.Laws.Linking.{IsLinked, held_heights}
use Rattle.snow_store.specs.Model.Needing.{need_at, names, is_missed, missing, counted, Counts, has_need, HasNeeds, with_more, with_less, with_none, passed_on, is_due, Covers}
use Rattle.snow_store.specs.Model.Paths.{Fetch, has_id, missed}
use Rattle.snow_store.specs.Kept.Renewing.{fetch_by, MayRenew, IsRenewed}
use Rattle.snow_store.proofs.Cases.{split_on, clash, same_id}
use Rattle.snow_store.proofs.Holding.{held_first}
use Rattle.snow_store.proofs.Counting.{IsSet, some_there, none_there, removed, has_removed, counts_same, has_added, counted_once, left_later, has_missed, missing_kept, missing_moved, missing_low}
use Rattle.snow_store.proofs.Needed.{with_kept, with_found}

-- ---- a block was taken

-- it is kept at its height
pub kept_there : (s : Store) (b : KeptBlock) (v : Verdict) → v ≡ verdict.Keeps → held_heights (after_taking s b v).kept b.header.height ≡ true
kept_there s b verdict.Keeps e = ap is_some (held_first s.kept b)
kept_there s b verdict.Low e = cc
kept_there s b verdict.Known e = cc

-- what is kept and found then
pub after_is : (f : Fetch) (b : KeptBlock) (v : Verdict) (s : Store) (found : List (List ℕ)) → s ≡ after_taking f.store b v → found ≡ (after_verdict f b v).found
    → fetch_by s f.targets found ≡ after_verdict f b v
after_is f b v s found kept noted =
    ap (λ t. fetch_by t f.targets found) kept ∙ ap (fetch_by (after_taking f.store b v) f.targets) noted ∙ by_verdict v
  where
    by_verdict : (v : Verdict) → fetch_by (after_taking f.store b v) f.targets (after_verdict f b v).found ≡ after_verdict f b v
    by_verdict verdict.Keeps = refl
    by_verdict verdict.Low = refl
    by_verdict verdict.Known = refl

-- what is due covers what is newly missed
covers_missed : (f g : Fetch) (needs more : BTreeMap (List ℕ) ℕ) (before after : Due) → HasNeeds needs f → HasNeeds more g → Covers before (has_need needs) after (has_need more)
    → Covers before (is_missed f f.targets) after (is_missed g g.targets)
covers_missed f g needs more before after has now covers q is free =
    let c = covers q (has_missed more g now q ∙ is) free in (sym (has_missed needs f has q) ∙ c.0, c.1)

pub kept_renewed : (f : Fetch) (b : KeptBlock) (needs more : BTreeMap (List ℕ) ℕ) (before after : Due) → IsLinked f.store → taken f.store b.header ≡ Ok verdict.Keeps → HasNeeds needs f
    → (has_id f.targets b.header.id ≡ true → names (missed f b.header.id) b.header.id ≡ false → missed (with_kept f b) b.header.id ≡ missed f b.header.id)
    → Counts more (passed_on b.header.id (need_at (keeping f.store b) b.header.height) (missing f f.targets))
    → Covers before (has_need needs) after (has_need more) → IsRenewed f (with_kept f b) before after more
kept_renewed f b needs more before after l fits known itself change covers = record { has = has; due = covers_missed f (with_kept f b) needs more before after known has covers }
  where
    stays : (t : List ℕ) → has_id f.targets t ≡ true → b.header.id ≡ t → names (missed f t) b.header.id ≡ false → missed (with_kept f b) t ≡ missed f t
    stays t among same e =
        ap (missed (with_kept f b)) (sym same) ∙ itself (ap (has_id f.targets) same ∙ among) (ap (λ i. names (missed f i) b.header.id) same ∙ e) ∙ ap (missed f) same

    has : HasNeeds more (with_kept f b)
    has = counts_same more (passed_on b.header.id (need_at (keeping f.store b) b.header.height) (missing f f.targets)) (missing (with_kept f b) f.targets) change (missing_kept f b f.targets l fits stays)

-- and its target misses something else
pub moved_renewed : (f : Fetch) (b : KeptBlock) (needs more : BTreeMap (List ℕ) ℕ) (before after : Due) → IsLinked f.store → taken f.store b.header ≡ Ok verdict.Keeps → HasNeeds needs f
    → IsDistinct bytes_eq f.targets → has_id f.targets b.header.id ≡ true
    → Counts more (with_more (missed (with_kept f b) b.header.id) 1
    (passed_on b.header.id (need_at (keeping f.store b) b.header.height) (with_less (missed f b.header.id) (missing f f.targets))))
    → Covers before (has_need needs) after (has_need more) → IsRenewed f (with_kept f b) before after more
moved_renewed f b needs more before after l fits known apart among change covers =
    let has : HasNeeds more (with_kept f b) =
    counts_same more
    (with_more (missed (with_kept f b) b.header.id) 1 (passed_on b.header.id (need_at (keeping f.store b) b.header.height) (with_less (missed f b.header.id) (missing f f.targets))))
    (missing (with_kept f b) f.targets) change (missing_moved f b f.targets l fits apart among) in
    record { has = has; due = covers_missed f (with_kept f b) needs more before after known has covers }

-- it is too low
pub low_renewed : (f : Fetch) (b : KeptBlock) (needs more : BTreeMap (List ℕ) ℕ) (before : Due) (itself : Option (List ℕ)) → MayRenew f b.header verdict.Low itself needs
    → Counts more (with_none b.header.id (missing f f.targets)) → IsRenewed f (with_found f b) before before more
low_renewed f b needs more before itself may change = record { has = has; due = covers_missed f (with_found f b) needs more before before may.has has fewer }
  where
    has : HasNeeds more (with_found f b)
    has = counts_same more (with_none b.header.id (missing f f.targets)) (missing (with_found f b) f.targets) change (missing_low f b f.targets may.linked may.fits (λ t e. e))

    fewer : Covers before (has_need needs) before (has_need more)
    fewer q is free = (ap is_some (may.has q) ∙ by (bytes_eq b.header.id q) (sym (ap is_some (change q)) ∙ is), free)
      where
        by : (t : Bool) → is_some (counted (if t then 0 else missing f f.targets q)) ≡ true → is_some (counted (missing f f.targets q)) ≡ true
        by true e = clash true refl (sym e)
        by false e = e

-- it was kept before
pub same_renewed : (f : Fetch) (needs : BTreeMap (List ℕ) ℕ) (before : Due) → HasNeeds needs f → IsRenewed f f before before needs
same_renewed f needs before has = record { has = has; due = λ q is free. (is, free) }

-- ---- what is due

-- fewer are missed, and as many are due
pub covers_fewer : (before : Due) (was is : List ℕ → Bool) → ((q : List ℕ) → is q ≡ true → was q ≡ true) → Covers before was before is
covers_fewer before was is fewer q e free = (fewer q e, free)

-- one after another
pub covers_on : (a b c : Due) (x y z : List ℕ → Bool) → Covers a x b y → Covers b y c z → Covers a x c z
covers_on a b c x y z one more q e free = let m = more q e free in one q m.0 m.1

-- one that isn't missed any more is another than those that are
pub other_due : (needs : BTreeMap (List ℕ) ℕ) (x q : List ℕ) → has_need needs x ≡ false → has_need needs q ≡ true → bytes_eq x q ≡ false
other_due needs x q gone there =
    split_on (bytes_eq x q) (λ same. clash (has_need needs x) (ap (has_need needs) (same_id x q same) ∙ there) gone) (λ other. other)

-- as many are due where an identifier was missed before
pub same_due : (before now : BTreeMap (List ℕ) ℕ) (id : List ℕ) (n m : ℕ) (due : Due) → IsSet before id (Some n) now → get (slice_cmp nat_cmp) before id ≡ Some m
    → Covers due (has_need before) due (has_need now)
same_due before now id n m due change was q is free =
    let one : (has_need before q || bytes_eq id q) ≡ true = sym (has_added before now id n change q) ∙ is in (
      split_on (has_need before q) (λ there. there)
          (λ none. ap (has_need before) (sym (same_id id q (sym (ap (λ t. t || bytes_eq id q) none) ∙ one))) ∙ ap is_some was),
      free,
    )

-- and it is due where it wasn't
pub new_due : (before now : BTreeMap (List ℕ) ℕ) (id : List ℕ) (n : ℕ) (due after : Due) → IsSet before id (Some n) now → is_due after id ≡ true
    → ((q : List ℕ) → has_need now q ≡ true → is_due after q ≡ false → is_due due q ≡ false) → Covers due (has_need before) after (has_need now)
new_due before now id n due after change its others q is free =
    let one : (has_need before q || bytes_eq id q) ≡ true = sym (has_added before now id n change q) ∙ is in (
      split_on (has_need before q) (λ there. there)
          (λ none. clash (is_due after q) (ap (is_due after) (sym (same_id id q (sym (ap (λ t. t || bytes_eq id q) none) ∙ one))) ∙ its) free),
      others q is free,
    )

-- ---- a block was kept

abbrev Table : Type 0
Table = BTreeMap (List ℕ) ℕ

-- what is owed where a block is kept
abbrev pub OwesKept : Store → List (List ℕ) → List (List ℕ) → Header → Option (List ℕ) → Table → Due → Due → Table → Type 0
OwesKept now targets found header itself needs before after more =
    (s : Store) (bytes : List ℕ) → now ≡ after_taking s record { header = header; bytes = bytes } verdict.Keeps → MayRenew (fetch_by s targets found) header verdict.Keeps itself needs
    → IsRenewed (fetch_by s targets found) (after_verdict (fetch_by s targets found) record { header = header; bytes = bytes } verdict.Keeps) before after more

-- whoever missed the block misses something else, and what is due covers what is newly missed
abbrev pub Passes : Table → List ℕ → Option (List ℕ) → Due → Due → Table → Type 0
Passes needs id need before after more =
    ((count : List ℕ → ℕ) → Counts needs count → Counts more (passed_on id need count)) × Covers before (has_need needs) after (has_need more)

pub some_passed : (needs less joined more : Table) (id : List ℕ) (need wanted : Option (List ℕ)) (n : ℕ) (before due after : Due) → Some n ≡ get (slice_cmp nat_cmp) needs id → IsSet needs id None less → wanted ≡ need
    → ((count : List ℕ → ℕ) → 0 < n → Counts less count → Counts joined (with_more wanted n count)) → Covers before (has_need less) due (has_need joined)
    → more ≡ joined → after ≡ due → Passes needs id need before after more
some_passed needs less joined more id need wanted n before due after there gone its joins covers more_is after_is =
    subst (λ (t : Table). Passes needs id need before after t) (sym more_is) (subst (λ (d : Due). Passes needs id need before d joined) (sym after_is) (passes, covered))
  where
    passes : (count : List ℕ → ℕ) → Counts needs count → Counts joined (passed_on id need count)
    passes count counts =
        let some = some_there needs count id n counts there in
        counts_same joined (with_more wanted n (with_none id count)) (passed_on id need count) (joins (with_none id count) some.1 (removed needs less id count gone counts))
        (λ q. ap (λ o. with_more o n (with_none id count) q) its ∙ ap (λ m. with_more need m (with_none id count) q) some.0)

    covered : Covers before (has_need needs) due (has_need joined)
    covered = covers_on before before due (has_need needs) (has_need less) (has_need joined) (covers_fewer before (has_need needs) (has_need less) (has_removed needs less id gone)) covers

-- nobody missed it
pub none_passed : (needs less more : Table) (id : List ℕ) (need : Option (List ℕ)) (before after : Due) → None ≡ get (slice_cmp nat_cmp) needs id → IsSet needs id None less
    → more ≡ less → after ≡ before → Passes needs id need before after more
none_passed needs less more id need before after none gone more_is after_is =
    subst (λ (t : Table). Passes needs id need before after t) (sym more_is)
    (subst (λ (d : Due). Passes needs id need before d less) (sym after_is) (
      λ count counts. counts_same less (with_none id count) (passed_on id need count) (removed needs less id count gone counts) (none_there needs count id need counts none),
      covers_fewer before (has_need needs) (has_need less) (has_removed needs less id gone),
    ))

pub passed_renewed : (now : Store) (targets found : List (List ℕ)) (header : Header) (itself : Option (List ℕ)) (needs more : Table) (before after : Due)
    → Passes needs header.id (need_at now header.height) before after more
    → (has_id targets header.id ≡ true → names itself header.id ≡ false → missed (fetch_by now targets found) header.id ≡ itself)
    → OwesKept now targets found header itself needs before after more
passed_renewed now targets found header itself needs more before after passes same s bytes is may =
    let b : KeptBlock = record { header = header; bytes = bytes } in
    let f = fetch_by s targets found in
    kept_renewed f b needs more before after may.linked may.fits may.has
    (λ among other.
    sym (ap (λ (t : Store). missed (fetch_by t targets found) header.id) is) ∙ same among (ap (λ o. names o header.id) may.itself ∙ other) ∙ may.itself)
    (λ q. passes.0 (missing f targets) may.has q ∙ ap (λ (t : Store). counted (passed_on header.id (need_at t header.height) (missing f targets) q)) is)
    passes.1

-- and its target misses something else
pub target_renewed : {E : Type 0} (r : Result Due E) (now : Store) (targets found : List (List ℕ)) (header : Header) (itself anew : Option (List ℕ)) (needs passed less more : Table) (before mid : Due)
    → IsDistinct bytes_eq targets → has_id targets header.id ≡ true → anew ≡ missed (fetch_by now targets found) header.id → names itself header.id ≡ false
    → Passes needs header.id (need_at now header.height) before mid passed
    → ((count : List ℕ → ℕ) → Counts passed count → Counts less (with_less itself count)) → ((q : List ℕ) → has_need less q ≡ true → has_need passed q ≡ true)
    → OnOk r ((count : List ℕ → ℕ) → 0 < 1 → Counts less count → Counts more (with_more anew 1 count)) → IfOk r (λ after. Covers mid (has_need less) after (has_need more))
    → IfOk r (λ after. OwesKept now targets found header itself needs before after more)
target_renewed (Err e) now targets found header itself anew needs passed less more before mid apart among its other passes leaves fewer joins two = tt
target_renewed (Ok after) now targets found header itself anew needs passed less more before mid apart among its other passes leaves fewer joins two =
    λ s bytes is may.
    let b : KeptBlock = record { header = header; bytes = bytes } in
    let f = fetch_by s targets found in
    let count : List ℕ → ℕ = missing f targets in
    let need : Option (List ℕ) = need_at now header.height in
    let some : (r : List ℕ) → names itself r ≡ true → 1 ≤ count r = λ r named. counted_once f targets header.id r among (sym (ap (λ o. names o r) may.itself) ∙ named) in
    moved_renewed f b needs more before after may.linked may.fits may.has apart among
    (λ q.
    joins (with_less itself (passed_on header.id need count)) (omega arith) (leaves (passed_on header.id need count) (passes.0 count may.has)) q
    ∙ ap (λ n. counted (if names anew q then n + 1 else n)) (left_later header.id need itself count other some q)
    ∙ ap (λ o. counted (with_more o 1 (passed_on header.id need (with_less itself count)) q)) (its ∙ ap (λ (t : Store). missed (fetch_by t targets found) header.id) is)
    ∙ ap (λ (t : Store). counted (with_more (missed (with_kept f b) header.id) 1 (passed_on header.id (need_at t header.height) (with_less itself count)) q)) is
    ∙ ap (λ o. counted (with_more (missed (with_kept f b) header.id) 1 (passed_on header.id (need_at (keeping s b) header.height) (with_less o count)) q)) may.itself)
    (covers_on before mid after (has_need needs) (has_need passed) (has_need more) passes.1
    (covers_on mid mid after (has_need passed) (has_need less) (has_need more) (covers_fewer mid (has_need passed) (has_need less) fewer) two))

-- what was owed where the block is kept is owed with the verdict that says so
abbrev pub Owes : Verdict → Store → List (List ℕ) → List (List ℕ) → Header → Option (List ℕ) → Table → Due → Due → Table → Type 0
Owes v now targets found header itself needs before after more =
    (s : Store) (bytes : List ℕ) → now ≡ after_taking s record { header = header; bytes = bytes } v → MayRenew (fetch_by s targets found) header v itself needs
    → (found ≡ (after_verdict (fetch_by s targets found) record { header = header; bytes = bytes } v).found)
    × IsRenewed (fetch_by s targets found) (after_verdict (fetch_by s targets found) record { header = header; bytes = bytes } v) before after more

pub kept_owed : (v : Verdict) → v ≡ verdict.Keeps → (now : Store) (targets found : List (List ℕ)) (header : Header) (itself : Option (List ℕ)) (needs more : Table) (before after : Due)
    → OwesKept now targets found header itself needs before after more → Owes v now targets found header itself needs before after more
kept_owed v keeps now targets found header itself needs more before after owed s bytes is may =
    let b : KeptBlock = record { header = header; bytes = bytes } in
    let f = fetch_by s targets found in
    subst (λ (x : Verdict). (found ≡ (after_verdict f b x).found) × IsRenewed f (after_verdict f b x) before after more) (sym keeps)
    (refl, owed s bytes (subst (λ (x : Verdict). now ≡ after_taking s b x) keeps is) (subst (λ (x : Verdict). MayRenew f b.header x itself needs) keeps may))

-- and where memory may have run out
pub result_owed : {E : Type 0} (v : Verdict) → v ≡ verdict.Keeps → (r : Result Due E) (now : Store) (targets found : List (List ℕ)) (header : Header) (itself : Option (List ℕ)) (needs more : Table) (before : Due)
    → IfOk r (λ after. OwesKept now targets found header itself needs before after more) → IfOk r (λ after. Owes v now targets found header itself needs before after more)
result_owed v keeps (Err e) now targets found header itself needs more before owed = tt
result_owed v keeps (Ok after) now targets found header itself needs more before owed = kept_owed v keeps now targets found header itself needs more before after owed
