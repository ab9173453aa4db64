-- Which identifiers the targets miss, and which of them are due: they may be without a request.
use Rattle.std.specs.Prelude.{◌≡◌, ℕ, zero, suc, ◌+◌, ◌-◌, Bool, true, false, List, [], ◌∷◌, Option, Some, None, is_some, bytes_eq, if◌then◌else◌}
use Rattle.std.specs.BTreeMap.{BTreeMap, get}
use Rattle.std.specs.Cmp.Lexicographic.{slice_cmp}
use Rattle.std.specs.List.{list_any}
use Rattle.std.specs.Ordering.{nat_cmp}
use Rattle.snow_interval.specs.Model.Heights.{lowest}
use Rattle.snow_store.specs.declared.needs.Due.{Due}
use Rattle.snow_store.specs.declared.needs.Due.TheVariants as due
use Rattle.snow_store.specs.Model.Keeping.{Store, held}
use Rattle.snow_store.specs.Laws.Linking.{held_heights}
use Rattle.snow_store.specs.Model.Paths.{Fetch, wanted_below, missed}

-- what is missed below the run of held heights that ends at a height
abbrev pub need_at : Store → ℕ → Option (List ℕ)
need_at s height = wanted_below s.height (held s.kept (lowest (held_heights s.kept) height))

-- whether what is missed is this identifier
abbrev pub names : Option (List ℕ) → List ℕ → Bool
names None id = false
names (Some x) id = bytes_eq x id

-- whether one of some targets misses an identifier
abbrev pub is_missed : Fetch → List (List ℕ) → List ℕ → Bool
is_missed f targets id = list_any (λ t. names (missed f t) id) targets

-- how many of some targets miss an identifier
unfoldable pub missing : Fetch → List (List ℕ) → List ℕ → ℕ
missing f [] id = 0
missing f (t ∷ targets) id = (if names (missed f t) id then 1 else 0) + missing f targets id

-- a number, where there is something to count
abbrev pub counted : ℕ → Option ℕ
counted zero = None
counted (suc n) = Some (suc n)

-- a table has these numbers
abbrev pub Counts : BTreeMap (List ℕ) ℕ → (List ℕ → ℕ) → Type 0
Counts needs count = (id : List ℕ) → get (slice_cmp nat_cmp) needs id ≡ counted (count id)

abbrev pub has_need : BTreeMap (List ℕ) ℕ → List ℕ → Bool
has_need needs id = is_some (get (slice_cmp nat_cmp) needs id)

-- the table has just the identifiers that the targets miss, each with how many miss it
abbrev pub HasNeeds : BTreeMap (List ℕ) ℕ → Fetch → Type 0
HasNeeds needs f = Counts needs (missing f f.targets)

-- so many targets more, or one less, miss an identifier
abbrev pub with_more : Option (List ℕ) → ℕ → (List ℕ → ℕ) → List ℕ → ℕ
with_more missed more count id = if names missed id then count id + more else count id

abbrev pub with_less : Option (List ℕ) → (List ℕ → ℕ) → List ℕ → ℕ
with_less missed count id = if names missed id then count id - 1 else count id

-- no target misses a block
abbrev pub with_none : List ℕ → (List ℕ → ℕ) → List ℕ → ℕ
with_none block count id = if bytes_eq block id then 0 else count id

-- whoever missed a block misses something else
abbrev pub passed_on : List ℕ → Option (List ℕ) → (List ℕ → ℕ) → List ℕ → ℕ
passed_on block need count = with_more need (count block) (with_none block count)

-- whether an identifier may be without a request
abbrev pub is_due : Due → List ℕ → Bool
is_due due.Nothing id = false
is_due (due.One x) id = bytes_eq x id
is_due due.All id = true

-- what is missed now, and isn't due, was missed before, and wasn't due
abbrev pub Covers : Due → (List ℕ → Bool) → Due → (List ℕ → Bool) → Type 0
Covers before was after is = (id : List ℕ) → is id ≡ true → is_due after id ≡ false → (was id ≡ true) × (is_due before id ≡ false)
