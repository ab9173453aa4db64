-- The pending blocks by identifier, each with the number of its issue: the list of them in order of issue.
use Rattle.std.specs.Prelude.{ℕ, zero, suc, ◌<◌, ◌≤◌, ◌==◌, List, [], ◌++◌, length, map, filter, bytes_eq}
use Rattle.std.specs.List.{AllByRecursion, IsDistinct}
use Rattle.std.specs.Map.{keys_of}
use Rattle.snow_getter.specs.declared.served.Served.{Served}
use Rattle.snow_getter.specs.declared.served.Held.{Held}
use Rattle.snow_getter.specs.declared.pending.Issued.{Issued}

-- a block that is held, as it is served
abbrev pub as_served : Held → Served
as_served h = record { id = h.id; parent = h.parent; bytes = h.bytes.now }

-- the block of an identifier, by what is kept of it
abbrev pub block_at : List ℕ → Issued → Served
block_at id v = record { id = id; parent = v.parent; bytes = v.bytes }

abbrev pub block_of : List ℕ × Issued → Served
block_of e = block_at e.0 e.1

-- the entries of a number
abbrev pub numbered : ℕ → List (List ℕ × Issued) → List (List ℕ × Issued)
numbered n entries = filter (λ e. e.1.number == n) entries

-- the blocks whose numbers are below this one, in order of their numbers
unfoldable pub issued_before : ℕ → List (List ℕ × Issued) → List Served
issued_before zero entries = []
issued_before (suc n) entries = issued_before n entries ++ map block_of (numbered n entries)

-- a block has a number below the next one
abbrev pub IsIssued : ℕ → List ℕ × Issued → Type 0
IsIssued next e = e.1.number < next

-- all have, and no two have one number, or one identifier
pub record AreIssued (next : ℕ) (entries : List (List ℕ × Issued)) : Type 0 where
  pub each : AllByRecursion (IsIssued next) entries
  pub apart : (n : ℕ) → length (numbered n entries) ≤ 1
  pub unique : IsDistinct bytes_eq (keys_of entries)
