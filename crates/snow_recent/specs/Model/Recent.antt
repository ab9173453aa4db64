-- The last entries that came, the latest last.
use Rattle.std.specs.Prelude.{ℕ, List, [], ◌∷◌, ◌++◌, length, drop, reverse, Option, nat_lt, find, bytes_eq, if◌then◌else◌}

-- the latest entry of an identifier
abbrev pub latest : {T : Type 0} → (T → List ℕ) → List T → List ℕ → Option T
latest name entries id = find (λ e. bytes_eq (name e) id) (reverse entries)

-- the entries with one more: the oldest one is forgotten where as many as are kept are there
abbrev pub with_latest : {T : Type 0} → ℕ → List T → T → List T
with_latest most entries e = if nat_lt (length entries) most then entries ++ e ∷ [] else drop 1 entries ++ e ∷ []
