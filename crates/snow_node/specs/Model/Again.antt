-- A step that is made again and again, until there is none to make.
use Rattle.std.specs.Prelude.{ℕ, zero, suc, Bool}
use Rattle.snow_node.specs.Model.Outcome.{Comes, quietly, then_comes, where_made}

-- at most n times
unfoldable pub again : {T : Type 0} → ℕ → (T → Comes (T × Bool)) → T → Comes T
again zero step x = quietly x
again (suc n) step x = then_comes (step x) (where_made (again n step))

-- as often as it can be made, where each time leaves less of what this counts
abbrev pub all_made : {T : Type 0} → (T → ℕ) → (T → Comes (T × Bool)) → T → Comes T
all_made size step x = again (suc (size x)) step x
