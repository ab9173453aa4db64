-- Sets of heights, each as its test.
use Rattle.std.specs.Prelude.{ℕ, zero, suc, ◌-◌, Bool, ◌||◌, ◌&&◌, ◌==◌, not, nat_lt, if◌then◌else◌}

-- a set of heights: whether it holds a height
abbrev pub Heights : Type 0
Heights = ℕ → Bool

-- one height more is held
abbrev pub with_height : Heights → ℕ → Heights
with_height held height h = h == height || held h

-- the least height from which all up to a held one are held
unfoldable pub lowest : Heights → ℕ → ℕ
lowest held zero = zero
lowest held (suc below) = if held below then lowest held below else suc below

-- whether a height begins a run: the height below it is above the floor, and isn't held
abbrev pub begins_run : ℕ → Heights → ℕ → Bool
begins_run floor held height = nat_lt floor (height - 1) && not (held (height - 1))
