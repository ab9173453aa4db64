-- What putting a value in a box owes, where memory may run out.
use Rattle.std.specs.Prelude.{◌≡◌, ◌⊎◌}

-- a boxed value is that one, or the one for want of memory
abbrev pub IsBoxed : {T : Type 0} → T → T → T → Type 0
IsBoxed memory value boxed = (boxed ≡ value) ⊎ (boxed ≡ memory)
