-- The entry that came last.
use Rattle.std.proofs.Common.{◌≡◌, ◌-◌, List, [], ◌∷◌, length, Option, None, Some, refl, sym, ap, ◌∙◌, arith}
use Rattle.std.specs.List.{slice_get, last_or}

last_behind : {T : Type 0} (o : Option T) (x : T) (xs : List T) → last_or o (x ∷ xs) ≡ slice_get (x ∷ xs) (length xs)
last_behind o x [] = refl
last_behind o x (y ∷ xs) = last_behind (Some x) y xs

-- it stands at the last place
pub last_there : {T : Type 0} (xs : List T) → last_or None xs ≡ slice_get xs (length xs - 1)
last_there [] = refl
last_there (x ∷ xs) =
    let step : length (x ∷ xs) - 1 ≡ length xs = omega arith in
    last_behind None x xs ∙ sym (ap (slice_get (x ∷ xs)) step)
