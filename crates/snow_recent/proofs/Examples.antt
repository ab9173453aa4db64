-- Worked examples: the definitions compute.
use Rattle.std.proofs.Common.{◌≡◌, ℕ, List, [], ◌∷◌, Some, None, refl}
use Rattle.snow_recent.specs.Model.Recent.{latest, with_latest}

-- entries of two numbers, of which the first is the identifier
abbrev Entry : Type 0
Entry = ℕ × ℕ

abbrev name : Entry → List ℕ
name e = e.0 ∷ []

abbrev two : List Entry
two = with_latest 2 (with_latest 2 [] (7, 1)) (8, 2)

pub entries_come_in_order : two ≡ (7, 1) ∷ (8, 2) ∷ []
entries_come_in_order = refl

pub the_oldest_is_forgotten : with_latest 2 two (9, 3) ≡ (8, 2) ∷ (9, 3) ∷ []
the_oldest_is_forgotten = refl

pub the_latest_of_an_identifier_counts : (latest name (with_latest 3 two (7, 3)) (7 ∷ []) ≡ Some (7, 3)) × (latest name two (7 ∷ []) ≡ Some (7, 1))
the_latest_of_an_identifier_counts = (refl, refl)

pub a_forgotten_entry_is_not_found : latest name (with_latest 2 two (9, 3)) (7 ∷ []) ≡ None
a_forgotten_entry_is_not_found = refl
