-- Worked examples of the gone list: the definitions compute.
use Rattle.std.proofs.Common.{◌≡◌, ℕ, true, false, List, [], ◌∷◌, ◌++◌, Some, None, replicate, refl}
use Rattle.snow_issue.specs.declared.gone.Gone.{Gone}
use Rattle.snow_issue.specs.Model.Gone.{holds, stands_for, with_gone}

-- an identifier by its first byte
abbrev id_of : ℕ → List ℕ
id_of first = first ∷ replicate 31 0

-- a block that was accepted or rejected
abbrev decided : ℕ → Gone
decided first = record { id = id_of first; parent = None }

-- a block that its parent stands for
abbrev invalid : ℕ → ℕ → Gone
invalid first parent = record { id = id_of first; parent = Some (id_of parent) }

-- a block, its child, and the block again, now with a parent
abbrev again : List Gone
again = with_gone (with_gone (with_gone [] (decided 1)) (invalid 2 1)) (invalid 1 3)

pub parents_stand_for_their_children : stands_for again (id_of 2) ≡ Some (id_of 1)
parents_stand_for_their_children = refl

pub the_latest_entry_counts : stands_for again (id_of 1) ≡ Some (id_of 3)
the_latest_entry_counts = refl

-- also where it has no parent
pub a_later_decision_counts : stands_for (with_gone again (decided 2)) (id_of 2) ≡ None
a_later_decision_counts = refl

pub a_parent_alone_is_not_gone : (holds again (id_of 1) ≡ true) × (holds again (id_of 3) ≡ false)
a_parent_alone_is_not_gone = (refl, refl)

-- 8,192 entries, of which the oldest is another block's
abbrev full : List Gone
full = invalid 1 2 ∷ replicate 8191 (decided 9)

pub the_oldest_is_forgotten : with_gone full (decided 5) ≡ replicate 8191 (decided 9) ++ decided 5 ∷ []
the_oldest_is_forgotten = refl

pub it_is_gone_no_more : (stands_for full (id_of 1) ≡ Some (id_of 2)) × (holds (with_gone full (decided 5)) (id_of 1) ≡ false)
it_is_gone_no_more = (refl, refl)
