-- Votes for identifiers that were given: where one more is added, all are.
use Rattle.std.proofs.Common.{ℕ, ◌+◌, List, [], ◌∷◌, All, Contains}
use Rattle.std.specs.Ordering.{match_ordering}
use Rattle.std.specs.declared.cmp.Ordering.{Ordering}
use Rattle.std.specs.declared.cmp.Ordering.TheVariants.{Less, Equal, Greater}
use Rattle.std.proofs.lemmas.List.Elements.{All-nil, All-cons, All-head, All-tail}
use Rattle.snow_base.specs.declared.block.Vote.{Vote}
use Rattle.snow_base.specs.Model.Identifier.{bit_cmp}
use Rattle.snow_base.specs.Model.Votes.{added}

abbrev IsGiven : List (List ℕ) → Vote → Type 0
IsGiven ids v = Contains ids v.id

by_order : (ids : List (List ℕ)) (o : Ordering) (v : Vote) (votes more : List Vote) (id : List ℕ) (n : ℕ) → Contains ids id → All (IsGiven ids) (v ∷ votes) → All (IsGiven ids) more
    → All (IsGiven ids) (match_ordering o (v ∷ more) (record { id = v.id; count = v.count + n } ∷ votes) (record { id = id; count = n } ∷ v ∷ votes))
by_order ids Less v votes more id n has all rest = All-cons (IsGiven ids) v more (All-head (IsGiven ids) v votes all) rest
by_order ids Equal v votes more id n has all rest =
    All-cons (IsGiven ids) (record { id = v.id; count = v.count + n }) votes (All-head (IsGiven ids) v votes all) (All-tail (IsGiven ids) v votes all)
by_order ids Greater v votes more id n has all rest = All-cons (IsGiven ids) (record { id = id; count = n }) (v ∷ votes) has all

pub given_added : (ids : List (List ℕ)) (votes : List Vote) (id : List ℕ) (n : ℕ) → Contains ids id → All (λ v. Contains ids v.id) votes
    → All (λ v. Contains ids v.id) (added votes id n)
unfolding added
given_added ids [] id n has all = All-cons (IsGiven ids) (record { id = id; count = n }) [] has (All-nil (IsGiven ids))
given_added ids (v ∷ votes) id n has all =
    by_order ids (bit_cmp v.id id) v votes (added votes id n) id n has all (given_added ids votes id n has (All-tail (IsGiven ids) v votes all))
