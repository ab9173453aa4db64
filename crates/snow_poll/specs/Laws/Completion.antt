-- The completions of a poll: each node without a reply gives any identifier, or none.
use Rattle.std.specs.Prelude.{◌≡◌, ℕ, ◌+◌, ◌≤◌, true, List, [], ◌∷◌, ◌++◌, Option, Some, None}
use Rattle.snow_base.specs.declared.block.Vote.{Vote}
use Rattle.snow_base.specs.Model.Votes.{total_count}
use Rattle.snow_flake.specs.Laws.Alike.{AreAlike}
use Rattle.snow_flake.specs.Model.Parameters.{Parameters, AreGood}
use Rattle.snow_sample.specs.declared.draws.Draw.{Draw}
use Rattle.snow_poll.specs.Model.Poll.{Poll, votes_of, received, unanswered, outstanding}
use Rattle.snow_poll.specs.Model.Closing.{is_closed}

-- what each node would reply
abbrev pub Choice : Type 0
Choice = List ℕ → Option (List ℕ)

-- the votes of a draw that is answered so
abbrev pub vote_of : Draw → Option (List ℕ) → List Vote
vote_of d None = []
vote_of d (Some id) = record { id = id; count = d.count } ∷ []

-- the votes of these draws, where each node replies what is chosen for it
abbrev pub chosen : Choice → List Draw → List Vote
chosen choice [] = []
chosen choice (d ∷ draws) = vote_of d (choice d.node) ++ chosen choice draws

-- the votes of the completion of a poll: those given, and those chosen for the nodes without a reply
abbrev pub completed : Poll → Choice → List Vote
completed poll choice = votes_of poll ++ chosen choice (unanswered poll)

-- whatever the nodes without a reply would have replied, the votes would be alike to these, and at most K in all
abbrev pub StandsForAll : Parameters → Poll → List Vote → Type 0
StandsForAll p poll votes =
    (choice : Choice) → AreAlike p votes (completed poll choice) × (total_count (completed poll choice) ≤ p.k)

-- early closing is exact: where at most K votes are given or outstanding, those of a closed poll stand for those of each completion
abbrev pub EarlyClosingLaw : Type 0
EarlyClosingLaw =
    (p : Parameters) (poll : Poll) → AreGood p → received poll + outstanding poll ≤ p.k
    → is_closed p poll ≡ true → StandsForAll p poll (votes_of poll)
