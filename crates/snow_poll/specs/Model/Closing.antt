-- When a poll is closed: in four cases, in each of which no later reply can change what it does.
use Rattle.std.specs.Prelude.{ℕ, ◌+◌, Bool, ◌&&◌, ◌||◌, nat_lt, nat_le, ◌==◌}
use Rattle.std.specs.List.{list_any}
use Rattle.snow_flake.specs.Model.Parameters.{Parameters}
use Rattle.snow_poll.specs.Model.Poll.{Poll, votes_of, received, outstanding}

-- whether one identifier has at least n votes
abbrev pub some_has : ℕ → Poll → Bool
some_has n poll = list_any (λ v. nat_le n v.count) (votes_of poll)

-- whether n votes can no longer be reached, by whatever replies
abbrev pub is_out_of_reach : ℕ → Poll → Bool
is_out_of_reach n poll = nat_lt (received poll + outstanding poll) n

-- nothing is outstanding
abbrev pub is_answered : Poll → Bool
is_answered poll = outstanding poll == 0

-- received and outstanding together are below AlphaPreference
abbrev pub cannot_reach_preference : Parameters → Poll → Bool
cannot_reach_preference p poll = is_out_of_reach p.alpha_preference poll

-- one identifier has AlphaPreference, and received and outstanding together are below AlphaConfidence
abbrev pub has_preference_alone : Parameters → Poll → Bool
has_preference_alone p poll = some_has p.alpha_preference poll && is_out_of_reach p.alpha_confidence poll

-- one identifier has AlphaConfidence
abbrev pub has_confidence : Parameters → Poll → Bool
has_confidence p poll = some_has p.alpha_confidence poll

abbrev pub is_closed : Parameters → Poll → Bool
is_closed p poll = is_answered poll || (cannot_reach_preference p poll || (has_preference_alone p poll || has_confidence p poll))
