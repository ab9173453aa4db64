-- The table of polls: a list in order of beginning, of which the front one leaves, and only while it is closed.
use Rattle.std.specs.Prelude.{◌≡◌, ℕ, ◌≤◌, Bool, false, ◌&&◌, List, [], ◌∷◌, ◌++◌, map, Option, Some, None, ◌==◌, if◌then◌else◌}
use Rattle.std.specs.List.{list_any}
use Rattle.snow_base.specs.declared.block.Vote.{Vote}
use Rattle.snow_flake.specs.Model.Parameters.{Parameters}
use Rattle.snow_sample.specs.declared.draws.Draw.{Draw}
use Rattle.snow_poll.specs.declared.polls.Answered.{Answered}
use Rattle.snow_poll.specs.declared.polls.Answered.TheVariants.{Counted, NotAwaited}
use Rattle.snow_poll.specs.Model.Poll.{Poll, awaits, with_reply, votes_of}
use Rattle.snow_poll.specs.Model.Closing.{is_closed}
use Rattle.snow_poll.specs.Laws.Completion.{StandsForAll}

-- the parameters, and the polls in order of beginning
pub record Table : Type 0 where
  pub parameters : Parameters
  pub polls : List Poll

abbrev pub no_polls : Parameters → Table
no_polls p = record { parameters = p; polls = [] }

-- whether a poll of this number stands in the table
abbrev pub has_number : List Poll → ℕ → Bool
has_number polls number = list_any (λ q. q.number == number) polls

-- no poll has this number or a greater one, as where numbers are drawn in order and this is the next
abbrev pub HasNoneFrom : ℕ → List Poll → Type 0
HasNoneFrom next polls = (number : ℕ) → next ≤ number → has_number polls number ≡ false

-- a poll without replies
abbrev pub new_poll : ℕ → List Draw → Poll
new_poll number draws = record { number = number; draws = draws; replies = [] }

-- the table after a poll was begun
abbrev pub begun : Table → ℕ → List Draw → Table
begun table number draws = record table { polls = table.polls ++ new_poll number draws ∷ [] }

-- whether a poll awaits the reply of a node to a number
abbrev pub is_awaited_by : ℕ → List ℕ → Poll → Bool
is_awaited_by number node q = (q.number == number) && awaits q node

-- whether some poll does
abbrev pub is_awaited : List Poll → ℕ → List ℕ → Bool
is_awaited polls number node = list_any (is_awaited_by number node) polls

-- a poll after the reply of a node to a number
abbrev pub answered : ℕ → List ℕ → Option (List ℕ) → Poll → Poll
answered number node id q = if is_awaited_by number node q then with_reply q node id else q

-- the table after that reply, and the answer to it
abbrev pub voted : Table → ℕ → List ℕ → Option (List ℕ) → Table
voted table number node id = record table { polls = map (answered number node id) table.polls }

abbrev pub answer : List Poll → ℕ → List ℕ → Answered
answer polls number node = if is_awaited polls number node then Counted else NotAwaited

-- the number and the votes of the front poll, where it is closed
abbrev pub finished : Parameters → List Poll → Option (ℕ × List Vote)
finished p [] = None
finished p (q ∷ polls) = if is_closed p q then Some (q.number, votes_of q) else None

-- the polls that are left where the front one leaves if it is closed
abbrev pub unfinished : Parameters → List Poll → List Poll
unfinished p [] = []
unfinished p (q ∷ polls) = if is_closed p q then polls else q ∷ polls

-- the table without its front poll, where that is closed
abbrev pub shortened : Table → Table
shortened table = record table { polls = unfinished table.parameters table.polls }

-- votes stand for those of each completion of the front poll
abbrev pub StandsForFront : Parameters → List Poll → List Vote → Type 0
StandsForFront p [] votes = ⊥
StandsForFront p (q ∷ polls) votes = StandsForAll p q votes
