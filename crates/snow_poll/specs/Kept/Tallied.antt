-- What the code keeps of a poll and of the table, so that nothing is gone through again.
use Rattle.std.specs.Prelude.{◌≡◌, ℕ, ◌+◌, ◌%◌, ◌^◌, ◌<◌, ◌≤◌, List, [], ◌∷◌, length, All, Option, Some, None, suc, Bool, false, ◌&&◌, ◌||◌, nat_lt, nat_le, ◌==◌, if◌then◌else◌}
use Rattle.std.specs.BTreeMap.{BTreeMap, get}
use Rattle.std.specs.Option.{option_map}
use Rattle.std.specs.Ordering.{nat_cmp, match_ordering}
use Rattle.snow_base.specs.declared.limits.TheConstants.{MOST_POLLS}
use Rattle.snow_base.specs.Model.Identifier.{bit_cmp}
use Rattle.snow_base.specs.declared.block.Vote.{Vote}
use Rattle.snow_base.specs.Model.Votes.{Votes, most_count}
use Rattle.snow_flake.specs.Model.Parameters.{Parameters}
use Rattle.snow_sample.specs.declared.draws.Draw.{Draw}
use Rattle.snow_sample.specs.Model.Sampling.{draw_count}
use Rattle.snow_poll.specs.Model.Poll.{Poll, times_drawn, is_drawn, awaits, votes_of, received, unanswered, outstanding}
use Rattle.snow_poll.specs.Model.Table.{has_number}

-- how often a node was drawn that is awaited
abbrev pub awaited_times : Poll → List ℕ → Option ℕ
awaited_times poll node = if awaits poll node then Some (times_drawn poll.draws node) else None

-- these are how often each node was drawn
abbrev pub HasTimes : (List ℕ → Option ℕ) → List Draw → Type 0
HasTimes times draws =
    (node : List ℕ) → times node ≡ (if is_drawn draws node then Some (times_drawn draws node) else None)

-- how many votes an identifier has, where the votes stand in bit order
abbrev pub count_of : List Vote → List ℕ → ℕ
count_of [] id = 0
count_of (v ∷ votes) id = match_ordering (bit_cmp v.id id) (count_of votes id) v.count 0

-- whether a poll is closed: `reach` votes were received or are outstanding, `outstanding` are outstanding, one identifier has `most`
abbrev pub closes_by : Parameters → ℕ → ℕ → ℕ → Bool
closes_by p reach outstanding most =
    (outstanding == 0)
    || (nat_lt reach p.alpha_preference || ((nat_le p.alpha_preference most && nat_lt reach p.alpha_confidence) || nat_le p.alpha_confidence most))

-- what is kept of a poll: the nodes that are awaited, the votes, the most that one identifier has, what is outstanding, and room for replies
pub record IsKept (poll : Poll) (waiting : List ℕ → Option ℕ) (bag : Votes) (greatest to_come room : ℕ) : Type 0 where
  pub awaited : (node : List ℕ) → waiting node ≡ awaited_times poll node
  pub votes : bag.list ≡ votes_of poll
  pub most : greatest ≡ most_count (votes_of poll)
  pub left : to_come ≡ outstanding poll
  pub within : received poll + outstanding poll ≤ draw_count poll.draws
  pub small : draw_count poll.draws < 2 ^ 32
  pub counts : All (λ d. 1 ≤ d.count) poll.draws
  pub places : length (unanswered poll) ≤ bag.room
  pub replies_fit : length poll.replies + length (unanswered poll) ≤ room

-- at which place the poll of a number stands
abbrev pub place : List Poll → ℕ → Option ℕ
place [] number = None
place (q ∷ polls) number = if q.number == number then Some 0 else option_map suc (place polls number)

-- the turn of a place, where so many polls have left: it is kept modulo 2^64
abbrev pub turn : ℕ → ℕ → ℕ
turn gone at = (gone + at) % 2 ^ 64

-- whether the front poll has a number
abbrev pub is_front : List Poll → ℕ → Bool
is_front [] number = false
is_front (q ∷ polls) number = q.number == number

-- the turn of each number in the table, but for the front poll's, which may have none
abbrev pub ArePlaced : BTreeMap ℕ ℕ → ℕ → List Poll → Type 0
ArePlaced turns gone polls =
    (number : ℕ) → is_front polls number ≡ false → get nat_cmp turns number ≡ option_map (turn gone) (place polls number)

-- no two polls have one number
abbrev pub HaveOwnNumbers : List Poll → Type 0
HaveOwnNumbers [] = Unit
HaveOwnNumbers (q ∷ polls) = (has_number polls q.number ≡ false) × HaveOwnNumbers polls

-- what is kept of the table: polls that are whole, no two of one number, and the turn of each
pub record IsTable (p : Parameters) (polls : List Poll) (turns : BTreeMap ℕ ℕ) (gone : ℕ) : Type 0 where
  pub few : length polls ≤ MOST_POLLS
  pub whole : All (λ q. draw_count q.draws ≡ p.k) polls
  pub distinct : HaveOwnNumbers polls
  pub placed : ArePlaced turns gone polls
