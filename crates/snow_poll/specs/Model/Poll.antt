-- A poll: the nodes that were drawn, their replies so far, and what these make.
use Rattle.std.specs.Prelude.{ℕ, Bool, not, ◌&&◌, List, [], ◌∷◌, ◌++◌, Option, Some, None, is_some, filter, fold, sum_by, if◌then◌else◌}
use Rattle.std.specs.List.{list_any}
use Rattle.std.specs.Str.{bytes_eq}
use Rattle.snow_base.specs.declared.block.Vote.{Vote}
use Rattle.snow_base.specs.Model.Votes.{added}
use Rattle.snow_sample.specs.declared.draws.Draw.{Draw}
use Rattle.snow_sample.specs.Model.Sampling.{draw_count}
use Rattle.snow_poll.specs.declared.poll.Reply.{Reply}

-- the number of a poll, the draws that it was begun over, and the replies in order of arrival; each node replies once
pub record Poll : Type 0 where
  pub number : ℕ
  pub draws : List Draw
  pub replies : List Reply

-- how often a node was drawn
abbrev pub times_drawn : List Draw → List ℕ → ℕ
times_drawn draws node = sum_by (λ d. if bytes_eq d.node node then d.count else 0) draws

abbrev pub is_drawn : List Draw → List ℕ → Bool
is_drawn draws node = list_any (λ d. bytes_eq d.node node) draws

abbrev pub has_replied : List Reply → List ℕ → Bool
has_replied replies node = list_any (λ r. bytes_eq r.node node) replies

-- a node is awaited that was drawn and has not replied
abbrev pub awaits : Poll → List ℕ → Bool
awaits poll node = is_drawn poll.draws node && not (has_replied poll.replies node)

-- the poll after the reply of a node: with an identifier, or with none
abbrev pub with_reply : Poll → List ℕ → Option (List ℕ) → Poll
with_reply poll node id = record poll { replies = poll.replies ++ record { node = node; id = id } ∷ [] }

-- the poll after the reply of a node, which counts where the node is awaited
abbrev pub replied : Poll → List ℕ → Option (List ℕ) → Poll
replied poll node id = if awaits poll node then with_reply poll node id else poll

-- n votes more for what a reply names
abbrev pub given : List Vote → Option (List ℕ) → ℕ → List Vote
given votes None n = votes
given votes (Some id) n = added votes id n

-- the votes given: a reply counts as often as its node was drawn
abbrev pub votes_of : Poll → List Vote
votes_of poll = fold (λ votes r. given votes r.id (times_drawn poll.draws r.node)) [] poll.replies

-- how many votes were given
abbrev pub received : Poll → ℕ
received poll = sum_by (λ r. if is_some r.id then times_drawn poll.draws r.node else 0) poll.replies

-- the draws of the nodes without a reply
abbrev pub unanswered : Poll → List Draw
unanswered poll = filter (λ d. not (has_replied poll.replies d.node)) poll.draws

-- how many votes may still be given
abbrev pub outstanding : Poll → ℕ
outstanding poll = draw_count (unanswered poll)
