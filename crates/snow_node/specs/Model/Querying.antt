-- Queries for the preference: when one is sent, to whom, and when others follow.
use Rattle.std.specs.Prelude.{ℕ, ◌-◌, Bool, true, false, ◌&&◌, List, [], length, Result, Ok, Err, nat_le, nat_lt, if◌then◌else◌}
use Rattle.snow_base.specs.declared.limits.TheConstants.{MOST_POLLS}
use Rattle.snow_flake.specs.Model.Rule.{Answer}
use Rattle.snow_sample.specs.declared.draws.Draw.{Draw}
use Rattle.snow_sample.specs.declared.sampling.SampleFault.{SampleFault}
use Rattle.snow_sample.specs.declared.sampling.SampleFault.TheVariants as fault
use Rattle.snow_sample.specs.Model.Sampling.{sample_of}
use Rattle.snow_board.specs.Model.Preference.{preferred}
use Rattle.snow_lines.specs.declared.line.Line.TheVariants as line
use Rattle.snow_lines.specs.declared.why.QueryWhy.{QueryWhy}
use Rattle.snow_lines.specs.declared.why.QueryWhy.TheVariants as why
use Rattle.snow_poll.specs.Model.Table.{begun}
use Rattle.snow_node.specs.declared.stop.Halt.TheVariants as halt
use Rattle.snow_node.specs.Model.Outcome.{Comes, quietly, with_line, stops}
use Rattle.snow_node.specs.Model.Again.{all_made}
use Rattle.snow_node.specs.Model.Running.{Running, numbered}

-- the query isn't sent
abbrev pub not_sent : Running → QueryWhy → Comes (Running × Bool)
not_sent node why = with_line (line.DropQuery why) (node, false)

-- the query is sent to those drawn, with a number of its own
abbrev pub sent : Answer → List Draw → Running → ℕ → Comes (Running × Bool)
sent answer draws node number =
    with_line (line.Query number (preferred answer node.board) draws) (record node { polls = begun node.polls number draws }, true)

-- the query with this sample of its nodes
abbrev pub sampled : Answer → Running → Result (List Draw × List ℕ) SampleFault → Comes (Running × Bool)
sampled answer node (Err (fault.TooFewUnits total)) = not_sent node why.Units
sampled answer node (Err fault.WordsOut) = not_sent (record node { words = [] }) why.Words
sampled answer node (Err fault.Memory) = stops halt.Memory
sampled answer node (Ok (draws, left)) = numbered (record node { words = left }) (sent answer draws)

-- a query for the preference, and whether it was sent
abbrev pub queried : Answer → Running → Comes (Running × Bool)
queried answer node =
    if nat_le MOST_POLLS (length node.polls.polls) then not_sent node why.Full
    else sampled answer node (sample_of node.roster node.board.parameters.k node.words)

-- whether a block is pending and fewer polls run than may
abbrev pub lacks_polls : Running → Bool
lacks_polls node = nat_lt 0 (length node.board.pending) && nat_lt (length node.polls.polls) node.board.parameters.repolls

-- one query more where polls are lacking, and whether it was sent
abbrev pub one_repolled : Answer → Running → Comes (Running × Bool)
one_repolled answer node = if lacks_polls node then queried answer node else quietly (node, false)

-- how many more polls may run
abbrev pub lacking : Running → ℕ
lacking node = node.board.parameters.repolls - length node.polls.polls

-- queries until enough polls run or one isn't sent
abbrev pub repolled : Answer → Running → Comes Running
repolled answer node = all_made lacking (one_repolled answer) node
