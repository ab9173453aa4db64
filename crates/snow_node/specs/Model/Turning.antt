-- The step of a node that runs, event by event.
use Rattle.std.specs.Prelude.{ℕ, ◌+◌, false, List, ◌++◌, map, length, Option, Some, None, Ok, nat_lt, ◌==◌, if◌then◌else◌}
use Rattle.snow_base.specs.declared.limits.TheConstants.{MOST_WORDS}
use Rattle.snow_flake.specs.Model.Rule.{Answer}
use Rattle.snow_sample.specs.declared.roster.Node.{Node as Member}
use Rattle.snow_sample.specs.declared.roster.RosterFault.{RosterFault}
use Rattle.snow_sample.specs.Model.Roster.{first_fault}
use Rattle.snow_board.specs.Model.Preference.{preferred}
use Rattle.snow_chain.specs.Model.Chain.{Rules}
use Rattle.snow_getter.specs.Model.Answer.{answer as answer_to}
use Rattle.snow_wire.specs.declared.event.Event.{Event}
use Rattle.snow_wire.specs.declared.event.Event.TheVariants as event
use Rattle.snow_lines.specs.declared.line.Line.TheVariants as line
use Rattle.snow_lines.specs.declared.why.SkipKind.TheVariants as kind
use Rattle.snow_node.specs.declared.stop.Halt.TheVariants as halt
use Rattle.snow_node.specs.Model.Outcome.{Comes, quietly, with_line, stops, then_comes}
use Rattle.snow_node.specs.Model.Running.{Running}
use Rattle.snow_node.specs.Model.Querying.{repolled}
use Rattle.snow_node.specs.Model.Hearing.{block_came, vote_came, timed_out}

-- ---- words and validators

-- words came; they may bring queries where no poll runs
abbrev pub words_came : Answer → Running → ℕ → List ℕ → Comes Running
words_came answer node frame words =
    if nat_lt MOST_WORDS (length node.words + length words) then with_line (line.Skip frame kind.Full) node
    else if length node.polls.polls == 0 then repolled answer (record node { words = node.words ++ words })
    else quietly (record node { words = node.words ++ words })

-- nodes as a roster has them
abbrev pub members : List (List ℕ × ℕ) → List Member
members nodes = map (λ n. record { id = n.0; weight = n.1 }) nodes

-- a new roster is in force, unless something is wrong with it
abbrev pub roster_came : Running → ℕ → List Member → Option RosterFault → Comes Running
roster_came node frame roster (Some fault) = with_line (line.Skip frame kind.Nodes) node
roster_came node frame roster None = quietly (record node { roster = roster })

-- ---- questions of peers

-- a peer is answered, and nothing changes
abbrev pub answered : Answer → Running → Event → Comes Running
answered answer node question = (answer_to node.served (preferred answer node.board) question, Ok node)

-- ---- the end of an event

-- queries follow where a poll was recorded
abbrev pub rounded : Answer → Running → Comes Running
rounded answer node = if node.recorded then repolled answer (record node { recorded = false }) else quietly node

-- ---- the step

-- a node that runs takes all events but polls and lines; a second Start stops it. Stored blocks are for a node that bootstraps; an
-- answer that nobody awaits changes nothing
unfoldable pub runs_on : Rules → Answer → Running → ℕ → Event → Comes Running
runs_on rules answer node frame (event.Start s) = stops halt.SecondStart
runs_on rules answer node frame (event.Block peer number bytes) = then_comes (block_came rules answer node frame peer number bytes) (rounded answer)
runs_on rules answer node frame (event.Poll ids) = with_line (line.Skip frame kind.Task) node
runs_on rules answer node frame (event.Words words) = words_came answer node frame words
runs_on rules answer node frame (event.Chits peer number id) = then_comes (vote_came rules answer node number peer id) (rounded answer)
runs_on rules answer node frame (event.Timeout peer number) = then_comes (timed_out rules answer node number peer) (rounded answer)
runs_on rules answer node frame (event.Frontier peer number id) = quietly node
runs_on rules answer node frame (event.Accepted peer number ids) = quietly node
runs_on rules answer node frame (event.Ancestors peer number blocks) = quietly node
runs_on rules answer node frame (event.Validators nodes) = roster_came node frame (members nodes) (first_fault (members nodes))
runs_on rules answer node frame (event.Line text) = with_line (line.Skip frame kind.Task) node
runs_on rules answer node frame (event.Stored bytes) = with_line (line.Skip frame kind.Stage) node
runs_on rules answer node frame (event.AskQuery peer number) = answered answer node (event.AskQuery peer number)
runs_on rules answer node frame (event.AskFrontier peer number) = answered answer node (event.AskFrontier peer number)
runs_on rules answer node frame (event.AskAccepted peer number ids) = answered answer node (event.AskAccepted peer number ids)
runs_on rules answer node frame (event.AskAncestors peer number id) = answered answer node (event.AskAncestors peer number id)
runs_on rules answer node frame (event.AskBlock peer number id) = answered answer node (event.AskBlock peer number id)
