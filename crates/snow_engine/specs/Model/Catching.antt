-- The step of a node that bootstraps, event by event, until it runs.
use Rattle.std.specs.Prelude.{ℕ, ◌+◌, Bool, true, false, List, [], ◌++◌, length, Result, Ok, Err, nat_lt, if◌then◌else◌}
use Rattle.snow_base.specs.declared.limits.TheConstants.{MOST_WORDS}
use Rattle.snow_flake.specs.Model.Parameters.{Parameters}
use Rattle.snow_chain.specs.Model.Chain.{Rules}
use Rattle.snow_wire.specs.declared.event.Event.{Event}
use Rattle.snow_wire.specs.declared.event.Event.TheVariants as event
use Rattle.snow_wire.specs.declared.event.Start.{Start}
use Rattle.snow_lines.specs.declared.line.Line.TheVariants as line
use Rattle.snow_lines.specs.declared.why.SkipKind.TheVariants as kind
use Rattle.snow_store.specs.declared.stop.BootStop.{BootStop}
use Rattle.snow_boot.specs.Model.Booting.{Boot, Next, Going, Done, Outcome, begun, started as asked_first, frontier_came, accepted_came, ancestors_came, timeout_came, stored_came}
use Rattle.snow_engine.specs.declared.stage.Stage.TheVariants as stage
use Rattle.snow_engine.specs.declared.stop.EngineStop.{EngineStop}
use Rattle.snow_node.specs.declared.stop.Halt.TheVariants as halt
use Rattle.snow_node.specs.Model.Outcome as halting
use Rattle.snow_node.specs.Model.Outcome.{quietly, with_line, stops}
use Rattle.snow_engine.specs.Model.Booting.{Booting}
use Rattle.snow_node.specs.Model.Running.{begun_above}
use Rattle.snow_engine.specs.Kept.Staging.{Node, Comes, goes_as, stop_of_boot}
use Rattle.snow_node.specs.Model.Turning.{members}

-- ---- what comes of bootstrapping

-- it goes on, or the node runs above the block that was accepted last
abbrev pub brought : Booting → Next → Node
brought node (Going boot drawn) = stage.Booting (record node { boot = boot; last = drawn })
brought node (Done last height state) = stage.Running (begun_above node.parameters node.roster node.words node.last last height state)

abbrev pub brings : Booting → Result Next BootStop → Result Node EngineStop
brings node (Ok next) = Ok (brought node next)
brings node (Err stop) = Err (stop_of_boot stop)

abbrev pub came_to : Booting → Outcome → Comes Node
came_to node outcome = (outcome.0, brings node outcome.1)

-- ---- the beginning

-- a node that begins to bootstrap
abbrev pub new_booting : Start → Parameters → Booting
new_booting s p = record { parameters = p; roster = members s.nodes; boot = begun s.last s.height (members s.nodes); state = s.state; words = []; last = 0 }

-- it asks all nodes for their frontier
abbrev pub boots_first : Start → Parameters → Comes Node
boots_first s p = came_to (new_booting s p) (asked_first s.last s.height (members s.nodes) 0)

-- ---- the step

-- words came
abbrev pub words_kept : List ℕ → ℕ → List ℕ → halting.Comes (List ℕ)
words_kept kept frame words =
    if nat_lt MOST_WORDS (length kept + length words) then with_line (line.Skip frame kind.Full) kept else quietly (kept ++ words)

-- an event that brings nothing to bootstrapping came, where these words are kept: words are kept for later; a second Start stops the
-- node; a vote, which nobody awaits, changes nothing; and blocks, validators and questions are for a node that runs
abbrev pub noted : List ℕ → ℕ → Event → halting.Comes (List ℕ)
noted kept frame (event.Start s) = stops halt.SecondStart
noted kept frame (event.Words words) = words_kept kept frame words
noted kept frame (event.Chits peer number id) = quietly kept
noted kept frame (event.Poll ids) = with_line (line.Skip frame kind.Task) kept
noted kept frame (event.Line text) = with_line (line.Skip frame kind.Task) kept
noted kept frame other = with_line (line.Skip frame kind.Stage) kept

-- whether an event is an answer, its absence, or a block that was stored earlier
abbrev pub is_heard : Event → Bool
is_heard (event.Frontier peer number id) = true
is_heard (event.Accepted peer number ids) = true
is_heard (event.Ancestors peer number blocks) = true
is_heard (event.Timeout peer number) = true
is_heard (event.Stored bytes) = true
is_heard other = false

-- what an event brings to bootstrapping; any other brings nothing
abbrev pub heard : Rules → List ℕ → Boot → ℕ → ℕ → Event → Outcome
heard rules state boot drawn frame (event.Frontier peer number id) = frontier_came rules state boot drawn peer number id
heard rules state boot drawn frame (event.Accepted peer number ids) = accepted_came rules state boot drawn peer number ids
heard rules state boot drawn frame (event.Ancestors peer number blocks) = ancestors_came rules state boot drawn peer number blocks
heard rules state boot drawn frame (event.Timeout peer number) = timeout_came rules state boot drawn peer number
heard rules state boot drawn frame (event.Stored bytes) = stored_came rules state boot drawn frame bytes
heard rules state boot drawn frame _ = ([], Ok (Going boot drawn))

-- a node that bootstraps keeps these words
abbrev pub with_words : Booting → List ℕ → Node
with_words node words = stage.Booting (record node { words = words })

-- a node that bootstraps hears what brings it further, and takes note of the rest
unfoldable pub boots_on : Rules → Booting → ℕ → Event → Comes Node
boots_on rules node frame e =
    if is_heard e then came_to node (heard rules node.state node.boot node.last frame e) else goes_as (with_words node) (noted node.words frame e)
