-- Bootstrapping: its state, and what each event makes of it.
use Rattle.std.specs.Prelude.{ℕ, Bool, true, false, ◌==◌, ◌&&◌, List, [], ◌∷◌, ◌++◌, map, Option, Some, None, Result, Ok, Err, find, if◌then◌else◌}
use Rattle.std.specs.Option.{option_map}
use Rattle.snow_base.specs.declared.block.Header.{Header}
use Rattle.snow_base.specs.Model.Numbers.{next_number}
use Rattle.snow_chain.specs.Model.Chain.{Rules}
use Rattle.snow_sample.specs.declared.roster.Node.{Node}
use Rattle.snow_sample.specs.Model.Roster.{total_weight}
use Rattle.snow_gets.specs.declared.gets.Get.{Get}
use Rattle.snow_gets.specs.Model.Gets.{is_get, without}
use Rattle.snow_lines.specs.declared.line.Line.{Line}
use Rattle.snow_lines.specs.declared.line.Line.TheVariants as line
use Rattle.snow_lines.specs.declared.why.RestartWhy.TheVariants as restart
use Rattle.snow_lines.specs.declared.why.SkipKind.TheVariants as skip
use Rattle.snow_store.specs.declared.store.KeptBlock.{KeptBlock}
use Rattle.snow_boot.specs.declared.question.Candidate.{Candidate}
use Rattle.snow_boot.specs.declared.question.Question.{Question}
use Rattle.snow_boot.specs.declared.question.Question.TheVariants as question
use Rattle.snow_store.specs.declared.stop.BootStop.{BootStop}
use Rattle.snow_store.specs.declared.stop.BootStop.TheVariants as stop
use Rattle.snow_boot.specs.Model.Asking.{asked}
use Rattle.snow_boot.specs.Model.Electing.{awaits, still_awaited, collected, backed, majority}
use Rattle.snow_boot.specs.Model.Executing.{executed}
use Rattle.snow_store.specs.Model.Keeping.{Store}
use Rattle.snow_store.specs.Model.Paths.{Fetch, is_whole, highest_target, path_up}
use Rattle.snow_store.specs.Clauses.Coming.{came}
use Rattle.snow_boot.specs.Model.Replying.{replied}

-- the last accepted block and the kept blocks; the nodes; what all nodes are being asked, with which number, and whose answer is
-- awaited; what was collected, with the weight behind it; the targets and those of them that were found; and the open requests
pub record Boot : Type 0 where
  pub store : Store
  pub nodes : List Node
  pub question : Question
  pub number : ℕ
  pub awaited : List Node
  pub candidates : List Candidate
  pub targets : List (List ℕ)
  pub found : List (List ℕ)
  pub requests : List Get

-- bootstrapping goes on, with the last number drawn; or it is done, with the last accepted block, its height and its state
pub data Next : Type 0 where
  Going : (boot : Boot) (drawn : ℕ) → Next
  Done : (last : List ℕ) (height : ℕ) (state : List ℕ) → Next

-- the lines of an event, and what comes of it or a stop
abbrev pub Outcome : Type 0
Outcome = List Line × Result Next BootStop

-- lines in front of an outcome
abbrev pub behind : List Line → Outcome → Outcome
behind lines outcome = (lines ++ outcome.0, outcome.1)

-- ---- asking all nodes

-- the same blocks, targets and requests, another question
abbrev pub asking : Boot → Question → ℕ → List Candidate → Boot
asking boot asks number candidates = record boot { question = asks; number = number; awaited = boot.nodes; candidates = candidates }

-- all nodes are asked for their frontier
abbrev pub ask_frontier : Boot → Option ℕ → Outcome
ask_frontier boot None = ([], Err stop.Requests)
ask_frontier boot (Some number) = (line.Frontier number ∷ [], Ok (Going (asking boot question.Frontier number []) number))

-- all nodes are asked which of the collected identifiers they hold accepted
abbrev pub ask_accepted : Boot → Option ℕ → Outcome
ask_accepted boot None = ([], Err stop.Requests)
ask_accepted boot (Some number) =
    (line.Accepted number (map (λ c. c.id) boot.candidates) ∷ [], Ok (Going (asking boot question.Accepted number boot.candidates) number))

-- bootstrapping begins
abbrev pub begun : List ℕ → ℕ → List Node → Boot
begun last height nodes = record {
  store = record { last = last; height = height; kept = [] };
  nodes = nodes;
  question = question.Nothing;
  number = 0;
  awaited = [];
  candidates = [];
  targets = [];
  found = [];
  requests = [];
}

unfoldable pub started : List ℕ → ℕ → List Node → ℕ → Outcome
started last height nodes drawn = ask_frontier (begun last height nodes) (next_number drawn)

-- ---- fetching and executing

abbrev pub fetch_of : Boot → Fetch
fetch_of boot = record { store = boot.store; targets = boot.targets; found = boot.found }

-- other blocks and found targets, and other requests
abbrev pub with_fetch : Boot → Fetch → List Get → Boot
with_fetch boot f requests = record boot { store = f.store; found = f.found; requests = requests }

-- the requests are made
abbrev pub with_requests : Boot → List Line × Result (List Get × ℕ) BootStop → Outcome
with_requests boot (lines, Err why) = (lines, Err why)
with_requests boot (lines, Ok (requests, drawn)) = (lines, Ok (Going (with_fetch boot (fetch_of boot) requests) drawn))

-- the height of a block, or another where there is none
abbrev pub height_or : ℕ → Option KeptBlock → ℕ
height_or height None = height
height_or height (Some b) = b.header.height

-- all is executed
abbrev pub ended : ℕ → List Line × Result (List ℕ × List ℕ) BootStop → Outcome
ended height (lines, Err why) = (lines, Err why)
ended height (lines, Ok (last, state)) = (lines ++ line.Bootstrapped last height ∷ [], Ok (Done last height state))

-- the path of the highest kept target is executed
abbrev pub finished : Rules → List ℕ → Store → Option KeptBlock → Outcome
finished rules state s top = ended (height_or s.height top) (executed rules s.last state (path_up s.kept top))

-- where the targets are known, what they miss is asked for, and where none misses anything their path is executed
abbrev pub followed_by : Rules → List ℕ → Boot → ℕ → Question → Outcome
followed_by rules state boot drawn question.Nothing =
    if is_whole (fetch_of boot) then finished rules state boot.store (highest_target boot.store.kept boot.targets)
    else with_requests boot (asked boot.nodes (fetch_of boot) boot.targets boot.requests drawn)
followed_by rules state boot drawn other = ([], Ok (Going boot drawn))

unfoldable pub followed : Rules → List ℕ → Boot → ℕ → Outcome
followed rules state boot drawn = followed_by rules state boot drawn boot.question

-- ---- answers of all nodes

-- the targets are known
abbrev pub fetching : Boot → List (List ℕ) → Boot
fetching boot targets = record boot { question = question.Nothing; awaited = []; targets = targets; found = []; requests = [] }

-- the targets, where there is one; else the frontier is asked for again
abbrev pub with_targets : Rules → List ℕ → Boot → ℕ → List (List ℕ) → Outcome
with_targets rules state boot drawn [] = behind (line.Restart restart.Accepted ∷ []) (ask_frontier boot (next_number drawn))
with_targets rules state boot drawn (t ∷ targets) = followed rules state (fetching boot (t ∷ targets)) drawn

-- what was collected, where there is any; else the frontier is asked for again
abbrev pub with_collected : Boot → ℕ → List Candidate → Outcome
with_collected boot drawn [] = behind (line.Restart restart.Frontier ∷ []) (ask_frontier boot (next_number drawn))
with_collected boot drawn (c ∷ candidates) = ask_accepted boot (next_number drawn)

-- all nodes have answered what they were asked
abbrev pub all_answered : Rules → List ℕ → Boot → ℕ → Question → Outcome
all_answered rules state boot drawn question.Frontier = with_collected boot drawn boot.candidates
all_answered rules state boot drawn question.Accepted = with_targets rules state boot drawn (majority (total_weight boot.nodes) boot.candidates)
all_answered rules state boot drawn question.Nothing = followed rules state boot drawn

-- one node less is awaited, and the candidates are these
abbrev pub answered : Boot → List ℕ → List Candidate → Boot
answered boot node candidates = record boot { awaited = still_awaited boot.awaited node; candidates = candidates }

-- whether any node's answer is awaited
abbrev pub or_all : Rules → List ℕ → Boot → ℕ → List Node → Outcome
or_all rules state boot drawn [] = all_answered rules state boot drawn boot.question
or_all rules state boot drawn (n ∷ awaited) = ([], Ok (Going boot drawn))

-- a node answered, where its answer was awaited; what it backs is by its weight
abbrev pub if_awaited : Rules → List ℕ → Boot → ℕ → List ℕ → Option Node → (ℕ → List Candidate) → Outcome
if_awaited rules state boot drawn node None candidates = followed rules state boot drawn
if_awaited rules state boot drawn node (Some n) candidates =
    let boot = answered boot node (candidates n.weight) in or_all rules state boot drawn boot.awaited

-- ---- events

-- the same question
abbrev pub asks : Question → Question → Bool
asks question.Frontier question.Frontier = true
asks question.Accepted question.Accepted = true
asks a b = false

-- a node whose answer is awaited, where this question with this number is asked
abbrev pub awaited_by : Question → ℕ → List Node → Question → ℕ → List ℕ → Option Node
awaited_by question number awaited q n node = if asks question q && number == n then awaits awaited node else None

abbrev pub awaited_for : Boot → Question → ℕ → List ℕ → Option Node
awaited_for boot q number node = awaited_by boot.question boot.number boot.awaited q number node

-- a node names its frontier
unfoldable pub frontier_came : Rules → List ℕ → Boot → ℕ → List ℕ → ℕ → List ℕ → Outcome
frontier_came rules state boot drawn node number id =
    if_awaited rules state boot drawn node (awaited_for boot question.Frontier number node) (λ weight. collected boot.candidates id)

-- a node names what it holds accepted
unfoldable pub accepted_came : Rules → List ℕ → Boot → ℕ → List ℕ → ℕ → List (List ℕ) → Outcome
accepted_came rules state boot drawn node number ids =
    if_awaited rules state boot drawn node (awaited_for boot question.Accepted number node) (λ weight. backed weight ids boot.candidates)

-- the block that is asked for by the open request with this number to this node
abbrev pub request_of : List Get → List ℕ → ℕ → Option (List ℕ)
request_of requests node number = option_map (λ r. r.id) (find (is_get number node) requests)

-- the open requests but that one
abbrev pub closed : List Get → List ℕ → ℕ → List Get
closed requests node number = without (is_get number node) requests

-- the blocks came, or a stop
abbrev pub with_came : Rules → List ℕ → Boot → ℕ → List Get → Result Fetch BootStop → Outcome
with_came rules state boot drawn requests (Err why) = ([], Err why)
with_came rules state boot drawn requests (Ok f) = followed rules state (with_fetch boot f requests) drawn

-- a reply comes to a request that is open
abbrev pub if_requested : Rules → List ℕ → Boot → ℕ → List ℕ → ℕ → List (List ℕ) → Option (List ℕ) → Outcome
if_requested rules state boot drawn node number blocks None = followed rules state boot drawn
if_requested rules state boot drawn node number blocks (Some id) =
    with_came rules state boot drawn (closed boot.requests node number) (replied rules.header_of (fetch_of boot) id blocks)

-- a node sends a block and its ancestors
unfoldable pub ancestors_came : Rules → List ℕ → Boot → ℕ → List ℕ → ℕ → List (List ℕ) → Outcome
ancestors_came rules state boot drawn node number blocks = if_requested rules state boot drawn node number blocks (request_of boot.requests node number)

-- a node doesn't answer: what all nodes are being asked, or a request
abbrev pub timeout_by : Rules → List ℕ → Boot → ℕ → List ℕ → ℕ → Question → Outcome
timeout_by rules state boot drawn node number question.Nothing = followed rules state (with_fetch boot (fetch_of boot) (closed boot.requests node number)) drawn
timeout_by rules state boot drawn node number other = if_awaited rules state boot drawn node (awaited_for boot other number node) (λ weight. boot.candidates)

unfoldable pub timeout_came : Rules → List ℕ → Boot → ℕ → List ℕ → ℕ → Outcome
timeout_came rules state boot drawn node number = timeout_by rules state boot drawn node number boot.question

-- a block comes that was kept earlier, where its bytes are those of a block
abbrev pub if_block : Rules → List ℕ → Boot → ℕ → ℕ → List ℕ → Option Header → Outcome
if_block rules state boot drawn frame bytes None = behind (line.Skip frame skip.Block ∷ []) (followed rules state boot drawn)
if_block rules state boot drawn frame bytes (Some header) = with_came rules state boot drawn boot.requests (came (fetch_of boot) record { header = header; bytes = bytes })

unfoldable pub stored_came : Rules → List ℕ → Boot → ℕ → ℕ → List ℕ → Outcome
stored_came rules state boot drawn frame bytes = if_block rules state boot drawn frame bytes (rules.header_of bytes)
