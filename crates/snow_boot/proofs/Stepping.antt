-- What comes of each event: bootstrapping goes on, it stops, or a node is followed.
use Rattle.std.proofs.Common.{◌≡◌, ℕ, false, List, [], ◌∷◌, Option, Some, None, map, refl}
use Rattle.std.specs.Prelude.{Result, Ok, Err}
use Rattle.std.specs.List.{list_any}
use Rattle.snow_base.specs.declared.block.Header.{Header}
use Rattle.snow_base.specs.Model.Numbers.{next_number}
use Rattle.snow_chain.specs.Model.Chain.{Rules}
use Rattle.snow_sample.specs.declared.roster.Node.{Node}
use Rattle.snow_sample.specs.Model.Roster.{total_weight}
use Rattle.snow_gets.specs.declared.gets.Get.{Get}
use Rattle.snow_lines.specs.declared.line.Line.{Line}
use Rattle.snow_lines.specs.declared.line.Line.TheVariants as line
use Rattle.snow_lines.specs.declared.why.RestartWhy.{RestartWhy}
use Rattle.snow_lines.specs.declared.why.RestartWhy.TheVariants as restart
use Rattle.snow_lines.specs.declared.why.SkipKind.TheVariants as skip
use Rattle.snow_store.specs.declared.stop.BootStop.{BootStop}
use Rattle.snow_store.specs.declared.stop.BootStop.TheVariants as stop
use Rattle.snow_store.specs.Clauses.Coming.{came}
use Rattle.snow_store.specs.Model.Paths.{Fetch}
use Rattle.snow_boot.specs.declared.question.Candidate.{Candidate}
use Rattle.snow_boot.specs.declared.question.Question.{Question}
use Rattle.snow_boot.specs.declared.question.Question.TheVariants as question
use Rattle.snow_boot.specs.Model.Booting.{Boot, Going, Outcome, behind, asking, ask_frontier, ask_accepted, fetch_of, with_fetch, followed, fetching, with_targets, with_collected, all_answered, answered, or_all, if_awaited, awaited_for, frontier_came, accepted_came, request_of, closed, with_came, if_requested, ancestors_came, timeout_by, timeout_came, if_block, stored_came}
use Rattle.snow_boot.specs.Model.Electing.{collected, backed, majority}
use Rattle.snow_boot.specs.Laws.OutcomeLaw.{accepts}
use Rattle.snow_boot.specs.Laws.Reached.{Event, Frontier, Accepted, Ancestors, Timeout, Stored, outcome_of, fetched_for, fetched_one, fetched_by}
use Rattle.snow_boot.specs.Model.Replying.{replied}

-- what holds of all that may come of an event
pub record Passes (rules : Rules) (state : List ℕ) (boot : Boot) (fetched : Result Fetch BootStop) (P : Outcome → Type 0) : Type 0 where
  pub asks : (lines : List Line) (now : Boot) (number : ℕ) → now.store ≡ boot.store → P (lines, Ok (Going now number))
  pub ends : (lines : List Line) → list_any accepts lines ≡ false → P (lines, Err stop.Requests)
  pub stops : (why : BootStop) → fetched ≡ Err why → P ([], Err why)
  pub follows : (now : Boot) (drawn : ℕ) (f : Fetch) → fetched ≡ Ok f → now.store ≡ f.store → P (followed rules state now drawn)
  pub skips : (frame : ℕ) (now : Boot) (drawn : ℕ) (f : Fetch) → fetched ≡ Ok f → now.store ≡ f.store → P (behind (line.Skip frame skip.Block ∷ []) (followed rules state now drawn))

-- the event brought no block
abbrev pub unchanged : Boot → Result Fetch BootStop
unchanged boot = Ok (fetch_of boot)

restarts : {rules : Rules} {state : List ℕ} {boot : Boot} {fetched : Result Fetch BootStop} {P : Outcome → Type 0} → Passes rules state boot fetched P
    → (why : RestartWhy) (now : Boot) (o : Option ℕ) → now.store ≡ boot.store → P (behind (line.Restart why ∷ []) (ask_frontier now o))
restarts p why now None same = p.ends (line.Restart why ∷ []) refl
restarts p why now (Some number) same = p.asks (line.Restart why ∷ line.Frontier number ∷ []) (asking now question.Frontier number []) number same

asks_on : {rules : Rules} {state : List ℕ} {boot : Boot} {fetched : Result Fetch BootStop} {P : Outcome → Type 0} → Passes rules state boot fetched P
    → (now : Boot) (o : Option ℕ) → now.store ≡ boot.store → P (ask_accepted now o)
asks_on p now None same = p.ends [] refl
asks_on p now (Some number) same =
    p.asks (line.Accepted number (map (λ (c : Candidate). c.id) now.candidates) ∷ []) (asking now question.Accepted number now.candidates) number same

-- answers of all nodes
targets_on : {rules : Rules} {state : List ℕ} {boot : Boot} {P : Outcome → Type 0} → Passes rules state boot (unchanged boot) P
    → (now : Boot) (drawn : ℕ) (targets : List (List ℕ)) → now.store ≡ boot.store → P (with_targets rules state now drawn targets)
targets_on p now drawn [] same = restarts p restart.Accepted now (next_number drawn) same
targets_on {boot = boot} p now drawn (t ∷ targets) same = p.follows (fetching now (t ∷ targets)) drawn (fetch_of boot) refl same

collected_on : {rules : Rules} {state : List ℕ} {boot : Boot} {P : Outcome → Type 0} → Passes rules state boot (unchanged boot) P
    → (now : Boot) (drawn : ℕ) (candidates : List Candidate) → now.store ≡ boot.store → P (with_collected now drawn candidates)
collected_on p now drawn [] same = restarts p restart.Frontier now (next_number drawn) same
collected_on p now drawn (c ∷ candidates) same = asks_on p now (next_number drawn) same

all_on : {rules : Rules} {state : List ℕ} {boot : Boot} {P : Outcome → Type 0} → Passes rules state boot (unchanged boot) P
    → (now : Boot) (drawn : ℕ) (q : Question) → now.store ≡ boot.store → P (all_answered rules state now drawn q)
all_on p now drawn question.Frontier same = collected_on p now drawn now.candidates same
all_on p now drawn question.Accepted same = targets_on p now drawn (majority (total_weight now.nodes) now.candidates) same
all_on {boot = boot} p now drawn question.Nothing same = p.follows now drawn (fetch_of boot) refl same

or_on : {rules : Rules} {state : List ℕ} {boot : Boot} {P : Outcome → Type 0} → Passes rules state boot (unchanged boot) P
    → (now : Boot) (drawn : ℕ) (awaited : List Node) → now.store ≡ boot.store → P (or_all rules state now drawn awaited)
or_on p now drawn [] same = all_on p now drawn now.question same
or_on p now drawn (n ∷ awaited) same = p.asks [] now drawn same

awaited_on : {rules : Rules} {state : List ℕ} {boot : Boot} {P : Outcome → Type 0} → Passes rules state boot (unchanged boot) P
    → (drawn : ℕ) (node : List ℕ) (o : Option Node) (candidates : ℕ → List Candidate) → P (if_awaited rules state boot drawn node o candidates)
awaited_on {boot = boot} p drawn node None candidates = p.follows boot drawn (fetch_of boot) refl refl
awaited_on {boot = boot} p drawn node (Some n) candidates =
    let next = answered boot node (candidates n.weight) in or_on p next drawn next.awaited refl

-- blocks that come
came_on : {rules : Rules} {state : List ℕ} {boot : Boot} {fetched : Result Fetch BootStop} {P : Outcome → Type 0} → Passes rules state boot fetched P
    → (drawn : ℕ) (requests : List Get) (r : Result Fetch BootStop) → fetched ≡ r → P (with_came rules state boot drawn requests r)
came_on p drawn requests (Err why) e = p.stops why e
came_on {boot = boot} p drawn requests (Ok f) e = p.follows (with_fetch boot f requests) drawn f e refl

requested_on : {rules : Rules} {state : List ℕ} {boot : Boot} {P : Outcome → Type 0} (drawn : ℕ) (node : List ℕ) (number : ℕ) (blocks : List (List ℕ)) (o : Option (List ℕ))
    → Passes rules state boot (fetched_for rules.header_of (fetch_of boot) blocks o) P → P (if_requested rules state boot drawn node number blocks o)
requested_on {boot = boot} drawn node number blocks None p = p.follows boot drawn (fetch_of boot) refl refl
requested_on {rules = rules} {boot = boot} drawn node number blocks (Some id) p =
    came_on p drawn (closed boot.requests node number) (replied rules.header_of (fetch_of boot) id blocks) refl

timeout_on : {rules : Rules} {state : List ℕ} {boot : Boot} {P : Outcome → Type 0} → Passes rules state boot (unchanged boot) P
    → (drawn : ℕ) (node : List ℕ) (number : ℕ) (q : Question) → P (timeout_by rules state boot drawn node number q)
timeout_on {boot = boot} p drawn node number question.Nothing = p.follows (with_fetch boot (fetch_of boot) (closed boot.requests node number)) drawn (fetch_of boot) refl refl
timeout_on {boot = boot} p drawn node number question.Frontier = awaited_on p drawn node (awaited_for boot question.Frontier number node) (λ weight. boot.candidates)
timeout_on {boot = boot} p drawn node number question.Accepted = awaited_on p drawn node (awaited_for boot question.Accepted number node) (λ weight. boot.candidates)

block_on : {rules : Rules} {state : List ℕ} {boot : Boot} {P : Outcome → Type 0} (drawn frame : ℕ) (bytes : List ℕ) (o : Option Header)
    → Passes rules state boot (fetched_one (fetch_of boot) bytes o) P → P (if_block rules state boot drawn frame bytes o)
block_on {boot = boot} drawn frame bytes None p = p.skips frame boot drawn (fetch_of boot) refl refl
block_on {boot = boot} drawn frame bytes (Some header) p = came_on p drawn boot.requests (came (fetch_of boot) record { header = header; bytes = bytes }) refl

-- each event
pub passed : {P : Outcome → Type 0} (rules : Rules) (state : List ℕ) (boot : Boot) (drawn : ℕ) (event : Event) → Passes rules state boot (fetched_by rules boot event) P
    → P (outcome_of rules state boot drawn event)
unfolding frontier_came accepted_came ancestors_came timeout_came stored_came
passed rules state boot drawn (Frontier node number id) p = awaited_on p drawn node (awaited_for boot question.Frontier number node) (λ weight. collected boot.candidates id)
passed rules state boot drawn (Accepted node number ids) p = awaited_on p drawn node (awaited_for boot question.Accepted number node) (λ weight. backed weight ids boot.candidates)
passed rules state boot drawn (Ancestors node number blocks) p = requested_on drawn node number blocks (request_of boot.requests node number) p
passed rules state boot drawn (Timeout node number) p = timeout_on p drawn node number boot.question
passed rules state boot drawn (Stored frame bytes) p = block_on drawn frame bytes (rules.header_of bytes) p
