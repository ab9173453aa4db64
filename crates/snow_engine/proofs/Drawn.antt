-- No event makes a node that bootstraps draw more numbers than there are.
use Rattle.std.proofs.Common.{◌≡◌, ℕ, ◌+◌, ◌-◌, ◌^◌, ◌≤◌, Bool, true, false, cond, nat_lt, List, [], ◌∷◌, Option, Some, None, Ok, Err, Result, if◌then◌else◌, refl, subst, arith}
use Rattle.std.specs.Bool.{⊤}
use Rattle.std.proofs.lemmas.Bool.{ltb-true}
use Rattle.snow_base.specs.declared.block.Header.{Header}
use Rattle.snow_base.specs.Model.Numbers.{next_number}
use Rattle.snow_chain.specs.Model.Chain.{Rules}
use Rattle.snow_sample.specs.declared.roster.Node.{Node}
use Rattle.snow_sample.specs.Model.Roster.{total_weight}
use Rattle.snow_gets.specs.declared.gets.Get.{Get}
use Rattle.snow_gets.specs.Model.Gets.{asked_in}
use Rattle.snow_lines.specs.declared.line.Line.{Line}
use Rattle.snow_lines.specs.declared.line.Line.TheVariants as line
use Rattle.snow_lines.specs.declared.why.RestartWhy.TheVariants as restart
use Rattle.snow_lines.specs.declared.why.SkipKind.TheVariants as skip
use Rattle.snow_wire.specs.declared.event.Event.{Event}
use Rattle.snow_wire.specs.declared.event.Event.TheVariants as event
use Rattle.snow_boot.specs.declared.question.Candidate.{Candidate}
use Rattle.snow_boot.specs.declared.question.Question.{Question}
use Rattle.snow_boot.specs.declared.question.Question.TheVariants as question
use Rattle.snow_store.specs.declared.stop.BootStop.{BootStop}
use Rattle.snow_boot.specs.Model.Asking.{Asked, asked_with, asked_one, and_asked, asked}
use Rattle.snow_boot.specs.Model.Executing.{Executed, executed}
use Rattle.snow_store.specs.Model.Paths.{Fetch, missed, is_whole, highest_target, path_up}
use Rattle.snow_boot.specs.Model.Booting.{Boot, Going, Done, Outcome, behind, ask_frontier, ask_accepted, fetch_of, with_requests, ended, finished, height_or, followed_by, followed, fetching, with_targets, with_collected, all_answered, answered, or_all, if_awaited, awaited_for, frontier_came, accepted_came, with_came, if_requested, request_of, closed, ancestors_came, timeout_by, timeout_came, if_block, stored_came, with_fetch}
use Rattle.snow_boot.specs.Model.Electing.{collected, backed, majority}
use Rattle.snow_store.specs.Clauses.Coming.{came}
use Rattle.snow_boot.specs.Model.Replying.{replied}
use Rattle.snow_engine.specs.Model.Catching.{heard}

-- the last number drawn is one of 32 bits
abbrev Fits : ℕ → Type 0
Fits drawn = drawn ≤ 2 ^ 32 - 1

-- so it is where bootstrapping goes on
abbrev IsSmall : Outcome → Type 0
IsSmall (lines, Ok (Going boot drawn)) = Fits drawn
IsSmall (lines, Ok (Done last height state)) = ⊤
IsSmall (lines, Err why) = ⊤

-- and where something was asked for
abbrev AreSmall : Asked → Type 0
AreSmall (lines, Ok (requests, drawn)) = Fits drawn
AreSmall (lines, Err why) = ⊤

-- a number that is drawn is small
abbrev IsFit : Option ℕ → Type 0
IsFit None = ⊤
IsFit (Some number) = Fits number

next_fits : (drawn : ℕ) → IsFit (next_number drawn)
next_fits drawn = by (nat_lt drawn (2 ^ 32 - 1)) refl
  where
    by : (b : Bool) → nat_lt drawn (2 ^ 32 - 1) ≡ b → IsFit (cond b (Some (drawn + 1)) None)
    by true t = let small = ltb-true drawn (2 ^ 32 - 1) t in omega (arith, small)
    by false t = tt

small_behind : (lines : List Line) (outcome : Outcome) → IsSmall outcome → IsSmall (behind lines outcome)
small_behind lines (more, Ok (Going boot drawn)) s = s
small_behind lines (more, Ok (Done last height state)) s = tt
small_behind lines (more, Err why) s = tt

small_frontier : (boot : Boot) (o : Option ℕ) → IsFit o → IsSmall (ask_frontier boot o)
small_frontier boot None h = tt
small_frontier boot (Some number) h = h

small_accepted : (boot : Boot) (o : Option ℕ) → IsFit o → IsSmall (ask_accepted boot o)
small_accepted boot None h = tt
small_accepted boot (Some number) h = h

-- ---- requests

one_small : (nodes : List Node) (requests : List Get) (drawn : ℕ) (o : Option (List ℕ)) → Fits drawn → AreSmall (asked_one nodes requests drawn o)
one_small nodes requests drawn None h = h
one_small nodes requests drawn (Some id) h = by_test (asked_in requests id)
  where
    with_number : (o : Option ℕ) → IsFit o → AreSmall (asked_with nodes requests id o)
    with_number None f = tt
    with_number (Some n) f = f

    by_test : (t : Bool) → AreSmall (let a : Asked = if t then ([], Ok (requests, drawn)) else asked_with nodes requests id (next_number drawn) in a)
    by_test true = h
    by_test false = with_number (next_number drawn) (next_fits drawn)

both_small : (one : Asked) (more : List Get → ℕ → Asked) → AreSmall one → ((requests : List Get) (drawn : ℕ) → Fits drawn → AreSmall (more requests drawn)) → AreSmall (and_asked one more)
both_small (lines, Err why) more s h = tt
both_small (lines, Ok (requests, drawn)) more s h = again (more requests drawn) (h requests drawn s)
  where
    again : (a : Asked) → AreSmall a → AreSmall (let b : Asked = (let next = a in (lines, next.1)) in b)
    again (more, Ok (requests, drawn)) s = s
    again (more, Err why) s = tt

all_small : (nodes : List Node) (f : Fetch) (targets : List (List ℕ)) (requests : List Get) (drawn : ℕ) → Fits drawn → AreSmall (asked nodes f targets requests drawn)
unfolding asked
all_small nodes f [] requests drawn h = h
all_small nodes f (t ∷ targets) requests drawn h =
    both_small (asked_one nodes requests drawn (missed f t)) (λ requests drawn. asked nodes f targets requests drawn) (one_small nodes requests drawn (missed f t) h)
    (λ requests drawn k. all_small nodes f targets requests drawn k)

small_requests : (boot : Boot) (a : Asked) → AreSmall a → IsSmall (with_requests boot a)
small_requests boot (lines, Err why) s = tt
small_requests boot (lines, Ok (requests, drawn)) s = s

small_ended : (height : ℕ) (e : Executed) → IsSmall (ended height e)
small_ended height (lines, Err why) = tt
small_ended height (lines, Ok (last, state)) = tt

small_test : (t : Bool) (one other : Outcome) → IsSmall one → IsSmall other → IsSmall (if t then one else other)
small_test true one other p q = p
small_test false one other p q = q

small_by : (rules : Rules) (state : List ℕ) (boot : Boot) (drawn : ℕ) (q : Question) → Fits drawn → IsSmall (followed_by rules state boot drawn q)
small_by rules state boot drawn question.Nothing h =
    let top = highest_target boot.store.kept boot.targets in
    small_test (is_whole (fetch_of boot)) (finished rules state boot.store top) (with_requests boot (asked boot.nodes (fetch_of boot) boot.targets boot.requests drawn))
    (small_ended (height_or boot.store.height top) (executed rules boot.store.last state (path_up boot.store.kept top)))
    (small_requests boot (asked boot.nodes (fetch_of boot) boot.targets boot.requests drawn) (all_small boot.nodes (fetch_of boot) boot.targets boot.requests drawn h))
small_by rules state boot drawn question.Frontier h = h
small_by rules state boot drawn question.Accepted h = h

small_followed : (rules : Rules) (state : List ℕ) (boot : Boot) (drawn : ℕ) → Fits drawn → IsSmall (followed rules state boot drawn)
unfolding followed
small_followed rules state boot drawn h = small_by rules state boot drawn boot.question h

-- ---- answers of all nodes

small_targets : (rules : Rules) (state : List ℕ) (boot : Boot) (drawn : ℕ) (targets : List (List ℕ)) → Fits drawn → IsSmall (with_targets rules state boot drawn targets)
small_targets rules state boot drawn [] h =
    small_behind (line.Restart restart.Accepted ∷ []) (ask_frontier boot (next_number drawn)) (small_frontier boot (next_number drawn) (next_fits drawn))
small_targets rules state boot drawn (t ∷ targets) h = small_followed rules state (fetching boot (t ∷ targets)) drawn h

small_collected : (boot : Boot) (drawn : ℕ) (candidates : List Candidate) → IsSmall (with_collected boot drawn candidates)
small_collected boot drawn [] =
    small_behind (line.Restart restart.Frontier ∷ []) (ask_frontier boot (next_number drawn)) (small_frontier boot (next_number drawn) (next_fits drawn))
small_collected boot drawn (c ∷ candidates) = small_accepted boot (next_number drawn) (next_fits drawn)

small_all : (rules : Rules) (state : List ℕ) (boot : Boot) (drawn : ℕ) (q : Question) → Fits drawn → IsSmall (all_answered rules state boot drawn q)
small_all rules state boot drawn question.Frontier h = small_collected boot drawn boot.candidates
small_all rules state boot drawn question.Accepted h = small_targets rules state boot drawn (majority (total_weight boot.nodes) boot.candidates) h
small_all rules state boot drawn question.Nothing h = small_followed rules state boot drawn h

small_or : (rules : Rules) (state : List ℕ) (boot : Boot) (drawn : ℕ) (awaited : List Node) → Fits drawn → IsSmall (or_all rules state boot drawn awaited)
small_or rules state boot drawn [] h = small_all rules state boot drawn boot.question h
small_or rules state boot drawn (n ∷ awaited) h = h

small_awaited : (rules : Rules) (state : List ℕ) (boot : Boot) (drawn : ℕ) (node : List ℕ) (o : Option Node) (candidates : ℕ → List Candidate) → Fits drawn
    → IsSmall (if_awaited rules state boot drawn node o candidates)
small_awaited rules state boot drawn node None candidates h = small_followed rules state boot drawn h
small_awaited rules state boot drawn node (Some n) candidates h =
    let next = answered boot node (candidates n.weight) in small_or rules state next drawn next.awaited h

-- ---- blocks that come

small_came : (rules : Rules) (state : List ℕ) (boot : Boot) (drawn : ℕ) (requests : List Get) (r : Result Fetch BootStop) → Fits drawn
    → IsSmall (with_came rules state boot drawn requests r)
small_came rules state boot drawn requests (Err why) h = tt
small_came rules state boot drawn requests (Ok f) h = small_followed rules state (with_fetch boot f requests) drawn h

small_requested : (rules : Rules) (state : List ℕ) (boot : Boot) (drawn : ℕ) (node : List ℕ) (number : ℕ) (blocks : List (List ℕ)) (o : Option (List ℕ)) → Fits drawn
    → IsSmall (if_requested rules state boot drawn node number blocks o)
small_requested rules state boot drawn node number blocks None h = small_followed rules state boot drawn h
small_requested rules state boot drawn node number blocks (Some id) h =
    small_came rules state boot drawn (closed boot.requests node number) (replied rules.header_of (fetch_of boot) id blocks) h

small_timeout : (rules : Rules) (state : List ℕ) (boot : Boot) (drawn : ℕ) (node : List ℕ) (number : ℕ) (q : Question) → Fits drawn
    → IsSmall (timeout_by rules state boot drawn node number q)
small_timeout rules state boot drawn node number question.Nothing h = small_followed rules state (with_fetch boot (fetch_of boot) (closed boot.requests node number)) drawn h
small_timeout rules state boot drawn node number question.Frontier h =
    small_awaited rules state boot drawn node (awaited_for boot question.Frontier number node) (λ weight. boot.candidates) h
small_timeout rules state boot drawn node number question.Accepted h =
    small_awaited rules state boot drawn node (awaited_for boot question.Accepted number node) (λ weight. boot.candidates) h

small_block : (rules : Rules) (state : List ℕ) (boot : Boot) (drawn frame : ℕ) (bytes : List ℕ) (o : Option Header) → Fits drawn → IsSmall (if_block rules state boot drawn frame bytes o)
small_block rules state boot drawn frame bytes None h = small_behind (line.Skip frame skip.Block ∷ []) (followed rules state boot drawn) (small_followed rules state boot drawn h)
small_block rules state boot drawn frame bytes (Some header) h =
    small_came rules state boot drawn boot.requests (came (fetch_of boot) record { header = header; bytes = bytes }) h

-- ---- each event

heard_small : (rules : Rules) (state : List ℕ) (boot : Boot) (drawn frame : ℕ) (e : Event) → Fits drawn → IsSmall (heard rules state boot drawn frame e)
unfolding frontier_came accepted_came ancestors_came timeout_came stored_came
heard_small rules state boot drawn frame (event.Frontier peer number id) h =
    small_awaited rules state boot drawn peer (awaited_for boot question.Frontier number peer) (λ weight. collected boot.candidates id) h
heard_small rules state boot drawn frame (event.Accepted peer number ids) h =
    small_awaited rules state boot drawn peer (awaited_for boot question.Accepted number peer) (λ weight. backed weight ids boot.candidates) h
heard_small rules state boot drawn frame (event.Ancestors peer number blocks) h = small_requested rules state boot drawn peer number blocks (request_of boot.requests peer number) h
heard_small rules state boot drawn frame (event.Timeout peer number) h = small_timeout rules state boot drawn peer number boot.question h
heard_small rules state boot drawn frame (event.Stored bytes) h = small_block rules state boot drawn frame bytes (rules.header_of bytes) h
heard_small rules state boot drawn frame (event.Start s) h = h
heard_small rules state boot drawn frame (event.Block peer number bytes) h = h
heard_small rules state boot drawn frame (event.Poll ids) h = h
heard_small rules state boot drawn frame (event.Words words) h = h
heard_small rules state boot drawn frame (event.Chits peer number id) h = h
heard_small rules state boot drawn frame (event.Validators nodes) h = h
heard_small rules state boot drawn frame (event.Line text) h = h
heard_small rules state boot drawn frame (event.AskQuery peer number) h = h
heard_small rules state boot drawn frame (event.AskFrontier peer number) h = h
heard_small rules state boot drawn frame (event.AskAccepted peer number ids) h = h
heard_small rules state boot drawn frame (event.AskAncestors peer number id) h = h
heard_small rules state boot drawn frame (event.AskBlock peer number id) h = h

-- the numbers drawn stay small where bootstrapping goes on
pub still_fits : (rules : Rules) (state : List ℕ) (boot after : Boot) (drawn now frame : ℕ) (e : Event) → (heard rules state boot drawn frame e).1 ≡ Ok (Going after now) → drawn ≤ 2 ^ 32 - 1
    → now ≤ 2 ^ 32 - 1
still_fits rules state boot after drawn now frame e is h = by (heard rules state boot drawn frame e) (heard_small rules state boot drawn frame e h) is
  where
    by : (o : Outcome) → IsSmall o → o.1 ≡ Ok (Going after now) → now ≤ 2 ^ 32 - 1
    by (lines, Ok (Going b d)) s i = let same : d ≡ now = cc in subst Fits same s
    by (lines, Ok (Done last height last_state)) s i = absurd cc
    by (lines, Err why) s i = absurd cc
