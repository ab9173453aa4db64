-- Where bootstrapping goes on, no block was accepted.
use Rattle.std.proofs.Common.{◌≡◌, ℕ, Bool, true, false, List, [], ◌∷◌, Option, Some, None, if◌then◌else◌, refl, ◌∙◌}
use Rattle.std.specs.Prelude.{Result, Ok, Err}
use Rattle.std.specs.List.{list_any}
use Rattle.std.proofs.lemmas.List.Folds.{list_any-append}
use Rattle.snow_base.specs.declared.block.Header.{Header}
use Rattle.snow_base.specs.Model.Numbers.{next_number}
use Rattle.snow_chain.specs.Model.Chain.{Rules}
use Rattle.snow_sample.specs.declared.roster.Node.{Node}
use Rattle.snow_gets.specs.declared.gets.Get.{Get}
use Rattle.snow_gets.specs.Model.Gets.{asked_in}
use Rattle.snow_lines.specs.declared.line.Line.{Line}
use Rattle.snow_lines.specs.declared.line.Line.TheVariants as line
use Rattle.snow_lines.specs.declared.why.RestartWhy.TheVariants as restart
use Rattle.snow_lines.specs.declared.why.SkipKind.TheVariants as skip
use Rattle.snow_boot.specs.declared.question.Candidate.{Candidate}
use Rattle.snow_boot.specs.declared.question.Question.{Question}
use Rattle.snow_boot.specs.declared.question.Question.TheVariants as question
use Rattle.snow_store.specs.declared.stop.BootStop.{BootStop}
use Rattle.snow_boot.specs.Model.Asking.{Asked, asked_with, asked_one, and_asked, asked}
use Rattle.snow_boot.specs.Model.Executing.{Executed, executed}
use Rattle.snow_store.specs.Model.Paths.{Fetch, missed, is_whole, highest_target, path_up}
use Rattle.snow_boot.specs.Model.Booting.{Boot, Going, Done, Outcome, behind, ask_frontier, ask_accepted, fetch_of, with_requests, ended, finished, height_or, followed_by, followed, fetching, with_targets, with_collected, all_answered, answered, or_all, if_awaited, awaited_for, frontier_came, accepted_came, with_came, if_requested, request_of, closed, ancestors_came, timeout_by, timeout_came, if_block, stored_came, with_fetch}
use Rattle.snow_boot.specs.Laws.OutcomeLaw.{accepts, IsQuiet, AreQuiet}
use Rattle.snow_boot.specs.Model.Electing.{collected, backed, majority}
use Rattle.snow_store.specs.Clauses.Coming.{came}
use Rattle.snow_boot.specs.Model.Replying.{replied}
use Rattle.snow_sample.specs.Model.Roster.{total_weight}

-- lines in front that accept nothing
quiet_behind : (lines : List Line) (outcome : Outcome) → list_any accepts lines ≡ false → IsQuiet outcome → IsQuiet (behind lines outcome)
quiet_behind lines (more, Ok (Going boot drawn)) e q = list_any-append accepts lines more ∙ rw (e, q) refl
quiet_behind lines (more, Ok (Done last height state)) e q = tt
quiet_behind lines (more, Err why) e q = tt

quiet_frontier : (boot : Boot) (o : Option ℕ) → IsQuiet (ask_frontier boot o)
quiet_frontier boot None = tt
quiet_frontier boot (Some number) = refl

quiet_accepted : (boot : Boot) (o : Option ℕ) → IsQuiet (ask_accepted boot o)
quiet_accepted boot None = tt
quiet_accepted boot (Some number) = refl

-- requests accept nothing
one_asked : (nodes : List Node) (requests : List Get) (drawn : ℕ) (o : Option (List ℕ)) → list_any accepts (asked_one nodes requests drawn o).0 ≡ false
one_asked nodes requests drawn None = refl
one_asked nodes requests drawn (Some id) = by_test (asked_in requests id)
  where
    with_number : (o : Option ℕ) → list_any accepts (asked_with nodes requests id o).0 ≡ false
    with_number None = refl
    with_number (Some n) = refl

    by_test : (t : Bool) → list_any accepts (let a : Asked = if t then ([], Ok (requests, drawn)) else asked_with nodes requests id (next_number drawn) in a).0 ≡ false
    by_test true = refl
    by_test false = with_number (next_number drawn)

both_asked : (one : Asked) (more : List Get → ℕ → Asked) → list_any accepts one.0 ≡ false → ((requests : List Get) (drawn : ℕ) → list_any accepts (more requests drawn).0 ≡ false)
    → list_any accepts (and_asked one more).0 ≡ false
both_asked (lines, Err why) more e h = e
both_asked (lines, Ok (requests, drawn)) more e h = list_any-append accepts lines (more requests drawn).0 ∙ rw (e, h requests drawn) refl

pub all_asked : (nodes : List Node) (f : Fetch) (targets : List (List ℕ)) (requests : List Get) (drawn : ℕ) → list_any accepts (asked nodes f targets requests drawn).0 ≡ false
unfolding asked
all_asked nodes f [] requests drawn = refl
all_asked nodes f (t ∷ targets) requests drawn =
    both_asked (asked_one nodes requests drawn (missed f t)) (λ requests drawn. asked nodes f targets requests drawn) (one_asked nodes requests drawn (missed f t))
    (λ requests drawn. all_asked nodes f targets requests drawn)

quiet_requests : (boot : Boot) (a : Asked) → list_any accepts a.0 ≡ false → IsQuiet (with_requests boot a)
quiet_requests boot (lines, Err why) e = tt
quiet_requests boot (lines, Ok (requests, drawn)) e = e

-- what is executed doesn't go on
quiet_ended : (height : ℕ) (e : Executed) → IsQuiet (ended height e)
quiet_ended height (lines, Err why) = tt
quiet_ended height (lines, Ok (last, state)) = tt

quiet_test : (t : Bool) (one other : Outcome) → IsQuiet one → IsQuiet other → IsQuiet (if t then one else other)
quiet_test true one other p q = p
quiet_test false one other p q = q

quiet_by : (rules : Rules) (state : List ℕ) (boot : Boot) (drawn : ℕ) (q : Question) → IsQuiet (followed_by rules state boot drawn q)
quiet_by rules state boot drawn question.Nothing =
    let top = highest_target boot.store.kept boot.targets in
    quiet_test (is_whole (fetch_of boot)) (finished rules state boot.store top) (with_requests boot (asked boot.nodes (fetch_of boot) boot.targets boot.requests drawn))
    (quiet_ended (height_or boot.store.height top) (executed rules boot.store.last state (path_up boot.store.kept top)))
    (quiet_requests boot (asked boot.nodes (fetch_of boot) boot.targets boot.requests drawn) (all_asked boot.nodes (fetch_of boot) boot.targets boot.requests drawn))
quiet_by rules state boot drawn question.Frontier = refl
quiet_by rules state boot drawn question.Accepted = refl

quiet_followed : (rules : Rules) (state : List ℕ) (boot : Boot) (drawn : ℕ) → IsQuiet (followed rules state boot drawn)
unfolding followed
quiet_followed rules state boot drawn = quiet_by rules state boot drawn boot.question

-- answers of all nodes
quiet_targets : (rules : Rules) (state : List ℕ) (boot : Boot) (drawn : ℕ) (targets : List (List ℕ)) → IsQuiet (with_targets rules state boot drawn targets)
quiet_targets rules state boot drawn [] = quiet_behind (line.Restart restart.Accepted ∷ []) (ask_frontier boot (next_number drawn)) refl (quiet_frontier boot (next_number drawn))
quiet_targets rules state boot drawn (t ∷ targets) = quiet_followed rules state (fetching boot (t ∷ targets)) drawn

quiet_collected : (boot : Boot) (drawn : ℕ) (candidates : List Candidate) → IsQuiet (with_collected boot drawn candidates)
quiet_collected boot drawn [] = quiet_behind (line.Restart restart.Frontier ∷ []) (ask_frontier boot (next_number drawn)) refl (quiet_frontier boot (next_number drawn))
quiet_collected boot drawn (c ∷ candidates) = quiet_accepted boot (next_number drawn)

quiet_all : (rules : Rules) (state : List ℕ) (boot : Boot) (drawn : ℕ) (q : Question) → IsQuiet (all_answered rules state boot drawn q)
quiet_all rules state boot drawn question.Frontier = quiet_collected boot drawn boot.candidates
quiet_all rules state boot drawn question.Accepted = quiet_targets rules state boot drawn (majority (total_weight boot.nodes) boot.candidates)
quiet_all rules state boot drawn question.Nothing = quiet_followed rules state boot drawn

quiet_or : (rules : Rules) (state : List ℕ) (boot : Boot) (drawn : ℕ) (awaited : List Node) → IsQuiet (or_all rules state boot drawn awaited)
quiet_or rules state boot drawn [] = quiet_all rules state boot drawn boot.question
quiet_or rules state boot drawn (n ∷ awaited) = refl

quiet_awaited : (rules : Rules) (state : List ℕ) (boot : Boot) (drawn : ℕ) (node : List ℕ) (o : Option Node) (candidates : ℕ → List Candidate)
    → IsQuiet (if_awaited rules state boot drawn node o candidates)
quiet_awaited rules state boot drawn node None candidates = quiet_followed rules state boot drawn
quiet_awaited rules state boot drawn node (Some n) candidates =
    let next = answered boot node (candidates n.weight) in quiet_or rules state next drawn next.awaited

-- blocks that come
quiet_came : (rules : Rules) (state : List ℕ) (boot : Boot) (drawn : ℕ) (requests : List Get) (r : Result Fetch BootStop) → IsQuiet (with_came rules state boot drawn requests r)
quiet_came rules state boot drawn requests (Err why) = tt
quiet_came rules state boot drawn requests (Ok f) = quiet_followed rules state (with_fetch boot f requests) drawn

quiet_requested : (rules : Rules) (state : List ℕ) (boot : Boot) (drawn : ℕ) (node : List ℕ) (number : ℕ) (blocks : List (List ℕ)) (o : Option (List ℕ))
    → IsQuiet (if_requested rules state boot drawn node number blocks o)
quiet_requested rules state boot drawn node number blocks None = quiet_followed rules state boot drawn
quiet_requested rules state boot drawn node number blocks (Some id) =
    quiet_came rules state boot drawn (closed boot.requests node number) (replied rules.header_of (fetch_of boot) id blocks)

quiet_timeout : (rules : Rules) (state : List ℕ) (boot : Boot) (drawn : ℕ) (node : List ℕ) (number : ℕ) (q : Question) → IsQuiet (timeout_by rules state boot drawn node number q)
quiet_timeout rules state boot drawn node number question.Nothing = quiet_followed rules state (with_fetch boot (fetch_of boot) (closed boot.requests node number)) drawn
quiet_timeout rules state boot drawn node number question.Frontier =
    quiet_awaited rules state boot drawn node (awaited_for boot question.Frontier number node) (λ weight. boot.candidates)
quiet_timeout rules state boot drawn node number question.Accepted =
    quiet_awaited rules state boot drawn node (awaited_for boot question.Accepted number node) (λ weight. boot.candidates)

quiet_block : (rules : Rules) (state : List ℕ) (boot : Boot) (drawn frame : ℕ) (bytes : List ℕ) (o : Option Header) → IsQuiet (if_block rules state boot drawn frame bytes o)
quiet_block rules state boot drawn frame bytes None = quiet_behind (line.Skip frame skip.Block ∷ []) (followed rules state boot drawn) refl (quiet_followed rules state boot drawn)
quiet_block rules state boot drawn frame bytes (Some header) =
    quiet_came rules state boot drawn boot.requests (came (fetch_of boot) record { header = header; bytes = bytes })

pub all_quiet : (rules : Rules) (state : List ℕ) (boot : Boot) (drawn : ℕ) → AreQuiet rules state boot drawn
unfolding frontier_came accepted_came ancestors_came timeout_came stored_came
all_quiet rules state boot drawn = record {
  frontier = λ node number id. quiet_awaited rules state boot drawn node (awaited_for boot question.Frontier number node) (λ weight. collected boot.candidates id);
  accepted = λ node number ids. quiet_awaited rules state boot drawn node (awaited_for boot question.Accepted number node) (λ weight. backed weight ids boot.candidates);
  ancestors = λ node number blocks. quiet_requested rules state boot drawn node number blocks (request_of boot.requests node number);
  timeout = λ node number. quiet_timeout rules state boot drawn node number boot.question;
  stored = λ frame bytes. quiet_block rules state boot drawn frame bytes (rules.header_of bytes);
}
