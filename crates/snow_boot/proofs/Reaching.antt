-- The kept blocks of each node that can be reached are linked.
use Rattle.std.proofs.Common.{◌≡◌, ℕ, Bool, true, false, List, [], ◌∷◌, Option, Some, None, if◌then◌else◌, refl, sym, subst}
use Rattle.std.specs.Prelude.{Result, Ok, Err, ⊤}
use Rattle.snow_base.specs.declared.block.Header.{Header}
use Rattle.snow_base.specs.Model.Numbers.{next_number}
use Rattle.snow_chain.specs.Model.Chain.{Rules}
use Rattle.snow_lines.specs.declared.line.Line.{Line}
use Rattle.snow_lines.specs.declared.line.Line.TheVariants as line
use Rattle.snow_lines.specs.declared.why.SkipKind.TheVariants as skip
use Rattle.snow_store.specs.declared.store.KeptBlock.{KeptBlock}
use Rattle.snow_store.specs.declared.stop.BootStop.{BootStop}
use Rattle.snow_store.specs.declared.stop.Verdict.{Verdict}
use Rattle.snow_store.specs.declared.stop.Verdict.TheVariants as verdict
use Rattle.snow_store.specs.Clauses.Coming.{after_verdict, if_taken, came}
use Rattle.snow_store.specs.Model.Keeping.{held, taken}
use Rattle.snow_store.specs.Laws.Linking.{IsLinked}
use Rattle.snow_store.specs.Model.Paths.{Fetch, is_whole, highest_target, path_up}
use Rattle.snow_store.proofs.Cases.{none_not}
use Rattle.snow_store.proofs.Linked.{kept_linked}
use Rattle.snow_boot.specs.declared.question.Question.{Question}
use Rattle.snow_boot.specs.declared.question.Question.TheVariants as question
use Rattle.snow_boot.specs.Model.Asking.{Asked, asked}
use Rattle.snow_boot.specs.Model.Booting.{Boot, Going, Done, Outcome, behind, ask_frontier, begun, started, fetch_of, with_requests, height_or, ended, finished, followed_by, followed, request_of}
use Rattle.snow_boot.specs.Model.Executing.{Executed, executed}
use Rattle.snow_boot.specs.Laws.Reached.{Event, Frontier, Accepted, Ancestors, Timeout, Stored, outcome_of, Reached, Began, Went, fetched_for, fetched_one, fetched_by}
use Rattle.snow_boot.specs.Model.Replying.{if_wanted, with_taken, with_wanted, replied}
use Rattle.snow_boot.proofs.Stepping.{passed}

-- ---- blocks that come

abbrev LinkedFetch : Result Fetch BootStop → Type 0
LinkedFetch (Ok f) = IsLinked f.store
LinkedFetch (Err why) = ⊤

linked_taken : (f : Fetch) (b : KeptBlock) (more : Fetch → Result Fetch BootStop) → IsLinked f.store → ((x : Fetch) → IsLinked x.store → LinkedFetch (more x))
    → (r : Result Verdict BootStop) → taken f.store b.header ≡ r → LinkedFetch (with_taken f b r more)
linked_taken f b more l rest (Err why) e = tt
linked_taken f b more l rest (Ok verdict.Keeps) e = rest (after_verdict f b verdict.Keeps) (kept_linked f.store b l e)
linked_taken f b more l rest (Ok verdict.Known) e = rest f l
linked_taken f b more l rest (Ok verdict.Low) e = l

linked_wanted : (f : Fetch) (bytes : List ℕ) (o : Option Header) (more : Header → Fetch → Result Fetch BootStop) → IsLinked f.store
    → ((h : Header) (x : Fetch) → IsLinked x.store → LinkedFetch (more h x)) → LinkedFetch (with_wanted f bytes o more)
linked_wanted f bytes None more l rest = l
linked_wanted f bytes (Some h) more l rest = linked_taken f record { header = h; bytes = bytes } (more h) l (rest h) (taken f.store h) refl

linked_replied : (header_of : List ℕ → Option Header) (f : Fetch) (id : List ℕ) (blocks : List (List ℕ)) → IsLinked f.store → LinkedFetch (replied header_of f id blocks)
unfolding replied
linked_replied header_of f id [] l = l
linked_replied header_of f id (bytes ∷ blocks) l =
    linked_wanted f bytes (if_wanted id (header_of bytes)) (λ h x. replied header_of x h.parent blocks) l (λ h x linked. linked_replied header_of x h.parent blocks linked)

linked_came : (f : Fetch) (b : KeptBlock) → IsLinked f.store → LinkedFetch (came f b)
linked_came f b l = by_verdict (taken f.store b.header) refl
  where
    by_verdict : (r : Result Verdict BootStop) → taken f.store b.header ≡ r → LinkedFetch (if_taken f b r)
    by_verdict (Err why) e = tt
    by_verdict (Ok verdict.Keeps) e = kept_linked f.store b l e
    by_verdict (Ok verdict.Known) e = l
    by_verdict (Ok verdict.Low) e = l

linked_for : (header_of : List ℕ → Option Header) (f : Fetch) (blocks : List (List ℕ)) (o : Option (List ℕ)) → IsLinked f.store → LinkedFetch (fetched_for header_of f blocks o)
linked_for header_of f blocks None l = l
linked_for header_of f blocks (Some id) l = linked_replied header_of f id blocks l

linked_one : (f : Fetch) (bytes : List ℕ) (o : Option Header) → IsLinked f.store → LinkedFetch (fetched_one f bytes o)
linked_one f bytes None l = l
linked_one f bytes (Some header) l = linked_came f record { header = header; bytes = bytes } l

linked_by : (rules : Rules) (boot : Boot) (event : Event) → IsLinked boot.store → LinkedFetch (fetched_by rules boot event)
linked_by rules boot (Frontier node number id) l = l
linked_by rules boot (Accepted node number ids) l = l
linked_by rules boot (Ancestors node number blocks) l = linked_for rules.header_of (fetch_of boot) blocks (request_of boot.requests node number) l
linked_by rules boot (Timeout node number) l = l
linked_by rules boot (Stored frame bytes) l = linked_one (fetch_of boot) bytes (rules.header_of bytes) l

pub linked_fetched : (rules : Rules) (boot : Boot) (event : Event) (f : Fetch) → IsLinked boot.store → fetched_by rules boot event ≡ Ok f → IsLinked f.store
linked_fetched rules boot event f l e = subst LinkedFetch e (linked_by rules boot event l)

-- ---- events

abbrev LinkedOn : Outcome → Type 0
LinkedOn (lines, Ok (Going boot drawn)) = IsLinked boot.store
LinkedOn (lines, Ok (Done last height state)) = ⊤
LinkedOn (lines, Err why) = ⊤

linked_behind : (lines : List Line) (o : Outcome) → LinkedOn o → LinkedOn (behind lines o)
linked_behind lines (more, Ok (Going boot drawn)) l = l
linked_behind lines (more, Ok (Done last height state)) l = tt
linked_behind lines (more, Err why) l = tt

linked_ended : (height : ℕ) (e : Executed) → LinkedOn (ended height e)
linked_ended height (lines, Ok (last, state)) = tt
linked_ended height (lines, Err why) = tt

linked_requests : (boot : Boot) (a : Asked) → IsLinked boot.store → LinkedOn (with_requests boot a)
linked_requests boot (lines, Ok (requests, drawn)) l = l
linked_requests boot (lines, Err why) l = tt

linked_test : (t : Bool) (one other : Outcome) → LinkedOn one → LinkedOn other → LinkedOn (if t then one else other)
linked_test true one other p q = p
linked_test false one other p q = q

linked_followed : (rules : Rules) (state : List ℕ) (boot : Boot) (drawn : ℕ) → IsLinked boot.store → LinkedOn (followed rules state boot drawn)
unfolding followed
linked_followed rules state boot drawn l = by_question boot.question
  where
    by_question : (q : Question) → LinkedOn (followed_by rules state boot drawn q)
    by_question question.Nothing =
        let top = highest_target boot.store.kept boot.targets in
        linked_test (is_whole (fetch_of boot)) (finished rules state boot.store top) (with_requests boot (asked boot.nodes (fetch_of boot) boot.targets boot.requests drawn))
        (linked_ended (height_or boot.store.height top) (executed rules boot.store.last state (path_up boot.store.kept top)))
        (linked_requests boot (asked boot.nodes (fetch_of boot) boot.targets boot.requests drawn) l)
    by_question question.Frontier = l
    by_question question.Accepted = l

linked_event : (rules : Rules) (state : List ℕ) (boot : Boot) (drawn : ℕ) (event : Event) → IsLinked boot.store → LinkedOn (outcome_of rules state boot drawn event)
linked_event rules state boot drawn event l =
    passed {P = LinkedOn} rules state boot drawn event record {
      asks = λ lines now number same. subst IsLinked (sym same) l;
      ends = λ lines quiet. tt;
      stops = λ why e. tt;
      follows = λ now number f e same. linked_followed rules state now number (subst IsLinked (sym same) (linked_fetched rules boot event f l e));
      skips = λ frame now number f e same.
          linked_behind (line.Skip frame skip.Block ∷ []) (followed rules state now number) (linked_followed rules state now number (subst IsLinked (sym same) (linked_fetched rules boot event f l e)));
    }

-- ---- nodes that can be reached

none_linked : (last : List ℕ) (height : ℕ) → IsLinked record { last = last; height = height; kept = [] }
unfolding held
none_linked last height = record { apart = tt; above = tt; founded = λ b e. none_not b e; linked = λ h x b e f. none_not x e }

linked_at_first : (boot : Boot) (o : Option ℕ) → IsLinked boot.store → LinkedOn (ask_frontier boot o)
linked_at_first boot None l = tt
linked_at_first boot (Some number) l = l

going_on : (o : Outcome) (boot : Boot) (drawn : ℕ) → LinkedOn o → o.1 ≡ Ok (Going boot drawn) → IsLinked boot.store
going_on (lines, Ok (Going now last)) boot drawn l e = let same : now ≡ boot = cc in subst (λ (x : Boot). IsLinked x.store) same l
going_on (lines, Ok (Done last height state)) boot drawn l e = cc
going_on (lines, Err why) boot drawn l e = cc

pub reached_linked : (rules : Rules) (state : List ℕ) (boot : Boot) (drawn : ℕ) → Reached rules state boot drawn → IsLinked boot.store
unfolding started
reached_linked rules state boot drawn (Began last height nodes before now number e) =
    let first = begun last height nodes in
    going_on (ask_frontier first (next_number before)) now number (linked_at_first first (next_number before) (none_linked last height)) e
reached_linked rules state boot drawn (Went before number event now more reached e) =
    going_on (outcome_of rules state before number event) now more (linked_event rules state before number event (reached_linked rules state before number reached)) e
