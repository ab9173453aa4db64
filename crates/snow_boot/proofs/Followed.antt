-- What each event is followed by: asking or executing.
use Rattle.std.proofs.Common.{◌≡◌, ℕ, Bool, true, false, List, [], ◌++◌, Option, Some, None, if◌then◌else◌, refl, sym, ap, subst, ◌∙◌, append-nil, append_assoc}
use Rattle.std.specs.Prelude.{Result, Ok, Err, IfOk}
use Rattle.snow_chain.specs.Model.Chain.{Rules, Held}
use Rattle.snow_gets.specs.declared.gets.Get.{Get}
use Rattle.snow_lines.specs.declared.line.Line.{Line}
use Rattle.snow_boot.specs.declared.question.Question.{Question}
use Rattle.snow_boot.specs.declared.question.Question.TheVariants as question
use Rattle.snow_boot.specs.declared.boot.Stage.{Stage}
use Rattle.snow_boot.specs.declared.boot.Stage.TheVariants as stage
use Rattle.snow_store.specs.declared.stop.BootStop.{BootStop}
use Rattle.snow_store.specs.declared.stop.BootStop.TheVariants as stop
use Rattle.snow_boot.specs.Clauses.Accepting.{Concludes}
use Rattle.snow_boot.specs.Model.Asking.{Asked, asked}
use Rattle.snow_boot.specs.Model.Booting.{Boot, Next, Going, Outcome, behind, ask_frontier, fetch_of, with_requests, finished, followed_by, followed}
use Rattle.snow_boot.specs.Clauses.Calling.{AreDrawn, LogsFront}
use Rattle.snow_boot.specs.Kept.Coursing.{boot_of, IsCourse, Comes}
use Rattle.snow_boot.specs.Kept.Fetching.{Hunt}
use Rattle.snow_boot.specs.Laws.OutcomeLaw.{IsEnd}
use Rattle.snow_store.specs.Model.Paths.{Fetch, is_whole, highest_target}
use Rattle.snow_boot.specs.Clauses.Requesting.{Asks}
use Rattle.snow_boot.specs.Kept.Surveying.{Surveyed}
use Rattle.snow_boot.proofs.Ended.{end_followed, refused_there}
use Rattle.snow_boot.proofs.Requested.{all_asked, nothing_to_ask, asking_stops}

-- what is expected may be said otherwise
pub comes_as : (r : Result Stage BootStop) (before after : List Line) (s : Surveyed) (hunt : Hunt) (requests : List Get) (first last : ℕ) (old new : Held) (a b : Outcome) → a ≡ b
    → Comes r before after s hunt requests first last old new a → Comes r before after s hunt requests first last old new b
comes_as r before after s hunt requests first last old new a b is = subst (Comes r before after s hunt requests first last old new) is

-- nothing is asked or executed while all nodes are being asked
pub follows_question : (rules : Rules) (state : List ℕ) (s : Surveyed) (hunt : Hunt) (requests : List Get) (drawn : ℕ) (held : Held) (log : List Line) (q : Question) → q ≡ s.question
    → hunt.whole ≡ true → AreDrawn requests drawn → held.last ≡ hunt.fetch.store.last → (q ≡ question.Nothing → ⊥)
    → Comes (Ok stage.Going) log log s hunt requests drawn drawn held held (followed rules state (boot_of s hunt.fetch requests) drawn)
unfolding followed
follows_question rules state s hunt requests drawn held log q is whole are last other =
    comes_as (Ok stage.Going) log log s hunt requests drawn drawn held held ([], Ok (Going (boot_of s hunt.fetch requests) drawn)) (followed_by rules state (boot_of s hunt.fetch requests) drawn s.question)
    (by_question q other ∙ ap (followed_by rules state (boot_of s hunt.fetch requests) drawn) is)
    (sym (append-nil log), refl, refl, record { whole = whole; settled = λ e. absurd (other (is ∙ e)) }, are, last)
  where
    by_question : (q : Question) → (q ≡ question.Nothing → ⊥) → (let o : Outcome = ([], Ok (Going (boot_of s hunt.fetch requests) drawn)) in o) ≡ followed_by rules state (boot_of s hunt.fetch requests) drawn q
    by_question question.Frontier other = refl
    by_question question.Accepted other = refl
    by_question question.Nothing other = absurd (other refl)

-- where no target misses a block, the path is executed
pub follows_whole : (rules : Rules) (state : List ℕ) (s : Surveyed) (hunt : Hunt) (requests : List Get) (drawn : ℕ) (old new : Held) (before after : List Line) (r : Result Stage BootStop)
    → question.Nothing ≡ s.question → is_whole hunt.fetch ≡ true
    → Concludes r before after new (finished rules state hunt.fetch.store (highest_target hunt.fetch.store.kept hunt.fetch.targets))
    → Comes r before after s hunt requests drawn drawn old new (followed rules state (boot_of s hunt.fetch requests) drawn)
unfolding followed
follows_whole rules state s hunt requests drawn old new before after r is whole x =
    let boot = boot_of s hunt.fetch requests in
    let path = finished rules state hunt.fetch.store (highest_target hunt.fetch.store.kept hunt.fetch.targets) in
    let same : path ≡ followed_by rules state boot drawn s.question =
    ap (λ (t : Bool). (let o : Outcome = if t then path else with_requests boot (asked boot.nodes (fetch_of boot) boot.targets boot.requests drawn) in o)) (sym whole)
    ∙ ap (followed_by rules state boot drawn) is in
    comes_as r before after s hunt requests drawn drawn old new path (followed_by rules state boot drawn s.question) same
    (by_result r (subst (IsEnd boot) (sym same) (end_followed rules state boot drawn)) x)
  where
    by_result : (r : Result Stage BootStop) → IsEnd (boot_of s hunt.fetch requests) (finished rules state hunt.fetch.store (highest_target hunt.fetch.store.kept hunt.fetch.targets))
        → Concludes r before after new (finished rules state hunt.fetch.store (highest_target hunt.fetch.store.kept hunt.fetch.targets))
        → Comes r before after s hunt requests drawn drawn old new (finished rules state hunt.fetch.store (highest_target hunt.fetch.store.kept hunt.fetch.targets))
    by_result (Ok stage.Going) ends x = absurd x
    by_result (Ok (stage.Done id height)) ends x = (x.0, x.1, x.2, x.3, refl, ends)
    by_result (Err stop.Memory) ends x = x
    by_result (Err (stop.Conflict height first second)) ends x = x
    by_result (Err (stop.Fork id parent)) ends x = x
    by_result (Err (stop.Refused id)) ends x =
        let path = finished rules state hunt.fetch.store (highest_target hunt.fetch.store.kept hunt.fetch.targets) in
        (x.0, x.1, refused_there path (boot_of s hunt.fetch requests) before after id ends whole x.0 x.1)
    by_result (Err stop.Full) ends x = x
    by_result (Err stop.Requests) ends x = x

-- what comes of the requests
with_ok : (boot : Boot) (a : Asked) (requests : List Get) (drawn : ℕ) → a.1 ≡ Ok (requests, drawn)
    → with_requests boot a ≡ (
      a.0,
      Ok (Going record {
        store = boot.store;
        nodes = boot.nodes;
        question = boot.question;
        number = boot.number;
        awaited = boot.awaited;
        candidates = boot.candidates;
        targets = boot.targets;
        found = boot.found;
        requests = requests;
      } drawn),
    )
with_ok boot (lines, Err why) requests drawn e = cc
with_ok boot (lines, Ok (r, d)) requests drawn e = ap (λ (p : List Get × ℕ). (let o : Outcome = (
  lines,
  Ok (Going record {
    store = boot.store;
    nodes = boot.nodes;
    question = boot.question;
    number = boot.number;
    awaited = boot.awaited;
    candidates = boot.candidates;
    targets = boot.targets;
    found = boot.found;
    requests = p.0;
  } p.1),
) in o)) (ap found e)
  where
    found : Result (List Get × ℕ) BootStop → List Get × ℕ
    found (Ok p) = p
    found (Err why) = (r, d)

with_stop : (boot : Boot) (a : Asked) (why : BootStop) → a.1 ≡ Err why → with_requests boot a ≡ (a.0, Err why)
with_stop boot (lines, Err reason) why e = ap (λ w. (let o : Outcome = (lines, Err w) in o)) (ap found e)
  where
    found : Result (List Get × ℕ) BootStop → BootStop
    found (Ok p) = reason
    found (Err w) = w
with_stop boot (lines, Ok (r, d)) why e = cc

with_lines : (boot : Boot) (a : Asked) → (with_requests boot a).0 ≡ a.0
with_lines boot (lines, Err why) = refl
with_lines boot (lines, Ok (r, d)) = refl

-- the outcome where something is missed
asks_there : (rules : Rules) (state : List ℕ) (s : Surveyed) (f : Fetch) (requests : List Get) (drawn : ℕ) → question.Nothing ≡ s.question → is_whole f ≡ false
    → with_requests (boot_of s f requests) (asked s.nodes f f.targets requests drawn) ≡ followed rules state (boot_of s f requests) drawn
unfolding followed
asks_there rules state s f requests drawn is missing =
    let boot = boot_of s f requests in
    ap (λ (t : Bool). (let o : Outcome = if t then finished rules state f.store (highest_target f.store.kept f.targets) else with_requests boot (asked s.nodes f f.targets requests drawn) in o)) (sym missing)
    ∙ ap (followed_by rules state boot drawn) is

-- where a target misses a block, it is asked for
pub follows_asked : (rules : Rules) (state : List ℕ) (s : Surveyed) (hunt : Hunt) (requests more : List Get) (drawn last : ℕ) (held : Held) (before after : List Line)
    → question.Nothing ≡ s.question → hunt.whole ≡ true → held.last ≡ hunt.fetch.store.last → is_whole hunt.fetch ≡ false → Asks (Ok tt) before after more last (asked s.nodes hunt.fetch hunt.fetch.targets requests drawn)
    → Comes (Ok stage.Going) before after s hunt more drawn last held held (followed rules state (boot_of s hunt.fetch requests) drawn)
follows_asked rules state s hunt requests more drawn last held before after is kept same missing a =
    let f = hunt.fetch in
    let what = asked s.nodes f f.targets requests drawn in
    let outcome : followed rules state (boot_of s f requests) drawn ≡ (what.0, Ok (Going (boot_of s f more) last)) =
    sym (asks_there rules state s f requests drawn is missing) ∙ with_ok (boot_of s f requests) what more last a.1 in
    comes_as (Ok stage.Going) before after s hunt more drawn last held held (what.0, Ok (Going (boot_of s f more) last)) (followed rules state (boot_of s f requests) drawn) (sym outcome)
    (a.0, refl, refl, record { whole = kept; settled = λ e. record { missing = missing; asked = all_asked s.nodes f f.targets requests more drawn last a.1 } }, a.2, same)

-- no block is refused where what is missed is asked for
other_stop : (id : List ℕ) {P : Type 0} → stop.Refused id ≡ stop.Requests → P
other_stop id e = cc

pub follows_stopped : (rules : Rules) (state : List ℕ) (s : Surveyed) (hunt : Hunt) (requests more : List Get) (drawn last : ℕ) (held : Held) (before after : List Line) (why : BootStop)
    → question.Nothing ≡ s.question → is_whole hunt.fetch ≡ false → Asks (Err why) before after more last (asked s.nodes hunt.fetch hunt.fetch.targets requests drawn)
    → Comes (Err why) before after s hunt more drawn last held held (followed rules state (boot_of s hunt.fetch requests) drawn)
follows_stopped rules state s hunt requests more drawn last held before after why is missing a =
    comes_as (Err why) before after s hunt more drawn last held held (with_requests (boot_of s f requests) what) (followed rules state (boot_of s f requests) drawn)
    (asks_there rules state s f requests drawn is missing) (by_stop why a)
  where
    f : Fetch
    f = hunt.fetch

    what : Asked
    what = asked s.nodes hunt.fetch hunt.fetch.targets requests drawn

    stopped : (why : BootStop) → (after ≡ before ++ what.0) × (what.1 ≡ Err why)
        → (after ≡ before ++ (with_requests (boot_of s f requests) what).0) × ((with_requests (boot_of s f requests) what).1 ≡ Err why)
    stopped why a =
        let e = with_stop (boot_of s f requests) what why a.1 in
        (a.0 ∙ ap (λ (o : Outcome). before ++ o.0) (sym e), ap (λ (o : Outcome). o.1) e)

    by_stop : (why : BootStop) → Asks (Err why) before after more last what → Comes (Err why) before after s hunt more drawn last held held (with_requests (boot_of s f requests) what)
    by_stop stop.Memory a = subst (LogsFront before after) (sym (with_lines (boot_of s f requests) what)) a
    by_stop (stop.Conflict height first second) a = stopped (stop.Conflict height first second) a
    by_stop (stop.Fork id parent) a = stopped (stop.Fork id parent) a
    by_stop (stop.Refused id) a = other_stop id (asking_stops s.nodes f f.targets requests drawn (stop.Refused id) a.1)
    by_stop stop.Full a = stopped stop.Full a
    by_stop stop.Requests a = stopped stop.Requests a

-- what nobody waits for leaves all as it is
pub ignored : (rules : Rules) (state : List ℕ) (s : Surveyed) (hunt : Hunt) (requests : List Get) (drawn : ℕ) → IsCourse s hunt requests
    → followed rules state (boot_of s hunt.fetch requests) drawn ≡ ([], Ok (Going (boot_of s hunt.fetch requests) drawn))
unfolding followed
ignored rules state s hunt requests drawn course = by_question s.question refl
  where
    f : Fetch
    f = hunt.fetch

    by_question : (q : Question) → s.question ≡ q → followed_by rules state (boot_of s hunt.fetch requests) drawn q ≡ ([], Ok (Going (boot_of s hunt.fetch requests) drawn))
    by_question question.Frontier is = refl
    by_question question.Accepted is = refl
    by_question question.Nothing is =
        let boot = boot_of s f requests in
        let settled = course.settled is in
        ap (λ (t : Bool). (let o : Outcome = if t then finished rules state f.store (highest_target f.store.kept f.targets) else with_requests boot (asked s.nodes f f.targets requests drawn) in o)) settled.missing
        ∙ ap (with_requests boot) (nothing_to_ask s.nodes f f.targets requests drawn settled.asked)

pub comes_ignored : (rules : Rules) (state : List ℕ) (s : Surveyed) (hunt : Hunt) (requests : List Get) (drawn : ℕ) (held : Held) (log : List Line) → IsCourse s hunt requests → AreDrawn requests drawn
    → held.last ≡ hunt.fetch.store.last → Comes (Ok stage.Going) log log s hunt requests drawn drawn held held (followed rules state (boot_of s hunt.fetch requests) drawn)
comes_ignored rules state s hunt requests drawn held log course are last =
    comes_as (Ok stage.Going) log log s hunt requests drawn drawn held held ([], Ok (Going (boot_of s hunt.fetch requests) drawn)) (followed rules state (boot_of s hunt.fetch requests) drawn)
    (sym (ignored rules state s hunt requests drawn course))
    (sym (append-nil log), refl, refl, course, are, last)

-- so where an event comes to nothing more, all stays
pub stays : (rules : Rules) (state : List ℕ) (s : Surveyed) (hunt : Hunt) (requests : List Get) (drawn : ℕ) (held : Held) (log : List Line) (o : Outcome)
    → followed rules state (boot_of s hunt.fetch requests) drawn ≡ o → IsCourse s hunt requests → AreDrawn requests drawn → held.last ≡ hunt.fetch.store.last
    → Comes (Ok stage.Going) log log s hunt requests drawn drawn held held o
stays rules state s hunt requests drawn held log o is course are last =
    comes_as (Ok stage.Going) log log s hunt requests drawn drawn held held (followed rules state (boot_of s hunt.fetch requests) drawn) o is
    (comes_ignored rules state s hunt requests drawn held log course are last)

-- no block is refused where asking goes on, or where all nodes are asked for their frontier
pub going_on : (boot : Boot) (drawn : ℕ) (id : List ℕ) → (let r : Result Next BootStop = Ok (Going boot drawn) in r) ≡ Err (stop.Refused id) → ⊥
going_on boot drawn id e = cc

pub frontier_refuses : (boot : Boot) (number : Option ℕ) (id : List ℕ) → (ask_frontier boot number).1 ≡ Err (stop.Refused id) → ⊥
frontier_refuses boot None id e = cc
frontier_refuses boot (Some number) id e = cc

-- lines in front, where no block is refused
pub comes_behind : (r : Result Stage BootStop) (before mid after lines : List Line) (s : Surveyed) (hunt : Hunt) (requests : List Get) (first last : ℕ) (old new : Held) (o : Outcome) → IfOk r (λ came. came ≡ stage.Going)
    → ((id : List ℕ) → o.1 ≡ Err (stop.Refused id) → ⊥) → mid ≡ before ++ lines → Comes r mid after s hunt requests first last old new o → Comes r before after s hunt requests first last old new (behind lines o)
comes_behind r before mid after lines s hunt requests first last old new o goes never is c = by_result r goes c
  where
    grown : after ≡ mid ++ o.0 → after ≡ before ++ (lines ++ o.0)
    grown e = e ∙ ap (λ l. l ++ o.0) is ∙ append_assoc before lines o.0

    by_result : (r : Result Stage BootStop) → IfOk r (λ came. came ≡ stage.Going) → Comes r mid after s hunt requests first last old new o → Comes r before after s hunt requests first last old new (behind lines o)
    by_result (Ok stage.Going) goes c = (grown c.0, c.1, c.2, c.3, c.4, c.5)
    by_result (Ok (stage.Done id height)) goes c = cc
    by_result (Err stop.Memory) goes c = record {
      front = lines ++ c.front;
      rest = c.rest;
      whole = append_assoc lines c.front c.rest ∙ ap (λ l. lines ++ l) c.whole;
      grown = c.grown ∙ ap (λ l. l ++ c.front) is ∙ append_assoc before lines c.front;
    }
    by_result (Err (stop.Conflict height first second)) goes c = (grown c.0, c.1)
    by_result (Err (stop.Fork id parent)) goes c = (grown c.0, c.1)
    by_result (Err (stop.Refused id)) goes c = absurd (never id c.1)
    by_result (Err stop.Full) goes c = (grown c.0, c.1)
    by_result (Err stop.Requests) goes c = (grown c.0, c.1)
