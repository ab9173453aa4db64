-- What each event makes of the parts of a node that bootstraps.
use Rattle.std.proofs.Common.{◌≡◌, ℕ, zero, suc, true, false, List, [], ◌∷◌, ◌++◌, Option, Some, None, find, inl, refl, sym, ap, subst, ◌∙◌, append-nil}
use Rattle.std.specs.Prelude.{Result, Ok, Err, is_none}
use Rattle.std.specs.List.{position_or_len, remove}
use Rattle.std.specs.Option.{option_map}
use Rattle.snow_base.specs.declared.block.Header.{Header}
use Rattle.snow_chain.specs.Model.Chain.{Rules, Held}
use Rattle.snow_gets.specs.declared.gets.Get.{Get}
use Rattle.snow_gets.specs.Model.Gets.{is_get, without}
use Rattle.snow_gets.proofs.Asking.{none_without}
use Rattle.snow_lines.specs.declared.line.Line.{Line}
use Rattle.snow_lines.specs.declared.line.Line.TheVariants as line
use Rattle.snow_lines.specs.declared.why.SkipKind.TheVariants as skip
use Rattle.snow_sample.specs.declared.roster.Node.{Node}
use Rattle.snow_store.specs.declared.store.KeptBlock.{KeptBlock}
use Rattle.snow_boot.specs.declared.question.Candidate.{Candidate}
use Rattle.snow_boot.specs.declared.question.Question.{Question}
use Rattle.snow_boot.specs.declared.question.Question.TheVariants as question
use Rattle.snow_boot.specs.declared.boot.Stage.TheVariants as stage
use Rattle.snow_store.specs.declared.stop.BootStop.{BootStop}
use Rattle.snow_store.specs.declared.stop.BootStop.TheVariants as stop
use Rattle.snow_store.specs.declared.stop.Verdict.{Verdict}
use Rattle.snow_store.specs.declared.stop.Verdict.TheVariants as verdict
use Rattle.snow_boot.specs.Model.Booting.{Boot, Outcome, behind, followed, answered, or_all, if_awaited, awaited_by, request_of, with_came, if_requested, if_block, timeout_by, frontier_came, accepted_came, ancestors_came, timeout_came, stored_came}
use Rattle.snow_boot.specs.Clauses.Calling.{AreDrawn}
use Rattle.snow_boot.specs.Kept.Coursing.{boot_of, IsCourse, Comes}
use Rattle.snow_boot.specs.Model.Electing.{still_awaited, collected, backed}
use Rattle.snow_boot.specs.Kept.Fetching.{Hunt, Fetches}
use Rattle.snow_store.specs.Model.Keeping.{taken, Answers}
use Rattle.snow_store.specs.Model.Paths.{Fetch}
use Rattle.snow_store.specs.Clauses.Coming.{after_verdict, if_taken}
use Rattle.snow_boot.specs.Model.Replying.{replied}
use Rattle.snow_boot.specs.Kept.Surveying.{Surveyed}
use Rattle.snow_boot.proofs.Followed.{comes_as, ignored, comes_ignored, stays, going_on, comes_behind}
use Rattle.snow_boot.proofs.Replied.{replied_same}
use Rattle.snow_store.proofs.Cases.{clash, none_not, same_some}

-- ---- answers of all nodes

-- nobody waits for it
unheard : (rules : Rules) (state : List ℕ) (boot : Boot) (drawn : ℕ) (node : List ℕ) (o : Option Node) (candidates : ℕ → List Candidate) → is_none (option_map (λ (n : Node). n.weight) o) ≡ true
    → followed rules state boot drawn ≡ if_awaited rules state boot drawn node o candidates
unheard rules state boot drawn node None candidates e = refl
unheard rules state boot drawn node (Some n) candidates e = clash true refl (sym e)

-- it was awaited
heard : (rules : Rules) (state : List ℕ) (boot : Boot) (drawn : ℕ) (node : List ℕ) (o : Option Node) (weight : ℕ) (candidates : ℕ → List Candidate) → Some weight ≡ option_map (λ (n : Node). n.weight) o
    → or_all rules state (answered boot node (candidates weight)) drawn (still_awaited boot.awaited node) ≡ if_awaited rules state boot drawn node o candidates
heard rules state boot drawn node None weight candidates e = none_not weight (sym e)
heard rules state boot drawn node (Some n) weight candidates e =
    ap (λ w. or_all rules state (answered boot node (candidates w)) drawn (still_awaited boot.awaited node)) (same_some weight n.weight e)

-- it was awaited, whatever its weight
heard_any : (rules : Rules) (state : List ℕ) (boot : Boot) (drawn : ℕ) (node : List ℕ) (o : Option Node) (candidates : List Candidate) → is_none (option_map (λ (n : Node). n.weight) o) ≡ false
    → or_all rules state (answered boot node candidates) drawn (still_awaited boot.awaited node) ≡ if_awaited rules state boot drawn node o (λ weight. candidates)
heard_any rules state boot drawn node None candidates e = clash true refl e
heard_any rules state boot drawn node (Some n) candidates e = refl

-- the weight of a node whose answer is awaited
abbrev pub weight_by : Surveyed → Question → ℕ → List ℕ → Option ℕ
weight_by s q number node = option_map (λ n. n.weight) (awaited_by s.question s.number s.awaited q number node)

pub frontier_ignored : (rules : Rules) (state : List ℕ) (s : Surveyed) (f : Fetch) (requests : List Get) (drawn : ℕ) (node : List ℕ) (number : ℕ) (id : List ℕ)
    → None ≡ weight_by s question.Frontier number node
    → followed rules state (boot_of s f requests) drawn ≡ frontier_came rules state (boot_of s f requests) drawn node number id
unfolding frontier_came
frontier_ignored rules state s f requests drawn node number id e =
    unheard rules state (boot_of s f requests) drawn node (awaited_by s.question s.number s.awaited question.Frontier number node) (λ weight. collected s.candidates id) (ap is_none (sym e))

pub frontier_heard : (rules : Rules) (state : List ℕ) (s now : Surveyed) (f : Fetch) (requests : List Get) (drawn : ℕ) (node : List ℕ) (number : ℕ) (id : List ℕ)
    → is_none (weight_by s question.Frontier number node) ≡ false
    → now ≡ record { nodes = s.nodes; question = s.question; number = s.number; awaited = still_awaited s.awaited node; candidates = collected s.candidates id }
    → or_all rules state (boot_of now f requests) drawn now.awaited ≡ frontier_came rules state (boot_of s f requests) drawn node number id
unfolding frontier_came
frontier_heard rules state s now f requests drawn node number id e is =
    ap (λ (t : Surveyed). or_all rules state (boot_of t f requests) drawn t.awaited) is
    ∙ heard_any rules state (boot_of s f requests) drawn node (awaited_by s.question s.number s.awaited question.Frontier number node) (collected s.candidates id) e

pub accepted_ignored : (rules : Rules) (state : List ℕ) (s : Surveyed) (f : Fetch) (requests : List Get) (drawn : ℕ) (node : List ℕ) (number : ℕ) (ids : List (List ℕ))
    → None ≡ weight_by s question.Accepted number node
    → followed rules state (boot_of s f requests) drawn ≡ accepted_came rules state (boot_of s f requests) drawn node number ids
unfolding accepted_came
accepted_ignored rules state s f requests drawn node number ids e =
    unheard rules state (boot_of s f requests) drawn node (awaited_by s.question s.number s.awaited question.Accepted number node) (λ weight. backed weight ids s.candidates) (ap is_none (sym e))

pub accepted_heard : (rules : Rules) (state : List ℕ) (s now : Surveyed) (f : Fetch) (requests : List Get) (drawn : ℕ) (node : List ℕ) (number weight : ℕ) (ids : List (List ℕ))
    → Some weight ≡ weight_by s question.Accepted number node
    → now ≡ record { nodes = s.nodes; question = s.question; number = s.number; awaited = still_awaited s.awaited node; candidates = backed weight ids s.candidates }
    → or_all rules state (boot_of now f requests) drawn now.awaited ≡ accepted_came rules state (boot_of s f requests) drawn node number ids
unfolding accepted_came
accepted_heard rules state s now f requests drawn node number weight ids e is =
    ap (λ (t : Surveyed). or_all rules state (boot_of t f requests) drawn t.awaited) is
    ∙ heard rules state (boot_of s f requests) drawn node (awaited_by s.question s.number s.awaited question.Accepted number node) weight (λ weight. backed weight ids s.candidates) e

-- ---- a node doesn't answer

pub timeout_closed : (rules : Rules) (state : List ℕ) (s : Surveyed) (f : Fetch) (requests more : List Get) (drawn : ℕ) (node : List ℕ) (number : ℕ) → question.Nothing ≡ s.question
    → more ≡ without (is_get number node) requests
    → followed rules state (boot_of s f more) drawn ≡ timeout_came rules state (boot_of s f requests) drawn node number
unfolding timeout_came
timeout_closed rules state s f requests more drawn node number q is =
    ap (λ l. followed rules state (boot_of s f l) drawn) is ∙ ap (timeout_by rules state (boot_of s f requests) drawn node number) q

timeout_other : (rules : Rules) (state : List ℕ) (s : Surveyed) (f : Fetch) (requests : List Get) (drawn : ℕ) (node : List ℕ) (number : ℕ) (q : Question) → (q ≡ question.Nothing → ⊥) → q ≡ s.question
    → if_awaited rules state (boot_of s f requests) drawn node (awaited_by s.question s.number s.awaited q number node) (λ weight. s.candidates) ≡ timeout_came rules state (boot_of s f requests) drawn node number
unfolding timeout_came
timeout_other rules state s f requests drawn node number question.Nothing other is = absurd (other refl)
timeout_other rules state s f requests drawn node number question.Frontier other is = ap (timeout_by rules state (boot_of s f requests) drawn node number) is
timeout_other rules state s f requests drawn node number question.Accepted other is = ap (timeout_by rules state (boot_of s f requests) drawn node number) is

pub timeout_ignored : (rules : Rules) (state : List ℕ) (s : Surveyed) (f : Fetch) (requests : List Get) (drawn : ℕ) (node : List ℕ) (number : ℕ) (q : Question) → (q ≡ question.Nothing → ⊥)
    → q ≡ s.question → None ≡ weight_by s q number node
    → followed rules state (boot_of s f requests) drawn ≡ timeout_came rules state (boot_of s f requests) drawn node number
timeout_ignored rules state s f requests drawn node number q other is e =
    unheard rules state (boot_of s f requests) drawn node (awaited_by s.question s.number s.awaited q number node) (λ weight. s.candidates) (ap is_none (sym e))
    ∙ timeout_other rules state s f requests drawn node number q other is

pub timeout_heard : (rules : Rules) (state : List ℕ) (s now : Surveyed) (f : Fetch) (requests : List Get) (drawn : ℕ) (node : List ℕ) (number : ℕ) (q : Question) → (q ≡ question.Nothing → ⊥)
    → q ≡ s.question → is_none (weight_by s q number node) ≡ false
    → now ≡ record { nodes = s.nodes; question = s.question; number = s.number; awaited = still_awaited s.awaited node; candidates = s.candidates }
    → or_all rules state (boot_of now f requests) drawn now.awaited ≡ timeout_came rules state (boot_of s f requests) drawn node number
timeout_heard rules state s now f requests drawn node number q other same e is =
    ap (λ (t : Surveyed). or_all rules state (boot_of t f requests) drawn t.awaited) is
    ∙ heard_any rules state (boot_of s f requests) drawn node (awaited_by s.question s.number s.awaited q number node) s.candidates e
    ∙ timeout_other rules state s f requests drawn node number q other same

-- ---- replies

-- a request that is closed leaves the others drawn
drawn_removed : (requests : List Get) (drawn at : ℕ) → AreDrawn requests drawn → AreDrawn (remove requests at) drawn
drawn_removed [] drawn zero are = tt
drawn_removed [] drawn (suc at) are = tt
drawn_removed (r ∷ requests) drawn zero are = are.1
drawn_removed (r ∷ requests) drawn (suc at) are = (are.0, drawn_removed requests drawn at are.1)

pub drawn_without : (requests more : List Get) (drawn number : ℕ) (node : List ℕ) → more ≡ without (is_get number node) requests → AreDrawn requests drawn → AreDrawn more drawn
drawn_without requests more drawn number node is are = subst (λ l. AreDrawn l drawn) (sym is) (drawn_removed requests drawn (position_or_len (is_get number node) requests) are)

-- no request is open
none_open : (o : Option Get) → None ≡ option_map (λ (g : Get). g.id) o → o ≡ None
none_open None e = refl
none_open (Some g) e = none_not g.id e

pub reply_ignored : (rules : Rules) (state : List ℕ) (s : Surveyed) (hunt : Hunt) (requests more : List Get) (drawn : ℕ) (held : Held) (log : List Line) (node : List ℕ) (number : ℕ) (blocks : List (List ℕ))
    → IsCourse s hunt requests → AreDrawn requests drawn → held.last ≡ hunt.fetch.store.last → None ≡ request_of requests node number → more ≡ without (is_get number node) requests
    → Comes (Ok stage.Going) log log s hunt more drawn drawn held held (ancestors_came rules state (boot_of s hunt.fetch requests) drawn node number blocks)
unfolding ancestors_came
reply_ignored rules state s hunt requests more drawn held log node number blocks course are last none left =
    let same : requests ≡ more = none_without (is_get number node) requests (none_open (find (is_get number node) requests) none) ∙ sym left in
    subst (λ l. Comes (Ok stage.Going) log log s hunt l drawn drawn held held (ancestors_came rules state (boot_of s hunt.fetch requests) drawn node number blocks)) same
    (stays rules state s hunt requests drawn held log (ancestors_came rules state (boot_of s hunt.fetch requests) drawn node number blocks)
    (ap (if_requested rules state (boot_of s hunt.fetch requests) drawn node number blocks) none) course are last)

-- the blocks came, and all that follows
reply_is : (rules : Rules) (state : List ℕ) (s : Surveyed) (f : Fetch) (requests more : List Get) (drawn : ℕ) (node : List ℕ) (number : ℕ) (id : List ℕ) (blocks : List (List ℕ)) (r : Result Fetch BootStop)
    → Some id ≡ request_of requests node number → more ≡ without (is_get number node) requests → replied rules.header_of f id blocks ≡ r
    → with_came rules state (boot_of s f requests) drawn more r ≡ ancestors_came rules state (boot_of s f requests) drawn node number blocks
unfolding ancestors_came
reply_is rules state s f requests more drawn node number id blocks r found left is =
    ap (with_came rules state (boot_of s f requests) drawn more) (sym is)
    ∙ ap (λ l. with_came rules state (boot_of s f requests) drawn l (replied rules.header_of f id blocks)) left
    ∙ ap (if_requested rules state (boot_of s f requests) drawn node number blocks) found

pub reply_came : (rules : Rules) (state : List ℕ) (s : Surveyed) (f g : Fetch) (requests more : List Get) (drawn : ℕ) (node : List ℕ) (number : ℕ) (id : List ℕ) (blocks : List (List ℕ))
    → Some id ≡ request_of requests node number → more ≡ without (is_get number node) requests → replied rules.header_of f id blocks ≡ Ok g
    → followed rules state (boot_of s g more) drawn ≡ ancestors_came rules state (boot_of s f requests) drawn node number blocks
reply_came rules state s f g requests more drawn node number id blocks found left is =
    targets_stay ∙ reply_is rules state s f requests more drawn node number id blocks (Ok g) found left is
  where
    targets_stay : followed rules state (boot_of s g more) drawn ≡ with_came rules state (boot_of s f requests) drawn more (Ok g)
    targets_stay = ap (λ ts. followed rules state (boot_of s record { store = g.store; targets = ts; found = g.found } more) drawn) (replied_same rules.header_of f g id blocks is).1

-- a stop
stop_comes : (rules : Rules) (state : List ℕ) (s : Surveyed) (hunt : Hunt) (f : Fetch) (requests more : List Get) (drawn : ℕ) (held : Held) (log : List Line) (why : BootStop)
    → Comes (Err why) log log s hunt more drawn drawn held held (with_came rules state (boot_of s f requests) drawn more (Err why))
stop_comes rules state s hunt f requests more drawn held log why = by_stop why
  where
    by_stop : (why : BootStop) → Comes (Err why) log log s hunt more drawn drawn held held (with_came rules state (boot_of s f requests) drawn more (Err why))
    by_stop stop.Memory = record { front = []; rest = []; whole = refl; grown = sym (append-nil log) }
    by_stop (stop.Conflict height first second) = (sym (append-nil log), refl)
    by_stop (stop.Fork id parent) = (sym (append-nil log), refl)
    by_stop (stop.Refused id) = (sym (append-nil log), refl, inl refl)
    by_stop stop.Full = (sym (append-nil log), refl)
    by_stop stop.Requests = (sym (append-nil log), refl)

-- want of memory leaves a front of any lines
memory_comes : (log : List Line) (s : Surveyed) (hunt : Hunt) (more : List Get) (drawn : ℕ) (held : Held) (o : Outcome) → Comes (Err stop.Memory) log log s hunt more drawn drawn held held o
memory_comes log s hunt more drawn held o = record { front = []; rest = o.0; whole = refl; grown = sym (append-nil log) }

pub reply_stops : (rules : Rules) (state : List ℕ) (s : Surveyed) (hunt now : Hunt) (requests more : List Get) (drawn : ℕ) (held : Held) (log : List Line) (node : List ℕ) (number : ℕ) (id : List ℕ)
    (blocks : List (List ℕ)) (why : BootStop) → Some id ≡ request_of requests node number → more ≡ without (is_get number node) requests
    → Fetches {T = Unit {0}} (Err why) now (replied rules.header_of hunt.fetch id blocks)
    → Comes (Err why) log log s now more drawn drawn held held (ancestors_came rules state (boot_of s hunt.fetch requests) drawn node number blocks)
reply_stops rules state s hunt now requests more drawn held log node number id blocks why found left f = by_stop why f
  where
    expected : Outcome
    expected = ancestors_came rules state (boot_of s hunt.fetch requests) drawn node number blocks

    stopped : (why : BootStop) → replied rules.header_of hunt.fetch id blocks ≡ Err why → Comes (Err why) log log s now more drawn drawn held held expected
    stopped why is =
        comes_as (Err why) log log s now more drawn drawn held held (with_came rules state (boot_of s hunt.fetch requests) drawn more (Err why)) expected
        (reply_is rules state s hunt.fetch requests more drawn node number id blocks (Err why) found left is)
        (stop_comes rules state s now hunt.fetch requests more drawn held log why)

    by_stop : (why : BootStop) → Fetches {T = Unit {0}} (Err why) now (replied rules.header_of hunt.fetch id blocks) → Comes (Err why) log log s now more drawn drawn held held expected
    by_stop stop.Memory f = memory_comes log s now more drawn held expected
    by_stop (stop.Conflict height first second) f = stopped (stop.Conflict height first second) f
    by_stop (stop.Fork x parent) f = stopped (stop.Fork x parent) f
    by_stop (stop.Refused x) f = stopped (stop.Refused x) f
    by_stop stop.Full f = stopped stop.Full f
    by_stop stop.Requests f = stopped stop.Requests f

-- ---- blocks that were kept earlier

pub skipped : (rules : Rules) (state : List ℕ) (s : Surveyed) (hunt : Hunt) (requests : List Get) (drawn : ℕ) (held : Held) (log after : List Line) (frame : ℕ) (bytes : List ℕ)
    → IsCourse s hunt requests → AreDrawn requests drawn → held.last ≡ hunt.fetch.store.last → None ≡ rules.header_of bytes → after ≡ log ++ line.Skip frame skip.Block ∷ []
    → Comes (Ok stage.Going) log after s hunt requests drawn drawn held held (stored_came rules state (boot_of s hunt.fetch requests) drawn frame bytes)
unfolding stored_came
skipped rules state s hunt requests drawn held log after frame bytes course are last none written =
    comes_as (Ok stage.Going) log after s hunt requests drawn drawn held held (behind (line.Skip frame skip.Block ∷ []) (followed rules state (boot_of s hunt.fetch requests) drawn))
    (stored_came rules state (boot_of s hunt.fetch requests) drawn frame bytes)
    (ap (if_block rules state (boot_of s hunt.fetch requests) drawn frame bytes) none)
    (comes_behind (Ok stage.Going) log after after (line.Skip frame skip.Block ∷ []) s hunt requests drawn drawn held held (followed rules state (boot_of s hunt.fetch requests) drawn) refl
    (λ id e. going_on (boot_of s hunt.fetch requests) drawn id (sym (ap (λ (o : Outcome). o.1) (ignored rules state s hunt requests drawn course)) ∙ e)) written
    (comes_ignored rules state s hunt requests drawn held after course are last))

stored_is : (rules : Rules) (state : List ℕ) (s : Surveyed) (f : Fetch) (requests : List Get) (drawn frame : ℕ) (bytes : List ℕ) (h : Header) (r : Result Verdict BootStop) → Some h ≡ rules.header_of bytes
    → r ≡ taken f.store h
    → with_came rules state (boot_of s f requests) drawn requests (if_taken f record { header = h; bytes = bytes } r) ≡ stored_came rules state (boot_of s f requests) drawn frame bytes
unfolding stored_came
stored_is rules state s f requests drawn frame bytes h r found is =
    ap (λ r. with_came rules state (boot_of s f requests) drawn requests (if_taken f record { header = h; bytes = bytes } r)) is
    ∙ ap (if_block rules state (boot_of s f requests) drawn frame bytes) found

pub stored_kept : (rules : Rules) (state : List ℕ) (s : Surveyed) (f : Fetch) (now : Hunt) (requests : List Get) (drawn frame : ℕ) (bytes : List ℕ) (h : Header) (v : Verdict) → Some h ≡ rules.header_of bytes
    → (let r : Result Verdict BootStop = Ok v in r) ≡ taken f.store h
    → now.fetch ≡ after_verdict f record { header = h; bytes = bytes } v
    → followed rules state (boot_of s now.fetch requests) drawn ≡ stored_came rules state (boot_of s f requests) drawn frame bytes
stored_kept rules state s f now requests drawn frame bytes h v found is made =
    ap (λ (g : Fetch). followed rules state (boot_of s g requests) drawn) made
    ∙ by_verdict v
    ∙ stored_is rules state s f requests drawn frame bytes h (Ok v) found is
  where
    b : KeptBlock
    b = record { header = h; bytes = bytes }

    by_verdict : (v : Verdict) → followed rules state (boot_of s (after_verdict f record { header = h; bytes = bytes } v) requests) drawn
        ≡ with_came rules state (boot_of s f requests) drawn requests (if_taken f record { header = h; bytes = bytes } (Ok v))
    by_verdict verdict.Keeps = refl
    by_verdict verdict.Low = refl
    by_verdict verdict.Known = refl

pub stored_stops : (rules : Rules) (state : List ℕ) (s : Surveyed) (hunt now : Hunt) (requests : List Get) (drawn : ℕ) (held : Held) (log : List Line) (frame : ℕ) (bytes : List ℕ) (h : Header) (why : BootStop)
    → Some h ≡ rules.header_of bytes → Answers (Err why) (taken hunt.fetch.store h)
    → Comes (Err why) log log s now requests drawn drawn held held (stored_came rules state (boot_of s hunt.fetch requests) drawn frame bytes)
stored_stops rules state s hunt now requests drawn held log frame bytes h why found a = by_stop why a
  where
    expected : Outcome
    expected = stored_came rules state (boot_of s hunt.fetch requests) drawn frame bytes

    stopped : (why : BootStop) → (let r : Result Verdict BootStop = Err why in r) ≡ taken hunt.fetch.store h → Comes (Err why) log log s now requests drawn drawn held held expected
    stopped why is =
        comes_as (Err why) log log s now requests drawn drawn held held (with_came rules state (boot_of s hunt.fetch requests) drawn requests (Err why)) expected
        (stored_is rules state s hunt.fetch requests drawn frame bytes h (Err why) found is)
        (stop_comes rules state s now hunt.fetch requests requests drawn held log why)

    by_stop : (why : BootStop) → Answers (Err why) (taken hunt.fetch.store h) → Comes (Err why) log log s now requests drawn drawn held held expected
    by_stop stop.Memory a = memory_comes log s now requests drawn held expected
    by_stop (stop.Conflict height first second) a = stopped (stop.Conflict height first second) a
    by_stop (stop.Fork x parent) a = stopped (stop.Fork x parent) a
    by_stop (stop.Refused x) a = stopped (stop.Refused x) a
    by_stop stop.Full a = stopped stop.Full a
    by_stop stop.Requests a = stopped stop.Requests a
