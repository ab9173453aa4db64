-- Bootstrapping begins.
use Rattle.std.proofs.Common.{◌≡◌, ℕ, true, List, [], ◌∷◌, Some, sym, ap, ◌∙◌}
use Rattle.std.specs.Prelude.{Result, Err}
use Rattle.snow_base.specs.Model.Numbers.{next_number}
use Rattle.snow_chain.specs.Model.Chain as states
use Rattle.snow_chain.specs.Model.Chain.{Held}
use Rattle.snow_gets.specs.declared.gets.Get.{Get}
use Rattle.snow_lines.specs.declared.line.Line.{Line}
use Rattle.snow_sample.specs.declared.roster.Node.{Node}
use Rattle.snow_store.specs.declared.needs.Due.TheVariants as due
use Rattle.snow_boot.specs.declared.question.Question.TheVariants as question
use Rattle.snow_boot.specs.declared.boot.Stage.{Stage}
use Rattle.snow_store.specs.declared.stop.BootStop.{BootStop}
use Rattle.snow_store.specs.declared.stop.BootStop.TheVariants as stop
use Rattle.snow_boot.specs.Model.Booting.{Outcome, begun, ask_frontier, started}
use Rattle.snow_boot.specs.Clauses.Calling.{AreDrawn, Begins, LogsUpTo}
use Rattle.snow_boot.specs.Kept.Coursing.{boot_of, Comes}
use Rattle.snow_boot.specs.Kept.Fetching.{Hunt}
use Rattle.snow_boot.specs.Kept.Surveying.{Surveyed}
use Rattle.snow_boot.proofs.Followed.{comes_as}

-- nothing is asked or kept yet
abbrev pub first_survey : List Node → Surveyed
first_survey nodes = record { nodes = nodes; question = question.Nothing; number = 0; awaited = []; candidates = [] }

abbrev pub first_hunt : List ℕ → ℕ → Hunt
first_hunt last height = record { whole = true; due = due.Nothing; fetch = record { store = record { last = last; height = height; kept = [] }; targets = []; found = [] } }

-- no request is open
none_drawn : (requests : List Get) (drawn : ℕ) → requests ≡ [] → AreDrawn requests drawn
none_drawn [] drawn e = tt
none_drawn (r ∷ requests) drawn e = cc

-- whatever is kept and asked for already, all nodes are asked for their frontier
abbrev pub AsksFirst : Result Stage BootStop → List Line → List Line → Surveyed → Surveyed → ℕ → ℕ → Type 0
AsksFirst r before after s now first last =
    (hunt : Hunt) (requests : List Get) (held : Held) → hunt.whole ≡ true → held.last ≡ hunt.fetch.store.last → AreDrawn requests first
    → Comes r before after now hunt requests first last held held (ask_frontier (boot_of s hunt.fetch requests) (next_number first))

pub starts : (r : Result Stage BootStop) (before after : List Line) (s now : Surveyed) (hunt : Hunt) (requests : List Get) (first last : ℕ) (id : List ℕ) (height : ℕ) (nodes : List Node)
    → s ≡ first_survey nodes → hunt ≡ first_hunt id height → requests ≡ [] → AsksFirst r before after s now first last
    → Comes r before after now hunt requests first last (states.begun id []) (states.begun id []) (started id height nodes first)
unfolding started
starts r before after s now hunt requests first last id height nodes a b d asks =
    let held : Held = states.begun id [] in
    comes_as r before after now hunt requests first last held held (ask_frontier (boot_of s hunt.fetch requests) (next_number first)) (ask_frontier (begun id height nodes) (next_number first))
    (ap (λ (t : Surveyed). ask_frontier (boot_of t hunt.fetch requests) (next_number first)) a
    ∙ ap (λ (t : Hunt). ask_frontier (boot_of (first_survey nodes) t.fetch requests) (next_number first)) b
    ∙ ap (λ l. ask_frontier (boot_of (first_survey nodes) (first_hunt id height).fetch l) (next_number first)) d)
    (asks hunt requests held (ap (λ (t : Hunt). t.whole) b) (sym (ap (λ (t : Hunt). t.fetch.store.last) b)) (none_drawn requests first d))

-- a stop at the start
pub stops_first : (why : BootStop) (before after : List Line) (s : Surveyed) (hunt : Hunt) (requests : List Get) (first last : ℕ) (held : Held) (o : Outcome)
    → Comes (Err why) before after s hunt requests first last held held o → Begins (Err why) last o.1
stops_first stop.Memory before after s hunt requests first last held o c = tt
stops_first (stop.Conflict height one other) before after s hunt requests first last held o c = c.1
stops_first (stop.Fork id parent) before after s hunt requests first last held o c = c.1
stops_first (stop.Refused id) before after s hunt requests first last held o c = c.1
stops_first stop.Full before after s hunt requests first last held o c = c.1
stops_first stop.Requests before after s hunt requests first last held o c = c.1

pub logs_first : (why : BootStop) (before after : List Line) (s : Surveyed) (hunt : Hunt) (requests : List Get) (first last : ℕ) (held : Held) (o : Outcome)
    → Comes (Err why) before after s hunt requests first last held held o → LogsUpTo (Some why) before after o.0
logs_first stop.Memory before after s hunt requests first last held o c = c
logs_first (stop.Conflict height one other) before after s hunt requests first last held o c = c.0
logs_first (stop.Fork id parent) before after s hunt requests first last held o c = c.0
logs_first (stop.Refused id) before after s hunt requests first last held o c = c.0
logs_first stop.Full before after s hunt requests first last held o c = c.0
logs_first stop.Requests before after s hunt requests first last held o c = c.0
