-- Where a block of the path is refused, just those below it were accepted.
use Rattle.std.proofs.Common.{◌≡◌, ℕ, Bool, true, false, List, [], ◌∷◌, ◌++◌, Option, Some, None, if◌then◌else◌, refl, sym, ap, subst, ◌∙◌}
use Rattle.std.specs.Prelude.{Result, Ok, Err, ⊤}
use Rattle.std.specs.List.{filter}
use Rattle.snow_base.specs.Model.Numbers.{next_number}
use Rattle.snow_chain.specs.Model.Chain.{Rules}
use Rattle.snow_sample.specs.declared.roster.Node.{Node}
use Rattle.snow_gets.specs.declared.gets.Get.{Get}
use Rattle.snow_gets.specs.Model.Gets.{asked_in}
use Rattle.snow_lines.specs.declared.line.Line.{Line}
use Rattle.snow_lines.specs.declared.line.Line.TheVariants as line
use Rattle.snow_lines.specs.declared.why.SkipKind.TheVariants as skip
use Rattle.snow_store.specs.declared.store.KeptBlock.{KeptBlock}
use Rattle.snow_store.specs.declared.stop.BootStop.{BootStop}
use Rattle.snow_store.specs.declared.stop.BootStop.TheVariants as stop
use Rattle.snow_store.specs.Model.Keeping.{Store}
use Rattle.snow_store.specs.Model.Paths.{Fetch, missed, is_whole, highest_target}
use Rattle.snow_boot.specs.declared.question.Question.{Question}
use Rattle.snow_boot.specs.declared.question.Question.TheVariants as question
use Rattle.snow_boot.specs.Model.Asking.{Asked, asked_with, asked_one, and_asked, asked}
use Rattle.snow_boot.specs.Model.Booting.{Boot, Outcome, behind, fetch_of, with_requests, height_or, ended, finished, followed_by, followed}
use Rattle.snow_boot.specs.Model.Executing.{Executed, executed}
use Rattle.snow_boot.specs.Laws.OutcomeLaw.{accepts, accept_lines, IsExecution, whole_path_of}
use Rattle.snow_boot.specs.Laws.Reached.{Event, outcome_of, fetched_by}
use Rattle.snow_boot.specs.Laws.StoppedLaw.{AcceptsToRefused, IsRefusal, Refuses}
use Rattle.snow_boot.proofs.Executed.{in_order}
use Rattle.snow_boot.proofs.Stepping.{passed}

-- ---- asking stops only where no number is left

abbrev AsksOrEnds : Asked → Type 0
AsksOrEnds (lines, Ok more) = ⊤
AsksOrEnds (lines, Err why) = why ≡ stop.Requests

one_ends : (nodes : List Node) (requests : List Get) (drawn : ℕ) (o : Option (List ℕ)) → AsksOrEnds (asked_one nodes requests drawn o)
one_ends nodes requests drawn None = tt
one_ends nodes requests drawn (Some id) = by_test (asked_in requests id)
  where
    with_number : (o : Option ℕ) → AsksOrEnds (asked_with nodes requests id o)
    with_number None = refl
    with_number (Some n) = tt

    by_test : (t : Bool) → AsksOrEnds (if t then ([], Ok (requests, drawn)) else asked_with nodes requests id (next_number drawn))
    by_test true = tt
    by_test false = with_number (next_number drawn)

behind_asked : (lines : List Line) (a : Asked) → AsksOrEnds a → AsksOrEnds (lines ++ a.0, a.1)
behind_asked lines (more, Ok x) e = tt
behind_asked lines (more, Err why) e = e

both_end : (one : Asked) (more : List Get → ℕ → Asked) → AsksOrEnds one → ((requests : List Get) (drawn : ℕ) → AsksOrEnds (more requests drawn)) → AsksOrEnds (and_asked one more)
both_end (lines, Err why) more e h = e
both_end (lines, Ok (requests, drawn)) more e h = behind_asked lines (more requests drawn) (h requests drawn)

asked_ends : (nodes : List Node) (f : Fetch) (targets : List (List ℕ)) (requests : List Get) (drawn : ℕ) → AsksOrEnds (asked nodes f targets requests drawn)
unfolding asked
asked_ends nodes f [] requests drawn = tt
asked_ends nodes f (t ∷ targets) requests drawn =
    both_end (asked_one nodes requests drawn (missed f t)) (λ requests drawn. asked nodes f targets requests drawn) (one_ends nodes requests drawn (missed f t))
    (λ requests drawn. asked_ends nodes f targets requests drawn)

-- ---- a refused block

pub only_accepts : (blocks : List KeptBlock) → filter accepts (accept_lines blocks) ≡ accept_lines blocks
only_accepts [] = refl
only_accepts (b ∷ blocks) = ap (λ l. line.Accept b.header.id ∷ l) (only_accepts blocks)

-- other lines, of which the same accept blocks
same_lines : (s : Store) (lines more : List Line) (id : List ℕ) → filter accepts more ≡ filter accepts lines → AcceptsToRefused s lines id → AcceptsToRefused s more id
same_lines s lines more id e x = record { fetch = x.fetch; kept = x.kept; whole = x.whole; front = x.front; below = x.below; accepted = e ∙ x.accepted }

-- a stop that is no refusal, or a refusal with a line more
skip_refusal : (f : Fetch) (why : BootStop) (frame : ℕ) (lines : List Line) → IsRefusal (Ok f) lines why → IsRefusal (Ok f) (line.Skip frame skip.Block ∷ lines) why
skip_refusal f (stop.Refused id) frame lines e = same_lines f.store lines (line.Skip frame skip.Block ∷ lines) id refl e
skip_refusal f (stop.Conflict height first second) frame lines e = tt
skip_refusal f (stop.Fork id parent) frame lines e = tt
skip_refusal f stop.Full frame lines e = tt
skip_refusal f stop.Requests frame lines e = tt
skip_refusal f stop.Memory frame lines e = tt

skip_refuses : (f : Fetch) (frame : ℕ) (o : Outcome) → Refuses (Ok f) o → Refuses (Ok f) (behind (line.Skip frame skip.Block ∷ []) o)
skip_refuses f frame (lines, Ok next) e = tt
skip_refuses f frame (lines, Err why) e = skip_refusal f why frame lines e

-- a block that comes is refused
refused_block : (why : BootStop) → IsRefusal (Err why) [] why
refused_block (stop.Refused id) = (refl, refl)
refused_block (stop.Conflict height first second) = tt
refused_block (stop.Fork id parent) = tt
refused_block stop.Full = tt
refused_block stop.Requests = tt
refused_block stop.Memory = tt

-- a block of the path is
refused_ended : (f : Fetch) (boot : Boot) (height : ℕ) (e : Executed) → boot.store ≡ f.store → is_whole (fetch_of boot) ≡ true → IsExecution boot.store.last (whole_path_of boot) e
    → Refuses (Ok f) (ended height e)
refused_ended f boot height (lines, Ok (last, state)) same whole x = tt
refused_ended f boot height (lines, Err why) same whole x =
    let there : AcceptsToRefused f.store lines x.1.header.id = record {
      fetch = fetch_of boot;
      kept = same;
      whole = whole;
      front = x.0;
      below = record { refused = x.1; above = x.2; whole = x.3; named = refl };
      accepted = ap (filter accepts) x.4 ∙ only_accepts x.0;
    } in
    subst (λ (w : BootStop). IsRefusal (Ok f) lines w) (sym x.5) there

refused_requests : (f : Fetch) (boot : Boot) (a : Asked) → AsksOrEnds a → Refuses (Ok f) (with_requests boot a)
refused_requests f boot (lines, Ok (requests, drawn)) e = tt
refused_requests f boot (lines, Err why) e = subst (λ (w : BootStop). IsRefusal (Ok f) lines w) (sym e) tt

refused_followed : (rules : Rules) (state : List ℕ) (boot : Boot) (drawn : ℕ) (f : Fetch) → boot.store ≡ f.store → Refuses (Ok f) (followed rules state boot drawn)
unfolding followed
refused_followed rules state boot drawn f same = by_question boot.question
  where
    by_test : (t : Bool) → is_whole (fetch_of boot) ≡ t
        → Refuses (Ok f) (if t then finished rules state boot.store (highest_target boot.store.kept boot.targets) else with_requests boot (asked boot.nodes (fetch_of boot) boot.targets boot.requests drawn))
    by_test true whole =
        refused_ended f boot (height_or boot.store.height (highest_target boot.store.kept boot.targets)) (executed rules boot.store.last state (whole_path_of boot)) same whole
        (in_order rules boot.store.last state (whole_path_of boot))
    by_test false not =
        refused_requests f boot (asked boot.nodes (fetch_of boot) boot.targets boot.requests drawn) (asked_ends boot.nodes (fetch_of boot) boot.targets boot.requests drawn)

    by_question : (q : Question) → Refuses (Ok f) (followed_by rules state boot drawn q)
    by_question question.Nothing = by_test (is_whole (fetch_of boot)) refl
    by_question question.Frontier = tt
    by_question question.Accepted = tt

-- each event
pub refuses : (rules : Rules) (state : List ℕ) (boot : Boot) (drawn : ℕ) (event : Event) → Refuses (fetched_by rules boot event) (outcome_of rules state boot drawn event)
refuses rules state boot drawn event =
    let fetched = fetched_by rules boot event in
    passed {P = Refuses fetched} rules state boot drawn event record {
      asks = λ lines now number same. tt;
      ends = λ lines quiet. tt;
      stops = λ why e. subst (λ (r : Result Fetch BootStop). Refuses r ([], Err why)) (sym e) (refused_block why);
      follows = λ now number f e same.
          subst (λ (r : Result Fetch BootStop). Refuses r (followed rules state now number)) (sym e) (refused_followed rules state now number f same);
      skips = λ frame now number f e same.
          subst (λ (r : Result Fetch BootStop). Refuses r (behind (line.Skip frame skip.Block ∷ []) (followed rules state now number))) (sym e)
          (skip_refuses f frame (followed rules state now number) (refused_followed rules state now number f same));
    }
