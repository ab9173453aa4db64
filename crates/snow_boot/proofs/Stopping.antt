-- An event that stops bootstrapping accepts no block, but where a block is refused.
use Rattle.std.proofs.Common.{◌≡◌, ℕ, Bool, true, false, List, [], ◌∷◌, if◌then◌else◌, refl, sym, subst}
use Rattle.std.specs.Prelude.{Ok, Err}
use Rattle.std.specs.List.{list_any}
use Rattle.snow_chain.specs.Model.Chain.{Rules}
use Rattle.snow_lines.specs.declared.line.Line.{Line}
use Rattle.snow_lines.specs.declared.line.Line.TheVariants as line
use Rattle.snow_lines.specs.declared.why.SkipKind.TheVariants as skip
use Rattle.snow_store.specs.declared.stop.BootStop.{BootStop}
use Rattle.snow_store.specs.declared.stop.BootStop.TheVariants as stop
use Rattle.snow_store.specs.Model.Paths.{is_whole, highest_target}
use Rattle.snow_boot.specs.declared.question.Question.{Question}
use Rattle.snow_boot.specs.declared.question.Question.TheVariants as question
use Rattle.snow_boot.specs.Model.Asking.{Asked, asked}
use Rattle.snow_boot.specs.Model.Booting.{Boot, Outcome, behind, fetch_of, with_requests, height_or, ended, finished, followed_by, followed}
use Rattle.snow_boot.specs.Model.Executing.{Executed, executed}
use Rattle.snow_boot.specs.Laws.OutcomeLaw.{accepts, IsExecution, whole_path_of}
use Rattle.snow_boot.specs.Laws.Reached.{Event, outcome_of}
use Rattle.snow_boot.specs.Laws.StoppedLaw.{IsEarly, StopsEarly}
use Rattle.snow_boot.proofs.Executed.{in_order}
use Rattle.snow_boot.proofs.Quiet.{all_asked}
use Rattle.snow_boot.proofs.Stepping.{passed}

-- lines that accept no block, at any stop
early_quiet : (why : BootStop) (lines : List Line) → list_any accepts lines ≡ false → IsEarly why lines
early_quiet (stop.Refused id) lines e = tt
early_quiet (stop.Conflict height first second) lines e = e
early_quiet (stop.Fork id parent) lines e = e
early_quiet stop.Full lines e = e
early_quiet stop.Requests lines e = e
early_quiet stop.Memory lines e = e

-- a line more that accepts none
early_skip : (why : BootStop) (frame : ℕ) (lines : List Line) → IsEarly why lines → IsEarly why (line.Skip frame skip.Block ∷ lines)
early_skip (stop.Refused id) frame lines e = tt
early_skip (stop.Conflict height first second) frame lines e = e
early_skip (stop.Fork id parent) frame lines e = e
early_skip stop.Full frame lines e = e
early_skip stop.Requests frame lines e = e
early_skip stop.Memory frame lines e = e

early_behind : (frame : ℕ) (o : Outcome) → StopsEarly o → StopsEarly (behind (line.Skip frame skip.Block ∷ []) o)
early_behind frame (lines, Ok next) e = tt
early_behind frame (lines, Err why) e = early_skip why frame lines e

-- a path that is executed stops at a refused block
early_ended : (boot : Boot) (height : ℕ) (e : Executed) → IsExecution boot.store.last (whole_path_of boot) e → StopsEarly (ended height e)
early_ended boot height (lines, Ok (last, state)) x = tt
early_ended boot height (lines, Err why) x = subst (λ (w : BootStop). IsEarly w lines) (sym x.5) tt

early_requests : (boot : Boot) (a : Asked) → list_any accepts a.0 ≡ false → StopsEarly (with_requests boot a)
early_requests boot (lines, Ok (requests, drawn)) e = tt
early_requests boot (lines, Err why) e = early_quiet why lines e

early_test : (t : Bool) (one other : Outcome) → StopsEarly one → StopsEarly other → StopsEarly (if t then one else other)
early_test true one other p q = p
early_test false one other p q = q

early_followed : (rules : Rules) (state : List ℕ) (boot : Boot) (drawn : ℕ) → StopsEarly (followed rules state boot drawn)
unfolding followed
early_followed rules state boot drawn = by_question boot.question
  where
    by_question : (q : Question) → StopsEarly (followed_by rules state boot drawn q)
    by_question question.Nothing =
        let top = highest_target boot.store.kept boot.targets in
        early_test (is_whole (fetch_of boot)) (finished rules state boot.store top) (with_requests boot (asked boot.nodes (fetch_of boot) boot.targets boot.requests drawn))
        (early_ended boot (height_or boot.store.height top) (executed rules boot.store.last state (whole_path_of boot)) (in_order rules boot.store.last state (whole_path_of boot)))
        (early_requests boot (asked boot.nodes (fetch_of boot) boot.targets boot.requests drawn) (all_asked boot.nodes (fetch_of boot) boot.targets boot.requests drawn))
    by_question question.Frontier = tt
    by_question question.Accepted = tt

pub stops_early : (rules : Rules) (state : List ℕ) (boot : Boot) (drawn : ℕ) (event : Event) → StopsEarly (outcome_of rules state boot drawn event)
stops_early rules state boot drawn event =
    passed {P = StopsEarly} rules state boot drawn event record {
      asks = λ lines now number same. tt;
      ends = λ lines quiet. quiet;
      stops = λ why e. early_quiet why [] refl;
      follows = λ now number f e same. early_followed rules state now number;
      skips = λ frame now number f e same. early_behind frame (followed rules state now number) (early_followed rules state now number);
    }
