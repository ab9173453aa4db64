-- Where bootstrapping is done the block at each height was accepted, once and upwards.
use Rattle.std.proofs.Common.{◌≡◌, ℕ, ◌+◌, ◌-◌, ◌<◌, ◌≤◌, Bool, true, false, List, [], ◌∷◌, ◌++◌, Option, Some, None, if◌then◌else◌, refl, sym, ap, subst, ◌∙◌, arith, append-nil}
use Rattle.std.specs.Prelude.{Result, Ok, Err}
use Rattle.std.specs.List.{filter}
use Rattle.std.proofs.lemmas.List.Elements.{filter-append}
use Rattle.snow_chain.specs.Model.Chain.{Rules}
use Rattle.snow_lines.specs.declared.line.Line.{Line}
use Rattle.snow_lines.specs.declared.line.Line.TheVariants as line
use Rattle.snow_lines.specs.declared.why.SkipKind.TheVariants as skip
use Rattle.snow_store.specs.declared.store.KeptBlock.{KeptBlock}
use Rattle.snow_store.specs.declared.stop.BootStop.{BootStop}
use Rattle.snow_store.specs.Model.Keeping.{Store, held, highest}
use Rattle.snow_store.specs.Laws.Linking.{IsLinked, held_heights, upward}
use Rattle.snow_store.specs.Model.Paths.{Fetch, has_id, is_whole, highest_target, path_up}
use Rattle.snow_store.proofs.Whole.{none_kept, whole_path}
use Rattle.snow_boot.specs.declared.question.Question.{Question}
use Rattle.snow_boot.specs.declared.question.Question.TheVariants as question
use Rattle.snow_boot.specs.Model.Asking.{Asked, asked}
use Rattle.snow_boot.specs.Model.Booting.{Boot, Going, Done, Outcome, behind, fetch_of, with_requests, height_or, ended, finished, followed_by, followed}
use Rattle.snow_boot.specs.Model.Executing.{Executed, executed}
use Rattle.snow_boot.specs.Laws.FinishLaw.{AcceptsAll, Finishes}
use Rattle.snow_boot.specs.Laws.OutcomeLaw.{accepts, accept_lines, last_above, IsExecution, whole_path_of}
use Rattle.snow_boot.specs.Laws.Reached.{Event, outcome_of, Reached, fetched_by}
use Rattle.snow_boot.proofs.Executed.{in_order}
use Rattle.snow_boot.proofs.Reaching.{linked_fetched, reached_linked}
use Rattle.snow_boot.proofs.Refusing.{only_accepts}
use Rattle.snow_boot.proofs.Stepping.{passed}

-- the path of the highest kept target is whole, or no target is kept
record IsWholeUpTo (f : Fetch) (o : Option KeptBlock) (height : ℕ) : Type 0 where
  upwards : path_up f.store.kept o ≡ upward f.store.kept (f.store.height + 1) (height - f.store.height)
  unbroken : (h : ℕ) → f.store.height < h → h ≤ height → held_heights f.store.kept h ≡ true
  others : (t : List ℕ) (b : KeptBlock) → has_id f.targets t ≡ true → highest f.store.kept t ≡ Some b
      → (f.store.height < b.header.height) × (b.header.height ≤ height) × (held f.store.kept b.header.height ≡ Some b)

none_upward : (kept : List KeptBlock) (height : ℕ) → [] ≡ upward kept (height + 1) (height - height)
unfolding upward
none_upward kept height = let none : height - height ≡ 0 = omega arith in sym (ap (upward kept (height + 1)) none)

whole_up_to : (f : Fetch) (o : Option KeptBlock) → IsLinked f.store → is_whole f ≡ true → highest_target f.store.kept f.targets ≡ o → IsWholeUpTo f o (height_or f.store.height o)
whole_up_to f None l whole e = record {
  upwards = none_upward f.store.kept f.store.height;
  unbroken = λ h above most. absurd (omega (arith, above, most));
  others = λ t b among is. none_kept f.store.kept f.targets t b e among is;
}
whole_up_to f (Some top) l whole e = let w = whole_path f top l whole e in record { upwards = w.upwards; unbroken = w.unbroken; others = w.others }

-- the last line accepts no block
accepted_ended : (lines : List Line) (last : List ℕ) (height : ℕ) (blocks : List KeptBlock) → lines ≡ accept_lines blocks
    → filter accepts (lines ++ line.Bootstrapped last height ∷ []) ≡ accept_lines blocks
accepted_ended lines last height blocks e =
    filter-append accepts lines (line.Bootstrapped last height ∷ []) ∙ append-nil (filter accepts lines) ∙ ap (filter accepts) e ∙ only_accepts blocks

finished_ended : (boot : Boot) (e : Executed) → IsLinked boot.store → is_whole (fetch_of boot) ≡ true → IsExecution boot.store.last (whole_path_of boot) e
    → Finishes (Ok (fetch_of boot)) (ended (height_or boot.store.height (highest_target boot.store.kept boot.targets)) e)
finished_ended boot (lines, Err why) l whole x = tt
finished_ended boot (lines, Ok (last, state)) l whole x =
    let s = boot.store in
    let height = height_or s.height (highest_target s.kept boot.targets) in
    let w = whole_up_to (fetch_of boot) (highest_target s.kept boot.targets) l whole refl in record {
      fetch = fetch_of boot;
      kept = refl;
      whole = whole;
      top = refl;
      unbroken = w.unbroken;
      accepted = accepted_ended lines last height (whole_path_of boot) x.0 ∙ ap accept_lines w.upwards;
      reaches = x.1 ∙ ap (last_above s.last) w.upwards;
      others = w.others;
    }

finished_requests : (f : Fetch) (boot : Boot) (a : Asked) → Finishes (Ok f) (with_requests boot a)
finished_requests f boot (lines, Ok (requests, drawn)) = tt
finished_requests f boot (lines, Err why) = tt

finished_followed : (rules : Rules) (state : List ℕ) (boot : Boot) (drawn : ℕ) → IsLinked boot.store → Finishes (Ok (fetch_of boot)) (followed rules state boot drawn)
unfolding followed
finished_followed rules state boot drawn l = by_question boot.question
  where
    by_test : (t : Bool) → is_whole (fetch_of boot) ≡ t
        → Finishes (Ok (fetch_of boot))
        (if t then finished rules state boot.store (highest_target boot.store.kept boot.targets) else with_requests boot (asked boot.nodes (fetch_of boot) boot.targets boot.requests drawn))
    by_test true whole = finished_ended boot (executed rules boot.store.last state (whole_path_of boot)) l whole (in_order rules boot.store.last state (whole_path_of boot))
    by_test false not = finished_requests (fetch_of boot) boot (asked boot.nodes (fetch_of boot) boot.targets boot.requests drawn)

    by_question : (q : Question) → Finishes (Ok (fetch_of boot)) (followed_by rules state boot drawn q)
    by_question question.Nothing = by_test (is_whole (fetch_of boot)) refl
    by_question question.Frontier = tt
    by_question question.Accepted = tt

-- the kept blocks alone matter
same_kept : (f g : Fetch) (o : Outcome) → f.store ≡ g.store → Finishes (Ok f) o → Finishes (Ok g) o
same_kept f g (lines, Ok (Going boot drawn)) same x = tt
same_kept f g (lines, Ok (Done last height state)) same x = subst (λ (s : Store). AcceptsAll s lines last height) same x
same_kept f g (lines, Err why) same x = tt

-- a line more that accepts none
more_lines : (s : Store) (lines more : List Line) (last : List ℕ) (height : ℕ) → filter accepts more ≡ filter accepts lines → AcceptsAll s lines last height → AcceptsAll s more last height
more_lines s lines more last height e x = record {
  fetch = x.fetch;
  kept = x.kept;
  whole = x.whole;
  top = x.top;
  unbroken = x.unbroken;
  accepted = e ∙ x.accepted;
  reaches = x.reaches;
  others = x.others;
}

skip_finishes : (f : Fetch) (frame : ℕ) (o : Outcome) → Finishes (Ok f) o → Finishes (Ok f) (behind (line.Skip frame skip.Block ∷ []) o)
skip_finishes f frame (lines, Ok (Going boot drawn)) x = tt
skip_finishes f frame (lines, Ok (Done last height state)) x = more_lines f.store lines (line.Skip frame skip.Block ∷ lines) last height refl x
skip_finishes f frame (lines, Err why) x = tt

-- each event, where the kept blocks are linked
finishes_linked : (rules : Rules) (state : List ℕ) (boot : Boot) (drawn : ℕ) (event : Event) → IsLinked boot.store → Finishes (fetched_by rules boot event) (outcome_of rules state boot drawn event)
finishes_linked rules state boot drawn event l =
    let fetched = fetched_by rules boot event in
    passed {P = Finishes fetched} rules state boot drawn event record {
      asks = λ lines now number same. tt;
      ends = λ lines quiet. tt;
      stops = λ why e. tt;
      follows = λ now number f e same.
          subst (λ (r : Result Fetch BootStop). Finishes r (followed rules state now number)) (sym e)
          (same_kept (fetch_of now) f (followed rules state now number) same (finished_followed rules state now number (subst IsLinked (sym same) (linked_fetched rules boot event f l e))));
      skips = λ frame now number f e same.
          subst (λ (r : Result Fetch BootStop). Finishes r (behind (line.Skip frame skip.Block ∷ []) (followed rules state now number))) (sym e)
          (skip_finishes f frame (followed rules state now number)
          (same_kept (fetch_of now) f (followed rules state now number) same (finished_followed rules state now number (subst IsLinked (sym same) (linked_fetched rules boot event f l e)))));
    }

pub finishes : (rules : Rules) (state : List ℕ) (boot : Boot) (drawn : ℕ) (event : Event) → Reached rules state boot drawn → Finishes (fetched_by rules boot event) (outcome_of rules state boot drawn event)
finishes rules state boot drawn event reached = finishes_linked rules state boot drawn event (reached_linked rules state boot drawn reached)
