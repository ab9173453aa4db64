-- Where bootstrapping ends: exactly the path of the highest kept target was executed.
use Rattle.std.proofs.Common.{◌≡◌, ℕ, Bool, true, false, List, [], ◌∷◌, ◌++◌, if◌then◌else◌, inr, refl, ap, ◌∙◌}
use Rattle.std.specs.Prelude.{Result, Ok, Err}
use Rattle.snow_chain.specs.Model.Chain.{Rules}
use Rattle.snow_lines.specs.declared.line.Line.{Line}
use Rattle.snow_lines.specs.declared.line.Line.TheVariants as line
use Rattle.snow_store.specs.declared.stop.BootStop.{BootStop}
use Rattle.snow_store.specs.declared.stop.BootStop.TheVariants as stop
use Rattle.snow_boot.specs.declared.question.Question.{Question}
use Rattle.snow_boot.specs.declared.question.Question.TheVariants as question
use Rattle.snow_boot.specs.Model.Asking.{Asked, asked}
use Rattle.snow_boot.specs.Model.Executing.{Executed, executed}
use Rattle.snow_store.specs.Model.Paths.{is_whole, highest_target}
use Rattle.snow_boot.specs.Model.Booting.{Boot, Next, Outcome, fetch_of, with_requests, ended, finished, height_or, followed_by, followed}
use Rattle.snow_boot.specs.Laws.OutcomeLaw.{IsExecution, whole_path_of, IsEnd}
use Rattle.snow_boot.specs.Clauses.Promising.{AcceptsBelow}
use Rattle.snow_boot.proofs.Executed.{in_order}
use Rattle.snow_store.proofs.Cases.{clash}

-- the path is executed
end_of_path : (boot : Boot) (e : Executed) → is_whole (fetch_of boot) ≡ true → IsExecution boot.store.last (whole_path_of boot) e
    → IsEnd boot (ended (height_or boot.store.height (highest_target boot.store.kept boot.targets)) e)
end_of_path boot (lines, Ok (last, state)) whole x =
    let height = height_or boot.store.height (highest_target boot.store.kept boot.targets) in (whole, ap (λ l. l ++ line.Bootstrapped last height ∷ []) x.0, x.1, refl)
end_of_path boot (lines, Err why) whole x = λ same. x

-- something is missed
end_of_asking : (boot : Boot) (a : Asked) → is_whole (fetch_of boot) ≡ false → IsEnd boot (with_requests boot a)
end_of_asking boot (lines, Err why) not = λ whole. clash (is_whole (fetch_of boot)) whole not
end_of_asking boot (lines, Ok (requests, drawn)) not = tt

end_by : (rules : Rules) (state : List ℕ) (boot : Boot) (drawn : ℕ) (q : Question) → IsEnd boot (followed_by rules state boot drawn q)
end_by rules state boot drawn question.Nothing = by_test (is_whole (fetch_of boot)) refl
  where
    by_test : (t : Bool) → is_whole (fetch_of boot) ≡ t
        → IsEnd boot (if t then finished rules state boot.store (highest_target boot.store.kept boot.targets) else with_requests boot (asked boot.nodes (fetch_of boot) boot.targets boot.requests drawn))
    by_test true whole = end_of_path boot (executed rules boot.store.last state (whole_path_of boot)) whole (in_order rules boot.store.last state (whole_path_of boot))
    by_test false not = end_of_asking boot (asked boot.nodes (fetch_of boot) boot.targets boot.requests drawn) not
end_by rules state boot drawn question.Frontier = tt
end_by rules state boot drawn question.Accepted = tt

pub end_followed : (rules : Rules) (state : List ℕ) (boot : Boot) (drawn : ℕ) → IsEnd boot (followed rules state boot drawn)
unfolding followed
end_followed rules state boot drawn = end_by rules state boot drawn boot.question

same_refused : (a b : List ℕ) (why : BootStop) → why ≡ stop.Refused a → (let r : Result Next BootStop = Err why in r) ≡ Err (stop.Refused b) → a ≡ b
same_refused a b why is e = cc

-- where a block of the path is refused, those below it were accepted
pub refused_there : (o : Outcome) (boot : Boot) (before after : List Line) (id : List ℕ) → IsEnd boot o → is_whole (fetch_of boot) ≡ true → after ≡ before ++ o.0 → o.1 ≡ Err (stop.Refused id)
    → AcceptsBelow before after boot id
refused_there (lines, Ok next) boot before after id x whole grown e = cc
refused_there (lines, Err why) boot before after id x whole grown e =
    let p = x whole in
    inr (p.0, grown ∙ ap (λ l. before ++ l) p.4, record { refused = p.1; above = p.2; whole = p.3; named = same_refused p.1.header.id id why p.5 e }, whole)
