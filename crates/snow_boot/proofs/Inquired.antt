-- What all nodes are asked, one question after another.
use Rattle.std.proofs.Common.{◌≡◌, ℕ, true, List, [], ◌∷◌, ◌++◌, map, Some, refl, sym, ap, subst, ◌∙◌, arith}
use Rattle.std.specs.Prelude.{Ok}
use Rattle.snow_base.specs.Model.Numbers.{next_number, last_after}
use Rattle.snow_chain.specs.Model.Chain.{Held}
use Rattle.snow_gets.specs.declared.gets.Get.{Get}
use Rattle.snow_lines.specs.declared.line.Line.{Line}
use Rattle.snow_lines.specs.declared.line.Line.TheVariants as line
use Rattle.snow_boot.specs.declared.question.Question.TheVariants as question
use Rattle.snow_boot.specs.declared.boot.Stage.TheVariants as stage
use Rattle.snow_boot.specs.Model.Booting.{Going, ask_frontier, ask_accepted}
use Rattle.snow_boot.specs.Clauses.Calling.{AreDrawn}
use Rattle.snow_boot.specs.Kept.Coursing.{boot_of, Comes}
use Rattle.snow_boot.specs.Kept.Fetching.{Hunt}
use Rattle.snow_boot.specs.Kept.Surveying.{Surveyed}
use Rattle.snow_boot.proofs.Asked.{next_is, still_drawn}

frontier_goes : question.Frontier ≡ question.Nothing → ⊥
frontier_goes e = cc

accepted_goes : question.Accepted ≡ question.Nothing → ⊥
accepted_goes e = cc

-- all nodes were asked for their frontier
pub frontier_asked : (s now : Surveyed) (hunt : Hunt) (requests : List Get) (drawn number last : ℕ) (held : Held) (before after : List Line) → hunt.whole ≡ true → held.last ≡ hunt.fetch.store.last → Some number ≡ next_number drawn
    → last ≡ last_after drawn → AreDrawn requests drawn → now ≡ record { nodes = s.nodes; question = question.Frontier; number = number; awaited = s.nodes; candidates = [] }
    → after ≡ before ++ line.Frontier number ∷ []
    → Comes (Ok stage.Going) before after now hunt requests drawn last held held (ask_frontier (boot_of s hunt.fetch requests) (next_number drawn))
frontier_asked s now hunt requests drawn number last held before after whole stays next is are made written =
    let n = next_is drawn number next in
    let same : number ≡ last = sym (is ∙ n.1) in
    let asks : Surveyed = record { nodes = s.nodes; question = question.Frontier; number = number; awaited = s.nodes; candidates = [] } in
    subst (λ (t : Surveyed). Comes (Ok stage.Going) before after t hunt requests drawn last held held (ask_frontier (boot_of s hunt.fetch requests) (next_number drawn))) (sym made)
    (subst (λ o. Comes (Ok stage.Going) before after asks hunt requests drawn last held held (ask_frontier (boot_of s hunt.fetch requests) o)) next (
      written,
      ap (λ m. (let o = Ok (Going (boot_of asks hunt.fetch requests) m) in o)) same,
      refl,
      record { whole = whole; settled = λ e. absurd (frontier_goes e) },
      still_drawn requests drawn last (omega (arith, n.0, same)) are,
      stays,
    ))

-- all nodes were asked what they hold accepted
pub accepted_asked : (s now : Surveyed) (hunt : Hunt) (requests : List Get) (drawn number last : ℕ) (held : Held) (before after : List Line) → hunt.whole ≡ true → held.last ≡ hunt.fetch.store.last → Some number ≡ next_number drawn
    → last ≡ last_after drawn → AreDrawn requests drawn → now ≡ record { nodes = s.nodes; question = question.Accepted; number = number; awaited = s.nodes; candidates = s.candidates }
    → after ≡ before ++ line.Accepted number (map (λ c. c.id) s.candidates) ∷ []
    → Comes (Ok stage.Going) before after now hunt requests drawn last held held (ask_accepted (boot_of s hunt.fetch requests) (next_number drawn))
accepted_asked s now hunt requests drawn number last held before after whole stays next is are made written =
    let n = next_is drawn number next in
    let same : number ≡ last = sym (is ∙ n.1) in
    let asks : Surveyed = record { nodes = s.nodes; question = question.Accepted; number = number; awaited = s.nodes; candidates = s.candidates } in
    subst (λ (t : Surveyed). Comes (Ok stage.Going) before after t hunt requests drawn last held held (ask_accepted (boot_of s hunt.fetch requests) (next_number drawn))) (sym made)
    (subst (λ o. Comes (Ok stage.Going) before after asks hunt requests drawn last held held (ask_accepted (boot_of s hunt.fetch requests) o)) next (
      written,
      ap (λ m. (let o = Ok (Going (boot_of asks hunt.fetch requests) m) in o)) same,
      refl,
      record { whole = whole; settled = λ e. absurd (accepted_goes e) },
      still_drawn requests drawn last (omega (arith, n.0, same)) are,
      stays,
    ))
