use Rattle.std.proofs.Common.{◌==◌, ℕ, not, ap, ◌∙◌, rules}
use Rattle.std.proofs.lemmas.Fn.{filter_same}
use Rattle.snow_lineup.specs.Kept.Index.{left_by}
use Rattle.snow_lineup.proofs.rows.Row.leave.Goals as goal

pub returns-clause-left : goal.returns-clause-left
returns-clause-left c =
    let test : ℕ → _ = λ p. not (p == c.args.place) in
    filter_same _ test _ (λ x b f k. search rules) _ _ c.retain.ensures.filtered ∙ ap (left_by c.args.place) c.self.view_is
