use Rattle.std.proofs.Common.{ℕ, filter, ap, ◌∙◌, rules}
use Rattle.std.proofs.lemmas.Fn.{filter_same}
use Rattle.std.specs.Option.{is_some}
use Rattle.snow_held.specs.Kept.Arrivals.{at_arrival}
use Rattle.snow_held.proofs.named.Named.tidy.Goals as goal

pub returns : goal.returns
returns c =
    let held : ℕ → _ = λ a. is_some (at_arrival c.args.backlog.now a) in
    filter_same _ held _ (λ x b f k. search rules) _ _ c.retain.ensures.filtered ∙ ap (filter held) c.self.view_is
