-- The keys are the identifiers of the candidates.
use Rattle.std.proofs.Common.{map, ap, ◌∙◌}
use Rattle.snow_boot.specs.Kept.Surveying.{Surveyed}
use Rattle.snow_boot.proofs.survey.Survey.named.Goals as goal

pub returns : goal.returns
returns c =
    c.in_ok-ids.ensures ∙ c.ids.ensures ∙ ap (λ (v : Surveyed). map (λ c. c.id) v.candidates) c.self.view_is
