-- No node is awaited.
use Rattle.std.proofs.Common.{List, [], ap, ◌∙◌}
use Rattle.snow_sample.specs.declared.roster.Node.{Node}
use Rattle.snow_boot.specs.declared.question.Question.TheVariants as question
use Rattle.snow_boot.specs.Kept.Surveying.{Surveyed, surveyed}
use Rattle.snow_boot.proofs.Surveyed.{survey_closed}
use Rattle.snow_boot.proofs.Weighed.{none_in, none_known}
use Rattle.snow_boot.proofs.survey.Survey.close.Goals as goal

pub invariant_of-self : goal.invariant_of-self
invariant_of-self c =
    let i = c.self.inside in
    let s = surveyed i.nodes.items i.question i.number i.awaited i.candidates in (
      rw (none_in c.clear.new.self c.clear.ensures.empty i.nodes.items) (survey_closed s i.total c.self.invariant.0),
      none_known c.clear.new.self c.clear.ensures.empty i.nodes.items,
    )

pub returns : goal.returns
returns c =
    let i = c.self.inside in
    ap (λ (l : List Node). (let t : Surveyed = record { nodes = i.nodes.items; question = question.Nothing; number = i.number; awaited = l; candidates = i.candidates } in t))
    (none_in c.clear.new.self c.clear.ensures.empty i.nodes.items)
    ∙ ap (λ (v : Surveyed). (let t : Surveyed = record { nodes = v.nodes; question = question.Nothing; number = v.number; awaited = []; candidates = v.candidates } in t)) c.self.view_is
