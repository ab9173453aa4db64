-- Nothing is asked yet.
use Rattle.std.proofs.Common.{◌≡◌, List, [], None, sym, ap, ◌∙◌}
use Rattle.snow_sample.specs.declared.roster.Node.{Node}
use Rattle.snow_sample.specs.Model.Roster.{total_weight, first_fault}
use Rattle.snow_boot.specs.declared.question.Candidate.{Candidate}
use Rattle.snow_boot.specs.declared.question.Question.TheVariants as question
use Rattle.snow_boot.specs.Kept.Surveying.{Surveyed}
use Rattle.snow_boot.proofs.Surveyed.{survey_begun}
use Rattle.snow_boot.proofs.Weighed.{none_in, none_known}
use Rattle.snow_boot.proofs.survey.Survey.begin.Goals as goal

pub invariant_of-result : goal.invariant_of-result
invariant_of-result c =
    let nodes = c.in_ok-nodes.nodes.items in
    let same : nodes ≡ c.args.roster.now = c.in_ok-nodes.ensures.items ∙ c.nodes.ensures.nodes in
    let good : first_fault nodes ≡ None = ap first_fault (c.in_ok-nodes.ensures.items) ∙ c.nodes.ensures.good in
    let total : c.total-total.result ≡ total_weight nodes = c.total-total.ensures.total ∙ ap total_weight (sym same) in (
      rw (none_in c.new.result c.new.ensures.empty nodes, c.new-2.ensures) (survey_begun nodes c.total-total.result 0 good total c.total-total.ensures.small),
      none_known c.new.result c.new.ensures.empty nodes,
    )

pub returns : goal.returns
returns c =
    let nodes = c.in_ok-nodes.nodes.items in
    ap (λ (l : List Node). (let t : Surveyed = record { nodes = nodes; question = question.Nothing; number = 0; awaited = l; candidates = c.new-2.result } in t))
    (none_in c.new.result c.new.ensures.empty nodes)
    ∙ ap (λ (es : List Candidate). (let t : Surveyed = record { nodes = nodes; question = question.Nothing; number = 0; awaited = []; candidates = es } in t)) c.new-2.ensures
    ∙ ap (λ (l : List Node). (let t : Surveyed = record { nodes = l; question = question.Nothing; number = 0; awaited = []; candidates = [] } in t)) (c.in_ok-nodes.ensures.items ∙ c.nodes.ensures.nodes)
