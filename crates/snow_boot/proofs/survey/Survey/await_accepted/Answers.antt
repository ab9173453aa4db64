-- All nodes are awaited.
use Rattle.std.proofs.Common.{◌≡◌, List, ap, subst, sym, ◌∙◌}
use Rattle.snow_sample.specs.declared.roster.Node.{Node}
use Rattle.snow_boot.specs.declared.question.Question.TheVariants as question
use Rattle.snow_boot.specs.Kept.Surveying.{Surveyed, surveyed, nodes_in, HasWeights}
use Rattle.snow_boot.proofs.Surveyed.{survey_accepted}
use Rattle.snow_boot.proofs.Weighed.{all_in}
use Rattle.snow_boot.proofs.survey.Survey.await_accepted.Goals as goal

pub invariant_of-self : goal.invariant_of-self
invariant_of-self c =
    let i = c.self.inside in
    let s = surveyed i.nodes.items i.question i.number i.awaited i.candidates in
    let has : HasWeights c.in_ok-awaited.awaited i.nodes.items = subst (HasWeights c.in_ok-awaited.awaited) c.as_slice.ensures.value c.in_ok-awaited.ensures in
    let all : nodes_in c.in_ok-awaited.awaited i.nodes.items ≡ i.nodes.items = all_in c.in_ok-awaited.awaited i.nodes.items has in
    let asks : s.question ≡ question.Frontier = ap (λ (v : Surveyed). v.question) c.self.view_is ∙ c.requires in
    (rw all (survey_accepted s i.total c.args.number asks c.self.invariant.0), subst (HasWeights c.in_ok-awaited.awaited) (sym all) has)

pub returns : goal.returns
returns c =
    let i = c.self.inside in
    let has : HasWeights c.in_ok-awaited.awaited i.nodes.items = subst (HasWeights c.in_ok-awaited.awaited) c.as_slice.ensures.value c.in_ok-awaited.ensures in
    ap (λ (l : List Node). (let t : Surveyed = record { nodes = i.nodes.items; question = question.Accepted; number = c.args.number; awaited = l; candidates = i.candidates } in t))
    (all_in c.in_ok-awaited.awaited i.nodes.items has)
    ∙ ap (λ (v : Surveyed). (let t : Surveyed = record { nodes = v.nodes; question = question.Accepted; number = c.args.number; awaited = v.nodes; candidates = v.candidates } in t)) c.self.view_is
