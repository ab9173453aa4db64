-- One node less is awaited, and nothing backs what it named.
use Rattle.std.proofs.Common.{List, ap, ◌∙◌}
use Rattle.snow_sample.specs.declared.roster.Node.{Node}
use Rattle.snow_boot.specs.declared.question.Candidate.{Candidate}
use Rattle.snow_boot.specs.Model.Electing.{still_awaited, collected}
use Rattle.snow_boot.specs.Kept.Surveying.{Surveyed, surveyed, nodes_in}
use Rattle.snow_boot.proofs.Surveyed.{survey_collected}
use Rattle.snow_boot.proofs.Weighed.{still_in, still_weigh}
use Rattle.snow_boot.proofs.survey.Survey.collect.Goals as goal

pub invariant_of-self-2 : goal.invariant_of-self-2
invariant_of-self-2 c =
    let i = c.self.inside in
    let s = surveyed i.nodes.items i.question i.number i.awaited i.candidates in (
      rw (still_in i.awaited c.remove.new.self c.args.node.now c.remove.ensures.updates.0 i.nodes.items, c.in_ok-collect.ensures.ok) (survey_collected s i.total c.args.node.now c.args.id c.self.invariant.0),
      still_weigh i.awaited c.remove.new.self c.args.node.now i.nodes.items c.remove.ensures.updates.0 c.self.invariant.1,
    )

pub returns : goal.returns
returns c =
    let i = c.self.inside in
    ap (λ (l : List Node). (let t : Surveyed = record { nodes = i.nodes.items; question = i.question; number = i.number; awaited = l; candidates = c.collect.new.self } in t))
    (still_in i.awaited c.remove.new.self c.args.node.now c.remove.ensures.updates.0 i.nodes.items)
    ∙ ap (λ (l : List Candidate).
    (let t : Surveyed = record { nodes = i.nodes.items; question = i.question; number = i.number; awaited = still_awaited (nodes_in i.awaited i.nodes.items) c.args.node.now; candidates = l } in t))
    c.in_ok-collect.ensures.ok
    ∙ ap (λ (v : Surveyed). (let t : Surveyed = record { nodes = v.nodes; question = v.question; number = v.number; awaited = still_awaited v.awaited c.args.node.now; candidates = collected v.candidates c.args.id } in t))
    c.self.view_is
