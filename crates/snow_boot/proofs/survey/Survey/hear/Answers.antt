-- One node less is awaited.
use Rattle.std.proofs.Common.{List, ap, ◌∙◌}
use Rattle.snow_sample.specs.declared.roster.Node.{Node}
use Rattle.snow_boot.specs.Model.Electing.{still_awaited}
use Rattle.snow_boot.specs.Kept.Surveying.{Surveyed, surveyed}
use Rattle.snow_boot.proofs.Surveyed.{survey_heard}
use Rattle.snow_boot.proofs.Weighed.{still_in, still_weigh}
use Rattle.snow_boot.proofs.survey.Survey.hear.Goals as goal

pub invariant_of-self : goal.invariant_of-self
invariant_of-self c =
    let i = c.self.inside in
    let s = surveyed i.nodes.items i.question i.number i.awaited i.candidates in (
      rw (still_in i.awaited c.remove.new.self c.args.node.now c.remove.ensures.updates.0 i.nodes.items) (survey_heard s i.total c.args.node.now c.self.invariant.0),
      still_weigh i.awaited c.remove.new.self c.args.node.now i.nodes.items c.remove.ensures.updates.0 c.self.invariant.1,
    )

pub returns : goal.returns
returns c =
    let i = c.self.inside in
    ap (λ (l : List Node). (let t : Surveyed = record { nodes = i.nodes.items; question = i.question; number = i.number; awaited = l; candidates = i.candidates } in t))
    (still_in i.awaited c.remove.new.self c.args.node.now c.remove.ensures.updates.0 i.nodes.items)
    ∙ ap (λ (v : Surveyed). (let t : Surveyed = record { nodes = v.nodes; question = v.question; number = v.number; awaited = still_awaited v.awaited c.args.node.now; candidates = v.candidates } in t))
    c.self.view_is
