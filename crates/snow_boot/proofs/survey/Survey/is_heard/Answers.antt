-- None has a weight just where none is awaited.
use Rattle.std.proofs.Common.{length, ◌==◌, ap, ◌∙◌}
use Rattle.snow_boot.specs.Kept.Surveying.{Surveyed, nodes_in}
use Rattle.snow_boot.proofs.survey.Survey.is_heard.Goals as goal

pub returns : goal.returns
returns c =
    c.is_none.ensures (nodes_in c.self.inside.awaited c.self.inside.nodes.items) c.self.invariant.1 ∙ ap (λ (v : Surveyed). length v.awaited == 0) c.self.view_is
