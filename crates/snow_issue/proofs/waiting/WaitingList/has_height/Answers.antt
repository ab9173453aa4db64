use Rattle.std.proofs.Common.{ap, ◌∙◌}
use Rattle.snow_map.specs.Clauses.Entries.{value_of}
use Rattle.snow_issue.specs.Model.Lists.{waits_among}
use Rattle.snow_issue.specs.Kept.Known.{items_of}
use Rattle.snow_issue.proofs.Heights.{waits_known}
use Rattle.snow_issue.proofs.waiting.WaitingList.has_height.Goals as goal

pub returns : goal.returns
returns c =
    c.contains_key.ensures ∙ waits_known (λ q. value_of c.self.inside.heights q) (items_of c.self.inside.lineup) c.args.id.now c.self.invariant
    ∙ ap (λ l. waits_among (items_of l) c.args.id.now) c.self.view_is
