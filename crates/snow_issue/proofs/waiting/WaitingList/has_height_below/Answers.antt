use Rattle.std.proofs.Common.{ap, ◌∙◌}
use Rattle.snow_map.specs.Clauses.Entries.{value_of}
use Rattle.snow_issue.specs.Model.Lists.{waits_below}
use Rattle.snow_issue.specs.Kept.Known.{items_of}
use Rattle.snow_issue.proofs.Heights.{below_known, below_missing}
use Rattle.snow_issue.proofs.waiting.WaitingList.has_height_below.Goals as goal

pub returns-in-Some : goal.returns-in-Some
returns-in-Some c =
    c.is_right_below.ensures
    ∙ below_known (λ q. value_of c.self.inside.heights q) (items_of c.self.inside.lineup) c.args.child.now c.in-Some.height.now c.self.invariant c.in-Some.ensures.value
    ∙ ap (λ l. waits_below (items_of l) c.args.child.now) c.self.view_is

pub returns-in-None : goal.returns-in-None
returns-in-None c =
    below_missing (λ q. value_of c.self.inside.heights q) (items_of c.self.inside.lineup) c.args.child.now c.self.invariant c.in-None.ensures.value
    ∙ ap (λ l. waits_below (items_of l) c.args.child.now) c.self.view_is
