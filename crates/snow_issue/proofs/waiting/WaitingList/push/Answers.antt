use Rattle.std.proofs.Common.{◌≡◌, List, false, sym, ap, ◌∙◌, subst}
use Rattle.snow_issue.specs.declared.work.Waiting.{Waiting}
use Rattle.snow_lineup.specs.declared.marks.Mark.TheVariants.{New}
use Rattle.snow_map.specs.Clauses.Entries.{value_of}
use Rattle.snow_issue.specs.Model.Lists.{waits_among}
use Rattle.snow_issue.specs.Kept.Known.{items_of}
use Rattle.snow_issue.specs.Kept.Index.{HasHeights}
use Rattle.snow_issue.proofs.Heights.{heights_pushed}
use Rattle.snow_issue.proofs.Taken.{items_pushed}
use Rattle.snow_issue.proofs.waiting.WaitingList.push.Goals as goal

pub invariant_of-self-in-Ok : goal.invariant_of-self-in-Ok
invariant_of-self-in-Ok c =
    let seats = c.self.inside.lineup in
    let new = subst (λ l. waits_among (items_of l) c.args.block.header.id ≡ false) (sym c.self.view_is) c.requires in
    subst (λ (l : List Waiting). HasHeights (λ q. value_of c.insert.new.self q) l) (sym (ap items_of c.in_ok-push.ensures.ok ∙ items_pushed seats c.args.block New))
    (heights_pushed (λ q. value_of c.self.inside.heights q) (λ q. value_of c.insert.new.self q) (items_of seats) c.args.block c.self.invariant new c.in-Ok.ensures.updates)
