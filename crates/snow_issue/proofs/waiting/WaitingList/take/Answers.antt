use Rattle.std.proofs.Common.{◌<◌, List, length, sym, ap, ◌∙◌, subst, arith}
use Rattle.std.proofs.lemmas.List.{length-map}
use Rattle.snow_map.specs.Clauses.Entries.{value_of}
use Rattle.snow_issue.specs.declared.work.Waiting.{Waiting}
use Rattle.snow_lineup.specs.declared.marks.Mark.{Mark}
use Rattle.snow_issue.specs.Kept.Known.{items_of}
use Rattle.snow_issue.specs.Kept.Index.{HasHeights}
use Rattle.snow_issue.proofs.Heights.{heights_removed}
use Rattle.snow_issue.proofs.Taken.{item_is, items_removed}
use Rattle.snow_issue.proofs.waiting.WaitingList.take.Goals as goal

pub invariant_of-self : goal.invariant_of-self
invariant_of-self c =
    let seats = c.self.inside.lineup in
    let at = c.args.at in
    let w = c.item.result.now in
    let there : at < length seats = subst (λ l. at < length l) (sym c.self.view_is) c.requires in
    subst (λ (l : List Waiting). HasHeights (λ q. value_of c.remove.new.self q) l) (sym (ap items_of c.take.ensures.rest ∙ items_removed seats at))
    (heights_removed (λ q. value_of c.self.inside.heights q) (λ q. value_of c.remove.new.self q) (items_of seats) at w c.self.invariant (omega (arith, there, length-map seats (λ (s : Waiting × Mark). s.0)))
    (item_is seats at w there c.item.ensures) c.remove.ensures.updates)
