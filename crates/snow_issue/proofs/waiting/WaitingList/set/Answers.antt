use Rattle.std.proofs.Common.{◌<◌, List, length, sym, subst}
use Rattle.snow_map.specs.Clauses.Entries.{value_of}
use Rattle.snow_issue.specs.declared.work.Waiting.{Waiting}
use Rattle.snow_issue.specs.Kept.Index.{HasHeights}
use Rattle.snow_issue.proofs.Looked.{items_after_set}
use Rattle.snow_issue.proofs.waiting.WaitingList.set.Goals as goal

pub invariant_of-self : goal.invariant_of-self
invariant_of-self c =
    let there : c.args.at < length c.self.inside.lineup = subst (λ l. c.args.at < length l) (sym c.self.view_is) c.requires in
    let same = (sym (items_after_set c.self.inside.lineup c.set.new.self c.args.at c.args.mark there c.set.ensures)) in
    subst (λ (l : List Waiting). HasHeights (λ q. value_of c.self.inside.heights q) l) same c.self.invariant
