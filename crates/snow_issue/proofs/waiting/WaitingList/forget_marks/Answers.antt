use Rattle.std.proofs.Common.{List, sym, ap, ◌∙◌, subst}
use Rattle.snow_map.specs.Clauses.Entries.{value_of}
use Rattle.snow_issue.specs.declared.work.Waiting.{Waiting}
use Rattle.snow_issue.specs.Kept.Known.{items_of}
use Rattle.snow_issue.specs.Kept.Index.{HasHeights}
use Rattle.snow_issue.proofs.Taken.{items_forgotten}
use Rattle.snow_issue.proofs.waiting.WaitingList.forget_marks.Goals as goal

pub invariant_of-self : goal.invariant_of-self
invariant_of-self c =
    let same = (sym (ap items_of c.forget_marks.ensures ∙ items_forgotten c.self.inside.lineup)) in
    subst (λ (l : List Waiting). HasHeights (λ q. value_of c.self.inside.heights q) l) same c.self.invariant
