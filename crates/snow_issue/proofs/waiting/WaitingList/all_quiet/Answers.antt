use Rattle.std.proofs.Common.{List, subst}
use Rattle.snow_issue.specs.declared.work.Waiting.{Waiting}
use Rattle.snow_lineup.specs.declared.marks.Mark.{Mark}
use Rattle.snow_issue.specs.Kept.Known.{NoneNew, NoneRipe}
use Rattle.snow_issue.proofs.waiting.WaitingList.all_quiet.Goals as goal

pub returns-clause-new : goal.returns-clause-new
returns-clause-new c told = subst (λ (l : List (Waiting × Mark)). NoneNew l) c.self.view_is (c.all_quiet.ensures.new told)

pub returns-clause-ripe : goal.returns-clause-ripe
returns-clause-ripe c told = subst (λ (l : List (Waiting × Mark)). NoneRipe l) c.self.view_is (c.all_quiet.ensures.ripe told)
