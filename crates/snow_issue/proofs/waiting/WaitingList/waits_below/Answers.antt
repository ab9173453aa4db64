-- The block that came last is found by its place.
use Rattle.std.proofs.Common.{◌<◌, ◌-◌, length, sym, ap, ◌∙◌, arith}
use Rattle.std.proofs.lemmas.List.{length-map}
use Rattle.snow_map.specs.Clauses.Entries.{value_of}
use Rattle.snow_issue.specs.declared.work.Waiting.{Waiting}
use Rattle.snow_lineup.specs.declared.marks.Mark.{Mark}
use Rattle.snow_issue.specs.Model.Lists.{waits_below}
use Rattle.snow_issue.specs.Kept.Known.{items_of}
use Rattle.snow_issue.proofs.Heights.{below_at}
use Rattle.snow_issue.proofs.Taken.{item_is}
use Rattle.snow_issue.proofs.waiting.WaitingList.waits_below.Goals as goal

pub returns-then-eq : goal.returns-then-eq
returns-then-eq c =
    let seats = c.self.inside.lineup in
    let at = c.len-len.result - 1 in
    let w = c.item.result.now in
    let there : at < length seats = omega (arith, c.len-len.ensures, c.if-len-eq0.false) in
    c.is_right_below.ensures
    ∙ below_at (λ q. value_of c.self.inside.heights q) (items_of seats) c.args.child.now at w c.self.invariant
    (omega (arith, there, length-map seats (λ (s : Waiting × Mark). s.0))) (item_is seats at w there c.item.ensures) (sym c.eq.ensures ∙ c.if-eq.true)
    ∙ ap (λ l. waits_below (items_of l) c.args.child.now) c.self.view_is
