-- The block at the place is quiet, by what is asked of it.
use Rattle.std.proofs.Common.{◌≡◌, true, ◌||◌, sym, ap, ◌∙◌}
use Rattle.std.proofs.lemmas.Bool.{or_left}
use Rattle.snow_lineup.specs.declared.marks.Mark.TheVariants.{Quiet}
use Rattle.snow_gets.specs.Model.Gets.{asked_in}
use Rattle.snow_issue.specs.Model.Lists.{waits_below}
use Rattle.snow_issue.specs.Kept.Known.{items_of, sight}
use Rattle.snow_map.proofs.Booleans.{or_true}
use Rattle.snow_issue.proofs.Looked.{items_after_set, tells_after}
use Rattle.snow_issue.proofs.Quieted.{sees_quiet}
use Rattle.snow_issue.proofs.looking.mark_quiet_at.Goals as goal
use Rattle.snow_issue.proofs.looking.mark_quiet_at.Goals.{then-asks_for, else-asks_for}

pub returns-then-waits_below-clause-same : goal.returns-then-waits_below-clause-same
returns-then-waits_below-clause-same c = items_after_set c.args.waiting.now c.set.new.self c.args.at Quiet c.requires c.set.ensures

pub returns-then-waits_below-clause-tells : goal.returns-then-waits_below-clause-tells
returns-then-waits_below-clause-tells c b off tells =
    let seats = c.args.waiting.now in
    let gets = c.args.gets.now in
    let head = c.header-block.result.now in
    let asked = asked_in gets head.parent in
    let below = waits_below (items_of seats) head in
    let busy : (asked || below) ≡ true = elim c.if-asks_for.branch [
      | then-asks_for w ↦ or_left asked below (sym c.asks_for.ensures ∙ w.if-asks_for.true)
      | else-asks_for w ↦ ap (λ t. asked || t) (sym w.waits_below.ensures ∙ sym w.value-is ∙ c.if-waits_below.true) ∙ or_true asked
    ] in
    tells_after gets b seats c.set.new.self c.args.at Quiet c.requires c.set.ensures
    (λ d. ap (λ h. sight (items_of seats) gets b h) (sym (c.header-block.ensures d))
    ∙ sees_quiet (items_of seats) gets b head c.args.parent.now (sym c.eq.ensures ∙ c.if-eq.true) off busy)
    tells
