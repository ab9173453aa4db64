-- Each number in turn.
use Rattle.std.proofs.Common.{◌+◌, map, drop, get_or, sym, ap, ◌∙◌}
use Rattle.std.proofs.lemmas.List.{drop_more, drop_all}
use Rattle.snow_held.specs.Kept.Arrivals.{woken_among}
use Rattle.snow_held.proofs.Seated.{woken_on, woken_by_none}
use Rattle.snow_held.proofs.arrivals.wake_each.Goals as goal

pub loop-arrival-preserved : goal.loop-arrival-preserved
loop-arrival-preserved c =
    let id = c.args.id.now in
    let numbers = c.args.numbers.now in
    let i = c.loop-arrival.arrival-index in
    let rest = drop (i + 1) numbers in
    ap (map (woken_among rest id)) c.wake.ensures.woken
    ∙ woken_on (get_or numbers i 0) rest id c.loop-arrival.backlog
    ∙ ap (λ l. map (woken_among l id) c.loop-arrival.backlog) (sym (drop_more numbers i 0 c.loop-arrival-test.true))
    ∙ c.loop-arrival.invariant

pub returns : goal.returns
returns c =
    let id = c.args.id.now in
    let numbers = c.args.numbers.now in
    sym (woken_by_none id c.loop-arrival.backlog)
    ∙ ap (λ l. map (woken_among l id) c.loop-arrival.backlog) (sym (drop_all c.loop-arrival.arrival-index numbers c.loop-arrival-test.false))
    ∙ c.loop-arrival.invariant
