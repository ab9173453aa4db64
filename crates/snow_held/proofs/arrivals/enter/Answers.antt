-- The number of a reply that is held is put back.
use Rattle.std.proofs.Common.{sym, ap, ◌∙◌}
use Rattle.std.specs.Option.{is_some}
use Rattle.snow_held.proofs.Numbered.{put_back}
use Rattle.snow_held.proofs.arrivals.enter.Goals as goal

pub returns-in-Some-get_mut-clause-ok : goal.returns-in-Some-get_mut-clause-ok
returns-in-Some-get_mut-clause-ok c other =
    let number = c.in-Some.number in
    put_back c.args.nodes.now c.insert.new.self (c.get_mut.follows.lender number) c.args.key c.args.arrival number
    (sym c.in_ok-before.ensures.old ∙ c.in-Some.is) c.in_ok-before.ensures.updates.0
    ((c.get_mut.follows.holds number).3 (ap is_some (sym c.in-Some-get_mut.ensures.value))).0 other
