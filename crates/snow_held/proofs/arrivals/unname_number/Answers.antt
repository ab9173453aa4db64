use Rattle.std.proofs.Common.{sym, ap, ◌∙◌}
use Rattle.std.specs.Option.{is_some}
use Rattle.snow_held.specs.Kept.Arrivals.{has_number_in}
use Rattle.snow_held.proofs.Listed.{stays_within}
use Rattle.snow_held.proofs.arrivals.unname_number.Goals as goal

pub returns-clause-left : goal.returns-clause-left
returns-clause-left c =
    let before = c.args.blocks.now in
    let new = c.leave.new.self in
    stays_within c.args.backlog.now before (c.get_mut.follows.lender new) c.args.id.now new
    ((c.get_mut.follows.holds new).3 (ap is_some (sym c.in-Some.ensures.value))).0
    (λ a k found named. c.leave.ensures.kept a k found (ap (λ m. has_number_in m a) c.in-Some.ensures.value ∙ named))
