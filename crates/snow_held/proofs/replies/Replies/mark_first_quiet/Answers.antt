-- The first one of the backlog becomes quiet, and the replies and their numbers are the same.
use Rattle.std.proofs.Common.{ap, ◌∙◌}
use Rattle.snow_held.specs.Kept.Arrivals.{filed, names}
use Rattle.snow_held.specs.Model.Replies.{quieted}
use Rattle.snow_held.proofs.Numbered.{filed_by}
use Rattle.snow_held.proofs.replies.Replies.mark_first_quiet.Goals as goal

pub invariant_of-self : goal.invariant_of-self
invariant_of-self c =
    let inside = c.self.inside in
    let e = c.mark_first_quiet.ensures in
    filed_by inside.backlog c.mark_first_quiet.new.self (filed inside.polls) (names inside.blocks) inside.next c.self.invariant e.sorted e.replies

pub returns : goal.returns
returns c = c.mark_first_quiet.ensures.seats ∙ ap quieted c.self.view_is
