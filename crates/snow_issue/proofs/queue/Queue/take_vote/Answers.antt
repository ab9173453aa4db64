-- The earliest free reply is taken out.
use Rattle.std.proofs.Common.{cond, find, ap, ◌∙◌}
use Rattle.std.specs.Option.{is_some}
use Rattle.snow_gets.specs.Model.Gets.{without}
use Rattle.snow_issue.specs.Model.Settling.{is_free}
use Rattle.snow_issue.specs.Kept.Known.{Seen, lists_of}
use Rattle.snow_issue.proofs.Settled.{kept_replies}
use Rattle.snow_issue.proofs.queue.Queue.take_vote.Goals as goal

pub invariant_of-self : goal.invariant_of-self
invariant_of-self c =
    let inside = c.self.inside in
    kept_replies inside.waiting inside.gets inside.replies c.take_free.new.replies inside.gone c.self.invariant c.take_free.ensures.quiet

pub returns-clause-found : goal.returns-clause-found
returns-clause-found c = c.take_free.ensures.found ∙ ap (λ (s : Seen). find (is_free (lists_of s)) s.held) c.self.view_is

pub returns-clause-held : goal.returns-clause-held
returns-clause-held c = c.take_free.ensures.left ∙ ap (λ (s : Seen). cond (is_some c.take_free.result) (without (is_free (lists_of s)) s.held) s.held) c.self.view_is
