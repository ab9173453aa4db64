-- A pending block that neither waits nor is asked for is its own vote.
use Rattle.std.proofs.Common.{◌≡◌, false, sym, ap, ◌∙◌}
use Rattle.snow_issue.specs.Model.Lists.{waits, is_asked}
use Rattle.snow_issue.specs.Kept.Known.{Seen, lists_of}
use Rattle.snow_issue.proofs.Bubbled.{own_vote}
use Rattle.snow_issue.proofs.queue.Queue.is_own_vote.Goals as goal

pub returns-clause-vote : goal.returns-clause-vote
returns-clause-vote g c told =
    let id = c.args.id.now in
    let away : waits (lists_of c.args.self.now) id ≡ false = ap (λ (s : Seen). waits (lists_of s) id) (sym c.self.view_is) ∙ sym c.waits.ensures ∙ c.if-waits.false in
    let unasked : is_asked (lists_of c.args.self.now) id ≡ false = ap (λ (s : Seen). is_asked (lists_of s) id) (sym c.self.view_is) ∙ sym c.asks_for.ensures ∙ c.if-asks_for.false in
    own_vote (lists_of c.args.self.now) (g.B.Board.board c.args.board.now) id away unasked (sym c.is_pending.ensures ∙ told)
