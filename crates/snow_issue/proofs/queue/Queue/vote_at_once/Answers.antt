-- A block that gives a vote is on the board or gone, so that it needn't be asked for.
use Rattle.std.proofs.Common.{◌≡◌, false, sym, ap, ◌∙◌}
use Rattle.snow_issue.specs.Model.Lists.{waits, is_asked}
use Rattle.snow_issue.specs.Kept.Known.{Seen, lists_of}
use Rattle.snow_issue.proofs.Bubbled.{vote_is}
use Rattle.snow_issue.proofs.queue.Queue.vote_at_once.Goals as goal

pub returns-in-Some : goal.returns-in-Some
returns-in-Some g c =
    let id = c.args.id.now in
    let away : waits (lists_of c.args.self.now) id ≡ false = ap (λ (s : Seen). waits (lists_of s) id) (sym c.self.view_is) ∙ sym c.waits.ensures ∙ c.if-waits.false in
    let unasked : is_asked (lists_of c.args.self.now) id ≡ false = ap (λ (s : Seen). is_asked (lists_of s) id) (sym c.self.view_is) ∙ sym c.asks_for.ensures ∙ c.if-asks_for.false in
    vote_is (lists_of c.args.self.now) (g.B.Board.board c.args.board.now) id c.in-Some.vote away unasked (sym c.bubble.ensures ∙ c.in-Some.is)
