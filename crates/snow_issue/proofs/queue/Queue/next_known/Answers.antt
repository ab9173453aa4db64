-- Where each waiting block was looked at and none is ripe, a step is a vote.
use Rattle.std.proofs.Common.{◌∙◌, subst}
use Rattle.snow_issue.specs.Kept.Known.{Seen, NoneNew, NoneRipe}
use Rattle.snow_issue.proofs.Resting.{resting}
use Rattle.snow_issue.proofs.queue.Queue.next_known.Goals as goal

pub returns-then-all_quiet-clause-work : goal.returns-then-all_quiet-clause-work
returns-then-all_quiet-clause-work g c =
    let new = subst (λ (s : Seen). NoneNew s.seats) c.self.view_is (c.all_quiet.ensures.new c.if-all_quiet.true) in
    let ripe = subst (λ (s : Seen). NoneRipe s.seats) c.self.view_is (c.all_quiet.ensures.ripe c.if-all_quiet.true) in
    c.next_vote.ensures.work ∙ resting c.args.self.now (g.B.Board.board c.args.board.now) c.requires new ripe

pub returns-then-all_quiet-clause-knows : goal.returns-then-all_quiet-clause-knows
returns-then-all_quiet-clause-knows g c = c.next_vote.ensures.knows (g.B.Board.board c.args.board.now) c.requires
