-- Nothing is remembered, so what is remembered is true of the board.
use Rattle.std.proofs.Common.{◌≡◌, List, All, sym, ap, ◌∙◌, subst}
use Rattle.snow_issue.specs.declared.work.Waiting.{Waiting}
use Rattle.snow_lineup.specs.declared.marks.Mark.{Mark}
use Rattle.snow_issue.specs.Model.Settling.{work_of, after}
use Rattle.snow_issue.specs.Kept.Known.{Seen, items_of, lists_of, Tells}
use Rattle.snow_issue.specs.Kept.Keeping.{IsKept}
use Rattle.snow_issue.proofs.Settled.{seen, kept_forgotten, lists_by}
use Rattle.snow_issue.proofs.Taken.{tells_forgotten, items_forgotten}
use Rattle.snow_issue.proofs.queue.Queue.next_work.Goals as goal
use Rattle.snow_issue.proofs.queue.Queue.next_work.Goals.{After-forget_marks}

pub invariant_of-self : goal.invariant_of-self
invariant_of-self g c =
    let inside = c.self.inside in
    subst (λ (l : List (Waiting × Mark)). IsKept l inside.gets inside.replies inside.gone) (sym c.forget_marks.ensures) (kept_forgotten inside.waiting inside.gets inside.replies inside.gone c.self.invariant)

pub next_known-requires : goal.next_known-requires
next_known-requires g c =
    let inside = c.self.inside in
    subst (λ (l : List (Waiting × Mark)). All (Tells (items_of l) inside.gets (g.B.Board.board c.args.board.now)) l) (sym c.forget_marks.ensures)
    (tells_forgotten inside.gets (g.B.Board.board c.args.board.now) inside.waiting)

-- the lists are the same
same : (g : _) (c : After-forget_marks g) → lists_of (seen c.forget_marks.new.self c.self.inside.gets c.self.inside.replies c.self.inside.gone) ≡ lists_of c.args.self.now
same g c =
    let inside = c.self.inside in
    lists_by (seen c.forget_marks.new.self inside.gets inside.replies inside.gone) (items_of c.args.self.now.seats) c.args.self.now.gets c.args.self.now.held c.args.self.now.gone
    (ap items_of c.forget_marks.ensures ∙ items_forgotten inside.waiting ∙ ap (λ (s : Seen). items_of s.seats) c.self.view_is)
    (ap (λ (s : Seen). s.gets) c.self.view_is) (ap (λ (s : Seen). s.held) c.self.view_is) (ap (λ (s : Seen). s.gone) c.self.view_is)

pub returns-clause-work : goal.returns-clause-work
returns-clause-work g c =
    c.next_known.ensures.work ∙ ap (λ q. work_of q (g.B.Board.board c.args.board.now)) (same g (goal.at.returns-clause-work g c).After-forget_marks)

pub returns-clause-lists : goal.returns-clause-lists
returns-clause-lists g c =
    c.next_known.ensures.lists ∙ ap (λ q. after q (g.B.Board.board c.args.board.now) c.next_known.result) (same g (goal.at.returns-clause-lists g c).After-forget_marks)
