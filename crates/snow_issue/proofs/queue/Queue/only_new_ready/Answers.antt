-- The one block of which nothing is remembered has its parent on the board.
use Rattle.std.proofs.Common.{◌≡◌, ◌<◌, true, get_or, length, sym, ap, ◌∙◌, subst}
use Rattle.snow_issue.specs.declared.work.Waiting.{Waiting}
use Rattle.snow_lineup.specs.declared.marks.Mark.{Mark}
use Rattle.snow_lineup.specs.declared.marks.Mark.TheVariants.{New}
use Rattle.snow_issue.specs.Model.Offering.{is_on}
use Rattle.snow_issue.specs.Kept.Known.{Seen, NoneRipe}
use Rattle.snow_lineup.specs.Kept.Marks.{IsOnlyAt}
use Rattle.snow_issue.proofs.OnlyNew.{none_hopeless, only_new_first}
use Rattle.snow_issue.proofs.queue.Queue.only_new_ready.Goals as goal
use Rattle.snow_issue.proofs.queue.Queue.only_new_ready.Goals.{After-is_on}

-- its parent is on the board
on : (g : _) (c : After-is_on g) → c.is_on.result ≡ true → (d : Waiting × Mark) → is_on (g.B.Board.board c.args.board.now) (get_or c.args.self.now.seats c.in_ok-at.at d).0.header.parent ≡ true
on g c told d =
    let board = g.B.Board.board c.args.board.now in
    let at = c.in_ok-at.at in
    ap (λ (s : Seen). is_on board (get_or s.seats at d).0.header.parent) (sym c.self.view_is)
    ∙ ap (λ h. is_on board h.parent) (sym (c.header.ensures d))
    ∙ sym c.is_on.ensures ∙ told

pub returns-then-is_on-clause-none : goal.returns-then-is_on-clause-none
returns-then-is_on-clause-none g c =
    let at = c.in_ok-at.at in
    none_hopeless c.args.self.now (g.B.Board.board c.args.board.now) at c.requires
    (subst (λ (s : Seen). IsOnlyAt New s.seats at) c.self.view_is c.in_ok-at.ensures.new)
    (on g (goal.at.returns-then-is_on-clause-none g c).After-is_on c.if-is_on.true)

pub returns-then-is_on-clause-first : goal.returns-then-is_on-clause-first
returns-then-is_on-clause-first g c =
    let at = c.in_ok-at.at in
    only_new_first c.args.self.now (g.B.Board.board c.args.board.now) at c.requires
    (subst (λ (s : Seen). at < length s.seats) c.self.view_is c.in_ok-at.ensures.there)
    (subst (λ (s : Seen). IsOnlyAt New s.seats at) c.self.view_is c.in_ok-at.ensures.new)
    (subst (λ (s : Seen). NoneRipe s.seats) c.self.view_is c.in_ok-at.ensures.ripe)
    (on g (goal.at.returns-then-is_on-clause-first g c).After-is_on c.if-is_on.true)
