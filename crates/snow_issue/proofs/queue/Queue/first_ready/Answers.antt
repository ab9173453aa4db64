-- What was looked at is ready where it is ripe.
use Rattle.std.proofs.Common.{◌≡◌, List, All, false, length, sym, ap, ◌∙◌, subst, arith}
use Rattle.std.specs.List.{position_or_len}
use Rattle.snow_issue.specs.declared.work.Waiting.{Waiting}
use Rattle.snow_lineup.specs.declared.marks.Mark.{Mark}
use Rattle.snow_lineup.specs.declared.marks.Mark.TheVariants.{New, Ripe}
use Rattle.snow_issue.specs.Model.Settling.{is_ready}
use Rattle.snow_issue.specs.Kept.Known.{Seen, items_of}
use Rattle.snow_lineup.specs.Kept.Marks.{has}
use Rattle.snow_issue.proofs.Looked.{position_same, ready_all, none_ripe}
use Rattle.snow_issue.proofs.Settled.{knows_by}
use Rattle.snow_issue.proofs.queue.Queue.first_ready.Goals as goal

pub returns-clause-first : goal.returns-clause-first
returns-clause-first g c =
    let board = g.B.Board.board c.args.board.now in
    let seats = c.self.inside.waiting in
    let tells = knows_by c.args.self.now board seats c.self.inside.gets (sym (ap (λ (s : Seen). s.seats) c.self.view_is)) (sym (ap (λ (s : Seen). s.gets) c.self.view_is)) c.requires.knows in
    let seen = subst (λ (s : Seen). length s.seats ≡ position_or_len (has New) s.seats) (sym c.self.view_is) c.requires.seen in
    c.first.ensures.at ∙ sym (position_same (is_ready board) (has Ripe) seats (ready_all c.self.inside.gets board seats tells seen))
    ∙ ap (λ (l : List (Waiting × Mark)). position_or_len (is_ready board) (items_of l)) (sym c.first.ensures.same)

pub returns-clause-same : goal.returns-clause-same
returns-clause-same g c =
    let inside = c.self.inside in
    let with : List (Waiting × Mark) → Seen = λ w. record { seats = w; gets = inside.gets; held = items_of inside.replies; gone = inside.gone } in
    ap with c.first.ensures.same ∙ c.self.view_is

pub returns-clause-none : goal.returns-clause-none
returns-clause-none g c past =
    subst (λ (l : List (Waiting × Mark)). All (λ s. has Ripe s ≡ false) l) (sym c.first.ensures.same)
    (none_ripe c.self.inside.waiting (omega (arith, past, c.first.ensures.at, ap (λ l. length l) c.first.ensures.same)))
