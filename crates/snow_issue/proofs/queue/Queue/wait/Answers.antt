use Rattle.std.proofs.Common.{List, All, sym, ap, subst}
use Rattle.snow_issue.specs.declared.work.Waiting.{Waiting}
use Rattle.snow_lineup.specs.declared.marks.Mark.{Mark}
use Rattle.snow_issue.specs.Kept.Known.{Seen, items_of, Tells, NoneRipe}
use Rattle.snow_issue.proofs.Settled.{knows_by}
use Rattle.snow_issue.proofs.Taken.{tells_pushed, unripe_pushed}
use Rattle.snow_issue.proofs.queue.Queue.wait.Goals as goal

pub returns-clause-knows : goal.returns-clause-knows
returns-clause-knows g c board knows =
    let inside = c.self.inside in
    let block : Waiting = record { node = c.args.node; header = c.args.header.now; bytes = c.args.bytes } in
    subst (λ (l : List (Waiting × Mark)). All (Tells (items_of l) inside.gets board) l) (sym c.in_ok-push.ensures.ok)
    (tells_pushed board inside.waiting inside.gets block
    (knows_by c.args.self.now board inside.waiting inside.gets (sym (ap (λ (s : Seen). s.seats) c.self.view_is)) (sym (ap (λ (s : Seen). s.gets) c.self.view_is)) knows))

pub returns-clause-ripe : goal.returns-clause-ripe
returns-clause-ripe g c none =
    let block : Waiting = record { node = c.args.node; header = c.args.header.now; bytes = c.args.bytes } in
    subst NoneRipe (sym c.in_ok-push.ensures.ok) (unripe_pushed c.self.inside.waiting block (subst (λ (s : Seen). NoneRipe s.seats) (sym c.self.view_is) none))
