-- Only what is remembered of a block's children changes.
use Rattle.std.proofs.Common.{List, All, refl, sym, ap, subst, ◌∙◌}
use Rattle.snow_issue.specs.declared.work.Waiting.{Waiting}
use Rattle.snow_lineup.specs.declared.marks.Mark.{Mark}
use Rattle.snow_issue.specs.Kept.Known.{Seen, items_of, lists_of, Tells, NoneRipe}
use Rattle.snow_issue.proofs.Settled.{kept_seats, knows_by, lists_by}
use Rattle.snow_issue.proofs.Taken.{items_woken, tells_woken, unripe_woken, woken_forgets}
use Rattle.snow_issue.proofs.queue.Queue.forget_children.Goals as goal

pub invariant_of-self : goal.invariant_of-self
invariant_of-self c =
    let inside = c.self.inside in
    kept_seats inside.waiting c.wake.new.self inside.gets inside.replies inside.gone c.self.invariant
    (ap items_of c.wake.ensures ∙ items_woken (λ (w : Waiting). w.header.parent) c.args.id.now inside.waiting)

pub returns-clause-lists : goal.returns-clause-lists
returns-clause-lists c =
    let inside = c.self.inside in
    lists_by (record { seats = c.wake.new.self; gets = inside.gets; held = items_of inside.replies; gone = inside.gone })
    (items_of inside.waiting) inside.gets (items_of inside.replies) inside.gone
    (ap items_of c.wake.ensures ∙ items_woken (λ (w : Waiting). w.header.parent) c.args.id.now inside.waiting) refl refl refl
    ∙ ap lists_of c.self.view_is

pub returns-clause-knows : goal.returns-clause-knows
returns-clause-knows c board knows =
    let inside = c.self.inside in
    subst (λ (l : List (Waiting × Mark)). All (Tells (items_of l) inside.gets board) l) (sym c.wake.ensures)
    (tells_woken inside.gets board c.args.id.now inside.waiting
    (knows_by c.args.self.now board inside.waiting inside.gets (sym (ap (λ (s : Seen). s.seats) c.self.view_is)) (sym (ap (λ (s : Seen). s.gets) c.self.view_is)) knows))

pub returns-clause-forgets : goal.returns-clause-forgets
returns-clause-forgets c = woken_forgets c.args.id.now c.self.inside.waiting c.wake.new.self c.wake.ensures

pub returns-clause-ripe : goal.returns-clause-ripe
returns-clause-ripe c none =
    subst NoneRipe (sym c.wake.ensures) (unripe_woken c.args.id.now c.self.inside.waiting (subst (λ (s : Seen). NoneRipe s.seats) (sym c.self.view_is) none))
