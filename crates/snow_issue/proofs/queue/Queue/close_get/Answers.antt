use Rattle.std.proofs.Common.{List, All, find, map, sym, ap, subst, ◌∙◌}
use Rattle.snow_issue.specs.declared.work.Waiting.{Waiting}
use Rattle.snow_gets.specs.declared.gets.Get.{Get}
use Rattle.snow_held.specs.declared.held.Held.{Held}
use Rattle.snow_lineup.specs.declared.marks.Mark.{Mark}
use Rattle.snow_gets.specs.Model.Gets.{is_get, without}
use Rattle.snow_issue.specs.Model.Lists.{Lists, after_closed}
use Rattle.snow_issue.specs.Kept.Known.{Seen, items_of, lists_of, Tells, NoneRipe}
use Rattle.snow_lineup.specs.Kept.Index.{woken}
use Rattle.snow_issue.specs.Kept.Keeping.{IsKept}
use Rattle.snow_gets.proofs.Asking.{none_without}
use Rattle.snow_issue.proofs.Settled.{kept_closed, knows_by, closed_get, no_get}
use Rattle.snow_issue.proofs.Taken.{tells_closed, items_woken, unripe_woken}
use Rattle.snow_issue.proofs.queue.Queue.close_get.Goals as goal

pub invariant_of-self : goal.invariant_of-self
invariant_of-self c =
    let inside = c.self.inside in
    let none = no_get (find (is_get c.args.number c.args.node.now) inside.gets) c.in_err-id.ensures.answer in
    let same = c.close.ensures.left ∙ sym (none_without (is_get c.args.number c.args.node.now) inside.gets none) in
    subst (λ (l : List Get). IsKept inside.waiting l inside.replies inside.gone) (sym same) c.self.invariant

pub returns-in_err-id-clause-knows : goal.returns-in_err-id-clause-knows
returns-in_err-id-clause-knows c board knows =
    let inside = c.self.inside in
    let none = no_get (find (is_get c.args.number c.args.node.now) inside.gets) c.in_err-id.ensures.answer in
    let same = c.close.ensures.left ∙ sym (none_without (is_get c.args.number c.args.node.now) inside.gets none) in
    subst (λ (l : List Get). All (Tells (items_of inside.waiting) l board) inside.waiting) (sym same)
    (knows_by c.args.self.now board inside.waiting inside.gets (sym (ap (λ (s : Seen). s.seats) c.self.view_is)) (sym (ap (λ (s : Seen). s.gets) c.self.view_is)) knows)

pub invariant_of-self-2 : goal.invariant_of-self-2
invariant_of-self-2 c =
    let inside = c.self.inside in
    let got = closed_get (find (is_get c.args.number c.args.node.now) inside.gets) c.in_ok-id.id c.in_ok-id.ensures.answer in
    let get = got.0 in
    let seats = c.wake.ensures ∙ ap (λ id. map (woken (λ w. w.header.parent) id) inside.waiting) (sym got.2) in
    let replies = c.wake-2.ensures ∙ ap (λ id. map (woken (λ h. h.id) id) inside.replies) (sym got.2) in
    rw (seats, c.close.ensures.left, replies) (kept_closed inside.waiting inside.gets inside.replies inside.gone c.args.number c.args.node.now get got.1 c.self.invariant)

pub returns-clause-lists : goal.returns-clause-lists
returns-clause-lists c =
    let inside = c.self.inside in
    let with : List Waiting → List Get → List Held → Lists = λ w g h. record { waiting = w; gets = g; held = h; gone = inside.gone } in
    let seats = ap items_of c.wake.ensures ∙ items_woken (λ (w : Waiting). w.header.parent) c.in_ok-id.id inside.waiting in
    let replies = ap items_of c.wake-2.ensures ∙ items_woken (λ (h : Held). h.id) c.in_ok-id.id inside.replies in
    ap (λ w. with w c.close.new.self (items_of c.wake-2.new.self)) seats
    ∙ ap (λ g. with (items_of inside.waiting) g (items_of c.wake-2.new.self)) c.close.ensures.left
    ∙ ap (λ h. with (items_of inside.waiting) (without (is_get c.args.number c.args.node.now) inside.gets) h) replies
    ∙ ap (λ (s : Seen). after_closed (lists_of s) c.args.number c.args.node.now) c.self.view_is

pub returns-clause-knows : goal.returns-clause-knows
returns-clause-knows c board knows =
    let inside = c.self.inside in
    let got = closed_get (find (is_get c.args.number c.args.node.now) inside.gets) c.in_ok-id.id c.in_ok-id.ensures.answer in
    let seats = c.wake.ensures ∙ ap (λ id. map (woken (λ w. w.header.parent) id) inside.waiting) (sym got.2) in
    subst (λ (l : List (Waiting × Mark)). All (Tells (items_of l) c.close.new.self board) l) (sym seats)
    (subst (λ (l : List Get). All (Tells (items_of (map (woken (λ w. w.header.parent) got.0.id) inside.waiting)) l board) (map (woken (λ w. w.header.parent) got.0.id) inside.waiting)) (sym c.close.ensures.left)
    (tells_closed board inside.waiting inside.gets c.args.number c.args.node.now got.0 got.1
    (knows_by c.args.self.now board inside.waiting inside.gets (sym (ap (λ (s : Seen). s.seats) c.self.view_is)) (sym (ap (λ (s : Seen). s.gets) c.self.view_is)) knows)))

pub returns-clause-ripe : goal.returns-clause-ripe
returns-clause-ripe c none =
    subst NoneRipe (sym c.wake.ensures) (unripe_woken c.in_ok-id.id c.self.inside.waiting (subst (λ (s : Seen). NoneRipe s.seats) (sym c.self.view_is) none))
