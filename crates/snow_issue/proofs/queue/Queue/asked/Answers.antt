use Rattle.std.proofs.Common.{◌<◌, List, length, All, sym, ap, subst}
use Rattle.snow_gets.specs.declared.gets.Get.{Get}
use Rattle.snow_issue.specs.Kept.Known.{Seen, items_of, Tells}
use Rattle.snow_issue.specs.Kept.Keeping.{IsKept}
use Rattle.snow_issue.proofs.Settled.{limits, kept_asked, knows_by}
use Rattle.snow_issue.proofs.Taken.{tells_asked}
use Rattle.snow_issue.proofs.queue.Queue.asked.Goals as goal

pub invariant_of-self-2 : goal.invariant_of-self-2
invariant_of-self-2 c =
    let inside = c.self.inside in
    let get : Get = record { number = c.args.number; node = c.args.node; id = c.args.id } in
    let few : length inside.gets < 4096 = subst (λ (s : Seen). length s.gets < 4096) (sym c.self.view_is) c.requires.room in
    subst (λ (l : List Get). IsKept inside.waiting l inside.replies inside.gone) (sym c.in_ok-open.ensures.ok)
    (kept_asked inside.waiting inside.gets inside.replies inside.gone get c.self.invariant few)

pub returns-clause-knows : goal.returns-clause-knows
returns-clause-knows c board knows =
    let inside = c.self.inside in
    let get : Get = record { number = c.args.number; node = c.args.node; id = c.args.id } in
    subst (λ (l : List Get). All (Tells (items_of inside.waiting) l board) inside.waiting) (sym c.in_ok-open.ensures.ok)
    (tells_asked board inside.waiting inside.gets get
    (knows_by c.args.self.now board inside.waiting inside.gets (sym (ap (λ (s : Seen). s.seats) c.self.view_is)) (sym (ap (λ (s : Seen). s.gets) c.self.view_is)) knows))

pub returns-clause-limits : goal.returns-clause-limits
returns-clause-limits c =
    let inside = c.self.inside in
    let get : Get = record { number = c.args.number; node = c.args.node; id = c.args.id } in
    let few : length inside.gets < 4096 = subst (λ (s : Seen). length s.gets < 4096) (sym c.self.view_is) c.requires.room in
    limits inside.waiting c.open.new.self inside.replies inside.gone
    (subst (λ (l : List Get). IsKept inside.waiting l inside.replies inside.gone) (sym c.in_ok-open.ensures.ok)
    (kept_asked inside.waiting inside.gets inside.replies inside.gone get c.self.invariant few))
