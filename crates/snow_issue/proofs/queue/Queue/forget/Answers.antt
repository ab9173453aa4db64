use Rattle.std.proofs.Common.{List, All, not, ◌==◌, sym, ap, ◌∙◌, subst}
use Rattle.std.proofs.lemmas.List.Elements.{All-filter}
use Rattle.snow_held.specs.declared.held.Held.{Held}
use Rattle.snow_lineup.specs.declared.marks.Mark.{Mark}
use Rattle.snow_issue.specs.Model.Lists.{Lists, after_forgotten}
use Rattle.snow_issue.specs.Kept.Known.{Seen, items_of, lists_of}
use Rattle.snow_issue.specs.Kept.Keeping.{StaysQuiet}
use Rattle.snow_held.proofs.Seated.{replies_filtered}
use Rattle.snow_issue.proofs.Settled.{kept_replies}
use Rattle.snow_issue.proofs.queue.Queue.forget.Goals as goal

pub invariant_of-self : goal.invariant_of-self
invariant_of-self c =
    let inside = c.self.inside in
    kept_replies inside.waiting inside.gets inside.replies c.forget.new.self inside.gone c.self.invariant
    (subst (λ (l : List (Held × Mark)). All (StaysQuiet (items_of inside.waiting) inside.gets) l) (sym c.forget.ensures)
    (All-filter (λ (s : Held × Mark). not (s.0.number == c.args.number)) (StaysQuiet (items_of inside.waiting) inside.gets) inside.replies c.self.invariant.quiet))

pub returns-clause-lists : goal.returns-clause-lists
returns-clause-lists c =
    let inside = c.self.inside in
    let with : List Held → Lists = λ l. record { waiting = items_of inside.waiting; gets = inside.gets; held = l; gone = inside.gone } in
    ap with (ap items_of c.forget.ensures ∙ replies_filtered inside.replies c.args.number)
    ∙ ap (λ (s : Seen). after_forgotten (lists_of s) c.args.number) c.self.view_is
