-- A node's reply is held where one has its number.
use Rattle.std.proofs.Common.{List, ap, ◌∙◌}
use Rattle.std.specs.Option.{is_some}
use Rattle.snow_held.specs.declared.held.Held.{Held}
use Rattle.snow_lineup.specs.declared.marks.Mark.{Mark}
use Rattle.snow_held.specs.Model.Replies.{holds_in}
use Rattle.snow_held.specs.Model.Replies.{replies_of}
use Rattle.snow_held.specs.Kept.Arrivals.{kept_at, filed, names}
use Rattle.snow_held.proofs.Numbered.{held_by_number}
use Rattle.snow_held.proofs.replies.Replies.has_node.Goals as goal

pub returns-in-Some : goal.returns-in-Some
returns-in-Some c =
    let inside = c.self.inside in
    c.has.ensures
    ∙ ap (λ o. is_some (kept_at inside.backlog o)) c.in-Some.ensures
    ∙ held_by_number inside.backlog (filed inside.polls) (names inside.blocks) inside.next c.args.number c.args.node.now c.self.invariant
    ∙ ap (λ (l : List (Held × Mark)). holds_in (replies_of l) c.args.number c.args.node.now) c.self.view_is

pub returns-in-None : goal.returns-in-None
returns-in-None c =
    let inside = c.self.inside in
    ap (λ o. is_some (kept_at inside.backlog o)) c.in-None.ensures
    ∙ held_by_number inside.backlog (filed inside.polls) (names inside.blocks) inside.next c.args.number c.args.node.now c.self.invariant
    ∙ ap (λ (l : List (Held × Mark)). holds_in (replies_of l) c.args.number c.args.node.now) c.self.view_is
