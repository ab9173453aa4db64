-- The replies of a poll go, by the numbers of its nodes.
use Rattle.std.proofs.Common.{not, ◌==◌, filter, sym, ap, ◌∙◌}
use Rattle.snow_held.specs.declared.held.Held.{Held}
use Rattle.snow_lineup.specs.declared.marks.Mark.{Mark}
use Rattle.snow_held.specs.Kept.Arrivals.{filed, names, AreGone}
use Rattle.snow_held.proofs.Departed.{nodes_of, filed_without, none_gone, gone_view}
use Rattle.snow_held.proofs.replies.Replies.forget.Goals as goal
use Rattle.snow_held.proofs.replies.Replies.forget.Goals.{After-drop_each}

pub invariant_of-self : goal.invariant_of-self
invariant_of-self c = filed_without c.self.inside.backlog c.self.inside.polls c.remove.new.self (names c.self.inside.blocks) c.args.number c.self.inside.next c.self.invariant
    (none_gone c.self.inside.backlog c.self.inside.polls (names c.self.inside.blocks) c.args.number c.self.inside.next c.self.invariant (sym c.in_default.ensures.value)).none c.in_default.ensures.updates.0

pub returns-in_default : goal.returns-in_default
returns-in_default c =
    let inside = c.self.inside in
    gone_view c.args.number inside.backlog inside.backlog (filed inside.polls) (names inside.blocks) inside.next
    (none_gone inside.backlog inside.polls (names inside.blocks) c.args.number inside.next c.self.invariant (sym c.in_default.ensures.value))
    ∙ ap (filter (λ (s : Held × Mark). not (s.0.number == c.args.number))) c.self.view_is

gone : (c : After-drop_each) → AreGone c.args.number c.self.inside.backlog c.drop_each.new.backlog (filed c.self.inside.polls) (names c.drop_each.new.blocks) c.self.inside.next
gone c =
    let inside = c.self.inside in
    c.drop_each.ensures c.args.number (filed inside.polls) inside.next c.self.invariant
    (nodes_of inside.backlog inside.polls c.in-Some.nodes (names inside.blocks) c.args.number inside.next c.self.invariant (sym c.in-Some.ensures.value))

pub invariant_of-self-2 : goal.invariant_of-self-2
invariant_of-self-2 c =
    let went = gone (goal.at.invariant_of-self-2 c).After-drop_each in
    filed_without c.drop_each.new.backlog c.self.inside.polls c.remove.new.self (names c.drop_each.new.blocks) c.args.number c.self.inside.next
    went.filed went.none c.in-Some.ensures.updates.0

pub returns : goal.returns
returns c =
    gone_view c.args.number c.self.inside.backlog c.drop_each.new.backlog (filed c.self.inside.polls) (names c.drop_each.new.blocks) c.self.inside.next (gone (goal.at.returns c).After-drop_each)
    ∙ ap (filter (λ (s : Held × Mark). not (s.0.number == c.args.number))) c.self.view_is
