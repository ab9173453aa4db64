-- The front poll was closed, and all others move up.
use Rattle.std.proofs.Common.{◌+◌, ◌≤◌, List, is_some, ap, arith, sym, subst, ◌∙◌}
use Rattle.snow_base.specs.Model.Votes.{total_count}
use Rattle.snow_flake.specs.Model.Parameters.{AreGood}
use Rattle.snow_poll.specs.Model.Poll.{Poll, received, outstanding}
use Rattle.snow_poll.specs.Model.Table.{Table, StandsForFront, finished, unfinished, shortened}
use Rattle.snow_poll.proofs.Closing.{closed_stands}
use Rattle.snow_poll.proofs.Counting.{total_received}
use Rattle.snow_poll.proofs.Placed.{table_left, front_taken}
use Rattle.snow_poll.proofs.polls.Polls.take_front.Goals as goal

-- a table with these polls
abbrev with_polls : Table → List Poll → Table
with_polls table polls = record table { polls = polls }

pub invariant_of-self-2 : goal.invariant_of-self-2
invariant_of-self-2 c =
    let before = rw c.in_ok-poll.ensures.items at c.self.invariant in
    table_left c.self.inside.params c.in_ok-poll.poll c.pop_front.new.self.items c.self.inside.turns.turns c.leave.new.self.turns c.self.inside.turns.gone c.leave.new.self.gone
    before (rw c.number-number.ensures at c.leave.ensures.turns) c.leave.ensures.gone

pub returns-clause-found : goal.returns-clause-found
returns-clause-found c =
    let front = front_taken c.self.inside.params c.in_ok-poll.poll c.pop_front.new.self.items
    (ap (λ (polls : List Poll). is_some (finished c.self.inside.params polls)) (sym c.in_ok-poll.ensures.items)
    ∙ ap (λ (t : Table). is_some (finished t.parameters t.polls)) c.self.view_is ∙ c.requires.closed) in
    rw (c.number-number.ensures, c.into_votes-votes.ensures.votes)
    (sym front.1 ∙ ap (finished c.self.inside.params) (sym c.in_ok-poll.ensures.items) ∙ ap (λ (t : Table). finished t.parameters t.polls) c.self.view_is)

pub returns-clause-table : goal.returns-clause-table
returns-clause-table c =
    let table : Table = record { parameters = c.self.inside.params; polls = c.self.inside.polls.items } in
    let front = front_taken c.self.inside.params c.in_ok-poll.poll c.pop_front.new.self.items
    (ap (λ (polls : List Poll). is_some (finished c.self.inside.params polls)) (sym c.in_ok-poll.ensures.items)
    ∙ ap (λ (t : Table). is_some (finished t.parameters t.polls)) c.self.view_is ∙ c.requires.closed) in
    ap (with_polls table) (sym front.2 ∙ ap (unfinished c.self.inside.params) (sym c.in_ok-poll.ensures.items)) ∙ ap shortened c.self.view_is

pub returns-clause-stands : goal.returns-clause-stands
returns-clause-stands c =
    let q = c.in_ok-poll.poll in
    let whole = rw c.in_ok-poll.ensures.items at c.self.invariant.whole in
    let front = front_taken c.self.inside.params q c.pop_front.new.self.items
    (ap (λ (polls : List Poll). is_some (finished c.self.inside.params polls)) (sym c.in_ok-poll.ensures.items)
    ∙ ap (λ (t : Table). is_some (finished t.parameters t.polls)) c.self.view_is ∙ c.requires.closed) in
    let good = subst (λ (t : Table). AreGood t.parameters) (sym c.self.view_is) c.requires.good in
    let few : received q + outstanding q ≤ c.self.inside.params.k = omega (arith, c.into_votes-votes.ensures.within, whole 0 q (omega arith)) in
    subst (λ (t : Table). StandsForFront t.parameters t.polls c.into_votes-votes.result.list) c.self.view_is
    (rw (c.in_ok-poll.ensures.items, c.into_votes-votes.ensures.votes) (closed_stands c.self.inside.params q good few front.0))

pub returns-clause-few : goal.returns-clause-few
returns-clause-few c =
    let q = c.in_ok-poll.poll in
    let whole = rw c.in_ok-poll.ensures.items at c.self.invariant.whole in
    let total = ap total_count c.into_votes-votes.ensures.votes ∙ total_received q in
    omega (arith, total, c.into_votes-votes.ensures.within, whole 0 q (omega arith), ap (λ (t : Table). t.parameters.k) c.self.view_is)
