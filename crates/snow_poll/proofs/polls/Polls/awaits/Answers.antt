-- The poll of the number is asked, where there is one.
use Rattle.std.proofs.Common.{ap, arith, sym, ◌∙◌}
use Rattle.snow_poll.specs.Model.Table.{Table, is_awaited}
use Rattle.snow_poll.proofs.Placed.{none_awaits, unplaced, place_within, awaited_at}
use Rattle.snow_poll.proofs.polls.Polls.awaits.Goals as goal

pub index-requires : goal.index-requires
index-requires c =
    let polls = c.self.inside.polls.items in
    let stood = sym (c.find_place.ensures c.self.invariant.few c.self.invariant.placed) in
    omega (arith, place_within polls c.args.number c.in-Some.at (stood ∙ c.in-Some.is), c.self.inside.polls.ok.0)

pub returns-in-Some : goal.returns-in-Some
returns-in-Some c =
    let polls = c.self.inside.polls.items in
    let stood = sym (c.find_place.ensures c.self.invariant.few c.self.invariant.placed) in
    c.awaits.ensures
    ∙ awaited_at polls c.args.number c.in-Some.at c.args.node.now c.index.result.now c.self.invariant.distinct (stood ∙ c.in-Some.is) c.index.ensures
    ∙ ap (λ (t : Table). is_awaited t.polls c.args.number c.args.node.now) c.self.view_is

pub returns-in-None : goal.returns-in-None
returns-in-None c =
    let polls = c.self.inside.polls.items in
    let stood = sym (c.find_place.ensures c.self.invariant.few c.self.invariant.placed) in
    let none = none_awaits polls c.args.number c.args.node.now (unplaced polls c.args.number (stood ∙ c.in-None.is)) in
    sym none ∙ ap (λ (t : Table). is_awaited t.polls c.args.number c.args.node.now) c.self.view_is
