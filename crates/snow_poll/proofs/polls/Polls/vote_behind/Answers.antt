-- The reply is counted in the poll of the number, where that awaits it.
use Rattle.std.proofs.Common.{ap, arith, sym, set, List, ◌∙◌}
use Rattle.std.proofs.lemmas.Bool.{cond-true, cond-false}
use Rattle.snow_flake.specs.Model.Parameters.{Parameters}
use Rattle.snow_poll.specs.declared.polls.Answered.TheVariants.{Counted, NotAwaited}
use Rattle.snow_poll.specs.Model.Poll.{Poll}
use Rattle.snow_poll.specs.Model.Table.{Table, answer, voted}
use Rattle.snow_poll.proofs.Placed.{none_awaits, unplaced, unchanged, place_within, awaited_at, voted_at, table_voted}
use Rattle.snow_poll.proofs.polls.Polls.vote_behind.Goals as goal

-- a table of these polls
abbrev to_table : Parameters → List Poll → Table
to_table p polls = record { parameters = p; polls = polls }

pub returns-in_default-clause-answer : goal.returns-in_default-clause-answer
returns-in_default-clause-answer c =
    let polls = c.self.inside.polls.items in
    let stood = sym (c.find_place.ensures c.self.invariant.few c.self.invariant.placed) in
    let none = none_awaits polls c.args.number c.args.node.now (unplaced polls c.args.number (stood ∙ c.in_default.is)) in
    let answers = ap (λ (t : Table). answer t.polls c.args.number c.args.node.now) c.self.view_is in
    sym (cond-false _ Counted NotAwaited none) ∙ answers

pub returns-in_default-clause-table : goal.returns-in_default-clause-table
returns-in_default-clause-table c =
    let polls = c.self.inside.polls.items in
    let stood = sym (c.find_place.ensures c.self.invariant.few c.self.invariant.placed) in
    let none = none_awaits polls c.args.number c.args.node.now (unplaced polls c.args.number (stood ∙ c.in_default.is)) in
    let same = ap (λ (t : Table). voted t c.args.number c.args.node.now c.args.id.now) c.self.view_is in
    sym c.self.view_is
    ∙ ap (λ (l : List Poll). to_table c.self.inside.params l) (sym (unchanged polls c.args.number c.args.node.now c.args.id.now none))
    ∙ same

pub index_mut-requires : goal.index_mut-requires
index_mut-requires c =
    let polls = c.self.inside.polls.items in
    let stood = sym (c.find_place.ensures c.self.invariant.few c.self.invariant.placed) in
    omega (arith, place_within polls c.args.number c.in-Some.at (stood ∙ c.in-Some.is), c.self.inside.polls.ok.0)

pub invariant_of-self : goal.invariant_of-self
invariant_of-self c =
    let polls = c.self.inside.polls.items in
    let stood = sym (c.find_place.ensures c.self.invariant.few c.self.invariant.placed) in
    let is = stood ∙ c.in-Some.is in
    let noted = ap (set polls c.in-Some.at) c.count.ensures.poll
    ∙ voted_at polls c.args.number c.in-Some.at c.args.node.now c.args.id.now c.index_mut.result.now c.self.invariant.distinct is c.index_mut.ensures.value in
    rw noted (table_voted c.self.inside.params polls c.self.inside.turns.turns c.self.inside.turns.gone c.args.number c.args.node.now c.args.id.now c.self.invariant)

pub invariant_of-self-2 : goal.invariant_of-self-2
invariant_of-self-2 c =
    let polls = c.self.inside.polls.items in
    let stood = sym (c.find_place.ensures c.self.invariant.few c.self.invariant.placed) in
    let is = stood ∙ c.in-Some.is in
    let noted = ap (set polls c.in-Some.at) c.count.ensures.poll
    ∙ voted_at polls c.args.number c.in-Some.at c.args.node.now c.args.id.now c.index_mut.result.now c.self.invariant.distinct is c.index_mut.ensures.value in
    rw noted (table_voted c.self.inside.params polls c.self.inside.turns.turns c.self.inside.turns.gone c.args.number c.args.node.now c.args.id.now c.self.invariant)

pub returns-clause-answer : goal.returns-clause-answer
returns-clause-answer c =
    let polls = c.self.inside.polls.items in
    let stood = sym (c.find_place.ensures c.self.invariant.few c.self.invariant.placed) in
    let is = stood ∙ c.in-Some.is in
    let one = awaited_at polls c.args.number c.in-Some.at c.args.node.now c.index_mut.result.now c.self.invariant.distinct is c.index_mut.ensures.value in
    let answers = ap (λ (t : Table). answer t.polls c.args.number c.args.node.now) c.self.view_is in
    sym (cond-true _ Counted NotAwaited (sym one ∙ sym c.count.ensures.awaited ∙ c.if-not-count.false)) ∙ answers

pub returns-clause-table : goal.returns-clause-table
returns-clause-table c =
    let polls = c.self.inside.polls.items in
    let stood = sym (c.find_place.ensures c.self.invariant.few c.self.invariant.placed) in
    let is = stood ∙ c.in-Some.is in
    let noted = ap (set polls c.in-Some.at) c.count.ensures.poll
    ∙ voted_at polls c.args.number c.in-Some.at c.args.node.now c.args.id.now c.index_mut.result.now c.self.invariant.distinct is c.index_mut.ensures.value in
    let same = ap (λ (t : Table). voted t c.args.number c.args.node.now c.args.id.now) c.self.view_is in
    ap (λ (l : List Poll). to_table c.self.inside.params l) noted ∙ same

pub returns-then-not-count-clause-answer : goal.returns-then-not-count-clause-answer
returns-then-not-count-clause-answer c =
    let polls = c.self.inside.polls.items in
    let stood = sym (c.find_place.ensures c.self.invariant.few c.self.invariant.placed) in
    let is = stood ∙ c.in-Some.is in
    let one = awaited_at polls c.args.number c.in-Some.at c.args.node.now c.index_mut.result.now c.self.invariant.distinct is c.index_mut.ensures.value in
    let answers = ap (λ (t : Table). answer t.polls c.args.number c.args.node.now) c.self.view_is in
    sym (cond-false _ Counted NotAwaited (sym one ∙ sym c.count.ensures.awaited ∙ c.if-not-count.true)) ∙ answers

pub returns-then-not-count-clause-table : goal.returns-then-not-count-clause-table
returns-then-not-count-clause-table c =
    let polls = c.self.inside.polls.items in
    let stood = sym (c.find_place.ensures c.self.invariant.few c.self.invariant.placed) in
    let is = stood ∙ c.in-Some.is in
    let noted = ap (set polls c.in-Some.at) c.count.ensures.poll
    ∙ voted_at polls c.args.number c.in-Some.at c.args.node.now c.args.id.now c.index_mut.result.now c.self.invariant.distinct is c.index_mut.ensures.value in
    let same = ap (λ (t : Table). voted t c.args.number c.args.node.now c.args.id.now) c.self.view_is in
    ap (λ (l : List Poll). to_table c.self.inside.params l) noted ∙ same

pub returns-then-not-count-clause-unchanged : goal.returns-then-not-count-clause-unchanged
returns-then-not-count-clause-unchanged c _ =
    let polls = c.self.inside.polls.items in
    let stood = sym (c.find_place.ensures c.self.invariant.few c.self.invariant.placed) in
    let is = stood ∙ c.in-Some.is in
    let one = awaited_at polls c.args.number c.in-Some.at c.args.node.now c.index_mut.result.now c.self.invariant.distinct is c.index_mut.ensures.value in
    let noted = ap (set polls c.in-Some.at) c.count.ensures.poll
    ∙ voted_at polls c.args.number c.in-Some.at c.args.node.now c.args.id.now c.index_mut.result.now c.self.invariant.distinct is c.index_mut.ensures.value in
    let none = sym one ∙ sym c.count.ensures.awaited ∙ c.if-not-count.true in
    ap (λ (l : List Poll). to_table c.self.inside.params l) (noted ∙ unchanged polls c.args.number c.args.node.now c.args.id.now none) ∙ c.self.view_is
