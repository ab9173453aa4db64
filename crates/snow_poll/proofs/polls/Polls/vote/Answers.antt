-- The reply is counted in the front poll, where that has the number and awaits it.
use Rattle.std.proofs.Common.{ap, arith, sym, set, List, ◌∙◌}
use Rattle.std.proofs.lemmas.Bool.{cond-true, cond-false}
use Rattle.snow_flake.specs.Model.Parameters.{Parameters}
use Rattle.snow_poll.specs.declared.polls.Answered.TheVariants.{Counted, NotAwaited}
use Rattle.snow_poll.specs.Model.Poll.{Poll}
use Rattle.snow_poll.specs.Model.Table.{Table, answer, voted}
use Rattle.snow_poll.specs.Kept.Tallied.{is_front}
use Rattle.snow_poll.proofs.Placed.{front_place, unchanged, place_within, awaited_at, voted_at, table_voted}
use Rattle.snow_poll.proofs.polls.Polls.vote.Goals as goal

-- a table of these polls
abbrev to_table : Parameters → List Poll → Table
to_table p polls = record { parameters = p; polls = polls }

pub index_mut-requires : goal.index_mut-requires
index_mut-requires c =
    let polls = c.self.inside.polls.items in
    let is = front_place polls c.args.number (ap (λ (t : Table). is_front t.polls c.args.number) c.self.view_is ∙ sym c.has_in_front.ensures ∙ c.if-not-has_in_front.false) in
    omega (arith, place_within polls c.args.number 0 is, c.self.inside.polls.ok.0)

pub invariant_of-self : goal.invariant_of-self
invariant_of-self c =
    let polls = c.self.inside.polls.items in
    let is = front_place polls c.args.number (ap (λ (t : Table). is_front t.polls c.args.number) c.self.view_is ∙ sym c.has_in_front.ensures ∙ c.if-not-has_in_front.false) in
    let noted = ap (set polls 0) c.count.ensures.poll
    ∙ voted_at polls c.args.number 0 c.args.node.now c.args.id c.index_mut.result.now c.self.invariant.distinct is c.index_mut.ensures.value in
    rw noted (table_voted c.self.inside.params polls c.self.inside.turns.turns c.self.inside.turns.gone c.args.number c.args.node.now c.args.id c.self.invariant)

pub invariant_of-self-2 : goal.invariant_of-self-2
invariant_of-self-2 c =
    let polls = c.self.inside.polls.items in
    let is = front_place polls c.args.number (ap (λ (t : Table). is_front t.polls c.args.number) c.self.view_is ∙ sym c.has_in_front.ensures ∙ c.if-not-has_in_front.false) in
    let noted = ap (set polls 0) c.count.ensures.poll
    ∙ voted_at polls c.args.number 0 c.args.node.now c.args.id c.index_mut.result.now c.self.invariant.distinct is c.index_mut.ensures.value in
    rw noted (table_voted c.self.inside.params polls c.self.inside.turns.turns c.self.inside.turns.gone c.args.number c.args.node.now c.args.id c.self.invariant)

pub returns-clause-answer : goal.returns-clause-answer
returns-clause-answer c =
    let polls = c.self.inside.polls.items in
    let is = front_place polls c.args.number (ap (λ (t : Table). is_front t.polls c.args.number) c.self.view_is ∙ sym c.has_in_front.ensures ∙ c.if-not-has_in_front.false) in
    let one = awaited_at polls c.args.number 0 c.args.node.now c.index_mut.result.now c.self.invariant.distinct is c.index_mut.ensures.value in
    let answers = ap (λ (t : Table). answer t.polls c.args.number c.args.node.now) c.self.view_is in
    sym (cond-true _ Counted NotAwaited (sym one ∙ sym c.count.ensures.awaited ∙ c.if-not-count.false)) ∙ answers

pub returns-clause-table : goal.returns-clause-table
returns-clause-table c =
    let polls = c.self.inside.polls.items in
    let is = front_place polls c.args.number (ap (λ (t : Table). is_front t.polls c.args.number) c.self.view_is ∙ sym c.has_in_front.ensures ∙ c.if-not-has_in_front.false) in
    let noted = ap (set polls 0) c.count.ensures.poll
    ∙ voted_at polls c.args.number 0 c.args.node.now c.args.id c.index_mut.result.now c.self.invariant.distinct is c.index_mut.ensures.value in
    let same = ap (λ (t : Table). voted t c.args.number c.args.node.now c.args.id) c.self.view_is in
    ap (λ (l : List Poll). to_table c.self.inside.params l) noted ∙ same

pub returns-then-not-count-clause-answer : goal.returns-then-not-count-clause-answer
returns-then-not-count-clause-answer c =
    let polls = c.self.inside.polls.items in
    let is = front_place polls c.args.number (ap (λ (t : Table). is_front t.polls c.args.number) c.self.view_is ∙ sym c.has_in_front.ensures ∙ c.if-not-has_in_front.false) in
    let one = awaited_at polls c.args.number 0 c.args.node.now c.index_mut.result.now c.self.invariant.distinct is c.index_mut.ensures.value in
    let answers = ap (λ (t : Table). answer t.polls c.args.number c.args.node.now) c.self.view_is in
    sym (cond-false _ Counted NotAwaited (sym one ∙ sym c.count.ensures.awaited ∙ c.if-not-count.true)) ∙ answers

pub returns-then-not-count-clause-table : goal.returns-then-not-count-clause-table
returns-then-not-count-clause-table c =
    let polls = c.self.inside.polls.items in
    let is = front_place polls c.args.number (ap (λ (t : Table). is_front t.polls c.args.number) c.self.view_is ∙ sym c.has_in_front.ensures ∙ c.if-not-has_in_front.false) in
    let noted = ap (set polls 0) c.count.ensures.poll
    ∙ voted_at polls c.args.number 0 c.args.node.now c.args.id c.index_mut.result.now c.self.invariant.distinct is c.index_mut.ensures.value in
    let same = ap (λ (t : Table). voted t c.args.number c.args.node.now c.args.id) c.self.view_is in
    ap (λ (l : List Poll). to_table c.self.inside.params l) noted ∙ same

pub returns-then-not-count-clause-unchanged : goal.returns-then-not-count-clause-unchanged
returns-then-not-count-clause-unchanged c _ =
    let polls = c.self.inside.polls.items in
    let is = front_place polls c.args.number (ap (λ (t : Table). is_front t.polls c.args.number) c.self.view_is ∙ sym c.has_in_front.ensures ∙ c.if-not-has_in_front.false) in
    let one = awaited_at polls c.args.number 0 c.args.node.now c.index_mut.result.now c.self.invariant.distinct is c.index_mut.ensures.value in
    let noted = ap (set polls 0) c.count.ensures.poll
    ∙ voted_at polls c.args.number 0 c.args.node.now c.args.id c.index_mut.result.now c.self.invariant.distinct is c.index_mut.ensures.value in
    let none = sym one ∙ sym c.count.ensures.awaited ∙ c.if-not-count.true in
    ap (λ (l : List Poll). to_table c.self.inside.params l) (noted ∙ unchanged polls c.args.number c.args.node.now c.args.id none) ∙ c.self.view_is
