-- The first reply that isn't quiet leaves, and its numbers with it.
use Rattle.std.proofs.Common.{None, map, sym, ap, ◌∙◌, cond}
use Rattle.std.specs.Option.{option_map}
use Rattle.snow_held.specs.declared.held.Held.{Held}
use Rattle.snow_lineup.specs.declared.marks.Mark.{Mark}
use Rattle.snow_held.specs.Kept.Arrivals.{at_arrival, filed, names, seat_of}
use Rattle.snow_held.specs.Model.Replies.{first_new, without_new}
use Rattle.snow_held.proofs.Numbered.{filed_taken}
use Rattle.snow_held.proofs.Seated.{seat_found, seats_taken, none_found, none_taken}
use Rattle.snow_held.proofs.Stocked.{number_itself}
use Rattle.snow_held.proofs.replies.Replies.take_first.Goals as goal

pub unname-requires : goal.unname-requires
unname-requires c =
    let arrival = c.in-Some.arrival in
    c.in-Some.ensures.left arrival ∙ ap (λ b. cond b None (at_arrival c.self.inside.backlog arrival)) (number_itself arrival)

pub invariant_of-self-2 : goal.invariant_of-self-2
invariant_of-self-2 c =
    let inside = c.self.inside in
    filed_taken inside.backlog c.take_first-first.new.self (filed inside.polls) (names inside.blocks) (names c.unname.new.blocks) inside.next c.in-Some.arrival
    c.self.invariant c.in-Some.ensures.sorted c.in-Some.ensures.left c.unname.ensures

pub returns-in_default-clause-taken : goal.returns-in_default-clause-taken
returns-in_default-clause-taken c =
    let es = c.self.inside.backlog in
    sym (ap (option_map (λ (s : Held × Mark). s.0)) (none_found es c.in_default.ensures.before c.in_default.ensures.none)) ∙ ap first_new c.self.view_is

pub returns-clause-taken : goal.returns-clause-taken
returns-clause-taken c =
    let es = c.self.inside.backlog in
    sym (ap (option_map (λ (s : Held × Mark). s.0)) (seat_found es c.in-Some.arrival c.in-Some.reply c.in-Some.ensures.before c.in-Some.ensures.first)) ∙ ap first_new c.self.view_is

pub returns-in_default-clause-rest : goal.returns-in_default-clause-rest
returns-in_default-clause-rest c =
    let es = c.self.inside.backlog in
    ap (map seat_of) c.in_default.ensures.same ∙ sym (none_taken (map seat_of es) (none_found es c.in_default.ensures.before c.in_default.ensures.none)) ∙ ap without_new c.self.view_is

pub returns-clause-rest : goal.returns-clause-rest
returns-clause-rest c =
    let es = c.self.inside.backlog in
    ap (map seat_of) c.in-Some.ensures.rest ∙ seats_taken es c.in-Some.arrival c.in-Some.reply c.in-Some.ensures.before c.in-Some.ensures.first ∙ ap without_new c.self.view_is
