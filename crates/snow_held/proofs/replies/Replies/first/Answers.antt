-- The first reply of the backlog that isn't quiet is the first of which nothing is remembered.
use Rattle.std.proofs.Common.{map, sym, ap, ◌∙◌}
use Rattle.std.specs.Option.{option_map}
use Rattle.snow_held.specs.declared.held.Held.{Held}
use Rattle.snow_lineup.specs.declared.marks.Mark.{Mark}
use Rattle.snow_held.specs.Kept.Arrivals.{Entries, seat_of}
use Rattle.snow_held.specs.Model.Replies.{first_new}
use Rattle.snow_held.proofs.Seated.{seat_found, none_found}
use Rattle.snow_held.proofs.replies.Replies.first.Goals as goal

pub returns-in_default-clause-first : goal.returns-in_default-clause-first
returns-in_default-clause-first c =
    let es = c.first-first.new.self in
    sym (ap (option_map (λ (s : Held × Mark). s.0)) (none_found es c.in_default.ensures.sorted c.in_default.ensures.none))
    ∙ ap (λ (l : Entries). first_new (map seat_of l)) c.in_default.ensures.same ∙ ap first_new c.self.view_is

pub returns-clause-first : goal.returns-clause-first
returns-clause-first c =
    let es = c.first-first.new.self in
    sym (ap (option_map (λ (s : Held × Mark). s.0)) (seat_found es _ c.in-Some.reply c.in-Some.ensures.sorted c.in-Some.ensures.first))
    ∙ ap (λ (l : Entries). first_new (map seat_of l)) c.in-Some.ensures.same ∙ ap first_new c.self.view_is
