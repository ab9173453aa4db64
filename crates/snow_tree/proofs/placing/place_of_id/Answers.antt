use Rattle.std.proofs.Common.{nat_eq, bytes_eq, sym, ap, subst, ◌∙◌}
use Rattle.std.specs.HashMap.{get}
use Rattle.std.specs.List.{position}
use Rattle.snow_tree.specs.Kept.Row.{IsToldPlace, edges_of}
use Rattle.snow_tree.proofs.Ordered.{number_place}
use Rattle.snow_tree.proofs.Searched.{all_taken}
use Rattle.snow_tree.proofs.Told.{looked_up, no_number}
use Rattle.snow_tree.proofs.placing.place_of_id.Goals as goal

pub returns-in_err-number : goal.returns-in_err-number
returns-in_err-number g c =
    let edges = edges_of c.args.entries.now.items in
    let id = c.args.id.now in
    let numbers = c.args.numbers.now in
    let untold = subst (IsToldPlace edges numbers.hints id) c.in_default.is c.place_told.ensures in
    let found = looked_up edges (λ k. get bytes_eq numbers.map k) numbers.hints c.requires.0 id c.requires.1 untold in
    c.from_residual.ensures ∙ sym (no_number edges id (sym found ∙ sym c.look_up.ensures ∙ c.in_err-number.was))

pub returns : goal.returns
returns g c =
    let items = c.args.entries.now.items in
    let edges = edges_of items in
    let id = c.args.id.now in
    let numbers = c.args.numbers.now in
    let number = c.in_ok-number.number in
    let untold = subst (IsToldPlace edges numbers.hints id) c.in_default.is c.place_told.ensures in
    let found = looked_up edges (λ k. get bytes_eq numbers.map k) numbers.hints c.requires.0 id c.requires.1 untold in
    c.place_of_number.ensures
    ∙ ap (λ l. position (λ e. nat_eq e.number number) (edges_of l)) (all_taken items c.len.result (c.len.ensures ∙ c.args.entries.now.ok.0))
    ∙ number_place edges id number c.requires.1.order (sym found ∙ sym c.look_up.ensures ∙ c.in_ok-number.was)
