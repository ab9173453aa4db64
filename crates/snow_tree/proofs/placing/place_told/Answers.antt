use Rattle.std.proofs.Common.{◌≡◌, ◌<◌, length, None, Some, bytes_eq, nat_eq, sym, ap, subst, ◌∙◌}
use Rattle.std.specs.List.{position}
use Rattle.std.proofs.lemmas.Option.{same_Some, slice_get_within}
use Rattle.snow_board.proofs.Cases.{clash}
use Rattle.snow_tree.specs.Kept.Row.{IsToldPlace, edge_of, edges_of}
use Rattle.snow_tree.proofs.Edges.{node_there}
use Rattle.snow_tree.proofs.Ordered.{number_place, own_place, position_at}
use Rattle.snow_tree.proofs.Searched.{all_taken, edge_there, node_at}
use Rattle.snow_tree.proofs.Told.{unplaced}
use Rattle.snow_tree.proofs.placing.place_told.Goals as goal

pub returns-in_err-place : goal.returns-in_err-place
returns-in_err-place g c =
    let items = c.args.entries.now.items in
    let id = c.args.id.now in
    let hints = c.args.numbers.now.hints in
    let none : position (λ e. nat_eq e.number c.told.result) (edges_of items) ≡ None =
    ap (λ l. position (λ e. nat_eq e.number c.told.result) (edges_of l)) (sym (all_taken items c.len.result (c.len.ensures ∙ c.args.entries.now.ok.0))) ∙ sym c.place_of_number.ensures ∙ c.in_err-place.was
    in
    subst (IsToldPlace (edges_of items) hints id) (sym c.from_residual.ensures)
    (λ told. unplaced (edges_of items) id c.told.result c.requires.1.order none (told ∙ ap Some (sym c.told.ensures)))

pub returns-then-eq : goal.returns-then-eq
returns-then-eq g c =
    let items = c.args.entries.now.items in
    let edges = edges_of items in
    let id = c.args.id.now in
    let place = c.in_ok-place.place in
    let e = c.index.result.now in
    let there : position (λ x. nat_eq x.number c.told.result) edges ≡ Some place =
    ap (λ l. position (λ x. nat_eq x.number c.told.result) (edges_of l)) (sym (all_taken items c.len.result (c.len.ensures ∙ c.args.entries.now.ok.0))) ∙ sym c.place_of_number.ensures ∙ c.in_ok-place.was
    in
    let x = node_at items place _ (position_at (λ x. nat_eq x.number c.told.result) edges place there).1 in
    let within : place < length items = slice_get_within items place x.0 x.1 in
    own_place edges place (edge_of e) id c.requires.1.order (edge_there items place e (node_there items place e within c.index.ensures)) (sym c.eq.ensures ∙ c.if-eq.true)

pub returns-else-eq : goal.returns-else-eq
returns-else-eq g c =
    λ told.
    let items = c.args.entries.now.items in
    let edges = edges_of items in
    let id = c.args.id.now in
    let place = c.in_ok-place.place in
    let e = c.index.result.now in
    let there : position (λ x. nat_eq x.number c.told.result) edges ≡ Some place =
    ap (λ l. position (λ x. nat_eq x.number c.told.result) (edges_of l)) (sym (all_taken items c.len.result (c.len.ensures ∙ c.args.entries.now.ok.0))) ∙ sym c.place_of_number.ensures ∙ c.in_ok-place.was
    in
    let same : position (λ x. bytes_eq x.id id) edges ≡ Some place = sym (number_place edges id c.told.result c.requires.1.order (told ∙ ap Some (sym c.told.ensures))) ∙ there in
    let x = position_at (λ x. bytes_eq x.id id) edges place same in
    let node = node_at items place x.0 x.1 in
    let within : place < length items = slice_get_within items place node.0 node.1 in
    let one = edge_there items place e (node_there items place e within c.index.ensures) in
    clash (bytes_eq e.0 id) (ap (λ y. bytes_eq y.id id) (same_Some (edge_of e) x.0 (sym one ∙ x.1)) ∙ x.2) (sym c.eq.ensures ∙ c.if-eq.false)
