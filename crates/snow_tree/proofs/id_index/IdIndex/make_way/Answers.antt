use Rattle.std.proofs.Common.{◌≡◌, false, cond, None, Some, bytes_eq, nat_eq, refl, sym, ap, ◌∙◌}
use Rattle.std.specs.HashMap.{get}
use Rattle.std.specs.List.{position}
use Rattle.snow_board.proofs.Cases.{split_on}
use Rattle.snow_tree.specs.Kept.Hints.{hint_of}
use Rattle.snow_tree.specs.Kept.Row.{edges_of, gives_way}
use Rattle.snow_tree.proofs.Edges.{gives_way_at}
use Rattle.snow_tree.proofs.Searched.{all_taken}
use Rattle.snow_tree.proofs.Told.{no_way}
use Rattle.snow_tree.proofs.id_index.IdIndex.make_way.Goals as goal

pub returns-then-share-clause-map : goal.returns-then-share-clause-map
returns-then-share-clause-map g c =
    λ q.
    let items = c.args.entries.now.items in
    let slots = c.args.self.now.hints in
    let id = c.args.id.now in
    let e = c.index.result.now in
    let there : position (λ x. nat_eq x.number (hint_of slots id)) (edges_of items) ≡ Some c.in-Some.place =
    ap (λ n. position (λ x. nat_eq x.number n) (edges_of items)) (sym c.number-told.ensures)
    ∙ ap (λ l. position (λ x. nat_eq x.number c.number-told.result) (edges_of l)) (sym (all_taken items c.len.result (c.len.ensures ∙ c.args.entries.now.ok.0))) ∙ sym c.place_of_number.ensures ∙ c.in-Some.is
    in
    let gives : gives_way slots (edges_of items) (hint_of slots id) id q ≡ bytes_eq e.0 q =
    gives_way_at items slots (hint_of slots id) c.in-Some.place e id q c.requires.order there c.index.ensures
    ∙ split_on (bytes_eq e.0 q) (λ t. rw (t, sym c.share.ensures ∙ c.if-share.true) refl) (λ t. rw t refl)
    in
    c.keep.ensures.map q ∙ λ i. cond (sym gives i) (Some (c.number-told.ensures i)) (get bytes_eq c.args.self.now.map q)

pub returns-else-share-clause-map : goal.returns-else-share-clause-map
returns-else-share-clause-map g c =
    λ q.
    let items = c.args.entries.now.items in
    let slots = c.args.self.now.hints in
    let id = c.args.id.now in
    let e = c.index.result.now in
    let there : position (λ x. nat_eq x.number (hint_of slots id)) (edges_of items) ≡ Some c.in-Some.place =
    ap (λ n. position (λ x. nat_eq x.number n) (edges_of items)) (sym c.number-told.ensures)
    ∙ ap (λ l. position (λ x. nat_eq x.number c.number-told.result) (edges_of l)) (sym (all_taken items c.len.result (c.len.ensures ∙ c.args.entries.now.ok.0))) ∙ sym c.place_of_number.ensures ∙ c.in-Some.is
    in
    let stays : gives_way slots (edges_of items) (hint_of slots id) id q ≡ false =
    gives_way_at items slots (hint_of slots id) c.in-Some.place e id q c.requires.order there c.index.ensures
    ∙ split_on (bytes_eq e.0 q) (λ t. rw (t, sym c.share.ensures ∙ c.if-share.false) refl) (λ t. rw t refl)
    in
    rw stays refl

pub returns-in_default-clause-map : goal.returns-in_default-clause-map
returns-in_default-clause-map g c =
    λ q.
    let items = c.args.entries.now.items in
    let slots = c.args.self.now.hints in
    let id = c.args.id.now in
    let none : position (λ x. nat_eq x.number (hint_of slots id)) (edges_of items) ≡ None =
    ap (λ n. position (λ x. nat_eq x.number n) (edges_of items)) (sym c.number-told.ensures)
    ∙ ap (λ l. position (λ x. nat_eq x.number c.number-told.result) (edges_of l)) (sym (all_taken items c.len.result (c.len.ensures ∙ c.args.entries.now.ok.0))) ∙ sym c.place_of_number.ensures ∙ c.in_default.is
    in
    rw (no_way slots (edges_of items) (hint_of slots id) id q c.requires.order none) refl
