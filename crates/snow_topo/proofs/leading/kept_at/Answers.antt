use Rattle.std.proofs.Common.{refl, sym, ap, ◌∙◌}
use Rattle.std.specs.Option.{option_map}
use Rattle.snow_tree.specs.Kept.Held.{blocks_in}
use Rattle.snow_climb.proofs.Begun.{block_off}
use Rattle.snow_topo.proofs.Endings.{entry_found, kept_away}
use Rattle.snow_topo.proofs.Gained.{is_last, placed_away}
use Rattle.snow_topo.proofs.leading.kept_at.Goals as goal

pub returns-in-Some : goal.returns-in-Some
returns-in-Some g c =
    let tree = c.args.tree.now in
    let id = c.args.id.now in
    let there = sym c.requires.place ∙ c.in-Some.is in
    c.load.ensures
    ∙ sym (kept_away c.args.root.now tree id (placed_away tree.last tree.pending id c.in-Some.at c.last-last.ensures.grown there) ∙ ap (option_map (λ e. e.load)) (entry_found tree.pending id c.in-Some.at there))

pub returns-in-None : goal.returns-in-None
returns-in-None g c =
    let tree = c.args.tree.now in
    let id = c.args.id.now in
    rw (is_last tree.last (blocks_in tree.pending) id c.requires.on (block_off tree.pending id (sym c.requires.place ∙ c.in-None.is))) refl
