-- What is missed below the highest block of a kept target.
use Rattle.std.proofs.Common.{refl, sym, ◌∙◌}
use Rattle.snow_interval.specs.Model.Heights.{lowest}
use Rattle.snow_store.specs.Laws.Linking.{held_heights}
use Rattle.snow_store.proofs.Storing.{top_held, missed_kept}
use Rattle.snow_store.proofs.store.Store.missed.Goals as goal

pub wanted_at-requires-clause-held : goal.wanted_at-requires-clause-held
wanted_at-requires-clause-held g c = top_held c.args.self.now.store c.args.target.now c.in-Some.top c.links.ensures (sym c.in-Some.ensures)

pub returns-in-Some : goal.returns-in-Some
returns-in-Some g c noted f =
    let s = c.args.self.now.store in
    let top = c.in-Some.top in
    c.wanted_at.ensures
    ∙ sym (missed_kept s noted c.args.target.now top (lowest (held_heights s.kept) top) (held_heights s.kept) c.links.ensures (λ h. refl) (sym c.in-Some.ensures) refl)
