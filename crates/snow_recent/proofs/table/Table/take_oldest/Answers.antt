use Rattle.std.proofs.Common.{◌≡◌, ℕ, List, get_or, sym, ap, ◌∙◌}
use Rattle.std.specs.List.{remove}
use Rattle.std.proofs.lemmas.List.{get_or_default}
use Rattle.snow_recent.specs.Kept.Index.{id_of}
use Rattle.snow_recent.proofs.Forgotten.{without_at, without_other, without_place}
use Rattle.snow_recent.proofs.table.Table.take_oldest.Goals as goal

pub returns-then-index-first : goal.returns-then-index-first
returns-then-index-first g c =
    let numbers = c.args.self.now in
    let at = c.in-Ok.at in
    let place = rw c.id_of-oldest.ensures at c.in-Ok.ensures in
    let read : get_or numbers at c.args.first ≡ c.args.first =
    get_or_default numbers at c.args.first c.index.result.now place.0 ∙ ap (λ (l : List ℕ). get_or l at c.index.result.now) (sym c.self.view_is)
    ∙ sym c.index.ensures ∙ c.if-index-first.true in
    c.remove.ensures.items ∙ ap (λ (l : List ℕ). remove l at) c.self.view_is
    ∙ without_at (id_of g.T.Named.id c.args.entries.now.items c.args.first) c.args.first numbers at c.requires place.0 read

pub returns-else-index-first : goal.returns-else-index-first
returns-else-index-first g c =
    let numbers = c.args.self.now in
    let at = c.in-Ok.at in
    let place = rw c.id_of-oldest.ensures at c.in-Ok.ensures in
    without_other (id_of g.T.Named.id c.args.entries.now.items c.args.first) c.args.first numbers at c.requires place
    (λ read. c.if-index-first.false
    (c.index.ensures ∙ ap (λ (l : List ℕ). get_or l at c.index.result.now) c.self.view_is ∙ get_or_default numbers at c.index.result.now c.args.first place.0 ∙ read))

pub returns-in_default : goal.returns-in_default
returns-in_default g c =
    let place = rw c.id_of-oldest.ensures at c.in_default.ensures in
    without_place (id_of g.T.Named.id c.args.entries.now.items c.args.first) c.args.first c.args.self.now c.in_default.field-0 place
