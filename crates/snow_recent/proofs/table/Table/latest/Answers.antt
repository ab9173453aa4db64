use Rattle.std.proofs.Common.{ℕ, List, get_or, ap, ◌∙◌}
use Rattle.snow_recent.specs.Kept.Index.{id_of}
use Rattle.snow_recent.proofs.Looked.{latest_found, latest_missing}
use Rattle.snow_recent.proofs.table.Table.latest.Goals as goal

pub returns-in-Ok : goal.returns-in-Ok
returns-in-Ok g c =
    latest_found (id_of g.T.Named.id c.args.entries.now.items c.args.first) c.args.self.now c.args.id.now c.in-Ok.at c.index.result.now c.in-Ok.ensures
    (c.index.ensures ∙ ap (λ (l : List ℕ). get_or l c.in-Ok.at c.index.result.now) c.self.view_is)

pub returns-in-Err : goal.returns-in-Err
returns-in-Err g c =
    latest_missing (id_of g.T.Named.id c.args.entries.now.items c.args.first) c.args.self.now c.args.id.now c.in-Err.field-0 c.in-Err.ensures
