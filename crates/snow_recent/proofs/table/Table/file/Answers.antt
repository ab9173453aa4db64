use Rattle.std.proofs.Common.{ℕ, List, set, ap, ◌∙◌}
use Rattle.snow_recent.specs.Kept.Index.{id_of}
use Rattle.snow_recent.proofs.Filed.{filed_set, filed_insert}
use Rattle.snow_recent.proofs.table.Table.file.Goals as goal

pub returns-in-Ok : goal.returns-in-Ok
returns-in-Ok g c =
    let place = rw c.id_of-id.ensures at c.in-Ok.ensures in
    ap (λ (l : List ℕ). set l c.in-Ok.at c.args.number) c.self.view_is
    ∙ filed_set (id_of g.T.Named.id c.args.entries.now.items c.args.first) c.args.self.now c.args.number c.in-Ok.at c.requires.order place

pub returns-in-Err : goal.returns-in-Err
returns-in-Err g c =
    let place = rw c.id_of-id.ensures at c.in-Err.ensures in
    c.insert.ensures ∙ filed_insert (id_of g.T.Named.id c.args.entries.now.items c.args.first) c.args.self.now c.args.number c.in-Err.at place
