use Rattle.std.proofs.Common.{sym, ap, ◌∙◌}
use Rattle.std.specs.Str.{bytes_eq}
use Rattle.snow_map.specs.Clauses.Entries.{value_of}
use Rattle.snow_lineup.specs.Kept.Index.{row_of, row_before}
use Rattle.snow_lineup.proofs.Noted.{row_extended}
use Rattle.snow_map.proofs.Lists.{same_id}
use Rattle.snow_lineup.proofs.rows.Rows.note.Goals as goal

pub returns-in_ok-extend-in-Some-clause-ok : goal.returns-in_ok-extend-in-Some-clause-ok
returns-in_ok-extend-in-Some-clause-ok c q =
    let old = c.args.self.now.rows in
    row_extended (bytes_eq c.args.key q) (row_before old.before q) (row_of c.extend.new.self.rows q) (value_of old.last q) (value_of c.insert.new.self q) c.in-Some.last c.args.place
    (λ e. sym c.in-Some.is ∙ c.in_ok-insert.ensures.before ∙ ap (value_of old.last) (same_id c.args.key q e)) (c.in_ok-insert.ensures.updates q) (c.in_ok-extend-in-Some.ensures.ok q)
