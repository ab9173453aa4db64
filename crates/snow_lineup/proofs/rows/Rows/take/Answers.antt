use Rattle.std.proofs.Common.{sym, ap, ◌∙◌}
use Rattle.std.specs.Str.{bytes_eq}
use Rattle.snow_map.specs.Clauses.Entries.{value_of}
use Rattle.snow_lineup.specs.Kept.Index.{row_of, row_before, has_place}
use Rattle.snow_lineup.proofs.Noted.{row_taken}
use Rattle.snow_map.proofs.Lists.{same_id}
use Rattle.snow_lineup.proofs.rows.Rows.take.Goals as goal

pub returns-then-are_single : goal.returns-then-are_single
returns-then-are_single c q =
    let old = c.args.self.now.rows in
    let key = c.args.key.now in
    row_taken (bytes_eq key q) (row_before old.before q) (value_of old.last q) (value_of c.remove.new.self q) c.args.place (c.are_single.ensures c.if-are_single.true q)
    (λ e. ap (λ k. has_place c.args.place (row_of old k)) (sym (same_id key q e)) ∙ c.requires) (c.remove.ensures.updates q)
