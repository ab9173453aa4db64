use Rattle.std.proofs.Common.{sym, ap, ◌∙◌}
use Rattle.snow_recent.specs.Kept.Index.{number_at}
use Rattle.snow_recent.proofs.Forgotten.{without_none}
use Rattle.snow_recent.proofs.seats.take_oldest_number.Goals as goal

pub returns-else-number-first : goal.returns-else-number-first
returns-else-number-first g c =
    without_none c.args.first c.args.table.now
    (c.requires.seat
    (ap (number_at c.args.heads.now) (sym c.id_of-oldest.ensures) ∙ sym c.number.ensures ∙ c.if-number-first.false))
