use Rattle.std.proofs.Common.{w64, ap, ◌∙◌}
use Rattle.std.specs.Int.{from_le_bytes}
use Rattle.snow_base.proofs.Words.{low_is}
use Rattle.snow_base.proofs.comparing.low_word.Goals as goal

pub returns : goal.returns
returns c = low_is c.args.bytes.now c.args.from c.from_le_bytes.result (c.from_le_bytes.ensures ∙ ap (from_le_bytes w64) c.eight.ensures)
