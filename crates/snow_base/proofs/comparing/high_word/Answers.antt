use Rattle.std.proofs.Common.{w64, ap, ◌∙◌}
use Rattle.std.specs.Int.{from_be_bytes}
use Rattle.snow_base.proofs.Words.{high_is}
use Rattle.snow_base.proofs.comparing.high_word.Goals as goal

pub returns : goal.returns
returns c = high_is c.args.bytes.now c.args.from c.from_be_bytes.result (c.from_be_bytes.ensures ∙ ap (from_be_bytes w64) c.eight.ensures)
