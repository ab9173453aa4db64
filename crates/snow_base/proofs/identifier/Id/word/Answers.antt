use Rattle.std.proofs.Common.{◌*◌, w64, refl, ap, ◌∙◌}
use Rattle.std.specs.Int.{from_le_bytes}
use Rattle.snow_base.proofs.Words.{word_is}
use Rattle.snow_base.proofs.identifier.Id.word.Goals as goal

pub returns : goal.returns
returns c =
    rw (← c.self.view_is)
    (word_is c.self.inside.bytes c.args.at (8 * c.args.at) c.from_le_bytes.result refl c.small.ensures
    (c.from_le_bytes.ensures ∙ ap (from_le_bytes w64) c.eight.ensures))
