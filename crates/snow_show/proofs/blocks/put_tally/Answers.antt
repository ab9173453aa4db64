use Rattle.std.proofs.Common.{◌∷◌, codes}
use Rattle.snow_text_model.specs.Model.Bytes.{fixed_text}
use Rattle.snow_show.specs.Kept.Listing.{tally_fields}
use Rattle.snow_show.proofs.Itemed.{tally_line}
use Rattle.snow_show.proofs.Putting.{puts_three}
use Rattle.snow_show.proofs.blocks.put_tally.Goals as goal

pub returns : goal.returns
returns c =
    puts_three c.put_tally_fields.result _ _ _ _ (codes "tally") (32 ∷ fixed_text c.split_at.result.0.now) (tally_fields c.split_at.result.1.now) _
    c.in_ok-put.ensures c.in_ok-put_fixed_word.ensures c.put_tally_fields.ensures
    (rw (c.split_at.ensures.front, c.split_at.ensures.back) (tally_line c.args.bytes.now))
