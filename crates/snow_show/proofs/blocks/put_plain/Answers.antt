use Rattle.std.proofs.Common.{◌∷◌, codes, refl}
use Rattle.snow_text_model.specs.Model.Bytes.{fixed_text}
use Rattle.snow_show.specs.Kept.Listing.{plain_fields}
use Rattle.snow_show.proofs.Blocked.{dropped}
use Rattle.snow_show.proofs.Itemed.{plain_line}
use Rattle.snow_show.proofs.Putting.{puts_four}
use Rattle.snow_show.proofs.blocks.put_plain.Goals as goal

pub returns : goal.returns
returns c =
    puts_four c.put_plain_fields.result _ _ _ _ _ (codes "plain") (32 ∷ fixed_text c.split_at.result.0.now) (32 ∷ fixed_text c.split_at-2.result.0.now) (plain_fields c.split_at-2.result.1.now) _
    c.in_ok-put.ensures c.in_ok-put_fixed_word.ensures c.in_ok-put_fixed_word-2.ensures c.put_plain_fields.ensures
    (rw (c.split_at-2.ensures.front, c.split_at-2.ensures.back, c.split_at.ensures.front, c.split_at.ensures.back, dropped 32 32 64 c.args.bytes.now refl) (plain_line c.args.bytes.now))
