use Rattle.std.proofs.Common.{[], ◌∷◌, decimal, refl}
use Rattle.snow_text_model.specs.Model.Blocks.{behind_words}
use Rattle.snow_show.specs.Kept.Listing.{led}
use Rattle.snow_show.proofs.Putting.{puts_three}
use Rattle.snow_show.proofs.Itemed.{one_number}
use Rattle.snow_show.proofs.blocks.put_plain_fields.Goals as goal

pub returns : goal.returns
returns c =
    puts_three c.put_behind.result _ _ _ _ (32 ∷ decimal c.read_u64.result) (32 ∷ decimal c.from.result) (led (32 ∷ []) (32 ∷ []) (behind_words c.split_at.result.1.now)) _
    c.in_ok-put_marked_number.ensures c.in_ok-put_marked_number-2.ensures c.put_behind.ensures
    (rw (c.read_u64.ensures, c.from.ensures, c.split_at.ensures.back, one_number 8 c.args.bytes.now) refl)
