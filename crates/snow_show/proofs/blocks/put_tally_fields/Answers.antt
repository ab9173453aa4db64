use Rattle.std.proofs.Common.{[], ◌∷◌, decimal, refl}
use Rattle.std.proofs.lemmas.List.{take_rest}
use Rattle.snow_text_model.specs.Model.Blocks.{behind_words}
use Rattle.snow_show.specs.Kept.Listing.{led}
use Rattle.snow_show.proofs.Putting.{puts_three}
use Rattle.snow_show.proofs.blocks.put_tally_fields.Goals as goal

pub returns : goal.returns
returns c =
    puts_three c.put_behind.result _ _ _ _ (32 ∷ decimal c.read_u64.result) (32 ∷ decimal c.read_u64-2.result) (led (32 ∷ []) (32 ∷ []) (behind_words c.split_at.result.1.now)) _
    c.in_ok-put_marked_number.ensures c.in_ok-put_marked_number-2.ensures c.put_behind.ensures
    (rw (c.read_u64.ensures, c.read_u64-2.ensures, c.split_at.ensures.back, take_rest) refl)
