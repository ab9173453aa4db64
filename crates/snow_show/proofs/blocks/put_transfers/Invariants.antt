use Rattle.std.proofs.Common.{[], ◌∷◌, ◌/◌, length}
use Rattle.snow_text_model.specs.Model.Blocks.{transfer_texts}
use Rattle.snow_show.specs.Kept.Listing.{led}
use Rattle.snow_show.proofs.Putting.{Going}
use Rattle.snow_show.proofs.blocks.put_transfers.Given as goal

abbrev pub invariant-loop-rest : goal.invariant-loop-rest
invariant-loop-rest l =
    Going l.initial.text.items l.text.items (led (32 ∷ []) (32 ∷ []) (transfer_texts (length l.rest / 20) l.rest)) (led (32 ∷ []) (32 ∷ []) (transfer_texts (length l.bytes / 20) l.bytes))

abbrev pub decreases-loop-rest : goal.decreases-loop-rest
decreases-loop-rest l = length l.rest
