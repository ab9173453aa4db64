use Rattle.std.proofs.Common.{[], ◌∷◌, drop, map}
use Rattle.snow_text_model.specs.Model.Bytes.{fixed_text}
use Rattle.snow_show.specs.Kept.Listing.{led}
use Rattle.snow_show.proofs.Putting.{Going}
use Rattle.snow_show.proofs.lists.put_ids.Given as goal

abbrev pub invariant-loop-id : goal.invariant-loop-id
invariant-loop-id l = Going l.initial.text.items l.text.items (led (32 ∷ []) (32 ∷ []) (map fixed_text (drop l.id-index l.ids))) (led (32 ∷ []) (32 ∷ []) (map fixed_text l.ids))
