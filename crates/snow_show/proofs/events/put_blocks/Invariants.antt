use Rattle.std.proofs.Common.{[], ◌∷◌, map}
use Rattle.snow_text_model.specs.Model.Blocks.{block_line}
use Rattle.snow_show.specs.Kept.Listing.{led}
use Rattle.snow_show.proofs.Putting.{Going}
use Rattle.snow_show.proofs.events.put_blocks.Given as goal

abbrev pub invariant-loop-block : goal.invariant-loop-block
invariant-loop-block l = Going l.initial.text.items l.text.items (led l.mark (44 ∷ []) (map (block_line l.form) l.block-iterator)) (led (32 ∷ []) (44 ∷ []) (map (block_line l.form) l.blocks))
