use Rattle.std.proofs.Common.{[], ◌∷◌}
use Rattle.snow_text_model.specs.Model.Bytes.{fixed_text}
use Rattle.snow_show.proofs.Putting.{going_ends, going_on}
use Rattle.snow_show.proofs.Itemed.{led_end, led_next}
use Rattle.snow_show.proofs.lists.put_ids.Goals as goal

pub loop-id-preserved : goal.loop-id-preserved
loop-id-preserved c =
    going_on _ _ _ _ _ _ _ c.loop-id.invariant c.in_ok-put_fixed_word.ensures (led_next (32 ∷ []) (32 ∷ []) fixed_text c.args.ids.now c.loop-id.id-index _ c.loop-id-test.true)

pub returns : goal.returns
returns c = going_ends _ _ _ _ c.loop-id.invariant (led_end (32 ∷ []) (32 ∷ []) fixed_text c.args.ids.now c.loop-id.id-index c.loop-id-test.false)
