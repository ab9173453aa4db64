use Rattle.std.proofs.Common.{◌∷◌, decimal, refl}
use Rattle.snow_text_model.specs.Model.Bytes.{fixed_text}
use Rattle.snow_show.proofs.Putting.{puts_three}
use Rattle.snow_show.proofs.events.put_sender.Goals as goal

pub returns : goal.returns
returns c =
    puts_three c.put_marked_number.result _ _ _ _ c.args.name.now (32 ∷ fixed_text c.args.node.now) (32 ∷ decimal c.from.result) _ c.in_ok-put.ensures c.in_ok-put_fixed_word.ensures c.put_marked_number.ensures (rw c.from.ensures refl)
