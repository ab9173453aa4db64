use Rattle.std.proofs.Common.{[], ◌∷◌, decimal, refl}
use Rattle.snow_text_model.specs.Model.Bytes.{fixed_text}
use Rattle.snow_show.proofs.Putting.{puts_three}
use Rattle.snow_show.proofs.lists.put_node.Goals as goal

pub returns : goal.returns
returns c =
    puts_three c.put_decimal.result _ _ _ _ (fixed_text c.split_at.result.0.now) (58 ∷ []) (decimal c.read_u64.result) _ c.in_ok-put_fixed.ensures c.in_ok-put.ensures c.put_decimal.ensures
    (rw (c.split_at.ensures.front, c.read_u64.ensures, c.split_at.ensures.back) refl)
