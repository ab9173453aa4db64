-- The block of an identifier is the one that the map has.
use Rattle.std.proofs.Common.{find, sym, ap, ◌∙◌}
use Rattle.std.specs.Option.{option_map}
use Rattle.snow_getter.specs.Model.Serving.{is_block}
use Rattle.snow_getter.specs.Kept.Order.{block_at}
use Rattle.snow_getter.proofs.Ordered.{block_found}
use Rattle.snow_getter.proofs.pending.Pending.block.Goals as goal

pub returns : goal.returns
returns c =
    ap (option_map (block_at c.args.id.now)) c.get.ensures.value
    ∙ sym (block_found c.self.inside.next c.args.id.now c.self.inside.blocks c.self.invariant)
    ∙ ap (find (is_block c.args.id.now)) c.self.view_is
