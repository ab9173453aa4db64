-- The block of an identifier goes with the map's entry.
use Rattle.std.proofs.Common.{find, sym, ap, ◌∙◌}
use Rattle.std.specs.Option.{option_map}
use Rattle.snow_getter.specs.Model.Serving.{is_block, without}
use Rattle.snow_getter.specs.Kept.Order.{block_at}
use Rattle.snow_getter.proofs.Ordered.{block_found, block_left, issued_left}
use Rattle.snow_getter.proofs.pending.Pending.take.Goals as goal

pub invariant_of-self : goal.invariant_of-self
invariant_of-self c =
    issued_left c.self.inside.next c.args.id.now c.self.inside.blocks c.remove.new.self c.self.invariant c.remove.ensures.left

pub returns-clause-taken : goal.returns-clause-taken
returns-clause-taken c =
    ap (option_map (block_at c.args.id.now)) c.remove.ensures.value
    ∙ sym (block_found c.self.inside.next c.args.id.now c.self.inside.blocks c.self.invariant)
    ∙ ap (find (is_block c.args.id.now)) c.self.view_is

pub returns-clause-left : goal.returns-clause-left
returns-clause-left c =
    block_left c.self.inside.next c.args.id.now c.self.inside.blocks c.remove.new.self c.self.invariant c.remove.ensures.left
    ∙ ap (without c.args.id.now) c.self.view_is
