use Rattle.std.proofs.Common.{sym, subst}
use Rattle.snow_tree.specs.Kept.Row.{IsFront}
use Rattle.snow_tree.proofs.leaving.take_at.Goals as goal

pub sweep-requires-clause-front : goal.sweep-requires-clause-front
sweep-requires-clause-front g c =
    subst (IsFront c.in-Some.node.number c.args.from) (sym c.remove.ensures.rest) (c.requires.front (c.in-Some.field-0-0, c.in-Some.node) (sym c.in-Some.ensures.node))
