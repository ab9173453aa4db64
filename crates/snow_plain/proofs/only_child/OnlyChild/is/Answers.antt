use Rattle.std.proofs.Common.{ap, ◌∙◌}
use Rattle.std.specs.Ordering.{is_eq}
use Rattle.snow_plain.proofs.Alone.{same_bits}
use Rattle.snow_plain.proofs.only_child.OnlyChild.is.Goals as goal

pub returns : goal.returns
returns c = c.is_eq.ensures ∙ ap is_eq c.bit_cmp.ensures ∙ same_bits c.args.self.now.child c.args.id.now
