use Rattle.snow_base.specs.Model.Identifier.{bits}
use Rattle.snow_plain.proofs.Alone.{fresh_lined}
use Rattle.snow_plain.proofs.only_child.OnlyChild.new.Goals as goal

pub returns-clause-fresh : goal.returns-clause-fresh
returns-clause-fresh c = fresh_lined c.new.result (bits c.args.child.now) c.new.ensures
