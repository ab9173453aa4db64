use Rattle.snow_base.proofs.Bits.{lowest}
use Rattle.snow_base.proofs.identifier.lowest_differing.Goals as goal

pub returns-clause-within : goal.returns-clause-within
returns-clause-within c = (lowest c.args.a c.args.b c.ranges.a.fits c.ranges.b.fits c.requires).0

pub returns-clause-below : goal.returns-clause-below
returns-clause-below c = (lowest c.args.a c.args.b c.ranges.a.fits c.ranges.b.fits c.requires).1

pub returns-clause-differs : goal.returns-clause-differs
returns-clause-differs c = (lowest c.args.a c.args.b c.ranges.a.fits c.ranges.b.fits c.requires).2
