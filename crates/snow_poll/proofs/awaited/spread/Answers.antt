-- The two words, spread.
use Rattle.std.proofs.Common.{refl}
use Rattle.snow_poll.specs.Kept.Awaited.{spread_of}
use Rattle.snow_poll.proofs.awaited.spread.Goals as goal

pub returns : goal.returns
unfolding spread_of
returns c = rw (c.word.ensures, c.word-2.ensures) refl
