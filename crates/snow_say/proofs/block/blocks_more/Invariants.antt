use Rattle.std.proofs.Common.{◌≡◌, length}
use Rattle.snow_words.specs.Clauses.Making.{tallied}
use Rattle.snow_say.specs.Clauses.Payload.{IsBehind, walked}
use Rattle.snow_say.proofs.block.blocks_more.Given as goal

abbrev pub invariant-loop-front : goal.invariant-loop-front
invariant-loop-front l =
    (tallied l.out l.count (walked l.names l.text l.rest) ≡ tallied l.initial.out l.initial.count (walked l.names l.text l.text)) × IsBehind l.text l.rest

abbrev pub decreases-loop-front : goal.decreases-loop-front
decreases-loop-front l = length l.rest
