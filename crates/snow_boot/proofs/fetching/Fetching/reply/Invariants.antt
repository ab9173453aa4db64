-- What is still to come of the reply makes of what is known what the whole reply makes of what was known.
use Rattle.std.proofs.Common.{◌≡◌, true}
use Rattle.snow_store.specs.Model.Needing.{is_missed, Covers}
use Rattle.snow_boot.specs.Kept.Reply.{left}
use Rattle.snow_boot.specs.Model.Replying.{replied}
use Rattle.snow_boot.proofs.fetching.Fetching.reply.Given as goal

abbrev pub invariant-loop-bytes : goal.invariant-loop-bytes
invariant-loop-bytes g l =
    (l.self.whole ≡ true)
    × (replied g.C.Chain.rules.header_of l.self.fetch l.wanted (left l.bytes-iterator) ≡ replied g.C.Chain.rules.header_of l.initial.self.fetch l.initial.wanted (left l.fn.blocks))
    × Covers l.initial.self.due (is_missed l.initial.self.fetch l.initial.self.fetch.targets) l.self.due (is_missed l.self.fetch l.self.fetch.targets)
