-- All that the new targets miss was gathered.
use Rattle.std.proofs.Common.{ap, ◌∙◌}
use Rattle.snow_boot.specs.Kept.Fetching.{Hunt}
use Rattle.snow_boot.proofs.fetching.Fetching.aim.Goals as goal

pub gather-requires : goal.gather-requires
gather-requires g c = (c.self.invariant (ap (λ (v : Hunt). v.whole) c.self.view_is ∙ c.requires)).0

pub invariant_of-self-2 : goal.invariant_of-self-2
invariant_of-self-2 g c whole = ((c.self.invariant (ap (λ (v : Hunt). v.whole) c.self.view_is ∙ c.requires)).0, c.in_ok-gather.ensures)
