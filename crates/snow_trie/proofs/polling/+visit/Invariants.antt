use Rattle.std.proofs.Common.{◌-◌}
use Rattle.snow_trie.proofs.polling.+visit.Given as goal

-- how many bits are still to come
abbrev pub decreases-visit : goal.decreases-visit
decreases-visit g l = 256 - l.from
