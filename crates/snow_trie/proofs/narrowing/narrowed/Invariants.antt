use Rattle.std.proofs.Common.{◌≤◌}
use Rattle.snow_base.specs.Model.Votes.{total_count}
use Rattle.snow_trie.specs.Kept.Polled.{IsNarrowed}
use Rattle.snow_trie.proofs.narrowing.narrowed.Given as goal

-- the votes that agree on the bits so far, which are no more than there were
abbrev pub invariant-loop-bit : goal.invariant-loop-bit
invariant-loop-bit l = IsNarrowed l.leader l.bit l.votes l.rest × (total_count l.rest ≤ l.params.k)
