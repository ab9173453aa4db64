-- The counters that nodes stand for after so many polls. A node that the last poll didn't visit has failed.
use Rattle.std.specs.Prelude.{ℕ, Bool, ◌==◌, if◌then◌else◌}
use Rattle.snow_flake.specs.Model.Counter.{Counter}
use Rattle.snow_flake.specs.Kept.Instance.{Instance, at_bit, counter_of, failed}
use Rattle.snow_trie.specs.declared.run.Run.{Run}
use Rattle.snow_trie.specs.declared.fork.Fork.{Fork}

-- an instance that was visited last by the poll of this number, after so many polls
abbrev pub standing_at : ℕ → ℕ → Instance → Instance
standing_at now seen i = if seen == now then i else failed i

-- the counter of a unary node, at a bit
abbrev pub run_counter : ℕ → Run → Bool → Counter
run_counter now run bit = counter_of (standing_at now run.seen (at_bit run.counter bit))

-- the counter of a binary node
abbrev pub fork_counter : ℕ → Fork → Counter
fork_counter now fork = counter_of (standing_at now fork.seen fork.counter)
