-- A node behind its last eight bytes as a number, and the order of these.
use Rattle.std.specs.Prelude.{ℕ, List}
use Rattle.std.specs.Cmp.Lexicographic.{slice_cmp}
use Rattle.std.specs.Ordering.{nat_cmp, ordering_then}
use Rattle.std.specs.declared.cmp.Ordering.{Ordering}
use Rattle.snow_base.specs.Model.Identifier.{word_at}
use Rattle.snow_held.specs.declared.keys.NodeKey.{NodeKey}

abbrev pub key_of : List ℕ → NodeKey
key_of node = record { last = word_at 12 node; node = node }

-- by the numbers, and then by all bytes
abbrev pub key_cmp : NodeKey → NodeKey → Ordering
key_cmp a b = ordering_then (nat_cmp a.last b.last) (slice_cmp nat_cmp a.node b.node)
