-- The nodes so far.
use Rattle.std.proofs.Common.{◌≡◌, take}
use Rattle.snow_node.specs.Model.Turning.{members}
use Rattle.snow_node.proofs.running.members_of.Given as goal

abbrev pub invariant-loop-id : goal.invariant-loop-id
invariant-loop-id l = l.members.items ≡ members (take l.id-index l.id-items)
