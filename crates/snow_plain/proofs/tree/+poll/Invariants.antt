use Rattle.std.proofs.Common.{◌+◌, ◌*◌}
use Rattle.snow_board.specs.Kept.Walk.{depth}
use Rattle.snow_plain.specs.Kept.Trees.{counters_of}
use Rattle.snow_plain.proofs.tree.+poll.Given as goal

-- twice the depth
abbrev pub decreases-poll : goal.decreases-poll
decreases-poll l = 2 * depth (counters_of l.tree.now)

-- and one more, since a side is polled as it is
abbrev pub decreases-poll_side : goal.decreases-poll_side
decreases-poll_side l = 2 * depth (counters_of l.side.now) + 1
