use Rattle.std.proofs.Common.{◌≡◌, map, take, vec_capacity}
use Rattle.snow_board.specs.Kept.Cursors.{started}
use Rattle.snow_board.proofs.cursor.start_all.Given as goal

abbrev pub invariant-loop-vote : goal.invariant-loop-vote
invariant-loop-vote l = (l.cursors.items ≡ map started (take l.vote-index l.votes)) × (vec_capacity l.cursors ≡ vec_capacity l.fn.cursors)
