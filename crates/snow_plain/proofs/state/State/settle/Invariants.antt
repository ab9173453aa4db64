use Rattle.std.proofs.Common.{◌≡◌, ◌+◌, ◌≤◌, length, vec_len, vec_capacity}
use Rattle.snow_board.proofs.Settled.{IsSettling, to_do}
use Rattle.snow_plain.proofs.state.State.settle.Given as goal

abbrev pub invariant-loop-more : goal.invariant-loop-more
invariant-loop-more l = record {
  settling : IsSettling l.initial.self l.initial.decisions.items l.more l.self l.decisions.items;
  room : vec_capacity l.decisions ≡ vec_capacity l.initial.decisions;
  fewer : vec_len l.decisions + length l.self.pending ≤ vec_len l.initial.decisions + length l.initial.self.pending;
}

abbrev pub decreases-loop-more : goal.decreases-loop-more
decreases-loop-more l = to_do l.more l.self
