use Rattle.std.proofs.Common.{◌≡◌, ℕ, ◌+◌, ◌≤◌, Bool, List, take, drop}
use Rattle.snow_base.specs.Model.Votes.{total_count}
use Rattle.snow_climb.specs.Kept.Ladder.{KeepsRoom}
use Rattle.snow_climb.specs.Kept.Starting.{votes_by, HaveStarted}
use Rattle.snow_climb.proofs.starting.start_all_waiting.Given as goal

abbrev pub invariant-loop-vote : goal.invariant-loop-vote
invariant-loop-vote g l = record {
  started : (counted : (List ℕ → Bool) → ℕ) → HaveStarted l.tree.pending (λ test. votes_by test l.votes) counted l.fn.ladder.climbers
      → HaveStarted l.tree.pending (λ test. votes_by test (drop l.vote-index l.votes)) counted l.ladder.climbers;
  put : l.ladder.put ≤ l.fn.ladder.put + total_count (take l.vote-index l.votes);
  low : l.ladder.low ≡ l.fn.ladder.low;
  room : KeepsRoom l.fn.ladder l.ladder;
}
