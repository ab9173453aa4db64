use Rattle.std.proofs.Common.{◌≡◌, ℕ, ◌+◌, ◌<◌, ◌≤◌, Bool, List, length, take}
use Rattle.snow_base.specs.Model.Votes.{total_count}
use Rattle.snow_climb.specs.Kept.Ladder.{KeepsRoom}
use Rattle.snow_climb.specs.Kept.Starting.{votes_by, ids_by, HaveStarted}
use Rattle.snow_climb.proofs.starting.count_each.Given as goal

abbrev pub invariant-loop-id : goal.invariant-loop-id
invariant-loop-id g l = record {
  some : 0 < l.seats;
  seats : length l.waiting ≡ l.seats;
  started : (counted : (List ℕ → Bool) → ℕ) → HaveStarted l.tree.pending (λ test. votes_by test l.fn.waiting) counted l.fn.ladder.climbers
      → HaveStarted l.tree.pending (λ test. votes_by test l.waiting) (λ test. ids_by test (take l.id-index l.ids) + counted test) l.ladder.climbers;
  put : l.ladder.put + total_count l.waiting ≤ l.fn.ladder.put + total_count l.fn.waiting + l.id-index;
  base : total_count l.waiting ≤ total_count l.fn.waiting + l.id-index;
  low : l.ladder.low ≡ l.fn.ladder.low;
  room : KeepsRoom l.fn.ladder l.ladder;
}
