use Rattle.std.proofs.Common.{◌≡◌, ◌++◌, map, vec_capacity}
use Rattle.snow_board.specs.Model.Poll.{rejects}
use Rattle.snow_plain.proofs.Judged.{rejected_before}
use Rattle.snow_plain.proofs.accepting.reject_others.Given as goal

abbrev pub invariant-loop-entry : goal.invariant-loop-entry
invariant-loop-entry l = record {
  told : l.decisions.items ≡ l.initial.decisions.items ++ map rejects (rejected_before l.pending l.child l.entry-index);
  room : vec_capacity l.decisions ≡ vec_capacity l.initial.decisions;
}
