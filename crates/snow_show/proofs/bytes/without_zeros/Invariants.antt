use Rattle.std.proofs.Common.{◌≡◌, ℕ, List, ◌≤◌, ◌<◌, take, length}
use Rattle.snow_text_model.specs.Model.Bytes.{trimmed}
use Rattle.snow_show.proofs.bytes.without_zeros.Given as goal

pub record Zeros (end : ℕ) (bytes : List ℕ) : Type 0 where
  pub some : 0 < end
  pub within : end ≤ length bytes
  pub same : trimmed (take end bytes) ≡ trimmed bytes

abbrev pub invariant-loop-end : goal.invariant-loop-end
invariant-loop-end l = Zeros l.end l.bytes

abbrev pub decreases-loop-end : goal.decreases-loop-end
decreases-loop-end l = l.end
