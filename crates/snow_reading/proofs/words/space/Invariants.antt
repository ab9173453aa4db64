use Rattle.std.proofs.Common.{◌≡◌, ◌==◌, All, take, false}
use Rattle.snow_reading.proofs.words.space.Given as goal

abbrev pub invariant-loop-at : goal.invariant-loop-at
invariant-loop-at l = All (λ b. b == 32 ≡ false) (take l.at l.bytes)
