use Rattle.std.proofs.Common.{◌≡◌, ◌==◌, All, take, false}
use Rattle.snow_words.proofs.parts.place.Given as goal

abbrev pub invariant-loop-at : goal.invariant-loop-at
invariant-loop-at l = All (λ b. b == l.mark ≡ false) (take l.at l.text)
