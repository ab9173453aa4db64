use Rattle.std.proofs.Common.{◌≡◌, ℕ, ◌*◌, ◌<◌, length, get_or}
use Rattle.snow_base.proofs.comparing.order.Given as goal

-- the bytes so far agree
abbrev pub invariant-loop-at : goal.invariant-loop-at
invariant-loop-at l = (k : ℕ) → k < 8 * l.at → k < length l.a → get_or l.a k 0 ≡ get_or l.b k 0
