use Rattle.std.proofs.Common.{◌≡◌, ◌≤◌, length, take, find, reverse}
use Rattle.std.specs.Str.{bytes_eq}
use Rattle.snow_words.proofs.names.find_last.Given as goal

abbrev pub invariant-loop-at : goal.invariant-loop-at
invariant-loop-at l =
    (find (λ n. bytes_eq n.name l.name) (reverse (take l.at l.blocks)) ≡ find (λ n. bytes_eq n.name l.name) (reverse l.blocks)) × (l.at ≤ length l.blocks)

abbrev pub decreases-loop-at : goal.decreases-loop-at
decreases-loop-at l = l.at
