-- A worked example, computed on the definitions: a counter is decided with its flake, also where it prefers the other bit.
use Rattle.std.proofs.Common.{◌≡◌, ℕ, true, false, List, [], ◌∷◌, replicate, refl, Some}
use Rattle.snow_base.specs.declared.block.Header.{Header}
use Rattle.snow_base.specs.declared.block.Vote.{Vote}
use Rattle.snow_base.specs.Model.Identifier.{bits}
use Rattle.snow_flake.specs.Model.Parameters.{Parameters}
use Rattle.snow_flake.specs.Model.Counter.{Undecided}
use Rattle.snow_board.specs.Model.Conflict.{with_child, all_polled, chosen, decided_path}
use Rattle.snow_board.specs.Model.Board.{Board, begin, issued, counter_on}
use Rattle.snow_board.specs.Model.Poll.{counted, winner, decisions_for, promoted, settled, poll}

-- the identifiers: without a bit set, with bit 7 alone, and that of the last accepted block
abbrev first : List ℕ
first = replicate 32 0

abbrev second : List ℕ
second = 128 ∷ replicate 31 0

abbrev root : List ℕ
root = 255 ∷ replicate 31 0

-- three votes a poll: two make a quorum for preference, three one for confidence, and that twice decides
abbrev parameters : Parameters
parameters = record { k = 3; alpha_preference = 2; alpha_confidence = 3; beta = 2; repolls = 1 }

abbrev child : List ℕ → Header
child id = record { id = id; parent = root; height = 1 }

abbrev votes : List ℕ → ℕ → List Vote
votes id count = record { id = id; count = count } ∷ []

-- two votes for the first child, three times, and then three for the second
abbrev once : Board
once =
    let board : Board = issued (issued (begin parameters root 0) (child first)) (child second) in
    (poll (poll (poll (poll board (votes first 2)).0 (votes first 2)).0 (votes first 2)).0 (votes second 3)).0

-- the counter at bit 7 prefers the first child, and its flake is the second's bit
once-counter : counter_on once root (replicate 7 false)
    ≡ Some (Undecided (record { preference = false; flake = true; strength_zero = 3; strength_one = 1; confidence = 1 }))
unfolding bits with_child all_polled chosen decided_path counted winner decisions_for promoted settled poll
once-counter = refl

-- three more votes for the second child accept it
twice : (poll once (votes second 3)).1 ≡ record { accepted = true; id = second } ∷ record { accepted = false; id = first } ∷ []
unfolding bits with_child all_polled chosen decided_path counted winner decisions_for promoted settled poll
twice = refl
