-- Worked examples, computed on the definitions.
use Rattle.std.proofs.Common.{◌≡◌, ℕ, true, false, List, [], ◌∷◌, replicate, refl, None, Some}
use Rattle.snow_base.specs.declared.block.Header.{Header}
use Rattle.snow_base.specs.declared.block.Vote.{Vote}
use Rattle.snow_base.specs.Model.Identifier.{bits}
use Rattle.snow_flake.specs.Model.Parameters.{Parameters}
use Rattle.snow_flake.specs.Model.Counter.{Undecided, Decided}
use Rattle.snow_flake.specs.Model.Rule.{by_preference, by_flake}
use Rattle.snow_board.specs.declared.board.Decision.{Decision}
use Rattle.snow_board.specs.Model.Conflict.{with_child, all_polled, chosen, decided_path}
use Rattle.snow_board.specs.Model.Board.{Board, begin, issued, counter_on}
use Rattle.snow_board.specs.Model.Poll.{counted, winner, decisions_for, promoted, settled, poll}
use Rattle.snow_board.specs.Model.Preference.{path_from, preferred}

-- an identifier by its first byte, with zeros behind
abbrev named : ℕ → List ℕ
named first = first ∷ replicate 31 0

abbrev root : List ℕ
root = named 255

abbrev parameters : ℕ → ℕ → ℕ → ℕ → Parameters
parameters k preference confidence beta =
    record { k = k; alpha_preference = preference; alpha_confidence = confidence; beta = beta; repolls = 1 }

abbrev block : List ℕ → List ℕ → ℕ → Header
block id parent height = record { id = id; parent = parent; height = height }

abbrev votes : List ℕ → ℕ → List Vote
votes id count = record { id = id; count = count } ∷ []

abbrev accepted : List ℕ → Decision
accepted id = record { accepted = true; id = id }

abbrev rejected : List ℕ → Decision
rejected id = record { accepted = false; id = id }

-- what a poll of a board decides, and what the board prefers then
abbrev after : Board × List Decision → List Decision × List ℕ
after (board, decisions) = (decisions, preferred by_preference board)

-- ---- two children, which differ at bit 7, and two polls for the second

abbrev two : Board
two = issued (issued (begin (parameters 1 1 1 2) root 0) (block (named 0) root 1)) (block (named 128) root 1)

two-first : preferred by_preference two ≡ named 0
unfolding bits with_child all_polled chosen decided_path counted winner decisions_for promoted settled poll path_from
two-first = refl

two-once : after (poll two (votes (named 128) 1)) ≡ ([], named 128)
unfolding bits with_child all_polled chosen decided_path counted winner decisions_for promoted settled poll path_from
two-once = refl

two-twice : after (poll (poll two (votes (named 128) 1)).0 (votes (named 128) 1)) ≡ (accepted (named 128) ∷ rejected (named 0) ∷ [], named 128)
unfolding bits with_child all_polled chosen decided_path counted winner decisions_for promoted settled poll path_from
two-twice = refl

-- ---- four children: the first poll decides bit 0 alone

abbrev three : Board
three = issued (issued (issued (begin (parameters 4 3 3 1) root 0) (block (named 0) root 1)) (block (named 1) root 1)) (block (named 3) root 1)

abbrev four : Board
four = issued (poll three (record { id = named 1; count = 2 } ∷ record { id = named 3; count = 2 } ∷ [])).0 (block (named 2) root 1)

four-decided : counter_on four root [] ≡ Some (Decided true)
unfolding bits with_child all_polled chosen decided_path counted winner decisions_for promoted settled poll path_from
four-decided = refl

-- the counter at the list 1 had two votes on each side
four-open : counter_on four root (true ∷ [])
    ≡ Some (Undecided (record { preference = false; flake = false; strength_zero = 0; strength_one = 0; confidence = 0 }))
unfolding bits with_child all_polled chosen decided_path counted winner decisions_for promoted settled poll path_from
four-open = refl

-- the counter behind the side that lost is gone
four-dead : counter_on four root (false ∷ []) ≡ None
unfolding bits with_child all_polled chosen decided_path counted winner decisions_for promoted settled poll path_from
four-dead = refl

four-first : after (four, []) ≡ ([], named 1)
unfolding bits with_child all_polled chosen decided_path counted winner decisions_for promoted settled poll path_from
four-first = refl

abbrev four_second : Board × List Decision
four_second = poll four (votes (named 2) 4)

four-second : after four_second ≡ ([], named 1)
unfolding bits with_child all_polled chosen decided_path counted winner decisions_for promoted settled poll path_from
four-second = refl

four-third : after (poll four_second.0 (votes (named 1) 4)) ≡ (accepted (named 1) ∷ rejected (named 0) ∷ rejected (named 3) ∷ rejected (named 2) ∷ [], named 1)
unfolding bits with_child all_polled chosen decided_path counted winner decisions_for promoted settled poll path_from
four-third = refl

-- ---- two blocks in a chain: a vote for the second accepts both

abbrev chain : Board
chain = issued (issued (begin (parameters 1 1 1 1) root 0) (block (named 1) root 1)) (block (named 2) (named 1) 2)

chain-first : preferred by_preference chain ≡ named 2
unfolding bits with_child all_polled chosen decided_path counted winner decisions_for promoted settled poll path_from
chain-first = refl

chain-polled : after (poll chain (votes (named 2) 1)) ≡ (accepted (named 1) ∷ accepted (named 2) ∷ [], named 2)
unfolding bits with_child all_polled chosen decided_path counted winner decisions_for promoted settled poll path_from
chain-polled = refl

-- ---- a branch that is rejected with its descendants

abbrev branch : Board
branch = issued (issued (issued (issued (begin (parameters 1 1 1 1) root 0) (block (named 1) root 1)) (block (named 2) root 1)) (block (named 3) (named 1) 2)) (block (named 4) (named 3) 3)

branch-first : preferred by_preference branch ≡ named 4
unfolding bits with_child all_polled chosen decided_path counted winner decisions_for promoted settled poll path_from
branch-first = refl

branch-polled : after (poll branch (votes (named 2) 1)) ≡ (accepted (named 2) ∷ rejected (named 1) ∷ rejected (named 3) ∷ rejected (named 4) ∷ [], named 2)
unfolding bits with_child all_polled chosen decided_path counted winner decisions_for promoted settled poll path_from
branch-polled = refl

-- ---- the two rules: votes for the first, the first and the second child

abbrev contested : Board
contested = (poll (poll (poll (issued (issued (begin (parameters 1 1 1 3) root 0) (block (named 0) root 1)) (block (named 128) root 1))
    (votes (named 0) 1)).0 (votes (named 0) 1)).0 (votes (named 128) 1)).0

contested-snowball : preferred by_preference contested ≡ named 0
unfolding bits with_child all_polled chosen decided_path counted winner decisions_for promoted settled poll path_from
contested-snowball = refl

contested-snowflake : preferred by_flake contested ≡ named 128
unfolding bits with_child all_polled chosen decided_path counted winner decisions_for promoted settled poll path_from
contested-snowflake = refl
