-- Worked examples, computed on the definitions.
use Rattle.std.proofs.Common.{◌≡◌, ℕ, Bool, true, false, List, [], ◌∷◌, ◌++◌, replicate, is_some, refl}
use Rattle.snow_base.specs.Model.Identifier.{bits}
use Rattle.snow_flake.specs.Model.Parameters.{Parameters}
use Rattle.snow_flake.specs.Model.Rule.{by_preference}
use Rattle.snow_board.specs.Model.Conflict.{Counters, Blank, with_child, all_polled, votes_on, chosen, decided_path}
use Rattle.snow_board.specs.Laws.FailingLaw.{failed}
use Rattle.snow_trie.specs.Kept.Outline.{size}
use Rattle.snow_trie.specs.Kept.Stamped.{counters}
use Rattle.snow_trie.specs.Kept.Growing.{branch, grown}

-- an identifier by its first byte, and one by its last
abbrev named : ℕ → List ℕ
named first = first ∷ replicate 31 0

abbrev ending : ℕ → List ℕ
ending last = replicate 31 0 ++ last ∷ []

abbrev parameters : ℕ → Parameters
parameters beta = record { k = 1; alpha_preference = 1; alpha_confidence = 1; beta = beta; repolls = 1 }

abbrev voted : ℕ → List ℕ → Counters → Counters
voted beta id = all_polled (parameters beta) (votes_on (record { id = id; count = 1 } ∷ []))

abbrev is_final : Counters → Bool
is_final counters = is_some (decided_path counters)

-- ---- how many nodes

one_node : size (branch (named 0) 0) ≡ 1
one_node = refl

-- identifiers that differ at bit 7 fill the bound for two
four_nodes : size (grown 0 (named 0x80) (branch (named 0) 0)) ≡ 4
four_nodes = refl

-- those that differ at bit 0 make three nodes, and a third at bit 1 two more
three_nodes : size (grown 0 (named 0x01) (branch (named 0) 0)) ≡ 3
three_nodes = refl

five_nodes : size (grown 0 (named 0x03) (grown 0 (named 0x01) (branch (named 0) 0))) ≡ 5
five_nodes = refl

-- those that differ in the last bit alone make two
two_nodes : size (grown 0 (ending 0x80) (branch (ending 0) 0)) ≡ 2
two_nodes = refl

-- ---- two choices, with a failed poll between: the confidence begins again

abbrev once : Counters
once = with_child (bits (named 0x80)) (failed (parameters 2) (voted 2 (named 0) (with_child (bits (named 0)) Blank)))

not_final_once : is_final (voted 2 (named 0) once) ≡ false
unfolding bits with_child all_polled decided_path
not_final_once = refl

final_twice : is_final (voted 2 (named 0) (voted 2 (named 0) once)) ≡ true
unfolding bits with_child all_polled decided_path
final_twice = refl

first_preferred : chosen by_preference (voted 2 (named 0) (voted 2 (named 0) once)) ≡ bits (named 0)
unfolding bits with_child all_polled chosen
first_preferred = refl

-- ---- a choice is added to what is final

final_at_once : is_final (voted 1 (named 0) (with_child (bits (named 0)) Blank)) ≡ true
unfolding bits with_child all_polled decided_path
final_at_once = refl

still_final : is_final (with_child (bits (named 0x80)) (voted 1 (named 0) (with_child (bits (named 0)) Blank))) ≡ true
unfolding bits with_child all_polled decided_path
still_final = refl

-- ---- a tree stands for the counters

stands_for : counters 0 0 (grown 0 (named 0x80) (branch (named 0) 0)) ≡ with_child (bits (named 0x80)) (with_child (bits (named 0)) Blank)
unfolding bits with_child
stands_for = refl
