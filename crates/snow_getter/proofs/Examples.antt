-- Worked examples: the definitions compute.
use Rattle.std.proofs.Common.{◌≡◌, ℕ, true, false, List, [], ◌∷◌, ◌++◌, length, Some, None, replicate, refl}
use Rattle.snow_wire.specs.declared.event.Event.TheVariants as event
use Rattle.snow_lines.specs.declared.line.Line.TheVariants as line
use Rattle.snow_getter.specs.declared.served.Served.{Served}
use Rattle.snow_getter.specs.Model.Serving.{Serving, serving_from, held, is_accepted, last_accepted, after_issued, after_accepted, after_rejected}
use Rattle.snow_getter.specs.Model.Chain.{chain, chain_within}
use Rattle.snow_getter.specs.Model.Answer.{answer}

-- an identifier by its first byte
abbrev id_of : ℕ → List ℕ
id_of first = first ∷ replicate 31 0

-- a block on another, so high, whose bytes say that it is valid
abbrev block : ℕ → ℕ → ℕ → Served
block id parent height =
    record { id = id_of id; parent = id_of parent; bytes = id_of id ++ id_of parent ++ replicate 7 0 ++ height ∷ 1 ∷ [] }

-- a node that asks
abbrev peer : List ℕ
peer = replicate 20 2

-- ---- peers ask

-- block 1 was issued on block 255, above which the node began to run
abbrev one_pending : Serving
one_pending = after_issued (serving_from (id_of 255)) (block 1 255 1)

abbrev one_accepted : Serving
one_accepted = after_accepted one_pending (id_of 1)

pub pending_blocks_are_preferred_and_not_accepted : answer one_pending (id_of 1) (event.AskQuery peer 7) ≡ line.ToChits peer 7 (id_of 1) (id_of 255) ∷ []
pending_blocks_are_preferred_and_not_accepted = refl

pub an_accepted_block_is_the_last : answer one_accepted (id_of 1) (event.AskFrontier peer 8) ≡ line.ToFrontier peer 8 (id_of 1) ∷ []
an_accepted_block_is_the_last = refl

pub accepted_blocks_are_told_in_the_order_named :
    answer one_accepted (id_of 1) (event.AskAccepted peer 9 (id_of 255 ∷ id_of 2 ∷ id_of 1 ∷ id_of 255 ∷ [])) ≡ line.ToAccepted peer 9 (id_of 255 ∷ id_of 1 ∷ []) ∷ []
accepted_blocks_are_told_in_the_order_named = refl

pub a_block_is_given_by_its_bytes :
    (answer one_accepted (id_of 1) (event.AskBlock peer 10 (id_of 1)) ≡ line.ToBlock peer 10 (id_of 1 ++ id_of 255 ++ replicate 7 0 ++ 1 ∷ 1 ∷ []) ∷ [])
    × (length (id_of 1 ++ id_of 255 ++ replicate 7 0 ++ 1 ∷ 1 ∷ []) ≡ 73)
a_block_is_given_by_its_bytes = (refl, refl)

pub what_is_not_served_has_no_answer :
    (answer one_accepted (id_of 1) (event.AskAncestors peer 11 (id_of 5)) ≡ []) × (answer one_accepted (id_of 1) (event.AskBlock peer 11 (id_of 255)) ≡ [])
unfolding chain_within
what_is_not_served_has_no_answer = (refl, refl)

-- ---- peers ask for ancestors

abbrev two_pending : Serving
two_pending = after_issued one_accepted (block 2 1 2)

pub a_block_comes_with_its_ancestors :
    answer two_pending (id_of 2) (event.AskAncestors peer 12 (id_of 2)) ≡ line.ToAncestors peer 12 ((block 2 1 2).bytes ∷ (block 1 255 1).bytes ∷ []) ∷ []
unfolding chain_within
a_block_comes_with_its_ancestors = refl

-- at most so many blocks, and at most so many bytes: each block has 73
pub a_chain_ends_at_its_limits :
    (chain_within 1 524288 two_pending (id_of 2) ≡ block 2 1 2 ∷ []) × (chain_within 64 146 two_pending (id_of 2) ≡ block 2 1 2 ∷ block 1 255 1 ∷ [])
    × (chain_within 64 145 two_pending (id_of 2) ≡ block 2 1 2 ∷ []) × (chain_within 64 72 two_pending (id_of 2) ≡ [])
unfolding chain_within
a_chain_ends_at_its_limits = (refl, refl, refl, refl)

-- ---- what is served

pub a_rejected_block_is_served_no_more :
    (held two_pending (id_of 2) ≡ Some (block 2 1 2)) × (held (after_rejected two_pending (id_of 2)) (id_of 2) ≡ None)
    × (is_accepted (after_rejected two_pending (id_of 2)) (id_of 2) ≡ false)
a_rejected_block_is_served_no_more = (refl, refl, refl)

-- block 1 was accepted, and is issued again on block 2
abbrev issued_again : Serving
issued_again = after_issued two_pending (block 1 2 3)

pub the_pending_block_comes_before_the_accepted_one :
    (held issued_again (id_of 1) ≡ Some (block 1 2 3)) × (is_accepted issued_again (id_of 1) ≡ true)
    × (held (after_rejected issued_again (id_of 1)) (id_of 1) ≡ Some (block 1 255 1))
    × (held (after_accepted issued_again (id_of 1)) (id_of 1) ≡ Some (block 1 2 3))
the_pending_block_comes_before_the_accepted_one = (refl, refl, refl, refl)

-- a circle of blocks is given as often as there is room
pub a_circle_ends_at_64_blocks : length (chain issued_again (id_of 1)) ≡ 64
unfolding chain_within
a_circle_ends_at_64_blocks = refl

-- 4,096 accepted blocks, of which the oldest is another block
abbrev full : Serving
full = record { first = id_of 255; pending = block 3 9 9 ∷ []; accepted = block 1 255 1 ∷ replicate 4095 (block 9 9 9) }

pub the_oldest_accepted_block_is_forgotten :
    (is_accepted full (id_of 1) ≡ true) × (is_accepted (after_accepted full (id_of 3)) (id_of 1) ≡ false)
    × (last_accepted (after_accepted full (id_of 3)) ≡ id_of 3)
the_oldest_accepted_block_is_forgotten = (refl, refl, refl)
