-- Worked examples: the definitions compute.
use Rattle.std.proofs.Common.{◌≡◌, ℕ, true, false, List, [], ◌∷◌, ◌++◌, replicate, Some, None, refl}
use Rattle.snow_ledger.specs.declared.state.Transfer.{Transfer}
use Rattle.snow_ledger.specs.Model.Blocks.{transfer_at, is_whole, header_of}
use Rattle.snow_ledger.specs.Model.Ledger.{moved, is_state, is_good, balance, sequence, after, takes, next}

-- a small number in 8 bytes
abbrev number : ℕ → List ℕ
number low = replicate 7 0 ++ low ∷ []

-- a transfer, and its bytes
abbrev move : ℕ → ℕ → ℕ → ℕ → Transfer
move from to amount sequence = record { from = from; to = to; amount = amount; sequence = sequence }

abbrev spelled : Transfer → List ℕ
spelled t = 0 ∷ t.from ∷ 0 ∷ t.to ∷ number t.amount ++ number t.sequence

-- the front of a block at height 1 with so many transfers
abbrev front : ℕ → List ℕ
front count = replicate 32 7 ++ number 1 ++ 0 ∷ count ∷ []

abbrev first : List ℕ
first = 10 ∷ 0 ∷ 0 ∷ 0 ∷ []

-- ---- transfers

pub seven_are_sent : moved first (move 0 1 7 0 ∷ []) ≡ Some (3 ∷ 1 ∷ 7 ∷ 0 ∷ [])
unfolding is_state is_good balance sequence after
seven_are_sent = refl

pub more_than_is_left : moved (3 ∷ 1 ∷ 7 ∷ 0 ∷ []) (move 0 1 4 1 ∷ []) ≡ None
unfolding is_state is_good balance sequence after
more_than_is_left = refl

pub sent_back_and_on : moved (3 ∷ 1 ∷ 7 ∷ 0 ∷ []) (move 1 0 7 0 ∷ move 0 1 10 1 ∷ []) ≡ Some (0 ∷ 2 ∷ 10 ∷ 1 ∷ [])
unfolding is_state is_good balance sequence after
sent_back_and_on = refl

pub a_sequence_again : moved (3 ∷ 1 ∷ 7 ∷ 0 ∷ []) (move 0 1 1 0 ∷ []) ≡ None
unfolding is_state is_good balance sequence after
a_sequence_again = refl

pub to_oneself : moved first (move 0 0 1 0 ∷ []) ≡ None
unfolding is_state is_good balance sequence after
to_oneself = refl

pub nothing_is_no_amount : moved first (move 0 1 0 0 ∷ []) ≡ None
unfolding is_state is_good balance sequence after
nothing_is_no_amount = refl

pub no_such_account : moved first (move 0 2 1 0 ∷ []) ≡ None
unfolding is_state is_good balance sequence after
no_such_account = refl

pub no_transfers : moved first [] ≡ Some first
unfolding is_state is_good balance sequence after
no_transfers = refl

pub the_last_sequence : moved (1 ∷ 18446744073709551615 ∷ 0 ∷ 0 ∷ []) (move 0 1 1 18446744073709551615 ∷ []) ≡ None
unfolding is_state is_good balance sequence after
the_last_sequence = refl

-- ---- states

pub two_accounts : takes first ≡ true
unfolding is_state
two_accounts = refl

pub no_account : takes [] ≡ false
unfolding is_state
no_account = refl

pub half_an_account : takes (1 ∷ []) ≡ false
unfolding is_state
half_an_account = refl

pub too_much_together : takes (18446744073709551615 ∷ 0 ∷ 1 ∷ 0 ∷ []) ≡ false
unfolding is_state
too_much_together = refl

pub as_much_as_may_be : takes (18446744073709551614 ∷ 0 ∷ 1 ∷ 0 ∷ []) ≡ true
unfolding is_state
as_much_as_may_be = refl

-- ---- blocks

pub the_second_of_two : transfer_at (front 2 ++ spelled (move 1 0 7 0) ++ spelled (move 0 1 10 1)) 1 ≡ move 0 1 10 1
the_second_of_two = refl

pub two_are_whole : is_whole (front 2 ++ spelled (move 1 0 7 0) ++ spelled (move 0 1 10 1)) ≡ true
two_are_whole = refl

pub a_byte_too_many : next first (front 1 ++ spelled (move 0 1 7 0) ++ 0 ∷ []) ≡ None
unfolding header_of
a_byte_too_many = refl

pub a_byte_too_few : next first (front 1 ++ replicate 19 0) ≡ None
unfolding header_of
a_byte_too_few = refl

pub a_block_of_no_transfers : next first (front 0) ≡ Some first
unfolding header_of is_state is_good balance sequence after
a_block_of_no_transfers = refl

pub a_block_of_one : next first (front 1 ++ spelled (move 0 1 7 0)) ≡ Some (3 ∷ 1 ∷ 7 ∷ 0 ∷ [])
unfolding header_of is_state is_good balance sequence after
a_block_of_one = refl
