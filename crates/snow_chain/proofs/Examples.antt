-- Worked examples: the definitions compute.
use Rattle.std.proofs.Common.{◌≡◌, ℕ, true, false, List, [], ◌∷◌, ◌++◌, replicate, Some, None, refl}
use Rattle.snow_chain.specs.Model.Plain
use Rattle.snow_chain.specs.Model.Tally

-- an identifier by its first byte
abbrev id_of : ℕ → List ℕ
id_of first = first ∷ replicate 31 0

-- a small number in 8 bytes
abbrev number : ℕ → List ℕ
number low = replicate 7 0 ++ low ∷ []

-- the front of a block of the plain chain at height 3
abbrev front : List ℕ
front = id_of 2 ++ id_of 1 ++ number 3

-- ---- the plain chain

pub a_flag_of_1_is_valid : Plain.next [] (front ++ 1 ∷ []) ≡ Some []
unfolding Plain.header_of
a_flag_of_1_is_valid = refl

pub bytes_behind_are_free : Plain.header_of (front ++ 1 ∷ 255 ∷ 255 ∷ []) ≡ Some (record { id = id_of 2; parent = id_of 1; height = 3 })
unfolding Plain.header_of
bytes_behind_are_free = refl

pub a_flag_of_0_is_invalid : Plain.next [] (front ++ 0 ∷ []) ≡ None
unfolding Plain.header_of
a_flag_of_0_is_invalid = refl

pub an_invalid_block_has_a_header : Plain.header_of (front ++ 0 ∷ []) ≡ Some (record { id = id_of 2; parent = id_of 1; height = 3 })
unfolding Plain.header_of
an_invalid_block_has_a_header = refl

pub a_flag_of_2_is_none : Plain.header_of (front ++ 2 ∷ []) ≡ None
unfolding Plain.header_of
a_flag_of_2_is_none = refl

pub no_flag_is_none : Plain.header_of front ≡ None
unfolding Plain.header_of
no_flag_is_none = refl

-- ---- the tally chain

-- a block of the tally chain at height 3
abbrev adding : ℕ → List ℕ
adding amount = id_of 1 ++ number 3 ++ number amount

pub below_the_cap : Tally.next (0 ∷ 10 ∷ []) (adding 7) ≡ Some (7 ∷ 10 ∷ [])
unfolding Tally.header_of
below_the_cap = refl

pub above_the_cap : Tally.next (7 ∷ 10 ∷ []) (adding 4) ≡ None
unfolding Tally.header_of
above_the_cap = refl

pub at_the_cap : Tally.next (7 ∷ 10 ∷ []) (adding 3) ≡ Some (10 ∷ 10 ∷ [])
unfolding Tally.header_of
at_the_cap = refl

pub sums_do_not_wrap : Tally.next (18446744073709551615 ∷ 18446744073709551615 ∷ []) (adding 1) ≡ None
unfolding Tally.header_of
sums_do_not_wrap = refl

pub bytes_behind_add_nothing : Tally.next (0 ∷ 10 ∷ []) (adding 7 ++ 255 ∷ []) ≡ Some (7 ∷ 10 ∷ [])
unfolding Tally.header_of
bytes_behind_add_nothing = refl

pub short_of_a_byte : Tally.next (0 ∷ 10 ∷ []) (id_of 1 ++ number 3 ++ replicate 7 0) ≡ None
unfolding Tally.header_of
short_of_a_byte = refl

pub three_numbers_are_no_state : Tally.next (0 ∷ 10 ∷ 0 ∷ []) (adding 7) ≡ None
unfolding Tally.header_of
three_numbers_are_no_state = refl

pub begins_at_the_cap : Tally.takes (10 ∷ 10 ∷ []) ≡ true
begins_at_the_cap = refl

pub begins_not_above : Tally.takes (11 ∷ 10 ∷ []) ≡ false
begins_not_above = refl
