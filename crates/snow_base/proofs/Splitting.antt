-- Lemmas on votes that agree on their first bits: the next bit splits votes in bit order.
use Rattle.std.proofs.Common.{◌≡◌, ◌≢◌, ℕ, ◌+◌, ◌<◌, Bool, true, false, not, List, get_or, take, drop, refl, sym, ◌∙◌, arith, inl, inr, Less, below_more, length-take, length-drop, get_or-take, get_or-drop}
use Rattle.std.proofs.lemmas.Bool.{cases_lt, not-true, not-false}
use Rattle.std.specs.List.Sorted.{IsPartitionedBy, IsPartitionPoint}
use Rattle.std.specs.Ordering.{bool_cmp}
use Rattle.snow_base.specs.declared.block.Vote.{Vote}
use Rattle.snow_base.specs.Model.Identifier.{bit, bit_cmp}
use Rattle.snow_base.specs.Model.Votes.{IsInBitOrder}
use Rattle.snow_base.specs.Kept.Split.{AgreeBelow, HaveBit}
use Rattle.snow_base.proofs.Bits.{bit_cmp-first}

-- where two bits that differ are in order, the first is a 0 if the second is
zero_first : (x y : Bool) → (x ≢ y → bool_cmp x y ≡ Less) → not y ≡ true → not x ≡ true
zero_first true true f e = e
zero_first true false f e = let d : bool_cmp true false ≡ Less = f (λ s. cc) in cc
zero_first false y f e = refl

-- of two identifiers that agree below bit n, the first in bit order has a 0 there where the other has
pub zero_before : (a b : List ℕ) (n : ℕ) → n < 256 → ((k : ℕ) → k < n → bit a k ≡ bit b k) → bit_cmp a b ≡ Less → not (bit b n) ≡ true → not (bit a n) ≡ true
zero_before a b n h agree less = zero_first (bit a n) (bit b n) (λ other. sym (bit_cmp-first a b n h agree other) ∙ less)

-- votes in bit order that agree below bit n have those with a 0 there in front
pub partitioned : (n : ℕ) (votes : List Vote) → n < 256 → IsInBitOrder votes → AgreeBelow n votes → IsPartitionedBy (λ v. not (bit v.id n)) votes
partitioned n votes h order agree i j d p q e =
    elim (cases_lt i j) [
      | inl less ↦ zero_before (get_or votes i d).id (get_or votes j d).id n h (agree i j d less q) (order i j d less q) e
      | inr other ↦ let same : i ≡ j = omega arith in rw same e
    ]

-- the first votes, up to a place, have a 0 at bit n, and the others a 1
abbrev pub IsSplit : ℕ → List Vote → ℕ → Type 0
IsSplit n votes at = IsPartitionPoint (λ v. not (bit v.id n) ≡ true) (λ v. not (bit v.id n) ≡ false) votes at

-- so the first votes have a 0
pub zeros_in_front : (n : ℕ) (votes : List Vote) (at : ℕ) → IsSplit n votes at → HaveBit n false (take at votes)
zeros_in_front n votes at parts k d h =
    let small : k < at = omega (arith, length-take at votes) in
    rw get_or-take (not-true _ (parts.0 k d (omega arith) small))

-- and the others a 1
pub ones_behind : (n : ℕ) (votes : List Vote) (at : ℕ) → IsSplit n votes at → HaveBit n true (drop at votes)
ones_behind n votes at parts k d h = rw get_or-drop (not-false _ (parts.1 (at + k) d (omega arith) (omega (arith, length-drop at votes))))

-- any two of the first votes are two of all
pub agree_take : (n at : ℕ) (votes : List Vote) → AgreeBelow n votes → AgreeBelow n (take at votes)
agree_take n at votes agree i j d p q =
    let small : j < at = omega (arith, length-take at votes) in
    let first : i < at = omega arith in
    rw get_or-take (rw get_or-take (agree i j d p (omega (arith, length-take at votes))))

-- any two of the last votes are two of all
pub agree_drop : (n at : ℕ) (votes : List Vote) → AgreeBelow n votes → AgreeBelow n (drop at votes)
agree_drop n at votes agree i j d p q =
    rw get_or-drop (rw get_or-drop (agree (at + i) (at + j) d (omega arith) (omega (arith, length-drop at votes))))

-- votes that agree below bit n, and have one bit there, agree below bit n + 1
pub agree_more : (n : ℕ) (side : Bool) (votes : List Vote) → AgreeBelow n votes → HaveBit n side votes → AgreeBelow (n + 1) votes
agree_more n side votes agree have i j d p q = below_more _ _ (agree i j d p q) (have i d (omega arith) ∙ sym (have j d q))
