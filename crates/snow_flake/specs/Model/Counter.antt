-- A counter on one bit, and the bit step that a poll makes of it.
use Rattle.std.specs.Prelude.{ℕ, ◌+◌, ◌-◌, ◌^◌, min, Bool, true, false, not, nat_lt, nat_le, if◌then◌else◌}
use Rattle.std.specs.Bool.{beq}
use Rattle.snow_flake.specs.Model.Parameters.{Parameters}

-- how many votes a number is: below the quorum for preference, from there, or from the quorum for confidence
pub data Class : Type 0 where
  Low : Class
  Middle : Class
  High : Class

abbrev pub class : Parameters → ℕ → Class
class p n = if nat_lt n p.alpha_preference then Low else (if nat_le p.alpha_confidence n then High else Middle)

-- what a counter holds while it is undecided
pub record Standing : Type 0 where
  pub preference : Bool
  pub flake : Bool
  pub strength_zero : ℕ
  pub strength_one : ℕ
  pub confidence : ℕ

-- a counter is decided with a bit, or undecided
pub data Counter : Type 0 where
  Decided : (bit : Bool) → Counter
  Undecided : (standing : Standing) → Counter

-- a counter starts with a bit as preference and flake, and with zeros
abbrev pub fresh : Bool → Counter
fresh bit = Undecided (record { preference = bit; flake = bit; strength_zero = 0; strength_one = 0; confidence = 0 })

abbrev pub strength : Standing → Bool → ℕ
strength s false = s.strength_zero
strength s true = s.strength_one

-- one more, up to the end of 64 bits
abbrev pub raised : ℕ → ℕ
raised n = min (n + 1) (2 ^ 64 - 1)

-- the confidence after votes for the flake, or for the other bit
abbrev pub next_confidence : Class → Bool → ℕ → ℕ
next_confidence High true n = n + 1
next_confidence High false n = 1
next_confidence _ _ n = 0

-- after votes of this class for the bit b
abbrev pub followed : Standing → Bool → Class → Standing
followed s b votes = record {
  preference = if nat_lt (strength s (not b)) (raised (strength s b)) then b else s.preference;
  flake = b;
  strength_zero = if b then s.strength_zero else raised s.strength_zero;
  strength_one = if b then raised s.strength_one else s.strength_one;
  confidence = next_confidence votes (beq s.flake b) s.confidence;
}

-- after votes of these classes for 0 and for 1
abbrev pub voted : Standing → Class → Class → Standing
voted s Low Low = record s { confidence = 0 }
voted s Low for_one = followed s true for_one
voted s for_zero _ = followed s false for_zero

-- decided with its flake once the confidence is there
abbrev pub concluded : Parameters → Standing → Counter
concluded p s = if nat_le p.beta s.confidence then Decided s.flake else Undecided s

-- the bit step: a poll gave this counter so many votes for 0 and for 1
abbrev pub stepped : Parameters → Counter → ℕ → ℕ → Counter
stepped p (Decided bit) for_zero for_one = Decided bit
stepped p (Undecided s) for_zero for_one = concluded p (voted s (class p for_zero) (class p for_one))

abbrev pub is_decided : Counter → Bool
is_decided (Decided bit) = true
is_decided (Undecided s) = false

-- whether identifiers with this bit are still possible
abbrev pub admits : Counter → Bool → Bool
admits (Decided bit) other = beq bit other
admits (Undecided s) other = true
