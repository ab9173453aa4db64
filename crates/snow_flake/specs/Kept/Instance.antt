-- A one-bit instance as it is kept: a counter whose numbers stay once it is final.
use Rattle.std.specs.Prelude.{ℕ, Bool, true, false, nat_le, if◌then◌else◌}
use Rattle.snow_flake.specs.Model.Parameters.{Parameters}
use Rattle.snow_flake.specs.Model.Counter.{Counter, Decided, Undecided, Standing, class, voted}

pub record Instance : Type 0 where
  pub standing : Standing
  pub final : Bool

-- the counter that an instance is
abbrev pub counter_of : Instance → Counter
counter_of i = if i.final then Decided i.standing.flake else Undecided i.standing

abbrev pub judged : Parameters → Standing → Instance
judged p s = record { standing = s; final = nat_le p.beta s.confidence }

-- the bit step of an instance: a final one doesn't change at all
abbrev pub polled : Parameters → Instance → ℕ → ℕ → Instance
polled p i for_zero for_one = if i.final then i else judged p (voted i.standing (class p for_zero) (class p for_one))

-- a poll without votes
abbrev pub failed : Instance → Instance
failed i = if i.final then i else record i { standing = record (i.standing) { confidence = 0 } }

-- so many votes for the choice and none for the other bit
abbrev pub on_side : Bool → ℕ → Bool → ℕ
on_side false votes false = votes
on_side true votes true = votes
on_side _ _ _ = 0

-- an instance where all choices so far have one bit
pub record Single : Type 0 where
  pub strength : ℕ
  pub confidence : ℕ
  pub final : Bool

-- the same instance, where that bit is b
abbrev pub at_bit : Single → Bool → Instance
at_bit s b = record {
  standing = record {
    preference = b;
    flake = b;
    strength_zero = if b then 0 else s.strength;
    strength_one = if b then s.strength else 0;
    confidence = s.confidence;
  };
  final = s.final;
}
