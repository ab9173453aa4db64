-- Votes that agree on their first bits, and how the next bit splits them.
use Rattle.std.specs.Prelude.{◌≡◌, ℕ, ◌<◌, Bool, List, All}
use Rattle.std.specs.List.{AllPairs}
use Rattle.snow_base.specs.Model.Identifier.{bit}
use Rattle.snow_base.specs.declared.block.Vote.{Vote}

-- any two votes agree on the first n bits
abbrev pub AgreeBelow : ℕ → List Vote → Type 0
AgreeBelow n votes = AllPairs (λ v w. (k : ℕ) → k < n → bit v.id k ≡ bit w.id k) votes

-- all votes are for identifiers with this bit at place n
abbrev pub HaveBit : ℕ → Bool → List Vote → Type 0
HaveBit n side votes = All (λ v. bit v.id n ≡ side) votes
