-- A set of heights as the list of those that it holds.
use Rattle.std.specs.Prelude.{ℕ, ◌<◌, List, ◌==◌, All}
use Rattle.std.specs.List.{list_any}
use Rattle.snow_interval.specs.Model.Heights.{Heights}

-- the height above which heights are held, and those that are, in the order in which they came
pub record Listed : Type 0 where
  pub floor : ℕ
  pub heights : List ℕ

-- the heights that are in a list
abbrev pub listed : List ℕ → Heights
listed heights h = list_any (λ x. x == h) heights

-- all of these are above a height
abbrev pub AreAbove : ℕ → List ℕ → Type 0
AreAbove floor heights = All (λ h. floor < h) heights
