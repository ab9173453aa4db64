-- The index of waiting blocks: heights by identifier.
use Rattle.std.specs.Prelude.{◌≡◌, ℕ, List, find, Option, bytes_eq}
use Rattle.std.specs.Option.{option_map}
use Rattle.snow_issue.specs.declared.work.Waiting.{Waiting}
use Rattle.snow_gets.specs.Kept.Index.{AreNamedApart}

-- the height of the waiting block of an identifier
abbrev pub height_among : List Waiting → List ℕ → Option ℕ
height_among waiting id = option_map (λ w. w.header.height) (find (λ w. bytes_eq w.header.id id) waiting)

-- each waiting block's height is found by its identifier, and no block waits twice
pub record HasHeights (height : List ℕ → Option ℕ) (waiting : List Waiting) : Type 0 where
  pub known : (id : List ℕ) → height id ≡ height_among waiting id
  pub apart : AreNamedApart (λ w. w.header.id) waiting
