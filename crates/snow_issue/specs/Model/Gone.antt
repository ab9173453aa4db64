-- The gone list: blocks that were accepted, rejected or taken out, the latest last.
use Rattle.std.specs.Prelude.{ℕ, Bool, List, Option}
use Rattle.std.specs.Option.{option_and_then, is_some}
use Rattle.snow_base.specs.declared.limits.TheConstants.{MOST_GONE}
use Rattle.snow_recent.specs.Model.Recent as recent
use Rattle.snow_issue.specs.declared.gone.Gone.{Gone}

-- the latest entry of a block
abbrev pub latest : List Gone → List ℕ → Option Gone
latest gone id = recent.latest (λ e. e.id) gone id

-- whether a block is in the list
abbrev pub holds : List Gone → List ℕ → Bool
holds gone id = is_some (latest gone id)

-- the block that stands for one that is gone: the parent of its latest entry, if it has one
abbrev pub stands_for : List Gone → List ℕ → Option (List ℕ)
stands_for gone id = option_and_then (λ e. e.parent) (latest gone id)

-- the list with one more entry: the oldest one is forgotten where 8,192 are there
abbrev pub with_gone : List Gone → Gone → List Gone
with_gone gone e = recent.with_latest MOST_GONE gone e
