-- What is kept of a block's children: the counters of their conflict, and the poll that these recorded last.
use Rattle.std.specs.Prelude.{◌≡◌, ℕ, ◌≤◌, List, [], ◌∷◌, ◌++◌, Option, Some, None, IfSome, ◌==◌, if◌then◌else◌}
use Rattle.snow_base.specs.Model.Identifier.{bits}
use Rattle.snow_flake.specs.Model.Parameters.{Parameters}
use Rattle.snow_board.specs.Model.Conflict.{Counters, Blank, with_child}
use Rattle.snow_board.specs.Laws.FailingLaw.{failed}
use Rattle.snow_trie.specs.Kept.Whole.{Compressed}

-- the children of a block that has some: their identifiers in order of issue, and their counters
pub record Conflict : Type 0 where
  pub parameters : Parameters
  pub ids : List (List ℕ)
  pub counters : Counters

-- those of a block, if it has children, and the number of the poll that was recorded last
pub record Kept : Type 0 where
  pub conflict : Option Conflict
  pub recorded : ℕ

-- what a tree of counters shows, but for how many nodes it has
abbrev pub conflict_of : Compressed → Conflict
conflict_of t = record { parameters = t.parameters; ids = t.ids; counters = t.counters }

-- a block without children
abbrev pub bare : Kept
bare = record { conflict = None; recorded = 0 }

-- with one child more
abbrev pub joined : Parameters → List ℕ → Option Conflict → Conflict
joined p id None = record { parameters = p; ids = id ∷ []; counters = with_child (bits id) Blank }
joined p id (Some c) = record c { ids = c.ids ++ id ∷ []; counters = with_child (bits id) c.counters }

abbrev pub gained : Parameters → List ℕ → Kept → Kept
gained p id kept = record kept { conflict = Some (joined p id kept.conflict) }

-- the counters that are kept
abbrev pub counters_in : Option Conflict → Counters
counters_in None = Blank
counters_in (Some c) = c.counters

-- the children
abbrev pub ids_in : Option Conflict → List (List ℕ)
ids_in None = []
ids_in (Some c) = c.ids

-- the counters of a block after so many polls: those that are kept, where the last poll was recorded; else they have failed since
abbrev pub shown : Parameters → ℕ → Kept → Counters
shown p polls kept = if kept.recorded == polls then counters_in kept.conflict else failed p (counters_in kept.conflict)

-- what is kept is of these parameters, these children, and no poll to come
pub record IsFit (p : Parameters) (polls : ℕ) (children : List (List ℕ)) (kept : Kept) : Type 0 where
  pub past : kept.recorded ≤ polls
  pub parameters : IfSome kept.conflict (λ c. c.parameters ≡ p)
  pub ids : ids_in kept.conflict ≡ children
