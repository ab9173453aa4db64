-- What a row is once what it lent is given back.
use Rattle.std.specs.Prelude.{ℕ, List, Option}
use Rattle.std.specs.Borrow.{Fml, RattleType, MutBor, LendsIf}
use Rattle.snow_tree.specs.Kept.Row.{Lined, with_children_at, with_load_at}
use Rattle.snow_tree.specs.contracts.children.Children.{the_row as the_children}
use Rattle.snow_tree.specs.contracts.row.Row.{the_row}

-- the load at a place is what was written last through r; where there is no such place all stays
abbrev pub lends_load_at : (T : RattleType) → MutBor (Lined T.Denot) → ℕ → Option (MutBor T.Denot) → Fml
lends_load_at T row place r = LendsIf (the_row T) T row r (with_load_at row.now place) row.now

-- and so the children
abbrev pub lends_children_at : (T : RattleType) → MutBor (Lined T.Denot) → ℕ → Option (MutBor (List (List ℕ))) → Fml
lends_children_at T row place r = LendsIf (the_row T) the_children row r (with_children_at row.now place) row.now
