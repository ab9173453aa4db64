-- What a tree is once a load that it lent is given back.
use Rattle.std.specs.Prelude.{ℕ, Option}
use Rattle.std.specs.Borrow.{Fml, RattleType, MutBor, LendsIf}
use Rattle.snow_tree.specs.Kept.Held.{Held, with_load}
use Rattle.snow_tree.specs.contracts.tree.Tree.{the_row}

-- the load at a place is what was written last through r; where there is no such place all stays
abbrev pub lends_load : (T : RattleType) → MutBor (Held T.Denot) → ℕ → Option (MutBor T.Denot) → Fml
lends_load T tree place r = LendsIf (the_row T) T tree r (with_load tree.now place) tree.now
