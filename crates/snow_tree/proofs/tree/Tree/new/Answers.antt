use Rattle.std.proofs.Common.{refl, arith}
use Rattle.std.proofs.lemmas.List.Elements.{All-nil}
use Rattle.snow_board.specs.Kept.Grown.{Bare}
use Rattle.snow_tree.proofs.tree.Tree.new.Goals as goal

pub invariant_of-result : goal.invariant_of-result
invariant_of-result g c =
    rw (c.new.ensures, c.new-2.ensures)
    (record { grown = Bare; children = refl; below = All-nil _; room = omega arith })
