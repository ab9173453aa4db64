use Rattle.std.proofs.Common.{reverse, sym, subst}
use Rattle.snow_board.specs.Kept.Grown.{IsGrown}
use Rattle.snow_tree.proofs.Left.{same_blocks}
use Rattle.snow_tree.proofs.tree.Tree.last.Goals as goal

pub returns-clause-grown : goal.returns-clause-grown
returns-clause-grown g c =
    rw (← c.self.view_is) (subst (λ l. IsGrown c.self.inside.last (reverse l)) (sym (same_blocks c.self.inside.nodes.entries)) c.self.invariant.grown)
