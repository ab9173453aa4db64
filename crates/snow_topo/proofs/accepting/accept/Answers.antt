use Rattle.std.proofs.Common.{◌≡◌, ◌++◌, IfSome, length, sym, ap, subst, ◌∙◌, arith}
use Rattle.snow_tree.specs.Kept.Held.{Held, entry_in, promoted}
use Rattle.snow_topo.specs.Clauses.Told.{told}
use Rattle.snow_topo.proofs.Climbs.{some_of}
use Rattle.snow_topo.proofs.Promoted.{child_entry, fewer_left}
use Rattle.snow_topo.proofs.accepting.accept.Goals as goal

pub tell-requires : goal.tell-requires
tell-requires g c =
    let held = c.args.tree.now in
    let found = child_entry held c.args.child.now c.requires.child in
    let tree = some_of (entry_in held.pending c.args.child.now) _ found.0 found.1 c.promote.ensures.tree in
    omega (arith, c.requires.room, fewer_left held c.args.child.now found.0 found.1, ap length (c.rejected.ensures ∙ ap (λ (t : Held _). t.rejected) tree))

pub returns-clause-told : goal.returns-clause-told
returns-clause-told g c =
    let held = c.args.tree.now in
    let found = child_entry held c.args.child.now c.requires.child in
    let tree = some_of (entry_in held.pending c.args.child.now) _ found.0 found.1 c.promote.ensures.tree in
    subst (λ o. IfSome o (λ e. c.tell.new.decisions.items ≡ c.args.decisions.now.items ++ told c.args.child.now (promoted held e.block).rejected)) (sym found.1)
    (c.tell.ensures.told ∙ ap (λ l. c.args.decisions.now.items ++ told c.args.child.now l) (c.rejected.ensures ∙ ap (λ (t : Held _). t.rejected) tree))
