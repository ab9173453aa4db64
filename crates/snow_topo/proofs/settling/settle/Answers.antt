use Rattle.std.proofs.Common.{◌≡◌, ℕ, ◌<◌, Bool, List, None, true, false, refl, subst, ◌∙◌, arith}
use Rattle.snow_flake.specs.Model.Parameters.{Parameters, AreGood}
use Rattle.snow_board.specs.declared.board.Decision.{Decision}
use Rattle.snow_board.specs.Model.Board.{Board}
use Rattle.snow_board.proofs.Settled.{IsSettling, to_do, settling_none, settling_more, settling_less}
use Rattle.snow_tree.specs.Kept.Held.{Held}
use Rattle.snow_topo.specs.Kept.Children.{Kept, counters_in}
use Rattle.snow_topo.specs.Kept.Leading.{HasDecided}
use Rattle.snow_topo.specs.Kept.View.{view}
use Rattle.snow_topo.proofs.Promoted.{accepted_none}
use Rattle.snow_topo.proofs.Won.{none_wins}
use Rattle.snow_topo.proofs.settling.settle.Given as given
use Rattle.snow_topo.proofs.settling.settle.Goals as goal
use Rattle.snow_topo.proofs.settling.settle.Goals.{After-accept_next}

-- where nothing is decided nothing is to come
asked : (p : Parameters) (polls : ℕ) (root : Kept) (held : Held Kept) (first : Board) (start told : List Decision) (more : Bool) → AreGood p
    → (more ≡ false → HasDecided (counters_in root.conflict) None) → IsSettling first start true (view p polls root held) told → IsSettling first start more (view p polls root held) told
asked p polls root held first start told false good decided before =
    let board = view p polls root held in
    settling_more first board board start told told false before (accepted_none p polls root held told (none_wins p polls root held good (decided refl)))
asked p polls root held first start told true good decided before = before

-- whether there may be more or not, there is less to do
asked_less : (more : Bool) (board : Board) (n : ℕ) → to_do true board < n → to_do more board < n
asked_less false board n h = omega (arith, h)
asked_less true board n h = h

pub loop-more-init : goal.loop-more-init
loop-more-init g c = record {
  settling =
      let board = view c.args.params.now c.args.polls c.args.root.now c.args.tree.now in
      asked c.args.params.now c.args.polls c.args.root.now c.args.tree.now board c.args.decisions.now.items c.args.decisions.now.items c.is_decided-more.result c.k-k.ensures.good
      c.is_decided-more.ensures (settling_none board c.args.decisions.now.items);
  fit = c.requires.fit;
  room = refl;
  fewer = omega arith;
}

-- what is to come after a block was accepted, or none was
taken : (g : given.Over) (c : After-accept_next g) (accepted : Bool) → c.accept_next.result ≡ accepted
    → IsSettling (view c.args.params.now c.args.polls c.args.root.now c.args.tree.now) c.args.decisions.now.items accepted
    (view c.args.params.now c.args.polls c.accept_next.new.root c.accept_next.new.tree) c.accept_next.new.decisions.items
taken g c accepted is =
    let p = c.args.params.now in
    let first = view p c.args.polls c.args.root.now c.args.tree.now in
    let new = view p c.args.polls c.accept_next.new.root c.accept_next.new.tree in
    let before = rw c.loop-more-test.true at c.loop-more.invariant.settling in
    subst (λ more. IsSettling first c.args.decisions.now.items more new c.accept_next.new.decisions.items) is
    (settling_more first (view p c.args.polls c.loop-more.root c.loop-more.tree) new c.args.decisions.now.items c.loop-more.decisions.items c.accept_next.new.decisions.items
    c.accept_next.result before c.accept_next.ensures.accepts)

-- and there is less to do
less : (g : given.Over) (c : After-accept_next g) (accepted : Bool) → c.accept_next.result ≡ accepted
    → to_do accepted (view c.args.params.now c.args.polls c.accept_next.new.root c.accept_next.new.tree) < to_do true (view c.args.params.now c.args.polls c.loop-more.root c.loop-more.tree)
less g c accepted is =
    let p = c.args.params.now in
    let old = view p c.args.polls c.loop-more.root c.loop-more.tree in
    let new = view p c.args.polls c.accept_next.new.root c.accept_next.new.tree in
    subst (λ more. to_do more new < to_do true old) is
    (settling_less old new c.loop-more.decisions.items c.accept_next.new.decisions.items c.accept_next.result c.accept_next.ensures.accepts)

pub loop-more-smaller : goal.loop-more-smaller
loop-more-smaller g c = rw c.loop-more-test.true (less g (goal.at.loop-more-smaller g c).After-accept_next c.accept_next.result refl)

pub loop-more-smaller-then-accept_next : goal.loop-more-smaller-then-accept_next
loop-more-smaller-then-accept_next g c =
    let p = c.args.params.now in
    rw c.loop-more-test.true
    (asked_less c.is_decided-more-then-accept_next.result (view p c.args.polls c.accept_next.new.root c.accept_next.new.tree) (to_do true (view p c.args.polls c.loop-more.root c.loop-more.tree))
    (less g (goal.at.loop-more-smaller-then-accept_next g c).After-accept_next true c.if-accept_next.true))

pub loop-more-preserved : goal.loop-more-preserved
loop-more-preserved g c = record {
  settling = taken g (goal.at.loop-more-preserved g c).After-accept_next c.accept_next.result refl;
  fit = c.accept_next.ensures.fit;
  room = c.accept_next.ensures.room ∙ c.loop-more.invariant.room;
  fewer = omega (arith, c.accept_next.ensures.fewer, c.loop-more.invariant.fewer);
}

pub loop-more-preserved-then-accept_next : goal.loop-more-preserved-then-accept_next
loop-more-preserved-then-accept_next g c = record {
  settling =
      asked c.args.params.now c.args.polls c.accept_next.new.root c.accept_next.new.tree (view c.args.params.now c.args.polls c.args.root.now c.args.tree.now) c.args.decisions.now.items
      c.accept_next.new.decisions.items c.is_decided-more-then-accept_next.result c.k-k.ensures.good c.is_decided-more-then-accept_next.ensures
      (taken g (goal.at.loop-more-preserved-then-accept_next g c).After-accept_next true c.if-accept_next.true);
  fit = c.accept_next.ensures.fit;
  room = c.accept_next.ensures.room ∙ c.loop-more.invariant.room;
  fewer = omega (arith, c.accept_next.ensures.fewer, c.loop-more.invariant.fewer);
}
