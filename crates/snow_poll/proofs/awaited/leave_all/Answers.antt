-- The one that goes was the last of its class, which has the one before it again.
use Rattle.std.proofs.Common.{ℕ, set, subst, ◌∙◌, ◌∷◌, [], ◌++◌, sym, arith}
use Rattle.snow_poll.specs.Kept.Awaited.{AreWaits}
use Rattle.snow_poll.proofs.Waiting.{tells_class, waits_fewer, within_classes}
use Rattle.snow_poll.proofs.awaited.leave_all.Goals as goal

pub index_mut-requires : goal.index_mut-requires
index_mut-requires c =
    let mask = c.requires.chained.0 in
    let w = c.in-Some.wait in
    let all : AreWaits mask (c.pop.new.self.items ++ w ∷ []) c.loop-wait.lasts.items = subst (λ l. AreWaits mask l c.loop-wait.lasts.items) c.in-Some.ensures.items (c.loop-wait.invariant.0 mask c.requires.chained.1) in
    omega (arith, tells_class mask c.pop.new.self.items c.loop-wait.lasts.items w all, within_classes mask (c.pop.new.self.items ++ w ∷ []) c.loop-wait.lasts.items w.node all)

pub loop-wait-preserved : goal.loop-wait-preserved
loop-wait-preserved c = (kept, c.pop.ensures.capacity ∙ c.loop-wait.invariant.1)
  where
    kept : (mask : ℕ) → AreWaits mask c.args.waits.now.items c.args.lasts.now.items → AreWaits mask c.pop.new.self.items (set c.loop-wait.lasts.items c.in-Some.wait.class c.in-Some.wait.before)
    kept mask are =
        let w = c.in-Some.wait in
        let lasts = c.loop-wait.lasts.items in
        let all : AreWaits mask (c.pop.new.self.items ++ w ∷ []) lasts = subst (λ l. AreWaits mask l lasts) c.in-Some.ensures.items (c.loop-wait.invariant.0 mask are) in
        subst (λ k. AreWaits mask c.pop.new.self.items (set lasts k w.before)) (sym (tells_class mask c.pop.new.self.items lasts w all)) (waits_fewer mask c.pop.new.self.items lasts w all)
