use Rattle.std.proofs.Common.{◌+◌, ap, ◌∙◌, arith}
use Rattle.snow_base.proofs.Gathered.{each_more, named_more, each_sorted}
use Rattle.snow_base.proofs.bag.Bag.of.Goals as goal

pub loop-id-preserved : goal.loop-id-preserved
loop-id-preserved c =
    let ids = c.deref-id-items.result.now in
    let i = c.loop-id.id-index in
    let id = c.id-item.result in
    record {
      named = named_more ids i id c.loop-id-test.true c.id-item.is c.loop-id.invariant.named c.named.ensures;
      votes = each_more ids i id c.loop-id.votes.list c.add.new.self.list c.loop-id-test.true c.id-item.is c.loop-id.invariant.votes c.in_ok-add.ensures.ok;
      total = c.in_ok-add.ensures.counted ∙ ap (λ n. n + 1) c.loop-id.invariant.total;
    }

pub returns-clause-votes : goal.returns-clause-votes
returns-clause-votes c =
    each_sorted c.args.ids.now c.in_ok-sorted.sorted.items c.sort_unstable_by.new.self.items c.deref-id-items.result.now c.loop-id.id-index c.loop-id.votes.list
    c.in_ok-sorted.ensures.items c.sort_unstable_by.ensures.permutation c.deref-id-items.ensures.value (omega (arith, c.loop-id-test.false))
    c.loop-id.invariant.named c.loop-id.invariant.votes
