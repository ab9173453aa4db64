-- The next node has its number.
use Rattle.std.proofs.Common.{◌≡◌, ◌+◌, arith, ap, ◌∙◌, cond, bytes_eq}
use Rattle.snow_poll.specs.Kept.Awaited.{number_in}
use Rattle.snow_poll.proofs.Waiting.{numbers_more, number_put}
use Rattle.snow_poll.proofs.awaited.number_all.Goals as goal

pub loop-wait-preserved : goal.loop-wait-preserved
loop-wait-preserved c = (
  omega (arith, c.loop-wait.invariant.0),
  λ node.
      let old = number_in c.loop-wait.numbers node in
      let next : c.loop-wait.number + 1 ≡ c.loop-wait.wait-index + 1 = omega (arith, c.loop-wait.invariant.0) in
      numbers_more c.args.waits.now c.loop-wait.wait-index c.wait-item.result node old (number_in c.insert.new.self node) c.loop-wait-test.true c.wait-item.is
      (number_put c.loop-wait.numbers c.insert.new.self c.wait-item.result.node node (c.loop-wait.number + 1) (c.in_ok-insert.ensures.updates.0 node)
      ∙ ap (λ n. cond (bytes_eq c.wait-item.result.node node) n old) next)
      (c.loop-wait.invariant.1 node),
)
