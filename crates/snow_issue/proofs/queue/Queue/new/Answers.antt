-- Nothing waits, and one block is gone.
use Rattle.std.proofs.Common.{None, ap, ◌∙◌, arith, length}
use Rattle.snow_issue.specs.declared.gone.Gone.{Gone}
use Rattle.snow_issue.specs.Model.Gone.{with_gone}
use Rattle.snow_issue.proofs.queue.Queue.new.Goals as goal

pub invariant_of-result : goal.invariant_of-result
invariant_of-result c =
    let entry : Gone = record { id = c.args.last; parent = None } in
    let one = c.enter.ensures ∙ ap (λ gone. with_gone gone entry) c.in_ok-gone.ensures in
    record {
      quiet = rw c.new-4.ensures (λ k d h. absurd (omega (arith, h)));
      few_waiting = omega (arith, ap length c.new-2.ensures);
      few_gets = omega (arith, ap length c.new-3.ensures);
      few_gone = omega (arith, ap length one);
    }
