-- The next candidate is elected, or it isn't.
use Rattle.std.proofs.Common.{◌≡◌, ◌+◌, drop, bytes_eq, sym, ap, subst, ◌∙◌}
use Rattle.std.specs.List.{IsDistinct}
use Rattle.snow_boot.proofs.Elected.{ids_of, elected_on, passed_over}
use Rattle.snow_boot.proofs.candidates.Candidates.elect.Goals as goal
use Rattle.snow_boot.proofs.candidates.Candidates.elect.Goals.{then-is_target+in_ok-insert, else-is_target}

pub loop-candidate-preserved : goal.loop-candidate-preserved
loop-candidate-preserved c =
    let cs = c.deref-candidate-items.result.now in
    let i = c.loop-candidate.candidate-index in
    let x = c.candidate-item.result in
    let once = subst (IsDistinct bytes_eq) (sym (ap ids_of c.deref-candidate-items.ensures.value ∙ c.self.invariant.same)) c.self.invariant.unique in
    elim c.if-is_target.branch [
      | then-is_target+in_ok-insert w ↦
          rw w.elected-is
          (elected_on c.args.total cs i c.loop-candidate.elected w.insert.new.self x once c.loop-candidate-test.true c.candidate-item.is (sym c.is_target.ensures ∙ w.if-is_target.true) w.in_ok-insert.ensures.ids c.loop-candidate.invariant)
      | else-is_target w ↦
          rw w.elected-is (passed_over c.args.total cs i c.loop-candidate.elected x c.loop-candidate-test.true c.candidate-item.is (sym c.is_target.ensures ∙ w.if-is_target.false) c.loop-candidate.invariant)
    ]
