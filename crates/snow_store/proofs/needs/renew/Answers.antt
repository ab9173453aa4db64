-- Where the block is kept, whoever missed it misses what its run misses, and its target what is missed below its highest block.
use Rattle.std.proofs.Common.{◌≡◌, refl, sym, subst, ◌∙◌}
use Rattle.snow_store.specs.declared.store.KeptBlock.{KeptBlock}
use Rattle.snow_store.specs.declared.needs.Due.{Due}
use Rattle.snow_store.specs.declared.stop.Verdict.{Verdict}
use Rattle.snow_store.specs.Model.Needing.{need_at, missing, names}
use Rattle.snow_store.specs.Model.Paths.{has_id, missed}
use Rattle.snow_store.specs.Kept.Renewing.{fetch_by, MayRenew, IsRenewed}
use Rattle.snow_store.specs.Clauses.Coming.{after_verdict}
use Rattle.snow_store.proofs.Cases.{clash, same_need}
use Rattle.snow_store.proofs.Needed.{with_found}
use Rattle.snow_store.proofs.Renewed.{Passes, some_passed, none_passed, passed_renewed, target_renewed, low_renewed, same_renewed, kept_owed, result_owed}
use Rattle.snow_store.proofs.Storing.{missed_is}
use Rattle.snow_store.proofs.needs.renew.Goals as goal
use Rattle.snow_store.proofs.needs.renew.Goals.{in-Some+in_ok-passed-in-Some, in-None}

pub returns-then-names : goal.returns-then-names
returns-then-names g c =
    let need = need_at c.args.store.now.store c.args.header.now.height in
    let passes : Passes c.args.needs.now c.args.header.now.id need c.args.due c.match-remove.passed c.match-remove.needs =
    elim c.match-remove.branch [
      | in-Some+in_ok-passed-in-Some w ↦
          some_passed c.args.needs.now c.remove.new.self w.join.new.needs c.match-remove.needs c.args.header.now.id need w.wanted_at.result w.in-Some.missing c.args.due w.in_ok-passed-in-Some.passed c.match-remove.passed
          w.in-Some.ensures.value w.in-Some.ensures.updates.0 w.wanted_at.ensures w.in_ok-passed-in-Some.ensures.counts w.in_ok-passed-in-Some.ensures.due w.needs-is w.passed-is
      | in-None w ↦ none_passed c.args.needs.now c.remove.new.self c.match-remove.needs c.args.header.now.id need c.args.due c.match-remove.passed w.in-None.ensures.value w.in-None.ensures.updates.0 w.needs-is w.passed-is
    ] in
    kept_owed c.args.verdict c.in-Keeps.is c.args.store.now.store c.args.targets.now c.args.found.now c.args.header.now c.args.before c.args.needs.now c.match-remove.needs c.args.due c.match-remove.passed
    (passed_renewed c.args.store.now.store c.args.targets.now c.args.found.now c.args.header.now c.args.before c.args.needs.now c.match-remove.needs c.args.due c.match-remove.passed passes
    (λ among other. clash (names c.args.before c.args.header.now.id) (sym c.names.ensures ∙ c.if-names.true) other))

pub returns-then-not-has : goal.returns-then-not-has
returns-then-not-has g c =
    let need = need_at c.args.store.now.store c.args.header.now.height in
    let passes : Passes c.args.needs.now c.args.header.now.id need c.args.due c.match-remove.passed c.match-remove.needs =
    elim c.match-remove.branch [
      | in-Some+in_ok-passed-in-Some w ↦
          some_passed c.args.needs.now c.remove.new.self w.join.new.needs c.match-remove.needs c.args.header.now.id need w.wanted_at.result w.in-Some.missing c.args.due w.in_ok-passed-in-Some.passed c.match-remove.passed
          w.in-Some.ensures.value w.in-Some.ensures.updates.0 w.wanted_at.ensures w.in_ok-passed-in-Some.ensures.counts w.in_ok-passed-in-Some.ensures.due w.needs-is w.passed-is
      | in-None w ↦ none_passed c.args.needs.now c.remove.new.self c.match-remove.needs c.args.header.now.id need c.args.due c.match-remove.passed w.in-None.ensures.value w.in-None.ensures.updates.0 w.needs-is w.passed-is
    ] in
    kept_owed c.args.verdict c.in-Keeps.is c.args.store.now.store c.args.targets.now c.args.found.now c.args.header.now c.args.before c.args.needs.now c.match-remove.needs c.args.due c.match-remove.passed
    (passed_renewed c.args.store.now.store c.args.targets.now c.args.found.now c.args.header.now c.args.before c.args.needs.now c.match-remove.needs c.args.due c.match-remove.passed passes
    (λ among other. clash (has_id c.args.targets.now c.args.header.now.id) among (sym c.has.ensures ∙ c.if-not-has.true)))

pub returns-then-eq : goal.returns-then-eq
returns-then-eq g c =
    let need = need_at c.args.store.now.store c.args.header.now.height in
    let passes : Passes c.args.needs.now c.args.header.now.id need c.args.due c.match-remove.passed c.match-remove.needs =
    elim c.match-remove.branch [
      | in-Some+in_ok-passed-in-Some w ↦
          some_passed c.args.needs.now c.remove.new.self w.join.new.needs c.match-remove.needs c.args.header.now.id need w.wanted_at.result w.in-Some.missing c.args.due w.in_ok-passed-in-Some.passed c.match-remove.passed
          w.in-Some.ensures.value w.in-Some.ensures.updates.0 w.wanted_at.ensures w.in_ok-passed-in-Some.ensures.counts w.in_ok-passed-in-Some.ensures.due w.needs-is w.passed-is
      | in-None w ↦ none_passed c.args.needs.now c.remove.new.self c.match-remove.needs c.args.header.now.id need c.args.due c.match-remove.passed w.in-None.ensures.value w.in-None.ensures.updates.0 w.needs-is w.passed-is
    ] in
    let now = fetch_by c.args.store.now.store c.args.targets.now c.args.found.now in
    let its : c.missed-now.result ≡ missed now c.args.header.now.id = c.missed-now.ensures c.args.found.now c.has-in-Keeps.ensures ∙ missed_is now c.args.header.now.id in
    kept_owed c.args.verdict c.in-Keeps.is c.args.store.now.store c.args.targets.now c.args.found.now c.args.header.now c.args.before c.args.needs.now c.match-remove.needs c.args.due c.match-remove.passed
    (passed_renewed c.args.store.now.store c.args.targets.now c.args.found.now c.args.header.now c.args.before c.args.needs.now c.match-remove.needs c.args.due c.match-remove.passed passes
    (λ among other. sym its ∙ same_need c.missed-now.result c.args.before (sym c.eq.ensures ∙ c.if-eq.true)))

pub returns-in_ok-leave-in-Keeps : goal.returns-in_ok-leave-in-Keeps
returns-in_ok-leave-in-Keeps g c =
    let need = need_at c.args.store.now.store c.args.header.now.height in
    let passes : Passes c.args.needs.now c.args.header.now.id need c.args.due c.match-remove.passed c.match-remove.needs =
    elim c.match-remove.branch [
      | in-Some+in_ok-passed-in-Some w ↦
          some_passed c.args.needs.now c.remove.new.self w.join.new.needs c.match-remove.needs c.args.header.now.id need w.wanted_at.result w.in-Some.missing c.args.due w.in_ok-passed-in-Some.passed c.match-remove.passed
          w.in-Some.ensures.value w.in-Some.ensures.updates.0 w.wanted_at.ensures w.in_ok-passed-in-Some.ensures.counts w.in_ok-passed-in-Some.ensures.due w.needs-is w.passed-is
      | in-None w ↦ none_passed c.args.needs.now c.remove.new.self c.match-remove.needs c.args.header.now.id need c.args.due c.match-remove.passed w.in-None.ensures.value w.in-None.ensures.updates.0 w.needs-is w.passed-is
    ] in
    let now = fetch_by c.args.store.now.store c.args.targets.now c.args.found.now in
    let its : c.missed-now.result ≡ missed now c.args.header.now.id = c.missed-now.ensures c.args.found.now c.has-in-Keeps.ensures ∙ missed_is now c.args.header.now.id in
    result_owed c.args.verdict c.in-Keeps.is c.join-in-Keeps.result c.args.store.now.store c.args.targets.now c.args.found.now c.args.header.now c.args.before c.args.needs.now c.join-in-Keeps.new.needs c.args.due
    (target_renewed c.join-in-Keeps.result c.args.store.now.store c.args.targets.now c.args.found.now c.args.header.now c.args.before c.missed-now.result c.args.needs.now c.match-remove.needs c.leave.new.needs c.join-in-Keeps.new.needs c.args.due c.match-remove.passed c.distinct.ensures (sym c.has.ensures ∙ c.if-not-has.false) its (sym c.names.ensures ∙ c.if-names.false) passes c.in_ok-leave-in-Keeps.ensures.counts c.in_ok-leave-in-Keeps.ensures.fewer c.join-in-Keeps.ensures.counts c.join-in-Keeps.ensures.due)

pub returns-in_ok-low-in-Low : goal.returns-in_ok-low-in-Low
returns-in_ok-low-in-Low g c s bytes is may =
    let b : KeptBlock = record { header = c.args.header.now; bytes = bytes } in
    let f = fetch_by s c.args.targets.now c.args.found.now in
    let low = subst (λ (v : Verdict). MayRenew f b.header v c.args.before c.args.needs.now) c.in-Low.is may in
    subst (λ (v : Verdict). (c.renew_low.new.found ≡ (after_verdict f b v).found) × IsRenewed f (after_verdict f b v) c.args.due c.in_ok-low-in-Low.low c.renew_low.new.needs) (sym c.in-Low.is) (
      c.in_ok-low-in-Low.ensures.found,
      subst (λ (d : Due). IsRenewed f (with_found f b) c.args.due d c.renew_low.new.needs) (sym c.in_ok-low-in-Low.ensures.due)
          (low_renewed f b c.args.needs.now c.renew_low.new.needs c.args.due c.args.before low (c.in_ok-low-in-Low.ensures.counts (missing f f.targets) low.has)),
    )

pub returns-in-Known : goal.returns-in-Known
returns-in-Known g c s bytes is may =
    let b : KeptBlock = record { header = c.args.header.now; bytes = bytes } in
    let f = fetch_by s c.args.targets.now c.args.found.now in
    subst (λ (v : Verdict). (c.args.found.now ≡ (after_verdict f b v).found) × IsRenewed f (after_verdict f b v) c.args.due c.args.due c.args.needs.now) (sym c.in-Known.is)
    (refl, same_renewed f c.args.needs.now c.args.due may.has)
