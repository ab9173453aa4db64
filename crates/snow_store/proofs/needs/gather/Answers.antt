-- One target after another is looked at.
use Rattle.std.proofs.Common.{◌≡◌, ◌+◌, suc, ◌++◌, [], ◌∷◌, take, sym, ap, arith, ◌∙◌}
use Rattle.std.proofs.Math.Seq.{take-suc}
use Rattle.std.proofs.lemmas.List.{take_all}
use Rattle.snow_store.specs.Model.Needing.{missing, with_more}
use Rattle.snow_store.specs.Model.Paths.{missed}
use Rattle.snow_store.specs.Kept.Renewing.{fetch_by}
use Rattle.snow_store.proofs.Counting.{missing_last, counts_same, no_counts}
use Rattle.snow_store.proofs.Storing.{missed_is}
use Rattle.snow_store.proofs.needs.gather.Goals as goal

pub loop-target-init : goal.loop-target-init
loop-target-init g c = no_counts c.clear.new.self (fetch_by c.args.store.now.store c.args.targets.now c.args.found.now) c.clear.ensures.empty

pub loop-target-preserved : goal.loop-target-preserved
loop-target-preserved g c =
    let f = fetch_by c.args.store.now.store c.args.targets.now c.args.found.now in
    let items = c.as_slice-target-items.result.now in
    let i = c.loop-target.target-index in
    let t = c.target-item.result in
    let its : c.missed-missed.result ≡ missed f t = c.missed-missed.ensures c.args.found.now c.has.ensures ∙ missed_is f t in
    let more : take i items ++ t ∷ [] ≡ take (suc i) items = ap (λ x. take i items ++ x ∷ []) c.target-item.is ∙ sym (take-suc items i t c.loop-target-test.true) in
    let next : suc i ≡ i + 1 = omega arith in
    counts_same c.join.new.needs (with_more c.missed-missed.result 1 (missing f (take i items))) (missing f (take (i + 1) items))
    (c.in_ok-join.ensures.counts (missing f (take i items)) (omega arith) c.loop-target.invariant)
    (λ q. ap (λ o. with_more o 1 (missing f (take i items)) q) its ∙ missing_last f (take i items) t q ∙ ap (λ l. missing f l q) (more ∙ ap (λ n. take n items) next))

pub returns : goal.returns
returns g c =
    let f = fetch_by c.args.store.now.store c.args.targets.now c.args.found.now in
    let items = c.as_slice-target-items.result.now in
    counts_same c.loop-target.needs (missing f (take c.loop-target.target-index items)) (missing f f.targets) c.loop-target.invariant
    (λ q. ap (λ l. missing f l q) (take_all c.loop-target.target-index items (omega (arith, c.loop-target-test.false)) ∙ c.as_slice-target-items.ensures.list))
