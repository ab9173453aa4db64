-- One identifier more, and none is left.
use Rattle.std.proofs.Common.{◌||◌, sym, ap, ◌∙◌, arith}
use Rattle.std.proofs.lemmas.List.{drop_all}
use Rattle.snow_store.proofs.Cases.{or_false}
use Rattle.snow_store.specs.Model.Paths.{has_id}
use Rattle.snow_boot.proofs.Elected.{once_on}
use Rattle.snow_boot.proofs.candidates.each_once.Goals as goal

pub loop-id-preserved : goal.loop-id-preserved
loop-id-preserved c q =
    once_on c.loop-id.once c.insert.new.self c.args.ids.now c.loop-id.id-index c.id-item.result c.in_ok-insert.ensures.ids c.loop-id-test.true c.id-item.is c.loop-id.invariant q

pub returns : goal.returns
returns c q =
    let once = c.loop-id.once in
    let left = drop_all c.loop-id.id-index c.args.ids.now (omega (arith, c.loop-id-test.false)) in
    sym (or_false (has_id once q)) ∙ ap (λ l. has_id once q || has_id l q) (sym left) ∙ c.loop-id.invariant q
