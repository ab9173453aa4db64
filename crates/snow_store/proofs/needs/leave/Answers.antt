-- One of several is left, or none.
use Rattle.std.proofs.Common.{◌≡◌, ◌≤◌, sym, ap, ◌∙◌, arith}
use Rattle.std.specs.Option.{unwrap_or}
use Rattle.snow_store.specs.Model.Needing.{counted, with_less}
use Rattle.snow_store.proofs.Counting.{lessened, lessened_all, has_lessened, there_is}
use Rattle.snow_store.proofs.needs.leave.Goals as goal

pub returns-in_ok-insert-clause-counts : goal.returns-in_ok-insert-clause-counts
returns-in_ok-insert-clause-counts c count counts q =
    let before = c.unwrap_or-before.result in
    let is : before ≡ count c.in-Some.id =
    c.unwrap_or-before.ensures ∙ ap (λ o. unwrap_or o 0) (c.copied.ensures ∙ c.get.ensures.value) ∙ there_is c.args.needs.now count c.in-Some.id counts in
    lessened c.args.needs.now c.insert.new.self c.in-Some.id before count c.in_ok-insert.ensures.updates.0 is c.if-before-gt1.true counts q
    ∙ ap (λ o. counted (with_less o count q)) (sym c.in-Some.is)

pub returns-in_ok-insert-clause-fewer : goal.returns-in_ok-insert-clause-fewer
returns-in_ok-insert-clause-fewer c q there =
    has_lessened c.args.needs.now c.insert.new.self c.in-Some.id c.unwrap_or-before.result c.in_ok-insert.ensures.updates.0
    (c.unwrap_or-before.ensures ∙ ap (λ o. unwrap_or o 0) (c.copied.ensures ∙ c.get.ensures.value)) c.if-before-gt1.true q there

pub returns-else-before-gt1-clause-counts : goal.returns-else-before-gt1-clause-counts
returns-else-before-gt1-clause-counts c count counts q =
    let before = c.unwrap_or-before.result in
    let is : before ≡ count c.in-Some.id =
    c.unwrap_or-before.ensures ∙ ap (λ o. unwrap_or o 0) (c.copied.ensures ∙ c.get.ensures.value) ∙ there_is c.args.needs.now count c.in-Some.id counts in
    let few : count c.in-Some.id ≤ 1 = omega (arith, is, c.if-before-gt1.false) in
    lessened_all c.args.needs.now c.remove.new.self c.in-Some.id count c.remove.ensures.updates.0 few counts q
    ∙ ap (λ o. counted (with_less o count q)) (sym c.in-Some.is)
