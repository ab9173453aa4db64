-- One target after another is asked for.
use Rattle.std.proofs.Common.{◌≡◌, ◌+◌, ◌∷◌, drop, arith, subst}
use Rattle.std.specs.Prelude.{Ok, Err}
use Rattle.std.proofs.lemmas.List.{drop_all}
use Rattle.snow_boot.specs.Model.Asking.{asked_one, asked}
use Rattle.snow_store.specs.Model.Paths.{missed}
use Rattle.snow_boot.specs.Clauses.Requesting.{Asks}
use Rattle.snow_boot.proofs.Asked.{asks_on, asks_stop, asks_all}
use Rattle.snow_store.proofs.Cases.{next_of}
use Rattle.snow_boot.proofs.Underway.{IsUnderway}
use Rattle.snow_boot.proofs.asking.ask_all.Goals as goal

pub returns-in-Err : goal.returns-in-Err
returns-in-Err g c =
    let nodes = c.args.nodes.now in
    let f = c.args.fetching.now.fetch in
    let items = c.targets-target-items.result.now in
    let t = c.target-item.result in
    let rest = drop (c.loop-target.target-index + 1) items in
    let whole = asked nodes f items c.args.requests.now c.args.numbers.now in
    let next : drop c.loop-target.target-index items ≡ t ∷ rest = next_of items c.loop-target.target-index t c.loop-target-test.true c.target-item.is in
    let u : IsUnderway c.args.log.now c.loop-target.log (asked nodes f (t ∷ rest) c.loop-target.requests c.loop-target.numbers) whole =
    subst (λ ts. IsUnderway c.args.log.now c.loop-target.log (asked nodes f ts c.loop-target.requests c.loop-target.numbers) whole) next c.loop-target.invariant.0 in
    subst (λ ts. Asks (Err c.in-Err.stop) c.args.log.now c.ask_one.new.log c.ask_one.new.requests c.ask_one.new.numbers (asked nodes f ts c.args.requests.now c.args.numbers.now))
    c.targets-target-items.ensures
    (asks_stop nodes f t rest c.loop-target.requests c.ask_one.new.requests c.loop-target.numbers c.ask_one.new.numbers c.args.log.now c.loop-target.log c.ask_one.new.log whole c.in-Err.stop u
    (subst (λ o. Asks (Err c.in-Err.stop) c.loop-target.log c.ask_one.new.log c.ask_one.new.requests c.ask_one.new.numbers (asked_one nodes c.loop-target.requests c.loop-target.numbers o))
    c.missed.ensures c.in-Err.ensures))

pub loop-target-preserved : goal.loop-target-preserved
loop-target-preserved g c =
    let nodes = c.args.nodes.now in
    let f = c.args.fetching.now.fetch in
    let items = c.targets-target-items.result.now in
    let t = c.target-item.result in
    let rest = drop (c.loop-target.target-index + 1) items in
    let whole = asked nodes f items c.args.requests.now c.args.numbers.now in
    let next : drop c.loop-target.target-index items ≡ t ∷ rest = next_of items c.loop-target.target-index t c.loop-target-test.true c.target-item.is in
    let u : IsUnderway c.args.log.now c.loop-target.log (asked nodes f (t ∷ rest) c.loop-target.requests c.loop-target.numbers) whole =
    subst (λ ts. IsUnderway c.args.log.now c.loop-target.log (asked nodes f ts c.loop-target.requests c.loop-target.numbers) whole) next c.loop-target.invariant.0 in
    let one : Asks (Ok tt) c.loop-target.log c.ask_one.new.log c.ask_one.new.requests c.ask_one.new.numbers (asked_one nodes c.loop-target.requests c.loop-target.numbers (missed f t)) =
    subst (λ o. Asks (Ok tt) c.loop-target.log c.ask_one.new.log c.ask_one.new.requests c.ask_one.new.numbers (asked_one nodes c.loop-target.requests c.loop-target.numbers o))
    c.missed.ensures c.in_default.ensures in
    (asks_on nodes f t rest c.loop-target.requests c.ask_one.new.requests c.loop-target.numbers c.ask_one.new.numbers c.args.log.now c.loop-target.log c.ask_one.new.log whole u one, one.2)

pub returns : goal.returns
returns g c =
    let nodes = c.args.nodes.now in
    let f = c.args.fetching.now.fetch in
    let items = c.targets-target-items.result.now in
    let left = drop_all c.loop-target.target-index items (omega (arith, c.loop-target-test.false)) in
    subst (λ ts. Asks (Ok tt) c.args.log.now c.loop-target.log c.loop-target.requests c.loop-target.numbers (asked nodes f ts c.args.requests.now c.args.numbers.now))
    c.targets-target-items.ensures
    (asks_all nodes f (drop c.loop-target.target-index items) c.loop-target.requests c.loop-target.numbers c.args.log.now c.loop-target.log
    (asked nodes f items c.args.requests.now c.args.numbers.now) left c.loop-target.invariant.0 c.loop-target.invariant.1)
