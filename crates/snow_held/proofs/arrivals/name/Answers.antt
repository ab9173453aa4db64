use Rattle.std.proofs.Common.{true, Some, cond, ◌&&◌, sym, ap, ◌∙◌}
use Rattle.std.specs.BTreeMap.{get, is_at}
use Rattle.std.specs.Cmp.Lexicographic.{slice_cmp}
use Rattle.std.specs.Option.{is_some}
use Rattle.std.specs.Ordering.{nat_cmp}
use Rattle.std.proofs.lemmas.Result.{err_from_is_err_and}
use Rattle.std.proofs.lemmas.Map.Lookups.{exact_bytes}
use Rattle.snow_held.specs.Kept.Arrivals.{names, is_among, has_number_in}
use Rattle.snow_held.proofs.Numbered.{nested, nested_same}
use Rattle.snow_held.proofs.Listed.{among_more}
use Rattle.snow_held.proofs.arrivals.name.Goals as goal

pub returns-in_err-push-clause-err : goal.returns-in_err-push-clause-err
returns-in_err-push-clause-err c =
    let e = err_from_is_err_and c.from_residual.result c.from_residual.ensures.1 in
    let before = c.args.blocks.now in
    let new = c.push.new.self in
    rw e.1 (nested_same (slice_cmp nat_cmp) exact_bytes has_number_in before (c.get_mut.follows.lender new) c.args.id (Some new) ((c.get_mut.follows.holds new).3 (ap is_some (sym c.in-Some.ensures.value))).0
    (λ j. ap (λ l. is_among l j) c.in_err-push.ensures.err ∙ ap (λ m. has_number_in m j) c.in-Some.ensures.value))

pub returns-in-Some-clause-ok : goal.returns-in-Some-clause-ok
returns-in-Some-clause-ok c q a =
    let before = c.args.blocks.now in
    let new = c.push.new.self in
    nested (slice_cmp nat_cmp) exact_bytes has_number_in before (c.get_mut.follows.lender new) c.args.id (Some new) (is_at (nat_cmp c.args.arrival)) true
    ((c.get_mut.follows.holds new).3 (ap is_some (sym c.in-Some.ensures.value))).0
    (λ j. ap (λ l. is_among l j) c.in_ok-push.ensures.ok ∙ among_more c.in-Some.named.now c.args.arrival j ∙ ap (λ m. cond (is_at (nat_cmp c.args.arrival) j) true (has_number_in m j)) c.in-Some.ensures.value) q a

pub returns-clause-ok : goal.returns-clause-ok
returns-clause-ok c q a =
    let mid = c.get_mut.follows.lender-at-none in
    let new = c.push-2.new.self in
    let missing = c.in_default.ensures.value ∙ ap (λ m. get (slice_cmp nat_cmp) m c.args.id) (sym c.get_mut.follows.holds-at-none) in
    nested (slice_cmp nat_cmp) exact_bytes has_number_in mid c.insert.new.self c.args.id (Some new) (is_at (nat_cmp c.args.arrival)) true c.in_ok-insert.ensures.updates.0
    (λ j. ap (λ l. is_among l j) c.in_ok-push-2.ensures.ok ∙ among_more c.new-named.result c.args.arrival j
    ∙ ap (cond (is_at (nat_cmp c.args.arrival) j) true) (ap (λ l. is_among l j) c.new-named.ensures ∙ ap (λ m. has_number_in m j) missing)) q a
    ∙ ap (λ m. cond (is_at (slice_cmp nat_cmp c.args.id) q && is_at (nat_cmp c.args.arrival) a) true (names m q a)) c.get_mut.follows.holds-at-none
