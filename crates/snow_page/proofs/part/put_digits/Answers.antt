-- The digits of some bytes failed, or are done.
use Rattle.std.proofs.Common.{[], ◌++◌, take, drop, refl, ◌∙◌, ap, append_assoc, take-append-drop, arith}
use Rattle.std.proofs.lemmas.List.{take_rest}
use Rattle.std.proofs.lemmas.Result.{err_from_is_err_and}
use Rattle.snow_page.proofs.Encoded.{encoded_none, encoded_next, encoded_failed}
use Rattle.snow_page.proofs.part.put_digits.Goals as goal

pub loop-rest-init : goal.loop-rest-init
loop-rest-init g c = record { front = []; all = refl; text = encoded_none _ _; later = omega arith }

pub returns-in_err-put_some-clause-err : goal.returns-in_err-put_some-clause-err
returns-in_err-put_some-clause-err g c =
    let e = err_from_is_err_and c.from_residual.result c.from_residual.ensures.1 in
    let front = c.loop-rest.invariant.front in
    let len = c.min-len.result in
    rw e.1 (encoded_failed _ _ _ _ _ front (take len c.loop-rest.rest.now) (drop len c.loop-rest.rest.now) c.args.bytes.now c.loop-rest.invariant.text c.in_err-put_some.ensures.err
    (ap (λ l. front ++ l) (take-append-drop len c.loop-rest.rest.now) ∙ c.loop-rest.invariant.all))

pub loop-rest-preserved : goal.loop-rest-preserved
loop-rest-preserved g c =
    let front = c.loop-rest.invariant.front in
    let some = take c.min-len.result c.loop-rest.rest.now in
    let behind = drop c.min-len.result c.loop-rest.rest.now in
    record {
      front = front ++ some;
      all = rw take_rest (append_assoc front some behind ∙ ap (λ l. front ++ l) (take-append-drop c.min-len.result c.loop-rest.rest.now) ∙ c.loop-rest.invariant.all);
      text = encoded_next _ _ _ _ _ _ front some c.loop-rest.invariant.text c.in_ok-put_some.ensures.ok;
      later = omega (arith, c.loop-rest.invariant.later, c.put_some.ensures.cause.later);
    }
