use Rattle.std.proofs.Common.{◌++◌, take, drop, ◌∙◌, ap, refl, append_assoc, take-append-drop, arith}
use Rattle.std.proofs.lemmas.List.{take_rest}
use Rattle.snow_base.proofs.Known.{appends_then}
use Rattle.snow_base.proofs.outside.write_whole.Goals as goal

pub loop-rest-preserved : goal.loop-rest-preserved
loop-rest-preserved g c =
    let rest = c.loop-rest.rest.now in
    let taken = c.in_ok-taken.taken in
    record {
      front = c.loop-rest.invariant.front ++ take taken rest;
      all = rw take_rest (append_assoc c.loop-rest.invariant.front (take taken rest) (drop taken rest) ∙ ap (λ l. c.loop-rest.invariant.front ++ l) (take-append-drop taken rest) ∙ c.loop-rest.invariant.all);
      text = appends_then _ _ _ _ _ _ c.loop-rest.invariant.text c.in_ok-taken.ensures.bytes refl;
      later = omega (arith, c.loop-rest.invariant.later, c.write.ensures.cause.later);
    }
