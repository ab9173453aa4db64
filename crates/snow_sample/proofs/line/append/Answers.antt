-- Some words more are appended.
use Rattle.std.proofs.Common.{ℕ, List, ◌++◌, take, drop, append_assoc, take-append-drop, ap, ◌∙◌, arith}
use Rattle.std.proofs.lemmas.List.{length-drop, length-take-le, take_rest}
use Rattle.snow_sample.proofs.line.append.Goals as goal

pub loop-rest-preserved : goal.loop-rest-preserved
loop-rest-preserved c =
    let rest : List ℕ = c.loop-rest.rest.now in
    let room : List ℕ = c.loop-rest.room.items in
    let len = c.min-len.result in (
      rw take_rest
          (ap (λ (l : List ℕ). l ++ drop len rest) c.append_some.ensures.items ∙ append_assoc room (take len rest) (drop len rest)
          ∙ ap (λ (l : List ℕ). room ++ l) (take-append-drop len rest) ∙ c.loop-rest.invariant.0),
      rw take_rest
          (omega (arith, c.append_some.ensures.len, c.append_some.ensures.capacity, length-drop len rest, length-take-le len rest (omega (arith, c.min-len.ensures)), c.loop-rest.invariant.1, c.min-len.ensures)),
    )
