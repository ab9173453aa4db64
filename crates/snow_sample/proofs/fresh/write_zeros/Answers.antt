-- Some zeros more.
use Rattle.std.proofs.Common.{◌≡◌, ℕ, ◌+◌, ◌-◌, List, ◌++◌, length, replicate, ap, ◌∙◌, arith}
use Rattle.std.proofs.lemmas.List.{length-replicate, replicate-append-replicate, take_all}
use Rattle.std.specs.Vec.{vec_len}
use Rattle.snow_sample.proofs.fresh.write_zeros.Goals as goal

pub loop-made-preserved : goal.loop-made-preserved
loop-made-preserved c =
    let nothing : ℕ = 0 in
    let made = c.loop-made.made in
    let more = c.min-more.result in
    let room : List ℕ = c.loop-made.room.items in
    let long : length room ≡ made = ap (λ (l : List ℕ). length l) c.loop-made.invariant.0 ∙ length-replicate made nothing in
    let rest : made + more - vec_len c.loop-made.room ≡ more = omega (arith, c.loop-made.invariant.1) in (
      c.in_ok-resize.ensures.items ∙ ap (λ (l : List ℕ). l ++ replicate (made + more - vec_len c.loop-made.room) nothing) (take_all (made + more) room (omega (arith, long)) ∙ c.loop-made.invariant.0)
          ∙ ap (λ k. replicate made nothing ++ replicate k nothing) rest ∙ replicate-append-replicate made more nothing,
      c.in_ok-resize.ensures.len,
      omega (arith, c.min-more.ensures, c.loop-made-test.true),
    )
