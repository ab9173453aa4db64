-- The quotient is the guess, or one more.
use Rattle.std.proofs.Common.{◌≡◌, suc, ◌+◌, ◌*◌, ◌%◌, sym, ap, ◌∙◌, arith}
use Rattle.std.proofs.lemmas.Nat.{mod-mul-add}
use Rattle.snow_sample.proofs.dividing.guessed.Goals.{then-rest-divisor, else-rest-divisor}
use Rattle.snow_sample.proofs.dividing.guessed.Goals as goal

pub returns-then-rest-divisor-2 : goal.returns-then-rest-divisor-2
returns-then-rest-divisor-2 c =
    let d = c.args.divisor in
    let q = c.carrying_mul-quotient.result.1 in
    let r = c.if-rest-divisor.rest in
    let product : c.carrying_mul-product.result.0 ≡ q * d = omega (arith, c.carrying_mul-product.ensures, c.if-over-gt0.false) in
    let within = c.in_ok-rest.ensures.0 in
    let left = c.in_ok-rest.ensures.1 in
    elim c.if-rest-divisor.branch [
      | then-rest-divisor w ↦
          let whole : q * d + r ≡ c.args.value = omega (arith, product, within, left, w.rest-is) in
          sym (ap (λ v. v % d) (sym whole) ∙ mod-mul-add q d r c.if-rest-divisor-2.true)
      | else-rest-divisor w ↦
          let whole : suc q * d + r ≡ c.args.value = omega (arith, product, within, left, w.rest-is, w.if-rest-divisor.false) in
          sym (ap (λ v. v % d) (sym whole) ∙ mod-mul-add (suc q) d r c.if-rest-divisor-2.true)
    ]
