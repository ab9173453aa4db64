-- One more word is taken, or passed over.
use Rattle.std.proofs.Common.{◌≡◌, ℕ, Some, ◌+◌, ◌∷◌, drop, slice_index, ◌∙◌, sym, ap, arith, refl}
use Rattle.std.proofs.lemmas.List.{drop_more}
use Rattle.snow_sample.specs.Model.Words.{reduced}
use Rattle.snow_sample.proofs.Choosing.{rest_whole, rest_more, taken, passed}
use Rattle.snow_sample.proofs.line.reduce.Goals as goal

pub loop-at-init : goal.loop-at-init
loop-at-init c = (c.requires.begins, omega arith, refl, rest_whole (drop c.args.at.now c.args.words.now))

pub returns-then-value-r-clause-reduced : goal.returns-then-value-r-clause-reduced
returns-then-value-r-clause-reduced c =
    let words = c.args.words.now in
    let at = c.loop-at.at in
    sym c.loop-at.invariant.2 ∙ ap (reduced c.args.n) (drop_more words at 0 c.loop-at-test.true)
    ∙ taken c.args.n (slice_index words at) (drop (at + 1) words) c.requires.few (rw c.remainder-r.ensures at c.if-value-r.true)
    ∙ ap (λ (r : ℕ). Some (r, drop (at + 1) words)) (sym c.remainder-r.ensures)

pub returns-then-value-r-clause-rest : goal.returns-then-value-r-clause-rest
returns-then-value-r-clause-rest c =
    let words = c.args.words.now in
    let at = c.loop-at.at in
    rest_more (drop c.args.at.now words) (drop (at + 1) words) (slice_index words at) (rw (drop_more words at 0 c.loop-at-test.true) at c.loop-at.invariant.3)

pub loop-at-preserved : goal.loop-at-preserved
loop-at-preserved c =
    let words = c.args.words.now in
    let at = c.loop-at.at in
    let front : drop at words ≡ slice_index words at ∷ drop (at + 1) words = drop_more words at 0 c.loop-at-test.true in (
      omega (arith, c.loop-at-test.true),
      omega (arith, c.loop-at.invariant.1),
      sym (passed c.args.n (slice_index words at) (drop (at + 1) words) c.requires.few (rw c.remainder-r.ensures at c.if-value-r.false)) ∙ ap (reduced c.args.n) (sym front)
          ∙ c.loop-at.invariant.2,
      rest_more (drop c.args.at.now words) (drop (at + 1) words) (slice_index words at) (rw front at c.loop-at.invariant.3),
    )
