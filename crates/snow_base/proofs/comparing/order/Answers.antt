use Rattle.std.proofs.Common.{◌≡◌, sym, ap, ◌∙◌, arith, ext_get_or}
use Rattle.std.specs.Cmp.Lexicographic.{slice_cmp, nat_list_cmp_total}
use Rattle.std.specs.Ordering.{nat_cmp}
use Rattle.std.proofs.lemmas.Cmp.{tied_itself}
use Rattle.snow_base.proofs.Words.{words_decide, words_agree}
use Rattle.snow_base.proofs.comparing.order.Goals as goal

pub returns-then-x-y : goal.returns-then-x-y
returns-then-x-y c =
    c.cmp.ensures
    ∙ words_decide c.args.a.now c.args.b.now c.min-from.result _ _ (omega (arith, c.min-from.ensures)) (omega (arith, c.min-from.ensures, c.requires.same))
    (λ k. (c.type_inv.a k).fits) (λ k. (c.type_inv.b k).fits)
    (λ k h. c.loop-at.invariant k (omega (arith, c.min-from.ensures)) (omega (arith, c.min-from.ensures))) c.high_word-x.ensures c.high_word-y.ensures c.if-x-y.true

pub loop-at-preserved : goal.loop-at-preserved
loop-at-preserved c = λ k h l.
    words_agree c.args.a.now c.args.b.now c.min-from.result _ _ (omega (arith, c.min-from.ensures)) (omega (arith, c.min-from.ensures, c.requires.same))
    (λ k. (c.type_inv.a k).fits) (λ k. (c.type_inv.b k).fits)
    (λ k h. c.loop-at.invariant k (omega (arith, c.min-from.ensures)) (omega (arith, c.min-from.ensures))) c.high_word-x.ensures c.high_word-y.ensures c.if-x-y.false
    k (omega (arith, c.min-from.ensures))

pub returns : goal.returns
returns c =
    let a = c.args.a.now in
    let same : a ≡ c.args.b.now = ext_get_or 0 a c.args.b.now c.requires.same (λ i h. c.loop-at.invariant i (omega arith) h) in
    sym (ap (λ b. slice_cmp nat_cmp a b) (sym same) ∙ tied_itself nat_list_cmp_total a)
