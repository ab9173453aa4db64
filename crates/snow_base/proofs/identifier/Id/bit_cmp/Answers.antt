use Rattle.std.proofs.Common.{◌≡◌, ◌≢◌, ◌/◌, ◌^◌, refl, sym, ap, ◌∙◌, arith}
use Rattle.std.specs.Int.{bit_at}
use Rattle.std.proofs.lemmas.Nat.Bits.{bit_at-lt, shr_and_one}
use Rattle.snow_base.proofs.Words.{none_in_word, bit_cmp-word}
use Rattle.snow_base.proofs.identifier.Id.bit_cmp.Goals as goal

pub bit_cmp_past-requires : goal.bit_cmp_past-requires
bit_cmp_past-requires c =
    none_in_word _ _ 0 c.word-a.result c.word-b.result 0 0 c.word-a.ensures c.word-b.ensures refl (ap (λ n. n / 2 ^ 0) c.if-a-b.true)

pub returns-then-a-lowest_differing-eq0 : goal.returns-then-a-lowest_differing-eq0
returns-then-a-lowest_differing-eq0 c =
    let at = c.lowest_differing.ensures in
    let bit : bit_at c.word-a.result c.lowest_differing.result ≡ 0 = sym (shr_and_one _ _) ∙ c.if-a-lowest_differing-eq0.true in
    sym (bit_cmp-word _ _ c.word-a.result c.word-b.result c.lowest_differing.result c.word-a.ensures c.word-b.ensures at.within at.below at.differs ∙ rw bit refl)

pub returns-else-a-lowest_differing-eq0 : goal.returns-else-a-lowest_differing-eq0
returns-else-a-lowest_differing-eq0 c =
    let at = c.lowest_differing.ensures in
    let other : bit_at c.word-a.result c.lowest_differing.result ≢ 0 = λ e. c.if-a-lowest_differing-eq0.false (shr_and_one _ _ ∙ e) in
    let bit : bit_at c.word-a.result c.lowest_differing.result ≡ 1 = omega (arith, bit_at-lt c.word-a.result c.lowest_differing.result) in
    sym (bit_cmp-word _ _ c.word-a.result c.word-b.result c.lowest_differing.result c.word-a.ensures c.word-b.ensures at.within at.below at.differs ∙ rw bit refl)
