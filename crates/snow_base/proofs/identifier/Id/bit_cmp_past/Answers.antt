use Rattle.std.proofs.Common.{◌≡◌, sym, ap, ◌∙◌, arith, inl, inr}
use Rattle.std.proofs.lemmas.Bool.{cases_lt}
use Rattle.std.proofs.lemmas.Cmp.{tied_itself}
use Rattle.std.proofs.lemmas.Slice.Eq.{bytes_eq-Decides}
use Rattle.snow_base.specs.Model.Identifier.{bit_cmp}
use Rattle.snow_base.proofs.Bits.{bit_cmp-first, bit_cmp-same, bit_cmp-total}
use Rattle.snow_base.proofs.identifier.Id.bit_cmp_past.Goals as goal

pub returns-then-eq : goal.returns-then-eq
returns-then-eq c =
    let a = c.args.self.now in
    let same : a ≡ c.args.other.now = (bytes_eq-Decides _ _).0 (sym c.eq.ensures ∙ c.if-eq.true) in
    sym (ap (λ b. bit_cmp a b) (sym same) ∙ tied_itself {R = bit_cmp} bit_cmp-total a)

pub returns-in-None : goal.returns-in-None
returns-in-None c =
    sym (bit_cmp-same c.args.self.now c.args.other.now
    (λ k h. elim (cases_lt k 64) [ inl l ↦ c.requires k (omega arith) l | inr l ↦ c.in-None.ensures k (omega arith) h ]))

pub returns-in-Some : goal.returns-in-Some
returns-in-Some c =
    let at = c.in-Some.ensures in
    let first = bit_cmp-first c.args.self.now c.args.other.now c.in-Some.i at.1
    (λ k h. elim (cases_lt k 64) [ inl l ↦ c.requires k (omega arith) l | inr l ↦ at.2 k (omega arith) h ]) at.3 in
    cc
