-- Parameters that pass the check are good.
use Rattle.std.proofs.Common.{◌≡◌, ◌*◌, Bool, true, false, cond, nat_le, nat_lt, ◌==◌, Option, Some, None, Ok, refl, subst, arith}
use Rattle.std.proofs.lemmas.Bool.Decides.{nat_tests}
use Rattle.snow_flake.specs.Model.Parameters.{Parameters, AreGood, checked, first_fault, or_fault}
use Rattle.snow_flake.specs.declared.params.ParamFault.{ParamFault}

-- the first of two faults isn't there
passes : {A : Type 0} (b : Bool) (x : A) (o : Option A) → cond b (Some x) o ≡ None → (b ≡ false) × (o ≡ None)
passes true x o e = absurd cc
passes false x o e = (refl, e)

-- no fault stands in the way
faultless : (p q : Parameters) (o : Option ParamFault) → or_fault p o ≡ Ok q → (o ≡ None) × (p ≡ q)
faultless p q None e = (refl, cc)
faultless p q (Some fault) e = absurd cc

good : (p : Parameters) → first_fault p ≡ None → AreGood p
good p e =
    let a = passes (nat_le (2 * p.alpha_preference) p.k) _ _ e in
    let b = passes (nat_lt p.alpha_confidence p.alpha_preference) _ _ a.1 in
    let c = passes (nat_lt p.k p.alpha_confidence) _ _ b.1 in
    let d = passes (p.beta == 0) _ _ c.1 in
    let f = passes (p.repolls == 0) _ _ d.1 in
    let g = passes (nat_lt p.beta p.repolls) _ _ f.1 in
    let h = passes (nat_lt 1024 p.k) _ _ g.1 in
    let i = passes (nat_lt 65535 p.beta) _ _ h.1 in
    let a0 = a.0 in
    let b0 = b.0 in
    let c0 = c.0 in
    let d0 = d.0 in
    let f0 = f.0 in
    let g0 = g.0 in
    let h0 = h.0 in
    let i0 = i.0 in
    record {
      majority = grind (arith, nat_tests);
      in_order = grind (arith, nat_tests);
      reachable = grind (arith, nat_tests);
      decides_late = grind (arith, nat_tests);
      repolls_some = grind (arith, nat_tests);
      repolls_few = grind (arith, nat_tests);
      k_small = grind (arith, nat_tests);
      beta_small = grind (arith, nat_tests);
    }

pub checked_good : (p q : Parameters) → checked p ≡ Ok q → AreGood q
checked_good p q e =
    let f = faultless p q (first_fault p) e in
    subst AreGood f.1 (good p f.0)
