-- The parameters of the polls, and which are good.
use Rattle.std.specs.Prelude.{ℕ, ◌*◌, ◌<◌, ◌≤◌, Option, Some, None, Result, Ok, Err, nat_lt, nat_le, ◌==◌, if◌then◌else◌}
use Rattle.snow_base.specs.declared.limits.TheConstants.{MOST_K, MOST_BETA}
use Rattle.snow_flake.specs.declared.params.ParamFault.{ParamFault}
use Rattle.snow_flake.specs.declared.params.ParamFault.TheVariants.{AlphaLow, AlphaOrder, AlphaHigh, BetaZero, RepollsZero, RepollsHigh, KLarge, BetaLarge}

-- the size of a sample, the two quorums, the confidence that decides, and the polls under way at once
pub record Parameters : Type 0 where
  pub k : ℕ
  pub alpha_preference : ℕ
  pub alpha_confidence : ℕ
  pub beta : ℕ
  pub repolls : ℕ

-- the first thing that is wrong with them
abbrev pub first_fault : Parameters → Option ParamFault
first_fault p =
    if nat_le (2 * p.alpha_preference) p.k then Some AlphaLow
    else (if nat_lt p.alpha_confidence p.alpha_preference then Some AlphaOrder
    else (if nat_lt p.k p.alpha_confidence then Some AlphaHigh
    else (if p.beta == 0 then Some BetaZero
    else (if p.repolls == 0 then Some RepollsZero
    else (if nat_lt p.beta p.repolls then Some RepollsHigh
    else (if nat_lt MOST_K p.k then Some KLarge
    else (if nat_lt MOST_BETA p.beta then Some BetaLarge
    else None)))))))

abbrev pub or_fault : Parameters → Option ParamFault → Result Parameters ParamFault
or_fault p None = Ok p
or_fault p (Some fault) = Err fault

-- the parameters, or what is wrong with them
abbrev pub checked : Parameters → Result Parameters ParamFault
checked p = or_fault p (first_fault p)

-- nothing is wrong with them
pub record AreGood (p : Parameters) : Type 0 where
  pub majority : p.k < 2 * p.alpha_preference
  pub in_order : p.alpha_preference ≤ p.alpha_confidence
  pub reachable : p.alpha_confidence ≤ p.k
  pub decides_late : 0 < p.beta
  pub repolls_some : 0 < p.repolls
  pub repolls_few : p.repolls ≤ p.beta
  pub k_small : p.k ≤ MOST_K
  pub beta_small : p.beta ≤ MOST_BETA
