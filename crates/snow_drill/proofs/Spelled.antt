-- Values in eight bytes each.
use Rattle.std.proofs.Common.{◌≡◌, ℕ, suc, ◌+◌, ◌<◌, ◌^◌, List, [], ◌∷◌, ◌++◌, refl, subst, arith}
use Rattle.byteorder.specs.Endian.{big_bytes, big_number}
use Rattle.byteorder.specs.Numbers.{big_number-reads_back}
use Rattle.snow_drill.specs.Model.Generator.{following, last_of, values}

-- a value is read back from its bytes
pub read_back : (x : ℕ) (rest : List ℕ) → x < 2 ^ 64 → big_number 8 (big_bytes 8 x ++ rest) ≡ x
read_back x rest h = big_number-reads_back 8 x rest h

one_more : (n : ℕ) → suc n ≡ n + 1
one_more n = omega arith

-- the last of one value more
pub last_more : (n x : ℕ) → last_of (n + 1) x ≡ following (last_of n x)
unfolding last_of
last_more n x = subst (λ (m : ℕ). last_of m x ≡ following (last_of n x)) (one_more n) refl

-- one value more
pub values_more : (n x : ℕ) → values (n + 1) x ≡ values n x ++ following (last_of n x) ∷ []
unfolding values last_of
values_more n x = subst (λ (m : ℕ). values m x ≡ values n x ++ following (last_of n x) ∷ []) (one_more n) refl
