-- Lemmas on a tree to which an identifier is added.
use Rattle.std.proofs.Common.{◌≡◌, ◌≢◌, ℕ, zero, suc, ◌+◌, ◌-◌, ◌<◌, ◌≤◌, ◌==◌, Bool, true, false, not, List, Option, Some, None, refl, sym, ap, ◌∙◌, subst, arith}
use Rattle.std.specs.Bool.{beq}
use Rattle.std.proofs.lemmas.Bool.{eqb-true, eq-eqb, true≢false}
use Rattle.std.proofs.lemmas.Option.{none-some, same_Some}
use Rattle.snow_base.specs.Model.Identifier.{bit, AgreeFrom, FirstDiffers}
use Rattle.snow_flake.specs.Model.Counter.{Counter, Decided, Undecided, Standing, fresh, is_decided}
use Rattle.snow_flake.specs.Kept.Instance.{Single, at_bit, counter_of}
use Rattle.snow_board.proofs.Cases.{split_on}
use Rattle.snow_trie.specs.Kept.Tree.{Tree, Tip, Line, Two}
use Rattle.snow_trie.specs.Kept.Shape.{IsPlaced}
use Rattle.snow_trie.specs.Kept.Growing.{differs_at, parting}

-- ---- where an identifier differs

-- bits that aren't the same are each other's opposite
other_bit : (x y : Bool) → beq x y ≡ false → y ≡ not x
other_bit true true e = cc
other_bit true false e = refl
other_bit false true e = refl
other_bit false false e = cc

same_bit : (x y : Bool) → beq x y ≡ true → x ≡ y
same_bit true true e = refl
same_bit true false e = cc
same_bit false true e = cc
same_bit false false e = refl

alike : (x y : Bool) → x ≡ y → beq x y ≡ true
alike true true e = refl
alike true false e = cc
alike false true e = cc
alike false false e = refl

unlike : (x y : Bool) → x ≢ y → beq x y ≡ false
unlike true true n = absurd (n refl)
unlike true false n = refl
unlike false true n = refl
unlike false false n = absurd (n refl)

-- the first place where two identifiers differ, as it is looked for
pub record IsParting (a b : List ℕ) (from to at : ℕ) : Type 0 where
  pub low : from ≤ at
  pub high : at < to
  pub agree : AgreeFrom from at a b
  pub differ : bit b at ≡ not (bit a at)

-- identifiers that agree at one bit and from the next one on agree from there on
agree_more : (a b : List ℕ) (from to : ℕ) → bit a from ≡ bit b from → AgreeFrom (from + 1) to a b → AgreeFrom from to a b
agree_more a b from to here rest k p q =
    split_on (k == from)
    (λ s. subst (λ j. bit a j ≡ bit b j) (sym (eqb-true k from s)) here)
    (λ s. rest k (omega (arith, ne_from k s)) q)
  where
    ne_from : (k : ℕ) → (k == from) ≡ false → k ≢ from
    ne_from k s e = true≢false (sym (eq-eqb k from e) ∙ s)

no_parting : (a b : List ℕ) (from n : ℕ) → differs_at a b from n ≡ None → AgreeFrom from (from + n) a b
no_parting a b from zero e = λ k p q. absurd (omega arith)
no_parting a b from (suc n) e =
    split_on (beq (bit a from) (bit b from))
    (λ t. let rest = rw t at e in
    agree_more a b from (from + suc n) (same_bit (bit a from) (bit b from) t) (λ k p q. no_parting a b (from + 1) n rest k p (omega arith)))
    (λ t. let found = rw t at e in absurd (none-some from (sym found)))

a_parting : (a b : List ℕ) (from n at : ℕ) → differs_at a b from n ≡ Some at → IsParting a b from (from + n) at
a_parting a b from zero at e = absurd (none-some at e)
a_parting a b from (suc n) at e =
    split_on (beq (bit a from) (bit b from))
    (λ t. let rest = rw t at e in
    let deeper = a_parting a b (from + 1) n at rest in
    let low = deeper.low in let high = deeper.high in
    record {
      low = omega arith;
      high = omega arith;
      agree = agree_more a b from at (same_bit (bit a from) (bit b from) t) deeper.agree;
      differ = deeper.differ;
    })
    (λ t. let found = rw t at e in
    let is : from ≡ at = same_Some from at found in
    record {
      low = omega arith;
      high = omega arith;
      agree = λ k p q. absurd (omega arith);
      differ = subst (λ j. bit b j ≡ not (bit a j)) is (other_bit (bit a from) (bit b from) t);
    })

-- where none is found, the two agree
pub agrees : (a b : List ℕ) (from to : ℕ) → from ≤ to → differs_at a b from (to - from) ≡ None → AgreeFrom from to a b
agrees a b from to p e k q r = no_parting a b from (to - from) e k q (omega arith)

-- the place that is found is the first
pub parts : (a b : List ℕ) (from to at : ℕ) → from ≤ to → differs_at a b from (to - from) ≡ Some at → IsParting a b from to at
parts a b from to at p e =
    let found = a_parting a b from (to - from) at e in
    let high = found.high in
    record { low = found.low; high = omega arith; agree = found.agree; differ = found.differ }

-- and the other way round: what is the first place is found
none_found : (a b : List ℕ) (from n : ℕ) → AgreeFrom from (from + n) a b → differs_at a b from n ≡ None
none_found a b from zero h = refl
none_found a b from (suc n) h =
    let here : beq (bit a from) (bit b from) ≡ true = alike (bit a from) (bit b from) (h from (omega arith) (omega arith)) in
    rw here (none_found a b (from + 1) n (λ k p q. h k (omega arith) (omega arith)))

one_found : (a b : List ℕ) (from n at : ℕ) → from ≤ at → at < from + n → AgreeFrom from at a b → (bit a at ≢ bit b at) → differs_at a b from n ≡ Some at
one_found a b from zero at p q h d = absurd (omega arith)
one_found a b from (suc n) at p q h d =
    split_on (at == from)
    (λ s. let is = eqb-true at from s in
    let here : beq (bit a from) (bit b from) ≡ false = unlike (bit a from) (bit b from) (subst (λ j. bit a j ≢ bit b j) is d) in
    rw (here, is) refl)
    (λ s. let apart : at ≢ from = λ e. true≢false (sym (eq-eqb at from e) ∙ s) in
    let here : beq (bit a from) (bit b from) ≡ true = alike (bit a from) (bit b from) (h from (omega arith) (omega (arith, apart))) in
    rw here (one_found a b (from + 1) n at (omega (arith, apart)) (omega arith) (λ k r t. h k (omega arith) t) d))

-- so the first place is told right
pub found : (a b : List ℕ) (from to : ℕ) (r : Option ℕ) → from ≤ to → FirstDiffers from to a b r → r ≡ differs_at a b from (to - from)
found a b from to None p h = sym (none_found a b from (to - from) (λ k q s. h k q (omega arith)))
found a b from to (Some at) p h =
    let high = h.1 in
    sym (one_found a b from (to - from) at h.0 (omega arith) h.2 h.3)

-- and so is that of a prefix
pub prefix_found : (a b : List ℕ) (to : ℕ) (r : Option ℕ) → FirstDiffers 0 to a b r → differs_at a b 0 to ≡ r
prefix_found a b to r h = let e : to ≡ to - 0 = omega arith in ap (differs_at a b 0) e ∙ sym (found a b 0 to r (omega arith) h)

-- ---- a fresh counter

abbrev some_standing : Standing
some_standing = record { preference = false; flake = false; strength_zero = 0; strength_one = 0; confidence = 0 }

abbrev standing_in : Counter → Standing
standing_in (Decided bit) = some_standing
standing_in (Undecided s) = s

-- a counter of one bit that starts for each bit is fresh
pub is_new : (u : Single) → ((b : Bool) → counter_of (at_bit u b) ≡ fresh b) → u ≡ record { strength = 0; confidence = 0; final = false }
is_new u h =
    split_on u.final
    (λ t. let k = rw t at (h true) in absurd (true≢false (ap is_decided k)))
    (λ t. let k = rw t at (h false) in
    let strength : u.strength ≡ 0 = ap (λ c. (standing_in c).strength_zero) k in
    let confidence : u.confidence ≡ 0 = ap (λ c. (standing_in c).confidence) k in
    λ i. record { strength = strength i; confidence = confidence i; final = t i })

-- ---- a place to part is in the node

pub parting_small : (from at : ℕ) (id : List ℕ) (t : Tree) → IsPlaced from t → parting from id t ≡ Some at → at < 256
parting_small from at id (Tip other) h e = absurd (none-some at e)
parting_small from at id (Two fork z o) h e = absurd (none-some at e)
parting_small from at id (Line run below) h e =
    let part = parts run.id id from run.to at (omega (arith, h.0)) e in
    let high = part.high in
    omega (arith, h.1)
