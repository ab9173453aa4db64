-- A code for the counters of a conflict, which a type's model asks for: equal codes are equal counters.
use Rattle.std.specs.Prelude.{◌≡◌, ◌⊎◌, ℕ, Bool}
use mathlib.Core.Path.{refl, sym, ap, subst, ◌∙◌}
use mathlib.Core.Logic.{inl, inr}
use base.Stored.{Gv, gnil, gnum, gcons}
use Rattle.std.specs.Coded.{Coded, coded_ℕ, coded_bool, coded×, coded⊎, code_by}
use Rattle.snow_flake.specs.Model.Counter.{Counter, Decided, Undecided, Standing}
use Rattle.snow_board.specs.Model.Conflict.{Counters, Blank, At}

abbrev Fields : Type 0
Fields = Bool × (Bool × (ℕ × (ℕ × ℕ)))

abbrev fields_of : Standing → Fields
fields_of s = (s.preference, (s.flake, (s.strength_zero, (s.strength_one, s.confidence))))

abbrev standing_of : Fields → Standing
standing_of f = record {
  preference = f.0;
  flake = f.1.0;
  strength_zero = f.1.1.0;
  strength_one = f.1.1.1.0;
  confidence = f.1.1.1.1;
}

abbrev parts_of : Counter → Bool ⊎ Fields
parts_of (Decided bit) = inl bit
parts_of (Undecided s) = inr (fields_of s)

abbrev counter_from : Bool ⊎ Fields → Counter
counter_from (inl bit) = Decided bit
counter_from (inr f) = Undecided (standing_of f)

-- nothing is lost on the way
pub counter_back : (c : Counter) → counter_from (parts_of c) ≡ c
counter_back (Decided bit) = refl
counter_back (Undecided s) = refl

-- the code of one counter
abbrev pub coded_counter : Coded Counter
coded_counter = code_by (Bool ⊎ Fields)
    (coded⊎ coded_bool (coded× coded_bool (coded× coded_bool (coded× coded_ℕ (coded× coded_ℕ coded_ℕ)))))
    parts_of counter_from counter_back

abbrev first : Gv → Gv
first gnil = gnil
first (gnum n) = gnil
first (gcons a b) = a

abbrev second : Gv → Gv
second gnil = gnil
second (gnum n) = gnil
second (gcons a b) = b

abbrev IsPair : Gv → Type 0
IsPair gnil = ⊥
IsPair (gnum n) = ⊥
IsPair (gcons a b) = Unit {0}

abbrev code_of : Counters → Gv
code_of Blank = gnil
code_of (At c z o) = gcons (coded_counter.code c) (gcons (code_of z) (code_of o))

-- equal codes are equal counters
pub code_inj : (x y : Counters) → code_of x ≡ code_of y → x ≡ y
code_inj Blank Blank p = refl
code_inj Blank (At c z o) p = absurd (subst IsPair (sym p) tt)
code_inj (At c z o) Blank p = absurd (subst IsPair p tt)
code_inj (At c z o) (At d y w) p =
    ap (λ c. At c z o) (coded_counter.inj c d (ap first p))
    ∙ ap (λ z. At d z o) (code_inj z y (ap (λ g. first (second g)) p))
    ∙ ap (λ o. At d y o) (code_inj o w (ap (λ g. second (second g)) p))

-- the code of the counters of a conflict
abbrev pub coded_counters : Coded Counters
coded_counters = record { code = code_of; inj = code_inj }
