-- Lemmas on two counters, the first of which bounds the second: a bit step keeps it.
use Rattle.std.proofs.Common.{◌≡◌, ℕ, ◌+◌, ◌≤◌, Bool, true, false, nat_lt, nat_le, if◌then◌else◌, refl, sym, ◌∙◌, subst, arith}
use Rattle.std.specs.Bool.{beq}
use Rattle.std.specs.Cmp.{booleans_Decides}
use Rattle.std.proofs.lemmas.Bool.{le-ltb, ltb-false, le-leb, lt-leb, leb-true, leb-false}
use Rattle.snow_flake.specs.Model.Parameters.{Parameters, AreGood}
use Rattle.snow_flake.specs.Model.Counter.{Class, Low, Middle, High, class, Standing, Counter, Decided, Undecided, next_confidence, followed, voted, concluded, stepped}
use Rattle.snow_board.specs.Laws.ConfidenceLaw.{Bounds}
use Rattle.snow_board.proofs.Cases.{split_on}
use Rattle.snow_board.proofs.Failing.{few}

-- ---- classes in order

-- the first class is no higher than the second
abbrev IsUnder : Class → Class → Type 0
IsUnder Low c = Unit {0}
IsUnder Middle Low = ⊥
IsUnder Middle Middle = Unit {0}
IsUnder Middle High = Unit {0}
IsUnder High Low = ⊥
IsUnder High Middle = ⊥
IsUnder High High = Unit {0}

-- a quorum is one for confidence or for preference alone
abbrev quorum : Parameters → ℕ → Class
quorum p n = if nat_le p.alpha_confidence n then High else Middle

-- enough votes are a quorum
is_quorum : (p : Parameters) (n : ℕ) → nat_lt n p.alpha_preference ≡ false → class p n ≡ quorum p n
is_quorum p n h = rw h refl

-- fewer votes are of no higher class
class_under : (p : Parameters) (m n : ℕ) → m ≤ n → IsUnder (class p m) (class p n)
class_under p m n h =
    split_on (nat_lt m p.alpha_preference)
    (λ t. rw t tt)
    (λ t. let more : nat_lt n p.alpha_preference ≡ false = le-ltb n p.alpha_preference (omega (arith, ltb-false m p.alpha_preference t)) in
    rw (t, more) (split_on (nat_le p.alpha_confidence m)
    (λ s. let most : nat_le p.alpha_confidence n ≡ true = le-leb p.alpha_confidence n (omega (arith, leb-true p.alpha_confidence m s)) in rw (s, most) tt)
    (λ s. rw s (split_on (nat_le p.alpha_confidence n) (λ u. rw u tt) (λ u. rw u tt)))))

-- ---- how far a confidence goes

-- the highest confidence after votes of no higher class than this
abbrev best : Class → ℕ → ℕ
best High n = n + 1
best Middle n = 0
best Low n = 0

-- a quorum for confidence makes it one more at most
next_best : (b : Bool) (n : ℕ) → next_confidence High b n ≤ n + 1
next_best true n = omega arith
next_best false n = omega arith

-- the second counter's
after_lower : (t : Standing) (zeros ones c : Class) → IsUnder zeros c → IsUnder ones c → (voted t zeros ones).confidence ≤ best c t.confidence
after_lower t Low Low c h k = omega arith
after_lower t Low Middle c h k = omega arith
after_lower t Low High Low h k = absurd k
after_lower t Low High Middle h k = absurd k
after_lower t Low High High h k = next_best (beq t.flake true) t.confidence
after_lower t Middle ones c h k = omega arith
after_lower t High ones Low h k = absurd h
after_lower t High ones Middle h k = absurd h
after_lower t High ones High h k = next_best (beq t.flake false) t.confidence

-- the first counter's, which follows the same side
after_upper : (c : Class) (b : Bool) (n m : ℕ) → m ≤ (if b then n else 0) → best c m ≤ next_confidence c b n
after_upper High true n m h = omega arith
after_upper High false n m h = omega arith
after_upper Middle b n m h = omega arith
after_upper Low b n m h = omega arith

-- ---- bounds

-- a counter without confidence is bounded by any
pub bounded : (upper : Counter) (side : Bool) (t : Standing) → t.confidence ≤ 0 → Bounds upper side (Undecided t)
bounded (Decided bit) side t h = tt
bounded (Undecided s) side t h = omega arith

-- and so is one that votes leave without
still_bounded : (p : Parameters) (upper : Counter) (side : Bool) (t : Standing) → AreGood p → t.confidence ≤ 0 → Bounds upper side (concluded p t)
still_bounded p upper side t good h =
    let late : nat_le p.beta t.confidence ≡ false = lt-leb p.beta t.confidence (omega (arith, good.decides_late)) in
    rw late (bounded upper side t h)

-- a bit is itself
same_side : (b : Bool) → beq b b ≡ true
same_side b = (booleans_Decides b b).1 refl

-- the first decides no later than the second
decides_first : (p : Parameters) (s t : Standing) → t.confidence ≤ s.confidence → Bounds (concluded p s) s.flake (concluded p t)
decides_first p s t h =
    split_on (nat_le p.beta s.confidence)
    (λ u. rw u tt)
    (λ u. let late : nat_le p.beta t.confidence ≡ false = lt-leb p.beta t.confidence (omega (arith, leb-false p.beta s.confidence u)) in
    rw (u, late, same_side s.flake) h)

-- a quorum on one side is followed
follows : (s : Standing) (side high : Bool) → let c : Class = if high then High else Middle in
    voted s (if side then Low else c) (if side then c else Low) ≡ followed s side c
follows s true true = refl
follows s true false = refl
follows s false true = refl
follows s false false = refl

-- the step with a quorum on the side of the second counter
step_follows : (p : Parameters) (s : Standing) (side : Bool) (zeros ones : ℕ) → AreGood p → zeros + ones ≤ p.k
    → nat_lt (if side then ones else zeros) p.alpha_preference ≡ false
    → voted s (class p zeros) (class p ones) ≡ followed s side (quorum p (if side then ones else zeros))
step_follows p s true zeros ones good h t =
    let other : class p zeros ≡ Low = few p zeros (omega (arith, ltb-false ones p.alpha_preference t, good.majority)) in
    (λ i. voted s (other i) (is_quorum p ones t i)) ∙ follows s true (nat_le p.alpha_confidence ones)
step_follows p s false zeros ones good h t =
    let other : class p ones ≡ Low = few p ones (omega (arith, ltb-false zeros p.alpha_preference t, good.majority)) in
    (λ i. voted s (is_quorum p zeros t i) (other i)) ∙ follows s false (nat_le p.alpha_confidence zeros)

-- a bit step keeps the bound, where the second counter's votes are among those for its side of the first
pub kept : (p : Parameters) (upper lower : Counter) (side : Bool) (m0 m1 n0 n1 : ℕ) → AreGood p → m0 + m1 ≤ p.k
    → n0 ≤ (if side then m1 else m0) → n1 ≤ (if side then m1 else m0) → Bounds upper side lower
    → Bounds (stepped p upper m0 m1) side (stepped p lower n0 n1)
kept p (Decided bit) lower side m0 m1 n0 n1 good few zeros ones h = tt
kept p (Undecided s) (Decided bit) side m0 m1 n0 n1 good few zeros ones h = absurd h
kept p (Undecided s) (Undecided t) side m0 m1 n0 n1 good few zeros ones h =
    let all = if side then m1 else m0 in
    let upper = stepped p (Undecided s) m0 m1 in
    let next = voted t (class p n0) (class p n1) in
    let low = class_under p n0 all zeros in
    let high = class_under p n1 all ones in
    split_on (nat_lt all p.alpha_preference)
    (λ u. let none : class p all ≡ Low = rw u refl in
    still_bounded p upper side next good (after_lower t (class p n0) (class p n1) Low (subst (IsUnder (class p n0)) none low) (subst (IsUnder (class p n1)) none high)))
    (λ u. let c = quorum p all in
    let is : class p all ≡ c = is_quorum p all u in
    let less : next.confidence ≤ next_confidence c (beq s.flake side) s.confidence =
    omega (
      arith,
      after_lower t (class p n0) (class p n1) c (subst (IsUnder (class p n0)) is low) (subst (IsUnder (class p n1)) is high),
      after_upper c (beq s.flake side) s.confidence t.confidence h,
    )
    in
    subst (λ (a : Standing). Bounds (concluded p a) side (concluded p next)) (sym (step_follows p s side m0 m1 good few u))
    (decides_first p (followed s side c) next less))
