-- Lemmas on who was put on a rung of a ladder, one after the other.
use Rattle.std.proofs.Common.{◌≡◌, ℕ, zero, suc, ◌-◌, ◌<◌, ◌≤◌, ◌==◌, true, false, List, [], ◌∷◌, ◌++◌, length, get_or, refl, sym, ap, ◌∙◌, arith, length-append, if◌then◌else◌}
use Rattle.std.proofs.Math.Seq.{get_or-append_seam}
use Rattle.std.proofs.lemmas.Grind.{common_steps}
use Rattle.std.proofs.lemmas.List.{get_or_append_left}
use Rattle.snow_board.proofs.Cases.{split_on}
use Rattle.snow_climb.specs.declared.ladder.Link.{Link}
use Rattle.snow_climb.specs.Kept.Ladder.{no_link, latest, group, chain, AreLinked}

-- numbers that are found equal, and those that aren't
pub same_nat : (a b : ℕ) → (a == b) ≡ true → a ≡ b
same_nat a b h = grind (arith, common_steps)

pub nat_same : (a b : ℕ) → a ≡ b → (a == b) ≡ true
nat_same a b h = grind (arith, common_steps)

pub nat_other : (a b : ℕ) → (a ≡ b → ⊥) → (a == b) ≡ false
nat_other a b h = grind (arith, common_steps)

-- ---- who was put on a rung last

-- stands among those that are asked
pub latest_within : (links : List Link) (n place : ℕ) → latest links n place ≤ n
latest_within links zero place = omega arith
latest_within links (suc n) place =
    split_on ((get_or links n no_link).climber.place == place)
    (λ t. rw t (omega arith))
    (λ t. rw t (omega (arith, latest_within links n place)))

-- where none looks for the place there is none
pub latest_none : (links : List Link) (n place : ℕ) → ((i : ℕ) → i < n → (get_or links i no_link).climber.place ≡ place → ⊥) → latest links n place ≡ 0
latest_none links zero place none = refl
latest_none links (suc n) place none =
    rw (nat_other (get_or links n no_link).climber.place place (none n (omega arith))) (latest_none links n place (λ i h. none i (omega (arith, h))))

-- those that are put on later change nothing
pub latest_before : (links : List Link) (l : Link) (n place : ℕ) → n ≤ length links → latest (links ++ l ∷ []) n place ≡ latest links n place
latest_before links l zero place h = refl
latest_before links l (suc n) place h =
    let here = get_or_append_left links (l ∷ []) no_link n (omega (arith, h)) in
    (λ j. if (here j).climber.place == place then suc n else latest (links ++ l ∷ []) n place)
    ∙ ap (λ m. if (get_or links n no_link).climber.place == place then suc n else m) (latest_before links l n place (omega (arith, h)))

-- one more
pub latest_more : (links : List Link) (l : Link) (place : ℕ) → latest (links ++ l ∷ []) (length (links ++ l ∷ [])) place ≡ (if l.climber.place == place then suc (length links) else latest links (length links) place)
latest_more links l place =
    let long : length (links ++ l ∷ []) ≡ suc (length links) = omega (arith, length-append links (l ∷ [])) in
    ap (λ n. latest (links ++ l ∷ []) n place) long
    ∙ (λ j. if (get_or-append_seam links l [] no_link j).climber.place == place then suc (length links) else latest (links ++ l ∷ []) (length links) place)
    ∙ ap (λ m. if l.climber.place == place then suc (length links) else m) (latest_before links l (length links) place (omega arith))

-- ---- all that were put on a rung

-- where none looks for the place there is none
pub group_none : (links : List Link) (n place : ℕ) → ((i : ℕ) → i < n → (get_or links i no_link).climber.place ≡ place → ⊥) → group links n place ≡ []
group_none links zero place none = refl
group_none links (suc n) place none =
    rw (nat_other (get_or links n no_link).climber.place place (none n (omega arith))) (group_none links n place (λ i h. none i (omega (arith, h))))

-- those that are put on later change nothing
group_before : (links : List Link) (l : Link) (n place : ℕ) → n ≤ length links → group (links ++ l ∷ []) n place ≡ group links n place
group_before links l zero place h = refl
group_before links l (suc n) place h =
    let here = get_or_append_left links (l ∷ []) no_link n (omega (arith, h)) in
    (λ j. if (here j).climber.place == place then (here j).climber ∷ group (links ++ l ∷ []) n place else group (links ++ l ∷ []) n place)
    ∙ ap (λ m. if (get_or links n no_link).climber.place == place then (get_or links n no_link).climber ∷ m else m) (group_before links l n place (omega (arith, h)))

pub chain_before : (links : List Link) (l : Link) (number : ℕ) → number ≤ length links → chain (links ++ l ∷ []) number ≡ chain links number
chain_before links l zero h = refl
chain_before links l (suc i) h =
    let here = get_or_append_left links (l ∷ []) no_link i (omega (arith, h)) in
    (λ j. group (links ++ l ∷ []) (suc i) (here j).climber.place) ∙ group_before links l (suc i) (get_or links i no_link).climber.place h

-- one more
pub group_more : (links : List Link) (l : Link) (place : ℕ) → group (links ++ l ∷ []) (length (links ++ l ∷ [])) place ≡ (if l.climber.place == place then l.climber ∷ group links (length links) place else group links (length links) place)
group_more links l place =
    let long : length (links ++ l ∷ []) ≡ suc (length links) = omega (arith, length-append links (l ∷ [])) in
    let own = get_or-append_seam links l [] no_link in
    ap (λ n. group (links ++ l ∷ []) n place) long
    ∙ (λ j. if (own j).climber.place == place then (own j).climber ∷ group (links ++ l ∷ []) (length links) place else group (links ++ l ∷ []) (length links) place)
    ∙ ap (λ m. if l.climber.place == place then l.climber ∷ m else m) (group_before links l (length links) place (omega arith))

-- the chain up to the last one has them all
pub chain_latest : (links : List Link) (n place : ℕ) → chain links (latest links n place) ≡ group links n place
chain_latest links zero place = refl
chain_latest links (suc n) place =
    split_on ((get_or links n no_link).climber.place == place)
    (λ t.
    let last : latest links (suc n) place ≡ suc n = rw t refl in
    ap (chain links) last ∙ ap (group links (suc n)) (same_nat (get_or links n no_link).climber.place place t))
    (λ t.
    let own : group links (suc n) place ≡ group links n place = rw t refl in
    let last : latest links (suc n) place ≡ latest links n place = rw t refl in
    ap (chain links) last ∙ chain_latest links n place ∙ sym own)

-- the last one, and then those before it
pub chain_next : (links : List Link) (number : ℕ) → AreLinked links → 0 < number → number ≤ length links
    → chain links number ≡ (get_or links (number - 1) no_link).climber ∷ chain links (get_or links (number - 1) no_link).next
chain_next links number linked some within =
    let i = number - 1 in
    let x = get_or links i no_link in
    let is : number ≡ suc i = omega (arith, some) in
    let inside : i < length links = omega (arith, some, within) in
    let here : group links (suc i) x.climber.place ≡ x.climber ∷ group links i x.climber.place = rw (nat_same x.climber.place x.climber.place refl) refl in
    let rest : chain links x.next ≡ group links i x.climber.place = ap (chain links) (linked i inside) ∙ chain_latest links i x.climber.place in
    ap (chain links) is ∙ here ∙ ap (λ l. x.climber ∷ l) (sym rest)

-- which stand lower
pub next_falls : (links : List Link) (number : ℕ) → AreLinked links → 0 < number → number ≤ length links → (get_or links (number - 1) no_link).next < number
next_falls links number linked some within =
    omega (arith, some, linked (number - 1) (omega (arith, some, within)), latest_within links (number - 1) (get_or links (number - 1) no_link).climber.place)
