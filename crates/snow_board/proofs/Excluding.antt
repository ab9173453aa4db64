-- Lemmas on which bit lists are excluded before and after a poll or an issue, and where counters then stand.
use Rattle.std.proofs.Common.{◌≡◌, ℕ, suc, Bool, true, false, not, ◌&&◌, List, [], ◌∷◌, length, is_some, nat_lt, refl, sym, ◌∙◌, arith}
use Rattle.std.specs.Bool.{beq}
use Rattle.std.specs.List.{starts_with}
use Rattle.std.proofs.lemmas.Bool.{or_right, and_right, lt-ltb, le-ltb, ltb-true, ltb-false}
use Rattle.snow_flake.specs.Model.Parameters.{Parameters}
use Rattle.snow_flake.specs.Model.Counter.{Counter, Decided, Undecided, stepped, admits}
use Rattle.snow_board.specs.Model.Conflict.{Counters, Blank, At, counter_at, with_child, all_polled}
use Rattle.snow_board.specs.Laws.Excluded.{is_excluded}
use Rattle.snow_board.specs.Laws.PointwiseLaw.{stepped_at, fresh_at}
use Rattle.snow_board.proofs.Cases.{split_on}

-- after a poll those lists are excluded that the stepped counters exclude
pub excluded_polled : (p : Parameters) (votes : List Bool → ℕ) (counters : Counters) (place : List Bool)
    → is_excluded (counter_at (all_polled p votes counters)) place ≡ is_excluded (stepped_at p votes counters) place
unfolding all_polled
excluded_polled p votes Blank place = refl
excluded_polled p votes (At c z o) [] = refl
excluded_polled p votes (At c z o) (false ∷ rest) =
    split_on (admits (stepped p c (votes (false ∷ [])) (votes (true ∷ []))) false)
    (λ t. rw t (excluded_polled p (λ front. votes (false ∷ front)) z rest))
    (λ t. rw t refl)
excluded_polled p votes (At c z o) (true ∷ rest) =
    split_on (admits (stepped p c (votes (false ∷ [])) (votes (true ∷ []))) true)
    (λ t. rw t (excluded_polled p (λ front. votes (true ∷ front)) o rest))
    (λ t. rw t refl)

-- a side that is closed stays so
pub closed_stays : (p : Parameters) (c : Counter) (m n : ℕ) (b : Bool) → admits c b ≡ false → admits (stepped p c m n) b ≡ false
closed_stays p (Decided bit) m n b h = h
closed_stays p (Undecided s) m n b h = cc

-- what is excluded stays so
pub excluded_stays : (p : Parameters) (votes : List Bool → ℕ) (counters : Counters) (place : List Bool)
    → is_excluded (counter_at counters) place ≡ true → is_excluded (stepped_at p votes counters) place ≡ true
excluded_stays p votes Blank place h = h
excluded_stays p votes (At c z o) [] h = h
excluded_stays p votes (At c z o) (false ∷ rest) h =
    let next = stepped p c (votes (false ∷ [])) (votes (true ∷ [])) in
    split_on (admits c false)
    (λ t. let k = rw t at h in
    or_right (not (admits next false)) (is_excluded (stepped_at p (λ front. votes (false ∷ front)) z) rest) (excluded_stays p (λ front. votes (false ∷ front)) z rest k))
    (λ t. rw (closed_stays p c (votes (false ∷ [])) (votes (true ∷ [])) false t) refl)
excluded_stays p votes (At c z o) (true ∷ rest) h =
    let next = stepped p c (votes (false ∷ [])) (votes (true ∷ [])) in
    split_on (admits c true)
    (λ t. let k = rw t at h in
    or_right (not (admits next true)) (is_excluded (stepped_at p (λ front. votes (true ∷ front)) o) rest) (excluded_stays p (λ front. votes (true ∷ front)) o rest k))
    (λ t. rw (closed_stays p c (votes (false ∷ [])) (votes (true ∷ [])) true t) refl)

-- fresh counters exclude nothing
pub excluded_grown : (child : List Bool) (counters : Counters) (place : List Bool)
    → is_excluded (counter_at (with_child child counters)) place ≡ is_excluded (counter_at counters) place
unfolding with_child
excluded_grown [] counters place = refl
excluded_grown (false ∷ rest) Blank [] = refl
excluded_grown (true ∷ rest) Blank [] = refl
excluded_grown (false ∷ rest) Blank (false ∷ place) = excluded_grown rest Blank place
excluded_grown (true ∷ rest) Blank (true ∷ place) = excluded_grown rest Blank place
excluded_grown (false ∷ rest) Blank (true ∷ place) = refl
excluded_grown (true ∷ rest) Blank (false ∷ place) = refl
excluded_grown (false ∷ rest) (At c z o) [] = refl
excluded_grown (true ∷ rest) (At c z o) [] = refl
excluded_grown (false ∷ rest) (At c z o) (true ∷ place) = refl
excluded_grown (true ∷ rest) (At c z o) (false ∷ place) = refl
excluded_grown (false ∷ rest) (At c z o) (false ∷ place) = split_on (admits c false) (λ t. rw t (excluded_grown rest z place)) (λ t. rw t refl)
excluded_grown (true ∷ rest) (At c z o) (true ∷ place) = split_on (admits c true) (λ t. rw t (excluded_grown rest o place)) (λ t. rw t refl)

-- one more on both sides
lt_more : (a b : ℕ) → nat_lt (suc a) (suc b) ≡ nat_lt a b
lt_more a b =
    split_on (nat_lt a b)
    (λ t. lt-ltb (suc a) (suc b) (omega (arith, ltb-true a b t)) ∙ sym t)
    (λ t. le-ltb (suc a) (suc b) (omega (arith, ltb-false a b t)) ∙ sym t)

-- a fresh counter may stand at the proper fronts of a child's bits
pub fresh_front : (child place : List Bool) → is_some (fresh_at child place) ≡ (nat_lt (length place) (length child) && starts_with beq child place)
fresh_front [] [] = refl
fresh_front (b ∷ child) [] = rw (lt-ltb 0 (suc (length child)) (omega arith)) refl
fresh_front [] (a ∷ place) = sym (and_right (nat_lt (suc (length place)) 0) false refl)
fresh_front (b ∷ child) (a ∷ place) =
    split_on (beq a b)
    (λ t. rw (t, lt_more (length place) (length child)) (fresh_front child place))
    (λ t. rw t (sym (and_right (nat_lt (suc (length place)) (suc (length child))) false refl)))
