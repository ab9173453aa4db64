-- Lemmas on moves: what stands at a position after them, and how they are chained in classes of positions.
use Rattle.std.proofs.Common.{◌≡◌, ◌≢◌, ℕ, ◌+◌, ◌-◌, ◌<◌, ◌≤◌, ◌==◌, Bool, true, List, [], ◌∷◌, ◌++◌, length, get_or, set, map, replicate, ap, ◌∙◌, arith}
use Rattle.std.proofs.lemmas.Bool.{eq-eqb, eqb-true, ne_eqb}
use Rattle.std.proofs.lemmas.List.{length-map, length-replicate, length-set, map-append}
use Rattle.std.proofs.lemmas.Nat.{and_le_r}
use Rattle.snow_sample.specs.declared.shuffle.Move.{Move}
use Rattle.snow_sample.specs.Kept.Drawn.{class_of, classes_of, AreMoves, moved_to}
use Rattle.snow_sample.proofs.Chains.{chained_none, chained_more}
use Rattle.snow_sample.proofs.Walks.{IsSought, sought_begins, sought_on, sought_found, sought_nowhere}

-- ---- a walk of a position's class

-- the class of a move
abbrev class : ℕ → Move → ℕ
class mask m = class_of mask m.place

-- the number of the move before
abbrev before : Move → ℕ
before m = m.before

-- whether a move is to a position
abbrev is_to : ℕ → Move → Bool
is_to p m = m.place == p

-- a move to the position is in its class
one_class : (mask p : ℕ) (m : Move) → is_to p m ≡ true → class mask m ≡ class_of mask p
one_class mask p m is = ap (class_of mask) (eqb-true m.place p is)

-- a walk for the moves to a position came to a number
abbrev pub IsWalkTo : ℕ → List Move → ℕ → ℕ → Type 0
IsWalkTo mask moves p number = IsSought (class mask) (is_to p) (class_of mask p) moves number

-- each position has a class
pub within_classes : (mask : ℕ) (moves : List Move) (lasts : List ℕ) (p : ℕ) → AreMoves mask moves lasts → class_of mask p < length lasts
within_classes mask moves lasts p are = omega (arith, are.classes, and_le_r p mask)

-- it begins
pub walk_to : (mask : ℕ) (moves : List Move) (lasts : List ℕ) (p number : ℕ) → AreMoves mask moves lasts → number ≡ get_or lasts (class_of mask p) 0
    → IsWalkTo mask moves p number
walk_to mask moves lasts p number are is =
    sought_begins (class mask) before (is_to p) (class_of mask p) (one_class mask p) moves lasts number are.chained (within_classes mask moves lasts p are) is

-- it goes on
pub walk_past : (mask : ℕ) (moves : List Move) (lasts : List ℕ) (p number : ℕ) (m : Move) → AreMoves mask moves lasts → IsWalkTo mask moves p number
    → 0 < number → m ≡ get_or moves (number - 1) m → m.place ≢ p → IsWalkTo mask moves p m.before × (m.before < number)
walk_past mask moves lasts p number m are walked some is other =
    sought_on (class mask) before (is_to p) (class_of mask p) (one_class mask p) moves lasts number m are.chained walked some is (ne_eqb m.place p other)

-- it finds what stands there
pub walk_finds : (mask : ℕ) (moves : List Move) (p number : ℕ) (m : Move) → IsWalkTo mask moves p number → 0 < number
    → m ≡ get_or moves (number - 1) m → m.place ≡ p → m.unit ≡ moved_to p p moves
walk_finds mask moves p number m walked some is to =
    sought_found (class mask) (is_to p) (λ m. m.unit) p (class_of mask p) moves number m walked some is (eq-eqb m.place p to)

-- or ends
pub walk_ends : (mask : ℕ) (moves : List Move) (p number : ℕ) → IsWalkTo mask moves p number → number ≤ 0 → p ≡ moved_to p p moves
walk_ends mask moves p number walked none = sought_nowhere (class mask) (is_to p) (λ m. m.unit) p (class_of mask p) moves number walked none

-- ---- the moves that are kept

-- no moves are chained to none
pub moves_none : (mask : ℕ) (lasts : List ℕ) → lasts ≡ replicate (mask + 1) 0 → AreMoves mask [] lasts
moves_none mask lasts none =
    let nothing : ℕ = 0 in
    rw none (record { classes = length-replicate (mask + 1) nothing; chained = chained_none (mask + 1) })

-- a move more
pub moves_more : (mask : ℕ) (moves : List Move) (lasts : List ℕ) (m : Move) → AreMoves mask moves lasts → m.before ≡ get_or lasts (class_of mask m.place) 0
    → AreMoves mask (moves ++ m ∷ []) (set lasts (class_of mask m.place) (length moves + 1))
moves_more mask moves lasts m are first =
    let classes = are.classes in
    let many : length (classes_of mask moves) ≡ length moves = length-map moves (class mask) in
    record {
      classes = length-set lasts (class mask m) (length moves + 1) ∙ classes;
      chained = rw (map-append (class mask) moves (m ∷ []), map-append before moves (m ∷ []), first, ← many)
          (chained_more (classes_of mask moves) (map before moves) lasts (class mask m) are.chained (within_classes mask moves lasts m.place are));
    }

-- ---- the list of the first positions
