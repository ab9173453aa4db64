-- Lemmas on the slots of nodes: no two nodes are the same, and each slot has the place of its node's draws.
use Rattle.std.proofs.Common.{◌≡◌, ◌≢◌, ℕ, zero, suc, ◌+◌, ◌-◌, ◌^◌, ◌<◌, ◌≤◌, Bool, true, false, cond, List, [], ◌∷◌, ◌++◌, length, get_or, set, None, Some, Option, All, refl, sym, ap, ◌∙◌, arith, inl, inr}
use Rattle.std.specs.Option.{option_map, option_or}
use Rattle.std.specs.Str.{bytes_eq}
use Rattle.std.proofs.lemmas.Bool.{cases_eq, cases_lt, both_ways, cond-true, cond-false, false_from_ne_true}
use Rattle.std.proofs.lemmas.List.{get_or_append_left, get_or_default, get_or_read, get_or-set_same, get_or-set_other, length-append, length-set}
use Rattle.std.proofs.lemmas.List.Elements.{All-head, All-tail}
use Rattle.std.proofs.lemmas.List.Folds.{list_any_at}
use Rattle.std.proofs.lemmas.List.Sums.{sum_by-cons}
use Rattle.std.proofs.lemmas.Slice.Eq.{bytes_eq-Decides}
use Rattle.std.proofs.Math.Seq.{get_or-append_seam}
use Rattle.snow_sample.specs.declared.draws.Draw.{Draw}
use Rattle.snow_sample.specs.declared.roster.Node.{Node}
use Rattle.snow_sample.specs.declared.roster.RosterFault.{RosterFault}
use Rattle.snow_sample.specs.declared.roster.RosterFault.TheVariants as faults
use Rattle.snow_sample.specs.Kept.Drawn.{place, is_at, one_more, HasSlots}
use Rattle.snow_sample.specs.Model.Roster.{has_node, repeated_behind, first_repeated, none_fault, first_fault}
use Rattle.snow_sample.specs.Model.Sampling.{counted, draw_count}
use Rattle.snow_sample.proofs.Counting.{counted_at, counted_new, count_more, no_place, place_there, place_new, place_kept}

-- ---- no node stands twice

-- where no node of the rest stands earlier too, the first of them is new, and no other does
apart : (seen : Bool) (id : List ℕ) (later : Option (List ℕ)) → cond seen (Some id) later ≡ None → (seen ≡ false) × (later ≡ None)
apart true id later none = absurd (cc)
apart false id later none = (refl, none)

-- a node of the rest is none of the earlier ones
new_to : (earlier nodes : List Node) (i k : ℕ) (m n : Node) → repeated_behind earlier nodes ≡ None → i < length earlier → k < length nodes
    → (get_or earlier i m).id ≢ (get_or nodes k n).id
new_to earlier [] i k m n none low high same = absurd (omega arith)
new_to earlier (first ∷ nodes) i zero m n none low high same =
    let new = apart (has_node earlier first.id) first.id (repeated_behind (earlier ++ first ∷ []) nodes) none in
    both_ways (has_node earlier first.id) new.0
    (list_any_at (λ x. bytes_eq x.id first.id) earlier i m low ((bytes_eq-Decides (get_or earlier i m).id first.id).1 same))
new_to earlier (first ∷ nodes) i (suc k) m n none low high same =
    let new = apart (has_node earlier first.id) first.id (repeated_behind (earlier ++ first ∷ []) nodes) none in
    let more : length (earlier ++ first ∷ []) ≡ length earlier + 1 = length-append earlier (first ∷ []) in
    new_to (earlier ++ first ∷ []) nodes i k m n new.1 (omega arith) (omega arith)
    (ap (λ (x : Node). x.id) (get_or_append_left earlier (first ∷ []) m i low) ∙ same)

-- no two of the rest are the same
differ_behind : (earlier nodes : List Node) (i k : ℕ) (m n : Node) → repeated_behind earlier nodes ≡ None → i < k → k < length nodes
    → (get_or nodes i m).id ≢ (get_or nodes k n).id
differ_behind earlier [] i k m n none less high same = absurd (omega arith)
differ_behind earlier (first ∷ nodes) zero zero m n none less high same = absurd (omega arith)
differ_behind earlier (first ∷ nodes) (suc i) zero m n none less high same = absurd (omega arith)
differ_behind earlier (first ∷ nodes) zero (suc k) m n none less high same =
    let new = apart (has_node earlier first.id) first.id (repeated_behind (earlier ++ first ∷ []) nodes) none in
    let more : length (earlier ++ first ∷ []) ≡ length earlier + 1 = length-append earlier (first ∷ []) in
    new_to (earlier ++ first ∷ []) nodes (length earlier) k m n new.1 (omega arith) (omega arith)
    (ap (λ (x : Node). x.id) (get_or-append_seam earlier first [] m) ∙ same)
differ_behind earlier (first ∷ nodes) (suc i) (suc k) m n none less high same =
    let new = apart (has_node earlier first.id) first.id (repeated_behind (earlier ++ first ∷ []) nodes) none in
    differ_behind (earlier ++ first ∷ []) nodes i k m n new.1 (omega arith) (omega arith) same

-- neither of two faults is there
neither : (first rest : Option RosterFault) → option_or first rest ≡ None → (first ≡ None) × (rest ≡ None)
neither None rest none = (refl, none)
neither (Some fault) rest none = absurd (cc)

-- nothing is mapped to nothing
none_mapped : (o : Option (List ℕ)) → option_map faults.Duplicate o ≡ None → o ≡ None
none_mapped None none = refl
none_mapped (Some id) none = absurd (cc)

-- no two nodes of a roster are the same
pub nodes_differ : (nodes : List Node) (i k : ℕ) (m n : Node) → first_fault nodes ≡ None → i ≢ k → i < length nodes → k < length nodes
    → (get_or nodes i m).id ≢ (get_or nodes k n).id
nodes_differ nodes i k m n good apart within_i within_k same =
    let behind = neither (none_fault nodes) _ good in
    let repeated = neither (option_map faults.Duplicate (first_repeated nodes)) _ behind.1 in
    let none : repeated_behind [] nodes ≡ None = none_mapped (first_repeated nodes) repeated.0 in
    elim (cases_lt i k) [
      | inl less ↦ differ_behind [] nodes i k m n none less within_k same
      | inr more ↦ differ_behind [] nodes k i n m none (omega arith) within_i (sym same)
    ]

-- ---- slots

-- the places after a node's first draw
slots_new : (nodes : List Node) (slots : List ℕ) (draws : List Draw) (i : ℕ) (n : Node) → HasSlots nodes slots draws → first_fault nodes ≡ None
    → i < length nodes → place draws (get_or nodes i n).id ≡ None
    → HasSlots nodes (set slots i (length draws)) (draws ++ record { node = (get_or nodes i n).id; count = 1 } ∷ [])
slots_new nodes slots draws i n has good h none =
    let id = (get_or nodes i n).id in
    let last = length draws in
    let each = has.each in
    record {
      each = omega (arith, length-set slots i last);
      places = λ k at m within is.
          let other = (get_or nodes k m).id in
          elim (cases_eq k i) [
            | inl here ↦
                let same : id ≡ other = ap (λ p. (get_or nodes p n).id) (sym here) ∙ ap (λ (x : Node). x.id) (get_or_default nodes k n m within) in
                let end : Some last ≡ Some at = sym (place_new draws id other none ∙ cond-true _ (Some last) (place draws other) ((bytes_eq-Decides id other).1 same)) ∙ is in
                let one : last ≡ at = cc in
                ap (λ p. get_or (set slots i last) p 0) here ∙ get_or-set_same slots i last 0 (omega arith) ∙ one
            | inr there ↦
                let before : place draws other ≡ Some at = sym (place_new draws id other none
                ∙ cond-false _ (Some last) (place draws other)
                (false_from_ne_true (bytes_eq id other) (λ eq. nodes_differ nodes i k n m good (λ e. there (sym e)) h within ((bytes_eq-Decides id other).0 eq)))) ∙ is in
                get_or-set_other slots i k last 0 there ∙ has.places k at m within before
          ];
    }

-- there are no more nodes than draws
pub few_places : (draws : List Draw) → All (λ d. 1 ≤ d.count) draws → length draws ≤ draw_count draws
few_places [] all = omega arith
few_places (d ∷ draws) all =
    omega (arith, sum_by-cons (λ (x : Draw). x.count) d draws, All-head (λ (x : Draw). 1 ≤ x.count) d draws all, few_places draws (All-tail (λ (x : Draw). 1 ≤ x.count) d draws all))

-- a draw more of a node that was drawn: its slot has the place
pub drawn_again : (nodes : List Node) (slots : List ℕ) (draws : List Draw) (i slot : ℕ) (id : List ℕ) → HasSlots nodes slots draws → i < length nodes
    → ((n : Node) → (get_or nodes i n).id ≡ id) → (most : ℕ) → slot ≤ most → most ≡ get_or slots i most → is_at draws slot id ≡ true
    → (slot < length draws) × (one_more draws slot ≡ counted draws id) × HasSlots nodes slots (one_more draws slot)
drawn_again nodes slots draws i slot id has h named most low is there =
    let n : Node = record { id = id; weight = 0 } in
    let read : most ≡ get_or slots i 0 = get_or_read slots i most (omega (arith, has.each)) is 0 in
    let first = place_there draws slot id there in
    let kept : most ≡ first.0 = read ∙ has.places i first.0 n h (ap (place draws) (named n) ∙ first.1) in
    let at : slot ≡ first.0 = omega (arith, kept, low, first.2) in
    let placed : place draws id ≡ Some slot = first.1 ∙ ap Some (sym at) in
    let at_place = counted_at draws id slot placed in (
      at_place.0,
      sym at_place.1,
      record { each = has.each; places = λ k p m within was. has.places k p m within (sym (place_kept draws slot (get_or nodes k m).id) ∙ was) },
    )

-- the first draw of a node: it stands at the end, and its slot has that place
pub drawn_first : (nodes : List Node) (slots : List ℕ) (draws more : List Draw) (i slot most : ℕ) (n : Node) → HasSlots nodes slots draws
    → first_fault nodes ≡ None → i < length nodes → most ≡ get_or slots i most → (most < length draws → slot ≡ most)
    → is_at draws slot (get_or nodes i n).id ≡ false
    → more ≡ draws ++ record { node = (get_or nodes i n).id; count = 1 } ∷ []
    → (more ≡ counted draws (get_or nodes i n).id) × HasSlots nodes (set slots i (length more - 1)) more
drawn_first nodes slots draws more i slot most n has good h is clamped other all =
    let id = (get_or nodes i n).id in
    let read : most ≡ get_or slots i 0 = get_or_read slots i most (omega (arith, has.each)) is 0 in
    let kept : (at : ℕ) → place draws id ≡ Some at → slot ≡ at = λ at was.
    let here : most ≡ at = read ∙ has.places i at n h was in
    clamped (omega (arith, here, (counted_at draws id at was).0)) ∙ here in
    let free : place draws id ≡ None = no_place draws slot id other kept in
    let long : length more - 1 ≡ length draws =
    omega (arith, ap (λ (l : List Draw). length l) all, length-append draws (record { node = id; count = 1 } ∷ [])) in (
      all ∙ sym (counted_new draws id free),
      rw (long, all) (slots_new nodes slots draws i n has good h free),
    )

-- the draws of which the last is new are few enough for a slot
pub few_drawn : (draws more : List Draw) (id : List ℕ) → more ≡ counted draws id → draw_count draws + 1 < 2 ^ 32 → All (λ d. 1 ≤ d.count) more → length more < 2 ^ 32
few_drawn draws more id is few all = omega (arith, few_places more all, ap draw_count is, count_more draws id)
