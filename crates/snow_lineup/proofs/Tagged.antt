-- Lemmas on the index of a lineup: places and keys, and the rows in which they stand.
use Rattle.std.proofs.Common.{◌≡◌, ℕ, ◌<◌, ◌≤◌, ◌+◌, ◌-◌, zero, suc, Bool, true, false, ◌||◌, cond, List, [], ◌∷◌, ◌++◌, map, take, drop, length, get_or, set, All, refl, sym, ap, ◌∙◌, subst, arith, ⊎_elim}
use Rattle.std.specs.List.{AllPairs, remove}
use Rattle.std.specs.Str.{bytes_eq}
use Rattle.std.proofs.lemmas.Bool.{eq-eqb, ne_eqb, cases_lt}
use Rattle.std.proofs.lemmas.List.{get_or_default, get_or-map, length-map, map-append, take-map, drop-map, map-set}
use Rattle.std.proofs.lemmas.List.Edits.{length-remove, get_or-remove_below, get_or-remove_above}
use Rattle.std.proofs.lemmas.List.Elements.{All-push, All-append, All-take, All-drop}
use Rattle.std.proofs.lemmas.List.Quantifiers.{all_pairs_push, all_pairs_remove}
use Rattle.snow_lineup.specs.declared.lineup.Slot.{Slot}
use Rattle.snow_lineup.specs.declared.marks.Mark.{Mark}
use Rattle.snow_lineup.specs.Kept.Index.{RowMap, row_of, has_place, left_by, tag_of, seat_of, IsIndexed}
use Rattle.snow_lineup.proofs.Noted.{has_pushed, has_left, none_left}
use Rattle.snow_map.proofs.Lists.{id_itself, id_turned}
use Rattle.snow_map.proofs.Booleans.{or_false, or_true}

abbrev pub Tag : Type 0
Tag = ℕ × List ℕ

-- ---- lists

pub All_remove : {X : Type 0} (P : X → Type 0) (xs : List X) (at : ℕ) → All P xs → All P (remove xs at)
All_remove P xs at h = All-append P (take at xs) (drop (suc at) xs) (All-take P at xs h) (All-drop P (suc at) xs h)

pub map_remove : {X Y : Type 0} (f : X → Y) (xs : List X) (at : ℕ) → map f (remove xs at) ≡ remove (map f xs) at
map_remove f xs at =
    map-append f (take at xs) (drop (suc at) xs)
    ∙ ap (λ l. l ++ map f (drop (suc at) xs)) (sym (take-map f at xs))
    ∙ ap (λ l. take at (map f xs) ++ l) (sym (drop-map f (suc at) xs))

pub All_unmap : {X Y : Type 0} (P : Y → Type 0) (f : X → Y) (xs : List X) → All P (map f xs) → All (λ x. P (f x)) xs
All_unmap P f xs h k d within = subst P (get_or-map f xs k d (f d) within) (h k (f d) (omega (arith, length-map xs f, within)))

pub AllPairs_unmap : {X Y : Type 0} (R : Y → Y → Type 0) (f : X → Y) (xs : List X) → AllPairs R (map f xs) → AllPairs (λ x y. R (f x) (f y)) xs
AllPairs_unmap R f xs h i j d less within =
    subst (λ a. R a (f (get_or xs j d))) (get_or-map f xs i d (f d) (omega (arith, less, within)))
    (subst (λ b. R (get_or (map f xs) i (f d)) b) (get_or-map f xs j d (f d) within) (h i j (f d) less (omega (arith, length-map xs f, within))))

-- ---- the same items in the same places

-- another mark changes no tag
pub tags_set : {T : Type 0} (key : T → List ℕ) (slots : List (Slot T)) (at : ℕ) (s : Slot T) (mark : Mark) → s ≡ get_or slots at s
    → map (tag_of key) (set slots at (record { place = s.place; mark = mark; item = s.item })) ≡ map (tag_of key) slots
tags_set key [] at s mark is = refl
tags_set key (x ∷ slots) zero s mark is = ap (λ (x : Slot _). tag_of key x ∷ map (tag_of key) slots) is
tags_set key (x ∷ slots) (suc at) s mark is = ap (λ l. tag_of key x ∷ l) (tags_set key slots at s mark is)

pub seats_set : {T : Type 0} (slots : List (Slot T)) (at : ℕ) (s : Slot T) → map seat_of (set slots at s) ≡ set (map seat_of slots) at (seat_of s)
seats_set slots at s = map-set seat_of slots at s

-- ---- one item more

other_pushed : (b : Bool) (row : List ℕ) (next place : ℕ) → place < next → has_place place (cond b (row ++ next ∷ []) row) ≡ has_place place row
other_pushed true row next place low = has_pushed row next place ∙ ap (λ b. has_place place row || b) (ne_eqb next place (λ e. absurd (omega (arith, e, low)))) ∙ or_false (has_place place row)
other_pushed false row next place low = refl

itself_pushed : (b : Bool) (row : List ℕ) (next : ℕ) → has_place next row ≡ false → has_place next (cond b (row ++ next ∷ []) row) ≡ b
itself_pushed true row next h = has_pushed row next next ∙ ap (λ b. has_place next row || b) (eq-eqb next next refl) ∙ or_true (has_place next row)
itself_pushed false row next h = h

above_pushed : (b : Bool) (row : List ℕ) (next place : ℕ) → next + 1 ≤ place → has_place place row ≡ false → has_place place (cond b (row ++ next ∷ []) row) ≡ false
above_pushed true row next place high h = has_pushed row next place ∙ ap (λ b. has_place place row || b) (ne_eqb next place (λ e. absurd (omega (arith, e, high)))) ∙ or_false (has_place place row) ∙ h
above_pushed false row next place high h = h

pub indexed_push : (tags : List Tag) (before now : RowMap) (next : ℕ) (key : List ℕ) → IsIndexed tags before next
    → ((q : List ℕ) → row_of now q ≡ cond (bytes_eq key q) (row_of before q ++ next ∷ []) (row_of before q))
    → IsIndexed (tags ++ (next, key) ∷ []) now (next + 1)
indexed_push tags before now next key is change =
    let new : Tag = (next, key) in
    let old_place : (place : ℕ) (id : List ℕ) → place < next → has_place place (row_of now id) ≡ has_place place (row_of before id) =
    λ place id low. ap (has_place place) (change id) ∙ other_pushed (bytes_eq key id) (row_of before id) next place low in
    record {
      rising = all_pairs_push (λ (a : Tag) (b : Tag). a.0 < b.0) tags new is.rising is.below;
      below = All-push (λ (t : Tag). t.0 < next + 1) tags new (λ k d h. omega (arith, is.below k d h)) (omega arith);
      found = All-push (λ (t : Tag). (id : List ℕ) → has_place t.0 (row_of now id) ≡ bytes_eq id t.1) tags new
          (λ k d h id. old_place (get_or tags k d).0 id (is.below k d h) ∙ is.found k d h id)
          (λ id. ap (has_place next) (change id) ∙ itself_pushed (bytes_eq key id) (row_of before id) next (is.unused id next (omega arith)) ∙ id_turned key id);
      unused = λ id place high. ap (has_place place) (change id) ∙ above_pushed (bytes_eq key id) (row_of before id) next place high (is.unused id place (omega (arith, high)));
    }

-- rows that are the same by key
pub indexed_same : (tags : List Tag) (before now : RowMap) (next : ℕ) → IsIndexed tags before next → ((q : List ℕ) → row_of now q ≡ row_of before q) → IsIndexed tags now next
indexed_same tags before now next is same = record {
  rising = is.rising;
  below = is.below;
  found = λ k d within id. ap (has_place (get_or tags k d).0) (same id) ∙ is.found k d within id;
  unused = λ id place high. ap (has_place place) (same id) ∙ is.unused id place high;
}

pub indexed_nothing : (rows : RowMap) → ((q : List ℕ) → row_of rows q ≡ []) → IsIndexed [] rows 0
indexed_nothing rows empty = record {
  rising = λ i j d less within. absurd (omega (arith, within));
  below = λ k d within. absurd (omega (arith, within));
  found = λ k d within id. absurd (omega (arith, within));
  unused = λ id place high. ap (has_place place) (empty id);
}

-- the place of an item stands in the row of its key
pub has_own_place : {T : Type 0} (key : T → List ℕ) (slots : List (Slot T)) (rows : RowMap) (next at : ℕ) (s : Slot T) → at < length slots → s ≡ get_or slots at s
    → IsIndexed (map (tag_of key) slots) rows next → has_place s.place (row_of rows (key s.item)) ≡ true
has_own_place {T} key slots rows next at s there is indexed =
    let found = All_unmap (λ (t : Tag). (q : List ℕ) → has_place t.0 (row_of rows q) ≡ bytes_eq q t.1) (tag_of key) slots indexed.found in
    ap (λ (s : Slot T). has_place s.place (row_of rows (key s.item))) is ∙ found at s there (key (get_or slots at s).item) ∙ id_itself (key (get_or slots at s).item)

-- ---- one item less

place_apart : (tags : List Tag) (at k : ℕ) (d : Tag) → AllPairs (λ a b. a.0 < b.0) tags → at < length tags → k < length (remove tags at)
    → (get_or (remove tags at) k d).0 ≡ (get_or tags at d).0 → ⊥
place_apart tags at k d rising there within same =
    ⊎_elim
    (λ (low : k < at).
    let less = rising k at d low there in
    let e = ap (λ (t : Tag). t.0) (get_or-remove_below tags at d k low there) in
    omega (arith, less, e, same))
    (λ (high : at ≤ k).
    let long : k + 1 < length tags = omega (arith, length-remove tags at there, within) in
    let less = rising at (k + 1) d (omega (arith, high)) long in
    let e = ap (λ (t : Tag). t.0) (get_or-remove_above tags at d k high there) in
    omega (arith, less, e, same))
    (cases_lt k at)

pub other_left : (b : Bool) (row : List ℕ) (gone place : ℕ) → (place ≡ gone → ⊥) → has_place place (cond b (left_by gone row) row) ≡ has_place place row
other_left true row gone place apart = has_left row gone place apart
other_left false row gone place apart = refl

pub unused_left : (b : Bool) (row : List ℕ) (gone place : ℕ) → has_place place row ≡ false → has_place place (cond b (left_by gone row) row) ≡ false
unused_left true row gone place h = none_left row gone place h
unused_left false row gone place h = h

pub indexed_remove : (tags : List Tag) (at : ℕ) (gone : Tag) (before now : RowMap) (next : ℕ) → at < length tags → gone ≡ get_or tags at gone → IsIndexed tags before next
    → ((q : List ℕ) → row_of now q ≡ cond (bytes_eq gone.1 q) (left_by gone.0 (row_of before q)) (row_of before q))
    → IsIndexed (remove tags at) now next
indexed_remove tags at gone before now next there is_gone is change =
    let kept : All (λ (t : Tag). (id : List ℕ) → has_place t.0 (row_of before id) ≡ bytes_eq id t.1) (remove tags at) =
    All_remove (λ (t : Tag). (id : List ℕ) → has_place t.0 (row_of before id) ≡ bytes_eq id t.1) tags at is.found in
    record {
      rising = all_pairs_remove (λ (a : Tag) (b : Tag). a.0 < b.0) tags at there is.rising;
      below = All_remove (λ (t : Tag). t.0 < next) tags at is.below;
      found = λ k d within id.
          let apart : (get_or (remove tags at) k d).0 ≡ gone.0 → ⊥ = λ e.
          place_apart tags at k d is.rising there within (e ∙ ap (λ (t : Tag). t.0) (is_gone ∙ get_or_default tags at gone d there)) in
          ap (has_place (get_or (remove tags at) k d).0) (change id)
          ∙ other_left (bytes_eq gone.1 id) (row_of before id) gone.0 (get_or (remove tags at) k d).0 apart
          ∙ kept k d within id;
      unused = λ id place high. ap (has_place place) (change id) ∙ unused_left (bytes_eq gone.1 id) (row_of before id) gone.0 place (is.unused id place high);
    }
