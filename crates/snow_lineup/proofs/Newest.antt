-- The last item, where it alone has its key.
use Rattle.std.proofs.Common.{◌≡◌, ℕ, ◌<◌, ◌==◌, true, List, [], ◌∷◌, ◌++◌, map, get_or, length, set, arith, All, Option, Some, None, sym, ap, ◌∙◌}
use Rattle.std.specs.Option.{option_to_list}
use Rattle.std.specs.Str.{bytes_eq}
use Rattle.std.proofs.lemmas.Bool.{eqb-true}
use Rattle.std.proofs.lemmas.List.{get_or-map}
use Rattle.snow_map.specs.Clauses.Entries.{value_of}
use Rattle.snow_lineup.specs.declared.lineup.Slot.{Slot}
use Rattle.snow_lineup.specs.declared.marks.Mark.{Mark}
use Rattle.snow_lineup.specs.declared.marks.Mark.TheVariants.{New}
use Rattle.snow_lineup.specs.Kept.Index.{RowMap, IsIndexed, row_of, row_before, has_place, tag_of, seat_of, woken, reset}
use Rattle.snow_map.proofs.Booleans.{or_false}
use Rattle.snow_map.proofs.Lists.{same_id}
use Rattle.snow_lineup.proofs.Placed.{Rises, found_place, woken_one, row_wakes}
use Rattle.snow_lineup.proofs.Tagged.{Tag, All_unmap, AllPairs_unmap, has_own_place, seats_set}

-- a place that stands in a row of one place is that one
only_place : (place : ℕ) (last : Option ℕ) → has_place place (option_to_list last) ≡ true → option_to_list last ≡ place ∷ []
only_place place None has = absurd cc
only_place place (Some p) has = ap (λ (n : ℕ). n ∷ []) (eqb-true p place (sym (or_false (p == place)) ∙ has))

-- two lists in which the last element was changed alike
pub set_last : {A : Type 0} (xs ys zs : List A) (at last : ℕ) (change : A → A) → 0 < length xs → at ≡ last → ((d : A) → ys ≡ set xs at (change (get_or xs at d)))
    → ((d : A) → zs ≡ set xs last (change (get_or xs last d))) → ys ≡ zs
set_last [] ys zs at last change some same one other = absurd (omega (arith, some))
set_last (x ∷ xs) ys zs at last change some same one other = one x ∙ ap (λ k. set (x ∷ xs) k (change (get_or (x ∷ xs) k x))) same ∙ sym (other x)

-- where its key has no place but the last, to wake the items of the key is to wake the one that has it
pub wakes_one : {T : Type 0} (key : T → List ℕ) (slots : List (Slot T)) (rows : RowMap) (next at : ℕ) (s : Slot T) (id : List ℕ)
    → IsIndexed (map (tag_of key) slots) rows next → row_before rows.before id ≡ [] → at < length slots → s ≡ get_or slots at s → bytes_eq (key s.item) id ≡ true
    → (d : T × Mark) → map (woken key id) (map seat_of slots) ≡ set (map seat_of slots) at ((get_or (map seat_of slots) at d).0, New)
wakes_one {T} key slots rows next at s id indexed single there is same d =
    let last = option_to_list (value_of rows.last id) in
    let rises : Rises slots = AllPairs_unmap (λ (a : Tag) (b : Tag). a.0 < b.0) (tag_of key) slots indexed.rising in
    let found = All_unmap (λ (t : Tag). (q : List ℕ) → has_place t.0 (row_of rows q) ≡ bytes_eq q t.1) (tag_of key) slots indexed.found in
    let has : has_place s.place (row_of rows id) ≡ true = ap (λ q. has_place s.place (row_of rows q)) (sym (same_id (key s.item) id same)) ∙ has_own_place key slots rows next at s there is indexed in
    let row : row_of rows id ≡ s.place ∷ [] =
    ap (λ l. l ++ last) single ∙ only_place s.place (value_of rows.last id) (ap (λ l. has_place s.place (l ++ last)) (sym single) ∙ has) in
    let all : All (λ (t : Slot T). has_place t.place (s.place ∷ []) ≡ bytes_eq id (key t.item)) slots =
    λ k e within. ap (has_place (get_or slots k e).place) (sym row) ∙ found k e within id in
    let first = found_place slots s.place at s rises there (ap (λ (x : Slot T). x.place) (sym is)) in
    let item : s.item ≡ (get_or (map seat_of slots) at d).0 =
    ap (λ (x : Slot T). x.item) is ∙ sym (ap (λ (x : T × Mark). x.0) (get_or-map seat_of slots at s d there)) in
    sym (row_wakes key slots (s.place ∷ []) id all)
    ∙ ap (map seat_of) (sym (woken_one slots s.place at s rises first there is))
    ∙ seats_set slots at (reset s)
    ∙ ap (λ x. set (map seat_of slots) at (x, New)) item
