-- The index of a lineup: at which places the items of a key stand.
use Rattle.std.specs.Prelude.{◌≡◌, ℕ, ◌<◌, ◌≤◌, Bool, false, ◌==◌, List, [], ◌++◌, filter, not, All, unwrap_or, bytes_eq, if◌then◌else◌}
use Rattle.std.specs.List.{list_any, AllPairs}
use Rattle.std.specs.HashMap as hash
use Rattle.std.specs.HashMap.{HashMap}
use Rattle.std.specs.declared.hash.BuildHasherDefault.{BuildHasherDefault}
use Rattle.std.specs.declared.hash.FoldHasher.{FoldHasher}
use Rattle.std.specs.Option.{option_to_list}
use Rattle.snow_map.specs.Clauses.Entries.{value_of}
use Rattle.snow_lineup.specs.declared.rows.Places.{Places}
use Rattle.snow_lineup.specs.declared.lineup.Slot.{Slot}
use Rattle.snow_lineup.specs.declared.marks.Mark.{Mark}
use Rattle.snow_lineup.specs.declared.marks.Mark.TheVariants.{New}

-- the rows of a lineup: places by key, the last one of each apart
abbrev pub RowMap : Type 0
RowMap = Places

-- the places of the items of a key but the last one
abbrev pub row_before : HashMap (List ℕ) (List ℕ) (BuildHasherDefault FoldHasher) → List ℕ → List ℕ
row_before before key = unwrap_or (hash.get bytes_eq before key) []

-- all of them
abbrev pub row_of : RowMap → List ℕ → List ℕ
row_of rows key = row_before rows.before key ++ option_to_list (value_of rows.last key)

abbrev pub has_place : ℕ → List ℕ → Bool
has_place place row = list_any (λ p. p == place) row

-- a row without a place
abbrev pub left_by : ℕ → List ℕ → List ℕ
left_by place row = filter (λ p. not (p == place)) row

-- the place of an item, and its key
abbrev pub tag_of : {T : Type 0} → (T → List ℕ) → Slot T → ℕ × List ℕ
tag_of key s = (s.place, key s.item)

-- an item, and what is remembered of it
abbrev pub seat_of : {T : Type 0} → Slot T → T × Mark
seat_of s = (s.item, s.mark)

-- places rise, all are below the next one, and each stands in the row of its item's key and in no other
pub record IsIndexed (tags : List (ℕ × List ℕ)) (rows : RowMap) (next : ℕ) : Type 0 where
  pub rising : AllPairs (λ a b. a.0 < b.0) tags
  pub below : All (λ t. t.0 < next) tags
  pub found : All (λ t. (id : List ℕ) → has_place t.0 (row_of rows id) ≡ bytes_eq id t.1) tags
  pub unused : (id : List ℕ) (place : ℕ) → next ≤ place → has_place place (row_of rows id) ≡ false

-- nothing is remembered of an item
abbrev pub forgotten : {T : Type 0} → T × Mark → T × Mark
forgotten s = (s.0, New)

-- the same in a slot
abbrev pub reset : {T : Type 0} → Slot T → Slot T
reset s = record s { mark = New }

-- nothing is remembered of the items of a key
abbrev pub woken : {T : Type 0} → (T → List ℕ) → List ℕ → T × Mark → T × Mark
woken key id s = (s.0, if bytes_eq id (key s.0) then New else s.1)

-- the same in the slots, by their places
abbrev pub woken_at : {T : Type 0} → List ℕ → Slot T → Slot T
woken_at places s = record s { mark = if has_place s.place places then New else s.mark }
