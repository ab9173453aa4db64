-- The index of the entries: for each seat the number of its latest entry, and a table of those that left their seats to others, identifiers rising.
use Rattle.std.specs.Prelude.{◌≡◌, ℕ, ◌+◌, ◌-◌, ◌%◌, ◌^◌, ◌<◌, ◌≤◌, ◌⊎◌, Bool, false, not, ◌&&◌, get_or, bytes_eq, if◌then◌else◌, List, [], ◌∷◌, length, map, replicate, ◌==◌, All, HoldsAt, Result, Ok, Err}
use Rattle.std.specs.Cmp.Lexicographic.{slice_cmp}
use Rattle.std.specs.List.{AllPairs, filter, slice_get}
use Rattle.std.specs.List.Sorted.{IsPartitionPoint}
use Rattle.std.specs.Option.{option_map_or}
use Rattle.std.specs.Ordering.{nat_cmp, match_ordering}
use Rattle.std.specs.declared.cmp.Ordering.{Ordering}
use Rattle.std.specs.declared.cmp.Ordering.TheVariants.{Less, Equal, Greater}
use Rattle.snow_map.specs.Kept.Seats.{place_of as seat_among}

-- the identifier of the entry at a place of the list, and 32 zeros past its end
abbrev pub id_at : {T : Type 0} → (T → List ℕ) → List T → ℕ → List ℕ
id_at name entries place = option_map_or name (slice_get entries place) (replicate 32 0)

-- the place of the entry of a number: the oldest one has the number `first`, and the numbers go on from 0 after 2^32-1
abbrev pub place_of : ℕ → ℕ → ℕ
place_of first number = (number + (2 ^ 32 - first)) % 2 ^ 32

-- the identifier of the entry of a number
abbrev pub id_of : {T : Type 0} → (T → List ℕ) → List T → ℕ → ℕ → List ℕ
id_of name entries first number = id_at name entries (place_of first number)

-- the order of identifiers: the first byte that differs decides
abbrev pub byte_cmp : List ℕ → List ℕ → Ordering
byte_cmp a b = slice_cmp nat_cmp a b

-- each identifier stands before all later ones, so no two are the same
abbrev pub IsRising : (ℕ → List ℕ) → List ℕ → Type 0
IsRising id numbers = AllPairs (λ m n. byte_cmp (id m) (id n) ≡ Less) numbers

-- where the number of an identifier stands, or else where it belongs
abbrev pub IsPlaceOf : (ℕ → List ℕ) → List ℕ → List ℕ → Result ℕ ℕ → Type 0
IsPlaceOf id numbers key (Ok at) = (at < length numbers) × HoldsAt (λ n. byte_cmp (id n) key ≡ Equal) numbers at
IsPlaceOf id numbers key (Err at) =
    (at ≤ length numbers) × IsPartitionPoint (λ n. byte_cmp (id n) key ≡ Less) (λ n. byte_cmp (id n) key ≡ Greater) numbers at

-- how the identifier of the number at a place stands to this one; the end stands behind all
abbrev pub order_at : (ℕ → List ℕ) → List ℕ → ℕ → List ℕ → Ordering
order_at id numbers at key = option_map_or (λ n. byte_cmp (id n) key) (slice_get numbers at) Greater

-- the numbers but that of the oldest entry
abbrev pub without_oldest : ℕ → List ℕ → List ℕ
without_oldest first numbers = filter (λ n. not (n == first)) numbers

-- one more number, at the place of its identifier: it replaces one of the same identifier
unfoldable pub filed : (ℕ → List ℕ) → List ℕ → ℕ → List ℕ
filed id [] number = number ∷ []
filed id (n ∷ numbers) number =
    match_ordering (byte_cmp (id n) (id number)) (n ∷ filed id numbers number) (number ∷ numbers) (number ∷ n ∷ numbers)

-- the seat of an identifier among so many
abbrev pub seat_of : ℕ → List ℕ → ℕ
seat_of seats id = seat_among seats id

-- there are as many seats as a power of two, and there is room for 65,536
pub record AreSeats (seats room : ℕ) : Type 0 where
  pub bits : ℕ
  pub is : seats ≡ 2 ^ bits
  pub most : 65536 ≤ room

-- the number that stands at an identifier's seat
abbrev pub number_at : List ℕ → List ℕ → ℕ
number_at heads id = get_or heads (seat_of (length heads) id) 0

-- the place of the entry whose number stands at an identifier's seat
abbrev pub head_of : ℕ → List ℕ → List ℕ → ℕ
head_of first heads id = place_of first (number_at heads id)

-- the head of a seat is one of so many entries, and no earlier than this one
pub record IsHeaded (count head place : ℕ) : Type 0 where
  pub there : head < count
  pub later : place ≤ head

-- whether the entry of a number has another identifier of the same seat among so many
abbrev pub gives_way : {T : Type 0} → (T → List ℕ) → List T → ℕ → ℕ → ℕ → List ℕ → Bool
gives_way name entries first seats number id =
    option_map_or (λ e. not (bytes_eq (name e) id) && (seat_of seats (name e) == seat_of seats id)) (slice_get entries (place_of first number)) false

-- the numbers in the table once an entry of this identifier takes its seat: the one that stood there is filed, if it gives way
abbrev pub seated : {T : Type 0} → (T → List ℕ) → List T → ℕ → List ℕ → List ℕ → List ℕ → List ℕ
seated name entries first heads numbers id =
    if gives_way name entries first (length heads) (number_at heads id) id then filed (id_of name entries first) numbers (number_at heads id) else numbers

-- where a number stands at its seat, the table hasn't it
abbrev pub HasNoSeated : (ℕ → List ℕ) → List ℕ → ℕ → List ℕ → Type 0
HasNoSeated id heads number numbers = number_at heads (id number) ≡ number → All (λ n. n ≡ number → ⊥) numbers

-- one of the places has the identifier of this one, and is no earlier
abbrev pub HasLatest : (ℕ → List ℕ) → List ℕ → ℕ → Type 0
HasLatest id [] place = ⊥
HasLatest id (p ∷ places) place = ((id p ≡ id place) × (place ≤ p)) ⊎ HasLatest id places place

-- the place of the head of each identifier's seat, and the places of entries that stand behind, identifiers rising: the latest entry of an identifier is the head of its seat or one of these
pub record IsIndex {T : Type 0} (name : T → List ℕ) (entries : List T) (head : List ℕ → ℕ) (places : List ℕ) : Type 0 where
  pub within : All (λ p. p < length entries) places
  pub rising : IsRising (id_at name entries) places
  pub behind : All (λ p. p < head (id_at name entries p)) places
  pub headed : (place : ℕ) → place < length entries → IsHeaded (length entries) (head (id_at name entries place)) place
  pub latest : (place : ℕ) → place < length entries
      → (id_at name entries (head (id_at name entries place)) ≡ id_at name entries place) ⊎ HasLatest (id_at name entries) places place

-- at most so many entries with their index, and with room for as many entries
pub record IsRecent {T : Type 0} (name : T → List ℕ) (most : ℕ) (entries : List T) (first : ℕ) (heads numbers : List ℕ) (for_entries : ℕ) : Type 0 where
  pub some : 0 < most
  pub fits : most < 2 ^ 32
  pub few : length entries ≤ most
  pub room : most ≤ for_entries
  pub small : All (λ n. n < 2 ^ 32) numbers
  pub index : IsIndex name entries (head_of first heads) (map (place_of first) numbers)
