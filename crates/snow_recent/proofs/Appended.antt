-- What one more entry does to the index.
use Rattle.std.proofs.Common.{◌≡◌, ℕ, zero, suc, ◌+◌, ◌%◌, ◌^◌, ◌<◌, ◌≤◌, Bool, true, false, not, ◌&&◌, cond, List, [], ◌∷◌, ◌++◌, length, map, get_or, set, All, ◌==◌, refl, sym, ap, ◌∙◌, arith, inl, inr, subst, ◌⊎◌}
use Rattle.std.specs.List.{list_any, slice_get}
use Rattle.std.specs.Option.{option_map_or}
use Rattle.std.specs.Str.{bytes_eq}
use Rattle.std.proofs.lemmas.Bool.{cases_lt, cases_eq, or_cases, and_parts, eqb-true, eq-eqb}
use Rattle.std.proofs.lemmas.Bool.Decides.{Decides-eqb}
use Rattle.std.proofs.lemmas.List.{length_push, length-map, length-set, get_or-set_same, get_or-set_other}
use Rattle.std.proofs.lemmas.List.Elements.{All-head, All-tail}
use Rattle.std.proofs.lemmas.Map.Made.{IsDistinct-from_AllPairs}
use Rattle.std.proofs.lemmas.Map.Steps.{length-le_from_distinct_below}
use Rattle.std.proofs.lemmas.Slice.Eq.{bytes_eq-Decides}
use Rattle.snow_recent.specs.Kept.Index.{id_at, id_of, place_of, head_of, number_at, seat_of, gives_way, seated, byte_cmp, IsRising, IsHeaded, HasLatest, IsIndex, filed}
use Rattle.snow_recent.proofs.Filed.{all_filed, rising_filed, latest_filed, newest_filed, map_filed, not_itself, rising_numbers}

-- ---- identifiers in the longer list

-- the earlier entries keep their identifiers
id_kept : {T : Type 0} (name : T → List ℕ) (entries : List T) (e : T) (k : ℕ) → k < length entries → id_at name (entries ++ e ∷ []) k ≡ id_at name entries k
id_kept name [] e k h = absurd (omega arith)
id_kept name (g ∷ entries) e zero h = refl
id_kept name (g ∷ entries) e (suc k) h = id_kept name entries e k (omega arith)

rising_kept : (id new : ℕ → List ℕ) (places : List ℕ) → All (λ p. new p ≡ id p) places → IsRising id places → IsRising new places
rising_kept id new places same rising = λ i j d less within.
    ap (λ a. byte_cmp a (new (get_or places j d))) (same i d (omega arith))
    ∙ ap (byte_cmp (id (get_or places i d))) (same j d within)
    ∙ rising i j d less within

latest_kept : (id new : ℕ → List ℕ) (places : List ℕ) (place : ℕ) → All (λ p. new p ≡ id p) places → new place ≡ id place → HasLatest id places place
    → HasLatest new places place
latest_kept id new [] place same is has = absurd has
latest_kept id new (p ∷ places) place same is has =
    elim has [
      | inl here ↦ inl (All-head (λ q. new q ≡ id q) p places same ∙ here.0 ∙ sym is, here.1)
      | inr there ↦ inr (latest_kept id new places place (All-tail (λ q. new q ≡ id q) p places same) is there)
    ]

-- the entry that came has its place
id_newest : {T : Type 0} (name : T → List ℕ) (entries : List T) (e : T) → id_at name (entries ++ e ∷ []) (length entries) ≡ name e
id_newest name [] e = refl
id_newest name (g ∷ entries) e = id_newest name entries e

-- an earlier place of the same identifier
latest_earlier : (id : ℕ → List ℕ) (places : List ℕ) (place earlier : ℕ) → id place ≡ id earlier → earlier ≤ place → HasLatest id places place → HasLatest id places earlier
latest_earlier id [] place earlier same before has = absurd has
latest_earlier id (p ∷ places) place earlier same before has =
    elim has [
      | inl here ↦ inl (here.0 ∙ same, omega (arith, before, here.1))
      | inr there ↦ inr (latest_earlier id places place earlier same before there)
    ]

-- ---- what a table has to be once an entry took its seat

-- identifiers of one seat have one head
abbrev AreShared : ℕ → (List ℕ → ℕ) → Type 0
AreShared seats head = (a b : List ℕ) → seat_of seats a ≡ seat_of seats b → head a ≡ head b

-- the heads once an entry took its seat
pub record AreHeads (seats : ℕ) (key : List ℕ) (count : ℕ) (head next : List ℕ → ℕ) : Type 0 where
  pub newest : (id : List ℕ) → seat_of seats id ≡ seat_of seats key → next id ≡ count
  pub others : (id : List ℕ) → (seat_of seats id ≡ seat_of seats key → ⊥) → next id ≡ head id

-- the table once an entry took its seat: it has what it had, and the latest place of the identifier that was there
pub record IsMoved (seats : ℕ) (key : List ℕ) (count : ℕ) (id : ℕ → List ℕ) (head : List ℕ → ℕ) (places moved : List ℕ) : Type 0 where
  pub within : All (λ p. p < count) moved
  pub rising : IsRising id moved
  pub behind : All (λ p. (p < head (id p)) ⊎ (seat_of seats (id p) ≡ seat_of seats key)) moved
  pub kept : (place : ℕ) → place < count → HasLatest id places place → HasLatest id moved place
  pub gone : (place : ℕ) → place < count → seat_of seats (id place) ≡ seat_of seats key → id (head key) ≡ id place → (id place ≡ key) ⊎ HasLatest id moved place

-- so it is where the number at the seat stays, since its entry hasn't another identifier of the seat
stayed : {T : Type 0} (name : T → List ℕ) (entries : List T) (seats : ℕ) (head : List ℕ → ℕ) (places : List ℕ) (key : List ℕ) → AreShared seats head
    → IsIndex name entries head places
    → (head key < length entries → seat_of seats (id_at name entries (head key)) ≡ seat_of seats key → id_at name entries (head key) ≡ key)
    → IsMoved seats key (length entries) (id_at name entries) head places places
stayed name entries seats head places key shared index own = record {
  within = index.within;
  rising = index.rising;
  behind = λ k d h. inl (index.behind k d h);
  kept = λ place h has. has;
  gone = λ place h seat same.
      let there : head key < length entries = subst (λ n. n < length entries) (shared (id_at name entries place) key seat) (index.headed place h).there in
      inl (sym same ∙ own there (ap (seat_of seats) same ∙ seat));
}

-- and where it is filed
moved : {T : Type 0} (name : T → List ℕ) (entries : List T) (seats : ℕ) (head : List ℕ → ℕ) (places : List ℕ) (key : List ℕ) → AreShared seats head
    → IsIndex name entries head places → head key < length entries → seat_of seats (id_at name entries (head key)) ≡ seat_of seats key
    → IsMoved seats key (length entries) (id_at name entries) head places (filed (id_at name entries) places (head key))
moved name entries seats head places key shared index there seat =
    let id : ℕ → List ℕ = id_at name entries in
    let old : ℕ = head key in
    let no_later : (place : ℕ) → place < length entries → id old ≡ id place → place ≤ old =
    λ place h same. subst (λ n. place ≤ n) (shared (id place) key (ap (seat_of seats) (sym same) ∙ seat)) (index.headed place h).later in
    record {
      within = all_filed (λ p. p < length entries) id places old index.within there;
      rising = rising_filed id places old index.rising;
      behind = all_filed (λ p. (p < head (id p)) ⊎ (seat_of seats (id p) ≡ seat_of seats key)) id places old (λ k d h. inl (index.behind k d h)) (inr seat);
      kept = λ place h has. latest_filed id places old place (no_later place h) has;
      gone = λ place h same_seat same. inr (latest_earlier id (filed id places old) old place same (no_later place h same) (newest_filed id places old));
    }

-- ---- the index of the longer list

-- where a head stands once an entry took its seat
head_case : (seats : ℕ) (key : List ℕ) (count : ℕ) (head next : List ℕ → ℕ) (id : List ℕ) → AreHeads seats key count head next
    → ((seat_of seats id ≡ seat_of seats key) × (next id ≡ count)) ⊎ ((seat_of seats id ≡ seat_of seats key → ⊥) × (next id ≡ head id))
head_case seats key count head next id heads =
    elim (cases_eq (seat_of seats id) (seat_of seats key)) [
      | inl same ↦ inl (same, heads.newest id same)
      | inr other ↦ inr (other, heads.others id other)
    ]

behind_next : (seats : ℕ) (key : List ℕ) (count : ℕ) (head next : List ℕ → ℕ) (id : List ℕ) (p : ℕ) → AreHeads seats key count head next → p < count
    → (p < head id) ⊎ (seat_of seats id ≡ seat_of seats key) → p < next id
behind_next seats key count head next id p heads within behind =
    elim (head_case seats key count head next id heads) [
      | inl same ↦ omega (arith, same.1, within)
      | inr other ↦ elim behind [ inl before ↦ omega (arith, other.1, before) | inr same ↦ absurd (other.0 same) ]
    ]

headed_next : (seats : ℕ) (key : List ℕ) (count : ℕ) (head next : List ℕ → ℕ) (id : List ℕ) (place : ℕ) → AreHeads seats key count head next → place < count
    → IsHeaded count (head id) place → IsHeaded (count + 1) (next id) place
headed_next seats key count head next id place heads within headed =
    elim (head_case seats key count head next id heads) [
      | inl same ↦ record { there = omega (arith, same.1); later = omega (arith, same.1, within) }
      | inr other ↦ record { there = omega (arith, other.1, headed.there); later = omega (arith, other.1, headed.later) }
    ]

-- the latest entry of an identifier that came before
latest_next : {T : Type 0} (name : T → List ℕ) (entries : List T) (e : T) (seats : ℕ) (head next : List ℕ → ℕ) (places new : List ℕ) (place : ℕ) → AreShared seats head
    → IsIndex name entries head places → AreHeads seats (name e) (length entries) head next
    → IsMoved seats (name e) (length entries) (id_at name entries) head places new
    → All (λ p. id_at name (entries ++ e ∷ []) p ≡ id_at name entries p) new → place < length entries
    → (id_at name (entries ++ e ∷ []) (next (id_at name entries place)) ≡ id_at name entries place) ⊎ HasLatest (id_at name (entries ++ e ∷ [])) new place
latest_next name entries e seats head next places new place shared index heads moved same before =
    let id : ℕ → List ℕ = id_at name entries in
    let long : ℕ → List ℕ = id_at name (entries ++ e ∷ []) in
    let keeps : HasLatest id new place → HasLatest long new place = λ has. latest_kept id long new place same (id_kept name entries e place before) has in
    elim (head_case seats (name e) (length entries) head next (id place) heads) [
      | inl own ↦
          elim (index.latest place before) [
            | inl is ↦
                elim (moved.gone place before own.0 (subst (λ n. id n ≡ id place) (shared (id place) (name e) own.0) is)) [
                  | inl key ↦ inl (ap long own.1 ∙ id_newest name entries e ∙ sym key)
                  | inr has ↦ inr (keeps has)
                ]
            | inr has ↦ inr (keeps (moved.kept place before has))
          ]
      | inr other ↦
          elim (index.latest place before) [
            | inl is ↦ inl (ap long other.1 ∙ id_kept name entries e (head (id place)) (index.headed place before).there ∙ is)
            | inr has ↦ inr (keeps (moved.kept place before has))
          ]
    ]

-- the entry that came stands at its seat
index_next : {T : Type 0} (name : T → List ℕ) (entries : List T) (e : T) (seats : ℕ) (head next : List ℕ → ℕ) (places new : List ℕ) → AreShared seats head
    → IsIndex name entries head places → AreHeads seats (name e) (length entries) head next
    → IsMoved seats (name e) (length entries) (id_at name entries) head places new
    → IsIndex name (entries ++ e ∷ []) next new
index_next name entries e seats head next places new shared index heads moved =
    let id : ℕ → List ℕ = id_at name entries in
    let long : ℕ → List ℕ = id_at name (entries ++ e ∷ []) in
    let count : ℕ = length entries in
    let same : All (λ p. long p ≡ id p) new = λ k d h. id_kept name entries e (get_or new k d) (moved.within k d h) in
    let longer : length (entries ++ e ∷ []) ≡ count + 1 = length_push entries e in
    let newest : long count ≡ name e = id_newest name entries e in
    let top : next (long count) ≡ count = heads.newest (long count) (ap (seat_of seats) newest) in
    record {
      within = λ k d h. omega (arith, longer, moved.within k d h);
      rising = rising_kept id long new same moved.rising;
      behind = λ k d h.
          subst (λ (i : List ℕ). get_or new k d < next i) (sym (same k d h))
          (behind_next seats (name e) count head next (id (get_or new k d)) (get_or new k d) heads (moved.within k d h) (moved.behind k d h));
      headed = λ place h. elim (cases_lt place count) [
        | inl before ↦
            subst (λ (i : List ℕ). IsHeaded (length (entries ++ e ∷ [])) (next i) place) (sym (id_kept name entries e place before))
            (subst (λ c. IsHeaded c (next (id place)) place) (sym longer)
            (headed_next seats (name e) count head next (id place) place heads before (index.headed place before)))
        | inr behind ↦
            let is : count ≡ place = omega (arith, longer, h, behind) in
            subst (λ p. IsHeaded (length (entries ++ e ∷ [])) (next (long p)) p) is
            (record { there = omega (arith, longer, top); later = omega (arith, top) })
      ];
      latest = λ place h. elim (cases_lt place count) [
        | inl before ↦
            subst (λ (i : List ℕ). (long (next i) ≡ i) ⊎ HasLatest long new place) (sym (id_kept name entries e place before))
            (latest_next name entries e seats head next places new place shared index heads moved same before)
        | inr behind ↦
            let is : count ≡ place = omega (arith, longer, h, behind) in
            subst (λ p. (long (next (long p)) ≡ long p) ⊎ HasLatest long new p) is (inl (ap long top))
      ];
    }

-- ---- its numbers

-- the entry of a number that gives way has the seat
way_parts : {T : Type 0} (name : T → List ℕ) (entries : List T) (seats place : ℕ) (key : List ℕ)
    → option_map_or (λ e. not (bytes_eq (name e) key) && (seat_of seats (name e) == seat_of seats key)) (slice_get entries place) false ≡ true
    → (place < length entries) × (seat_of seats (id_at name entries place) ≡ seat_of seats key)
way_parts name [] seats place key is = absurd cc
way_parts name (e ∷ entries) seats zero key is =
    (omega arith, eqb-true _ _ (and_parts (not (bytes_eq (name e) key)) (seat_of seats (name e) == seat_of seats key) is).1)
way_parts name (e ∷ entries) seats (suc place) key is = let rest = way_parts name entries seats place key is in (omega (arith, rest.0), rest.1)

one_way : (a b : Bool) → (not a && b) ≡ false → b ≡ true → a ≡ true
one_way true b is seat = refl
one_way false true is seat = absurd cc
one_way false false is seat = absurd cc

-- and where it doesn't give way, it has the identifier if it has the seat
no_way : {T : Type 0} (name : T → List ℕ) (entries : List T) (seats place : ℕ) (key : List ℕ)
    → option_map_or (λ e. not (bytes_eq (name e) key) && (seat_of seats (name e) == seat_of seats key)) (slice_get entries place) false ≡ false
    → place < length entries → seat_of seats (id_at name entries place) ≡ seat_of seats key → id_at name entries place ≡ key
no_way name [] seats place key is there seat = absurd (omega (arith, there))
no_way name (e ∷ entries) seats zero key is there seat =
    (bytes_eq-Decides (name e) key).0 (one_way (bytes_eq (name e) key) (seat_of seats (name e) == seat_of seats key) is (eq-eqb _ _ seat))
no_way name (e ∷ entries) seats (suc place) key is there seat = no_way name entries seats place key is (omega (arith, there)) seat

-- the number of the new entry leads to its place
next_place : (first count : ℕ) → first < 2 ^ 32 → count < 2 ^ 32 → place_of first ((first + count) % 2 ^ 32) ≡ count
next_place first count small few = omega arith

-- the earlier numbers rise by identifier
pub rising_before : {T : Type 0} (name : T → List ℕ) (entries : List T) (first : ℕ) (head : List ℕ → ℕ) (numbers : List ℕ) → IsIndex name entries head (map (place_of first) numbers)
    → IsRising (id_of name entries first) numbers
rising_before name entries first head numbers index = rising_numbers (id_at name entries) (place_of first) numbers index.rising

abbrev seated_by : {T : Type 0} → (T → List ℕ) → List T → ℕ → List ℕ → ℕ → Bool → List ℕ
seated_by name entries first numbers number way = cond way (filed (id_of name entries first) numbers number) numbers

shared_heads : (first : ℕ) (heads : List ℕ) → AreShared (length heads) (head_of first heads)
shared_heads first heads = λ a b same. ap (λ s. place_of first (get_or heads s 0)) same

table_moved : {T : Type 0} (name : T → List ℕ) (entries : List T) (first : ℕ) (heads numbers : List ℕ) (key : List ℕ) (way : Bool)
    → IsIndex name entries (head_of first heads) (map (place_of first) numbers) → gives_way name entries first (length heads) (number_at heads key) key ≡ way
    → IsMoved (length heads) key (length entries) (id_at name entries) (head_of first heads) (map (place_of first) numbers)
    (map (place_of first) (seated_by name entries first numbers (number_at heads key) way))
table_moved name entries first heads numbers key true index is =
    let old : ℕ = number_at heads key in
    let parts = way_parts name entries (length heads) (place_of first old) key is in
    subst (IsMoved (length heads) key (length entries) (id_at name entries) (head_of first heads) (map (place_of first) numbers))
    (sym (map_filed (id_at name entries) (place_of first) numbers old))
    (moved name entries (length heads) (head_of first heads) (map (place_of first) numbers) key (shared_heads first heads) index parts.0 parts.1)
table_moved name entries first heads numbers key false index is =
    stayed name entries (length heads) (head_of first heads) (map (place_of first) numbers) key (shared_heads first heads) index
    (λ there seat. no_way name entries (length heads) (place_of first (number_at heads key)) key is there seat)

-- what stands at an identifier's seat once a number was put at one
number_set : (heads : List ℕ) (own number : ℕ) (id : List ℕ) → number_at (set heads own number) id ≡ get_or (set heads own number) (seat_of (length heads) id) 0
number_set heads own number id = ap (λ n. get_or (set heads own number) (seat_of n id) 0) (length-set heads own number)

heads_set : (first count : ℕ) (heads key : List ℕ) → first < 2 ^ 32 → count < 2 ^ 32 → seat_of (length heads) key < length heads
    → AreHeads (length heads) key count (head_of first heads) (head_of first (set heads (seat_of (length heads) key) ((first + count) % 2 ^ 32)))
heads_set first count heads key small few there =
    let own : ℕ = seat_of (length heads) key in
    let number : ℕ = (first + count) % 2 ^ 32 in
    record {
      newest = λ id same.
          ap (place_of first) (number_set heads own number id ∙ ap (λ s. get_or (set heads own number) s 0) same ∙ get_or-set_same heads own number 0 there)
          ∙ next_place first count small few;
      others = λ id other. ap (place_of first) (number_set heads own number id ∙ get_or-set_other heads own (seat_of (length heads) id) number 0 other);
    }

-- the index of the list with one more entry
pub appended : {T : Type 0} (name : T → List ℕ) (entries : List T) (e : T) (first : ℕ) (heads numbers : List ℕ) → first < 2 ^ 32 → length entries < 2 ^ 32
    → seat_of (length heads) (name e) < length heads → IsIndex name entries (head_of first heads) (map (place_of first) numbers)
    → IsIndex name (entries ++ e ∷ []) (head_of first (set heads (seat_of (length heads) (name e)) ((first + length entries) % 2 ^ 32)))
    (map (place_of first) (seated name entries first heads numbers (name e)))
appended name entries e first heads numbers small few there index =
    index_next name entries e (length heads) (head_of first heads) (head_of first (set heads (seat_of (length heads) (name e)) ((first + length entries) % 2 ^ 32)))
    (map (place_of first) numbers) (map (place_of first) (seated name entries first heads numbers (name e))) (shared_heads first heads) index
    (heads_set first (length entries) heads (name e) small few there)
    (table_moved name entries first heads numbers (name e) (gives_way name entries first (length heads) (number_at heads (name e)) (name e)) index refl)

-- all numbers of the table stay small
pub small_seated : {T : Type 0} (name : T → List ℕ) (entries : List T) (first : ℕ) (heads numbers : List ℕ) (key : List ℕ) → All (λ n. n < 2 ^ 32) numbers
    → number_at heads key < 2 ^ 32 → All (λ n. n < 2 ^ 32) (seated name entries first heads numbers key)
small_seated name entries first heads numbers key small one =
    elim (gives_way name entries first (length heads) (number_at heads key) key) as (λ b. All (λ n. n < 2 ^ 32) (seated_by name entries first numbers (number_at heads key) b)) [
      | true ↦ all_filed (λ n. n < 2 ^ 32) (id_of name entries first) numbers (number_at heads key) small one
      | false ↦ small
    ]

-- ---- how many numbers there are

below_all : (n q : ℕ) (places : List ℕ) → All (λ p. p < n) places → list_any (λ p. q == p) places ≡ true → q < n
below_all n q [] all any = absurd (cc)
below_all n q (p ∷ places) all any =
    elim (or_cases (q == p) (list_any (λ r. q == r) places) any) [
      | inl here ↦ let is : q ≡ p = eqb-true q p here in let low : p < n = All-head (λ r. r < n) p places all in omega arith
      | inr there ↦ below_all n q places (All-tail (λ r. r < n) p places all) there
    ]

-- no more than entries
pub few_numbers : {T : Type 0} (name : T → List ℕ) (entries : List T) (first : ℕ) (head : List ℕ → ℕ) (numbers : List ℕ) → IsIndex name entries head (map (place_of first) numbers) → length numbers ≤ length entries
few_numbers name entries first head numbers index =
    let places : List ℕ = map (place_of first) numbers in
    let few : length places ≤ length entries = length-le_from_distinct_below places (length entries)
    (IsDistinct-from_AllPairs Decides-eqb places
    (λ i j d less within same.
    not_itself (id_at name entries (get_or places i d)) (id_at name entries (get_or places j d)) (ap (id_at name entries) same) (index.rising i j d less within)))
    (λ q any. below_all (length entries) q places index.within any) in
    omega (arith, length-map numbers (place_of first))
