-- Lemmas on open gets: their order by number, and which blocks are asked for.
use Rattle.std.proofs.Common.{◌≡◌, ℕ, suc, ◌<◌, ◌+◌, ◌==◌, Bool, true, false, not, ◌&&◌, ◌||◌, ltb, cond, List, [], ◌∷◌, map, length, get_or, find, Option, Some, None, Less, Equal, Greater, refl, sym, ap, ◌∙◌, arith, ⊎_elim}
use Rattle.std.specs.BTreeMap.{is_at, insert_entry}
use Rattle.std.specs.List.{remove, position_or_len, AllByRecursion}
use Rattle.std.specs.List.Sorted.{IsStrictlySortedBy}
use Rattle.std.specs.Map.{lookup, remove_entry, keys_of}
use Rattle.std.specs.Option.{is_some, option_map}
use Rattle.std.specs.Ordering.{nat_cmp, is_eq, match_ordering}
use Rattle.std.specs.Str.{bytes_eq}
use Rattle.std.proofs.lemmas.Bool.{or_parts, both_ways, eqb-true, lt-ltb, le-ltb, ne_eqb, eq-eqb, cases_order}
use Rattle.snow_gets.specs.declared.get_map.Asked.{Asked}
use Rattle.snow_gets.specs.declared.gets.Get.{Get}
use Rattle.snow_gets.specs.Model.Gets.{asked_in, has_number, is_get, with_get, without}
use Rattle.snow_gets.specs.Kept.Index.{AreNamedApart, HasAsked, get_of, has}
use Rattle.snow_map.specs.Clauses.Entries.{value_of, HasAt}
use Rattle.snow_map.proofs.Lists.{same_id, id_turned}
use Rattle.snow_gets.proofs.Named.{named, named_removed, apart_removed, named_is_some}
use Rattle.snow_map.proofs.Booleans.{or_false, or_turned, or_assoc, cond_or}

abbrev Entries : Type 0
Entries = List (ℕ × Asked)

abbrev pub id_of_get : Get → List ℕ
id_of_get g = g.id

-- whether a set has an identifier
abbrev Test : Type 0
Test = List ℕ → Bool

-- ---- booleans

undone : (a b : Bool) → (a ≡ true → b ≡ false) → cond a false (cond a true b) ≡ b
undone true b none = sym (none refl)
undone false b none = refl

-- an identifier that a map has from now on, or has no more
pub put_in : (id : List ℕ) (before now : List (List ℕ × Unit {0})) → HasAt before now id (Some tt) → (q : List ℕ) → has now q ≡ cond (bytes_eq id q) true (has before q)
put_in id before now put q = ap is_some (put q) ∙ by (bytes_eq id q)
  where
    by : (b : Bool) → is_some (cond b (Some (tt {0})) (value_of before q)) ≡ cond b true (has before q)
    by true = refl
    by false = refl

pub taken_out : (id : List ℕ) (before now : List (List ℕ × Unit {0})) → HasAt before now id None → (q : List ℕ) → has now q ≡ cond (bytes_eq id q) false (has before q)
taken_out id before now taken q = ap is_some (taken q) ∙ by (bytes_eq id q)
  where
    by : (b : Bool) → is_some (cond b None (value_of before q)) ≡ cond b false (has before q)
    by true = refl
    by false = refl

-- ---- a get is opened

pub entered : (es : Entries) (number : ℕ) (asked : Asked) → has_number (map get_of es) number ≡ false
    → map get_of (insert_entry nat_cmp es number asked) ≡ with_get (map get_of es) (get_of (number, asked))
entered [] number asked new = refl
entered (e ∷ es) number asked new =
    let parts = or_parts (e.0 == number) (has_number (map get_of es) number) new in
    let rest = entered es number asked parts.1 in
    let Goal : Bool → Type 0 = λ b.
    map get_of (match_ordering (cond b Less (cond (number == e.0) Equal Greater)) ((number, asked) ∷ e ∷ es) ((e.0, asked) ∷ es) (e ∷ insert_entry nat_cmp es number asked))
    ≡ cond b (get_of (number, asked) ∷ get_of e ∷ map get_of es) (get_of e ∷ with_get (map get_of es) (get_of (number, asked))) in
    let other : (number == e.0) ≡ false = ne_eqb number e.0 (λ same. both_ways (e.0 == number) parts.0 (eq-eqb e.0 number (sym same))) in
    elim (ltb number e.0) as Goal [
      | true ↦ refl
      | false ↦ rw other (ap (λ l. get_of e ∷ l) rest)
    ]

pub asked_with : (gets : List Get) (get : Get) (id : List ℕ) → asked_in (with_get gets get) id ≡ (asked_in gets id || bytes_eq get.id id)
asked_with [] get id = or_false (bytes_eq get.id id)
asked_with (g ∷ gets) get id =
    let Goal : Bool → Type 0 = λ b. asked_in (cond b (get ∷ g ∷ gets) (g ∷ with_get gets get)) id ≡ ((bytes_eq g.id id || asked_in gets id) || bytes_eq get.id id) in
    elim (ltb get.number g.number) as Goal [
      | true ↦ or_turned (bytes_eq get.id id) (bytes_eq g.id id || asked_in gets id)
      | false ↦ ap (λ b. bytes_eq g.id id || b) (asked_with gets get id) ∙ sym (or_assoc (bytes_eq g.id id) (asked_in gets id) (bytes_eq get.id id))
    ]

apart_with : (gets : List Get) (get : Get) → asked_in gets get.id ≡ false → AreNamedApart id_of_get gets → AreNamedApart id_of_get (with_get gets get)
apart_with [] get new apart = (refl, tt)
apart_with (g ∷ gets) get new apart =
    let parts = or_parts (bytes_eq g.id get.id) (asked_in gets get.id) new in
    let Goal : Bool → Type 0 = λ b. AreNamedApart id_of_get (cond b (get ∷ g ∷ gets) (g ∷ with_get gets get)) in
    elim (ltb get.number g.number) as Goal [
      | true ↦ (new, apart)
      | false ↦ (asked_with gets get g.id ∙ ap (λ b. b || bytes_eq get.id g.id) apart.0 ∙ (id_turned get.id g.id ∙ parts.0), apart_with gets get parts.1 apart.1)
    ]

pub asked_opened : (before now : Test) (gets : List Get) (get : Get) → HasAsked before gets → asked_in gets get.id ≡ false
    → ((q : List ℕ) → now q ≡ cond (bytes_eq get.id q) true (before q))
    → HasAsked now (with_get gets get)
asked_opened before now gets get is new change = record {
  known = λ id. change id ∙ ap (λ b. cond (bytes_eq get.id id) true b) (is.known id) ∙ cond_or (bytes_eq get.id id) (asked_in gets id) ∙ sym (asked_with gets get id);
  apart = apart_with gets get new is.apart;
}

-- an identifier that came and went
pub asked_undone : (before mid now : Test) (gets : List Get) (id : List ℕ) → HasAsked before gets → asked_in gets id ≡ false
    → ((q : List ℕ) → mid q ≡ cond (bytes_eq id q) true (before q))
    → ((q : List ℕ) → now q ≡ cond (bytes_eq id q) false (mid q))
    → HasAsked now gets
asked_undone before mid now gets id is new came went = record {
  known = λ q. went q ∙ ap (λ b. cond (bytes_eq id q) false b) (came q)
      ∙ undone (bytes_eq id q) (before q) (λ e. is.known q ∙ ap (asked_in gets) (sym (same_id id q e)) ∙ new)
      ∙ is.known q;
  apart = is.apart;
}

-- ---- a get is closed

-- where an item is found, it stands at the first place that passes
pub first_at : {T : Type 0} (p : T → Bool) (xs : List T) (x : T) → find p xs ≡ Some x → (position_or_len p xs < length xs) × (x ≡ get_or xs (position_or_len p xs) x)
first_at p [] x h = absurd cc
first_at {T} p (y ∷ xs) x h =
    let Goal : Bool → Type 0 = λ b. cond b (Some y) (find p xs) ≡ Some x
    → (cond (not b) (1 + position_or_len p xs) 0 < suc (length xs)) × (x ≡ get_or (y ∷ xs) (cond (not b) (1 + position_or_len p xs) 0) x) in
    let step : suc (position_or_len p xs) ≡ 1 + position_or_len p xs = omega arith in
    elim (p y) as Goal [
      | true ↦ λ h. let same : y ≡ x = cc in (omega arith, sym same)
      | false ↦ λ h. let rest = first_at p xs x h in (omega (arith, rest.0), rest.1 ∙ ap (λ k. get_or (y ∷ xs) k x) step)
    ] h

pub none_without : {T : Type 0} (p : T → Bool) (xs : List T) → find p xs ≡ None → xs ≡ without p xs
none_without p [] h = refl
none_without {T} p (y ∷ xs) h =
    let Goal : Bool → Type 0 = λ b. cond b (Some y) (find p xs) ≡ None → y ∷ xs ≡ remove (y ∷ xs) (cond (not b) (1 + position_or_len p xs) 0) in
    let step : suc (position_or_len p xs) ≡ 1 + position_or_len p xs = omega arith in
    elim (p y) as Goal [
      | true ↦ λ h. absurd cc
      | false ↦ λ h. ap (λ l. y ∷ l) (none_without p xs h) ∙ ap (remove (y ∷ xs)) step
    ] h

pub number_is : (a b : ℕ) → is_eq (nat_cmp a b) ≡ (b == a)
number_is a b =
    ⊎_elim
    (λ (same : a ≡ b). rw (← same, eq-eqb a a refl, le-ltb a a (omega arith)) refl)
    (λ apart. ⊎_elim
    (λ (less : a < b). rw (lt-ltb a b less, ne_eqb b a (λ e. omega (arith, e, less))) refl)
    (λ (more : b < a). rw (le-ltb a b (omega (arith, more)), ne_eqb a b (λ e. omega (arith, e, more)), ne_eqb b a (λ e. omega (arith, e, more))) refl)
    apart)
    (cases_order a b)

missing_number : (es : Entries) (number : ℕ) (node : List ℕ) → None ≡ lookup (is_at (nat_cmp number)) es → find (is_get number node) (map get_of es) ≡ None
missing_number [] number node h = refl
missing_number (e ∷ es) number node h =
    let Goal : Bool → Type 0 = λ b. None ≡ cond b (Some e.1) (lookup (is_at (nat_cmp number)) es)
    → cond (b && bytes_eq e.1.node node) (Some (get_of e)) (find (is_get number node) (map get_of es)) ≡ None in
    (elim (e.0 == number) as Goal [
      | true ↦ λ h. absurd cc
      | false ↦ λ h. missing_number es number node h
    ]) (h ∙ ap (λ b. cond b (Some e.1) (lookup (is_at (nat_cmp number)) es)) (number_is number e.0))

pub closed_missing : (es : Entries) (number : ℕ) (node : List ℕ) → None ≡ lookup (is_at (nat_cmp number)) es
    → (None ≡ option_map id_of_get (find (is_get number node) (map get_of es))) × (map get_of es ≡ without (is_get number node) (map get_of es))
closed_missing es number node h =
    let none = missing_number es number node h in (sym (ap (option_map id_of_get) none), none_without (is_get number node) (map get_of es) none)

-- a number above those of all entries
later_number : (es : Entries) (number : ℕ) (node : List ℕ) → AllByRecursion (λ k. nat_cmp number k ≡ Less) (keys_of es) → find (is_get number node) (map get_of es) ≡ None
later_number [] number node h = refl
later_number (e ∷ es) number node h =
    let other : (e.0 == number) ≡ false = sym (number_is number e.0) ∙ ap is_eq h.0 in
    ap (λ b. cond (b && bytes_eq e.1.node node) (Some (get_of e)) (find (is_get number node) (map get_of es))) other ∙ later_number es number node h.1

-- the get of a number is that of its node and no other
pub found_number : (es : Entries) (number : ℕ) (node : List ℕ) (asked : Asked) → IsStrictlySortedBy nat_cmp (keys_of es) → Some asked ≡ lookup (is_at (nat_cmp number)) es
    → find (is_get number node) (map get_of es) ≡ cond (bytes_eq asked.node node) (Some (get_of (number, asked))) None
unfolding IsStrictlySortedBy
found_number [] number node asked sorted h = absurd cc
found_number (e ∷ es) number node asked sorted h =
    let Goal : Bool → Type 0 = λ b. (e.0 == number) ≡ b → Some asked ≡ cond b (Some e.1) (lookup (is_at (nat_cmp number)) es)
    → cond (b && bytes_eq e.1.node node) (Some (get_of e)) (find (is_get number node) (map get_of es)) ≡ cond (bytes_eq asked.node node) (Some (get_of (number, asked))) None in
    (elim (e.0 == number) as Goal [
      | true ↦ λ same h.
          let is : asked ≡ e.1 = cc in
          let at : e.0 ≡ number = eqb-true e.0 number same in
          rw (is, ← at, later_number es e.0 node sorted.0) refl
      | false ↦ λ same h. found_number es number node asked sorted.1 h
    ]) refl (h ∙ ap (λ b. cond b (Some e.1) (lookup (is_at (nat_cmp number)) es)) (number_is number e.0))

-- the entry of a number goes
pub left_number : (es : Entries) (number : ℕ) (node : List ℕ) (asked : Asked) → Some asked ≡ lookup (is_at (nat_cmp number)) es → bytes_eq asked.node node ≡ true
    → map get_of (remove_entry (is_at (nat_cmp number)) es) ≡ without (is_get number node) (map get_of es)
left_number [] number node asked h same = absurd cc
left_number (e ∷ es) number node asked h same =
    let Goal : Bool → Type 0 = λ b. Some asked ≡ cond b (Some e.1) (lookup (is_at (nat_cmp number)) es)
    → map get_of (cond b es (e ∷ remove_entry (is_at (nat_cmp number)) es))
    ≡ remove (map get_of (e ∷ es)) (cond (not (b && bytes_eq e.1.node node)) (1 + position_or_len (is_get number node) (map get_of es)) 0) in
    let step : suc (position_or_len (is_get number node) (map get_of es)) ≡ 1 + position_or_len (is_get number node) (map get_of es) = omega arith in
    ap (λ b. map get_of (cond b es (e ∷ remove_entry (is_at (nat_cmp number)) es))) (number_is number e.0)
    ∙ (elim (e.0 == number) as Goal [
      | true ↦ λ h. let is : asked ≡ e.1 = cc in rw (← is, same) refl
      | false ↦ λ h. ap (λ l. get_of e ∷ l) (left_number es number node asked h same) ∙ ap (remove (map get_of (e ∷ es))) step
    ]) (h ∙ ap (λ b. cond b (Some e.1) (lookup (is_at (nat_cmp number)) es)) (number_is number e.0))

pub cond_none : {T : Type 0} (b : Bool) (o : Option T) → is_some (cond b None o) ≡ cond b false (is_some o)
cond_none true o = refl
cond_none false o = refl

pub asked_closed : (before now : Test) (gets : List Get) (number : ℕ) (node : List ℕ) (get : Get) → HasAsked before gets
    → find (is_get number node) gets ≡ Some get
    → ((q : List ℕ) → now q ≡ cond (bytes_eq get.id q) false (before q))
    → HasAsked now (without (is_get number node) gets)
asked_closed before now gets number node get is found change =
    let at = position_or_len (is_get number node) gets in
    let place = first_at (is_get number node) gets get found in
    record {
      known = λ id.
          change id ∙ ap (λ b. cond (bytes_eq get.id id) false b) (is.known id ∙ sym (named_is_some id_of_get gets id))
          ∙ sym (cond_none (bytes_eq get.id id) (named id_of_get gets id))
          ∙ sym (ap is_some (named_removed id_of_get gets at get id place.0 place.1 is.apart))
          ∙ named_is_some id_of_get (remove gets at) id;
      apart = apart_removed id_of_get gets at is.apart;
    }

-- whether a get has the number, by the map
pub number_known : (es : Entries) (number : ℕ) → is_some (lookup (is_at (nat_cmp number)) es) ≡ has_number (map get_of es) number
number_known [] number = refl
number_known (e ∷ es) number =
    let Goal : Bool → Type 0 = λ b. is_some (cond b (Some e.1) (lookup (is_at (nat_cmp number)) es)) ≡ (b || has_number (map get_of es) number) in
    ap (λ b. is_some (cond b (Some e.1) (lookup (is_at (nat_cmp number)) es))) (number_is number e.0)
    ∙ (elim (e.0 == number) as Goal [ true ↦ refl | false ↦ number_known es number ])
