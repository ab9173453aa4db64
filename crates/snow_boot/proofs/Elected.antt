-- Candidates in the order in which they were named, and the weight that backs each.
use Rattle.std.proofs.Common.{◌≡◌, ℕ, suc, zero, ◌+◌, ◌≤◌, ◌<◌, Bool, true, false, ◌||◌, cond, List, [], ◌∷◌, ◌++◌, map, filter, take, drop, get_or, set, length, Option, Some, None, bytes_eq, if◌then◌else◌, append_assoc, refl, sym, ap, subst, ◌∙◌, arith}
use Rattle.std.specs.List.{AllByRecursion, IsDistinct, list_any, position}
use Rattle.std.specs.Option.{option_map}
use Rattle.std.proofs.Math.Seq.{take-suc}
use Rattle.std.proofs.lemmas.List.{map-append}
use Rattle.std.proofs.lemmas.List.Folds.{list_any-append}
use Rattle.snow_map.proofs.Places.{position_cons, one_more_once}
use Rattle.snow_boot.specs.declared.question.Candidate.{Candidate}
use Rattle.snow_boot.specs.Model.Electing.{is_collected, collected, backed_by, backed, is_target, majority}
use Rattle.snow_boot.specs.Kept.Surveying.{AreListed, AreWithin, weight_of}
use Rattle.snow_store.specs.Model.Paths.{has_id}
use Rattle.snow_store.proofs.Cases.{clash, same_id, id_turned, same_some, none_not, any_turned, or_false, or_assoc, next_of}

-- the identifiers of candidates
abbrev pub ids_of : List Candidate → List (List ℕ)
ids_of cs = map (λ c. c.id) cs

-- ---- collecting

collected_there : (cs : List Candidate) (id : List ℕ) → list_any (bytes_eq id) (ids_of cs) ≡ is_collected cs id
collected_there [] id = refl
collected_there (c ∷ cs) id = ap (λ t. t || list_any (bytes_eq id) (ids_of cs)) (id_turned id c.id) ∙ ap (λ t. bytes_eq c.id id || t) (collected_there cs id)

-- whether it was, by the list of identifiers
pub was_collected : (cs : List Candidate) (ids : List (List ℕ)) (id : List ℕ) (t : Bool) → ids_of cs ≡ ids → list_any (bytes_eq id) ids ≡ t
    → collected cs id ≡ (if t then cs else cs ++ record { id = id; weight = 0 } ∷ [])
was_collected cs ids id t same is =
    ap (λ (b : Bool). if b then cs else cs ++ record { id = id; weight = 0 } ∷ []) (sym (collected_there cs id) ∙ ap (list_any (bytes_eq id)) same ∙ is)

-- one more is listed
pub listed_more : (cs : List Candidate) (ids more : List (List ℕ)) (id : List ℕ) → AreListed ids cs → list_any (bytes_eq id) ids ≡ false → more ≡ ids ++ id ∷ []
    → AreListed more (cs ++ record { id = id; weight = 0 } ∷ [])
listed_more cs ids more id listed none is = record {
  same = map-append (λ (c : Candidate). c.id) cs (record { id = id; weight = 0 } ∷ []) ∙ ap (λ l. l ++ id ∷ []) listed.same ∙ sym is;
  unique = subst (IsDistinct bytes_eq) (sym is) (one_more_once ids id listed.unique none);
}

-- ---- the identifiers of an answer

-- one more, where it isn't there
once_more : (ids : List (List ℕ)) (k q : List ℕ) → has_id (if list_any (bytes_eq k) ids then ids else ids ++ k ∷ []) q ≡ (has_id ids q || bytes_eq k q)
once_more ids k q = by (list_any (bytes_eq k) ids) refl (bytes_eq k q) refl
  where
    or_true : (b : Bool) → b ≡ true → b ≡ (b || true)
    or_true true e = refl
    or_true false e = clash true refl (sym e)

    by : (t : Bool) → list_any (bytes_eq k) ids ≡ t → (s : Bool) → bytes_eq k q ≡ s → has_id (if t then ids else ids ++ k ∷ []) q ≡ (has_id ids q || s)
    by true there true same = or_true (has_id ids q) (ap (has_id ids) (sym (same_id k q same)) ∙ sym (any_turned ids k) ∙ there)
    by true there false other = sym (or_false (has_id ids q))
    by false none s is = list_any-append (λ x. bytes_eq x q) ids (k ∷ []) ∙ ap (λ t. has_id ids q || t) (or_false (bytes_eq k q) ∙ is)

-- those so far, and those that are left
pub once_on : (once more ids : List (List ℕ)) (i : ℕ) (k : List ℕ) → more ≡ (if list_any (bytes_eq k) once then once else once ++ k ∷ []) → i < length ids → k ≡ get_or ids i k
    → ((q : List ℕ) → (has_id once q || has_id (drop i ids) q) ≡ has_id ids q) → (q : List ℕ) → (has_id more q || has_id (drop (i + 1) ids) q) ≡ has_id ids q
once_on once more ids i k is within at so_far q =
    ap (λ l. has_id l q || has_id (drop (i + 1) ids) q) is
    ∙ ap (λ t. t || has_id (drop (i + 1) ids) q) (once_more once k q)
    ∙ or_assoc (has_id once q) (bytes_eq k q) (has_id (drop (i + 1) ids) q)
    ∙ ap (λ l. has_id once q || has_id l q) (sym (next_of ids i k within at))
    ∙ so_far q

-- ---- backing

pub none_backed : (w : ℕ) (cs : List Candidate) → backed w [] cs ≡ cs
none_backed w [] = refl
none_backed w (c ∷ cs) = ap (λ l. c ∷ l) (none_backed w cs)

one_backed : (ids : List (List ℕ)) (k : List ℕ) (w : ℕ) (cs : List Candidate) → has_id ids k ≡ false → backed w (k ∷ []) (backed w ids cs) ≡ backed w (ids ++ k ∷ []) cs
one_backed ids k w [] new = refl
one_backed ids k w (c ∷ cs) new =
    ap (λ (x : Candidate). x ∷ backed w (k ∷ []) (backed w ids cs))
    (by (has_id ids c.id) (bytes_eq k c.id) refl refl ∙ ap (λ (t : Bool). if t then record { id = c.id; weight = c.weight + w } else c) (sym (list_any-append (λ x. bytes_eq x c.id) ids (k ∷ []))))
    ∙ ap (λ l. backed_by w (ids ++ k ∷ []) c ∷ l) (one_backed ids k w cs new)
  where
    by : (s t : Bool) → has_id ids c.id ≡ s → bytes_eq k c.id ≡ t → backed_by w (k ∷ []) (backed_by w ids c)
        ≡ (if has_id ids c.id || (bytes_eq k c.id || false) then record { id = c.id; weight = c.weight + w } else c)
    by true true had same = clash (has_id ids k) (ap (has_id ids) (same_id k c.id same) ∙ had) new
    by true false had other = rw (had, other) refl
    by false true none same = rw (none, same) refl
    by false false none other = rw (none, other) refl

-- what backs one that isn't among them
pub backs_within : (most : ℕ) (ids : List (List ℕ)) (k : List ℕ) (w : ℕ) (cs : List Candidate) → has_id ids k ≡ false → AreWithin most cs → weight_of (backed w ids cs) k ≤ most
backs_within most ids k w [] new are = omega arith
backs_within most ids k w (c ∷ cs) new are = by (has_id ids c.id) (bytes_eq k c.id) refl refl (backs_within most ids k w cs new are.1)
  where
    by : (s t : Bool) → has_id ids c.id ≡ s → bytes_eq k c.id ≡ t → weight_of (backed w ids cs) k ≤ most → weight_of (backed_by w ids c ∷ backed w ids cs) k ≤ most
    by true true had same more = clash (has_id ids k) (ap (has_id ids) (same_id k c.id same) ∙ had) new
    by true false had other more = rw (had, other) more
    by false true none same more = rw (none, same) are.0
    by false false none other more = rw (none, other) more

-- what backs one that has a place
pub backs_at : (k : List ℕ) (at : ℕ) (cs : List Candidate) (c : Candidate) → position (bytes_eq k) (ids_of cs) ≡ Some at → c ≡ get_or cs at c → weight_of cs k ≡ c.weight
backs_at k at [] c is found = none_not at is
backs_at k at (x ∷ cs) c is found = by (bytes_eq k x.id) (position (bytes_eq k) (ids_of cs)) (λ n. backs_at k n cs c) (sym (position_cons (bytes_eq k) x.id (ids_of cs)) ∙ is)
  where
    by : (t : Bool) (o : Option ℕ) → ((n : ℕ) → o ≡ Some n → c ≡ get_or cs n c → weight_of cs k ≡ c.weight) → (if t then Some 0 else option_map suc o) ≡ Some at
        → (if t then x.weight else weight_of cs k) ≡ c.weight
    by true o more first = ap (λ (y : Candidate). y.weight) (sym (subst (λ n. c ≡ get_or (x ∷ cs) n c) (sym (same_some 0 at first)) found))
    by false None more first = none_not at first
    by false (Some n) more first = more n refl (subst (λ m. c ≡ get_or (x ∷ cs) m c) (sym (same_some (suc n) at first)) found)

-- one that is no candidate
pub none_backs : (k : List ℕ) (w : ℕ) (cs : List Candidate) → position (bytes_eq k) (ids_of cs) ≡ None → cs ≡ backed w (k ∷ []) cs
none_backs k w [] none = refl
none_backs k w (c ∷ cs) none = by (bytes_eq k c.id) (position (bytes_eq k) (ids_of cs)) (none_backs k w cs) (sym (position_cons (bytes_eq k) c.id (ids_of cs)) ∙ none)
  where
    by : (t : Bool) (o : Option ℕ) → (o ≡ None → cs ≡ backed w (k ∷ []) cs) → (if t then Some 0 else option_map suc o) ≡ None
        → c ∷ cs ≡ (if t || false then record { id = c.id; weight = c.weight + w } else c) ∷ backed w (k ∷ []) cs
    by true o more is = none_not 0 (sym is)
    by false None more is = ap (λ l. c ∷ l) (more refl)
    by false (Some n) more is = none_not (suc n) (sym is)

others_backed : (k : List ℕ) (w : ℕ) (cs : List Candidate) → AllByRecursion (λ y. bytes_eq k y ≡ false) (ids_of cs) → backed w (k ∷ []) cs ≡ cs
others_backed k w [] apart = refl
others_backed k w (c ∷ cs) apart = ap (λ (t : Bool). (if t || false then record { id = c.id; weight = c.weight + w } else c) ∷ backed w (k ∷ []) cs) apart.0 ∙ ap (λ l. c ∷ l) (others_backed k w cs apart.1)

-- one that has a place
pub set_backs : (k : List ℕ) (w at : ℕ) (cs : List Candidate) (c : Candidate) → IsDistinct bytes_eq (ids_of cs) → position (bytes_eq k) (ids_of cs) ≡ Some at → c ≡ get_or cs at c
    → set cs at (record { id = c.id; weight = c.weight + w }) ≡ backed w (k ∷ []) cs
unfolding IsDistinct
set_backs k w at [] c apart is found = none_not at is
set_backs k w at (x ∷ cs) c apart is found = by (bytes_eq k x.id) refl (position (bytes_eq k) (ids_of cs)) (λ n. set_backs k w n cs c apart.1) (sym (position_cons (bytes_eq k) x.id (ids_of cs)) ∙ is)
  where
    by : (t : Bool) → bytes_eq k x.id ≡ t → (o : Option ℕ) → ((n : ℕ) → o ≡ Some n → c ≡ get_or cs n c → set cs n (record { id = c.id; weight = c.weight + w }) ≡ backed w (k ∷ []) cs) → (if t then Some 0 else option_map suc o) ≡ Some at
        → set (x ∷ cs) at (record { id = c.id; weight = c.weight + w }) ≡ backed w (k ∷ []) (x ∷ cs)
    by true same o more first =
        let here : at ≡ 0 = sym (same_some 0 at first) in
        let its : c ≡ x = subst (λ n. c ≡ get_or (x ∷ cs) n c) here found in
        let others : AllByRecursion (λ y. bytes_eq k y ≡ false) (ids_of cs) = subst (λ i. AllByRecursion (λ y. bytes_eq i y ≡ false) (ids_of cs)) (sym (same_id k x.id same)) apart.0 in
        rw (here, its, same) (ap (λ (l : List Candidate). record { id = x.id; weight = x.weight + w } ∷ l) (sym (others_backed k w cs others)))
    by false other None more first = none_not at first
    by false other (Some n) more first =
        let here : at ≡ suc n = sym (same_some (suc n) at first) in
        let its : c ≡ get_or cs n c = subst (λ m. c ≡ get_or (x ∷ cs) m c) here found in
        rw (here, other) (ap (λ l. x ∷ l) (more n refl its))

-- the identifiers stay
pub backed_ids : (w : ℕ) (ids : List (List ℕ)) (cs : List Candidate) → ids_of (backed w ids cs) ≡ ids_of cs
backed_ids w ids [] = refl
backed_ids w ids (c ∷ cs) = by (has_id ids c.id) (backed_ids w ids cs)
  where
    by : (t : Bool) → ids_of (backed w ids cs) ≡ ids_of cs → ids_of ((if t then record { id = c.id; weight = c.weight + w } else c) ∷ backed w ids cs) ≡ c.id ∷ ids_of cs
    by true more = ap (λ l. c.id ∷ l) more
    by false more = ap (λ l. c.id ∷ l) more

-- ---- distinct identifiers

one_of : (P : List ℕ → Type 0) (xs : List (List ℕ)) (i : ℕ) (k : List ℕ) (rest : List (List ℕ)) → AllByRecursion P xs → drop i xs ≡ k ∷ rest → P k
one_of P [] zero k rest all is = cc
one_of P [] (suc i) k rest all is = cc
one_of P (x ∷ xs) zero k rest all is = let here : x ≡ k = cc in subst P here all.0
one_of P (x ∷ xs) (suc i) k rest all is = one_of P xs i k rest all.1 is

-- none of those before it is the same
pub new_at : (ks : List (List ℕ)) (i : ℕ) (k : List ℕ) (rest : List (List ℕ)) → IsDistinct bytes_eq ks → drop i ks ≡ k ∷ rest → has_id (take i ks) k ≡ false
unfolding IsDistinct
new_at ks zero k rest apart is = refl
new_at [] (suc i) k rest apart is = refl
new_at (x ∷ xs) (suc i) k rest apart is =
    ap (λ t. t || has_id (take i xs) k) (one_of (λ y. bytes_eq x y ≡ false) xs i k rest apart.0 is) ∙ new_at xs i k rest apart.1 is

-- one more of those that an answer names
pub backed_on : (ks : List (List ℕ)) (i : ℕ) (k : List ℕ) (w : ℕ) (cs now more : List Candidate) → IsDistinct bytes_eq ks → i < length ks → k ≡ get_or ks i k
    → now ≡ backed w (take i ks) cs → more ≡ backed w (k ∷ []) now → more ≡ backed w (take (suc i) ks) cs
backed_on ks i k w cs now more apart within at so_far is =
    is ∙ ap (backed w (k ∷ [])) so_far ∙ one_backed (take i ks) k w cs (new_at ks i k (drop (i + 1) ks) apart (next_of ks i k within at))
    ∙ ap (λ l. backed w l cs) (ap (λ x. take i ks ++ x ∷ []) at ∙ sym (take-suc ks i k within))

-- ---- electing

-- none of those before it is the same
none_before : (ids rest : List (List ℕ)) (k : List ℕ) → IsDistinct bytes_eq (ids ++ k ∷ rest) → list_any (bytes_eq k) ids ≡ false
unfolding IsDistinct
none_before [] rest k apart = refl
none_before (x ∷ ids) rest k apart =
    ap (λ t. t || list_any (bytes_eq k) ids) (id_turned k x ∙ behind ids apart.0) ∙ none_before ids rest k apart.1
  where
    behind : (ids : List (List ℕ)) → AllByRecursion (λ y. bytes_eq x y ≡ false) (ids ++ k ∷ rest) → bytes_eq x k ≡ false
    behind [] all = all.0
    behind (y ∷ ids) all = behind ids all.1

elected_apart : (total : ℕ) (x : List ℕ) (cs : List Candidate) → AllByRecursion (λ y. bytes_eq x y ≡ false) (ids_of cs) → AllByRecursion (λ y. bytes_eq x y ≡ false) (majority total cs)
elected_apart total x [] apart = tt
elected_apart total x (c ∷ cs) apart = by (is_target total c) (elected_apart total x cs apart.1)
  where
    by : (t : Bool) → AllByRecursion (λ y. bytes_eq x y ≡ false) (majority total cs)
        → AllByRecursion (λ y. bytes_eq x y ≡ false) (ids_of (cond t (c ∷ filter (is_target total) cs) (filter (is_target total) cs)))
    by true more = (apart.0, more)
    by false more = more

elected_distinct : (total : ℕ) (cs : List Candidate) → IsDistinct bytes_eq (ids_of cs) → IsDistinct bytes_eq (majority total cs)
unfolding IsDistinct
elected_distinct total [] apart = tt
elected_distinct total (c ∷ cs) apart = by (is_target total c) (elected_distinct total cs apart.1)
  where
    by : (t : Bool) → IsDistinct bytes_eq (majority total cs) → IsDistinct bytes_eq (ids_of (cond t (c ∷ filter (is_target total) cs) (filter (is_target total) cs)))
    by true more = (elected_apart total c.id cs apart.0, more)
    by false more = more

-- the next candidate is elected
pub elected_on : (total : ℕ) (cs : List Candidate) (i : ℕ) (ids more : List (List ℕ)) (c : Candidate) → IsDistinct bytes_eq (ids_of cs) → i < length cs → c ≡ get_or cs i c
    → is_target total c ≡ true → more ≡ (if list_any (bytes_eq c.id) ids then ids else ids ++ c.id ∷ [])
    → ids ++ majority total (drop i cs) ≡ majority total cs → more ++ majority total (drop (i + 1) cs) ≡ majority total cs
elected_on total cs i ids more c apart within at heavy is so_far =
    let rest = drop (i + 1) cs in
    let all : ids ++ (c.id ∷ majority total rest) ≡ majority total cs =
    sym (ap (λ l. ids ++ l) (ap (majority total) (next_of cs i c within at) ∙ taken (is_target total c) heavy)) ∙ so_far in
    let new : list_any (bytes_eq c.id) ids ≡ false = none_before ids (majority total rest) c.id (subst (IsDistinct bytes_eq) (sym all) (elected_distinct total cs apart)) in
    ap (λ l. l ++ majority total rest) (is ∙ ap (λ (t : Bool). if t then ids else ids ++ c.id ∷ []) new)
    ∙ append_assoc ids (c.id ∷ []) (majority total rest) ∙ all
  where
    taken : (t : Bool) → t ≡ true → ids_of (cond t (c ∷ filter (is_target total) (drop (i + 1) cs)) (filter (is_target total) (drop (i + 1) cs))) ≡ c.id ∷ majority total (drop (i + 1) cs)
    taken true t = refl
    taken false t = clash true refl (sym t)

-- or it isn't
pub passed_over : (total : ℕ) (cs : List Candidate) (i : ℕ) (ids : List (List ℕ)) (c : Candidate) → i < length cs → c ≡ get_or cs i c → is_target total c ≡ false
    → ids ++ majority total (drop i cs) ≡ majority total cs → ids ++ majority total (drop (i + 1) cs) ≡ majority total cs
passed_over total cs i ids c within at light so_far =
    sym (ap (λ l. ids ++ l) (ap (majority total) (next_of cs i c within at) ∙ passed (is_target total c) light)) ∙ so_far
  where
    passed : (t : Bool) → t ≡ false → ids_of (cond t (c ∷ filter (is_target total) (drop (i + 1) cs)) (filter (is_target total) (drop (i + 1) cs))) ≡ majority total (drop (i + 1) cs)
    passed true t = clash true refl t
    passed false t = refl
