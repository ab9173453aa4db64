-- The first place in a list where a test holds, and the places of identifiers.
use Rattle.std.proofs.Common.{◌≡◌, ℕ, suc, ◌+◌, Bool, true, false, ◌||◌, not, cond, nat_lt, List, [], ◌∷◌, ◌++◌, length, bytes_eq, Option, Some, None, is_some, refl, sym, ap, ◌∙◌, arith, if◌then◌else◌}
use Rattle.std.specs.List.{IsDistinct, list_any, position, prefix_len}
use Rattle.std.specs.Option.{option_map}
use Rattle.std.proofs.lemmas.Grind.{common_steps}
use Rattle.std.proofs.lemmas.Map.Keys.{IsDistinct-push}
use Rattle.snow_map.proofs.Lists.{split_on, clash, same_id, id_turned, ids_are_one}

-- the first place where a test holds, in a list with one element more in front
pub position_cons : {X : Type 0} (p : X → Bool) (x : X) (xs : List X) → position p (x ∷ xs) ≡ (if p x then Some 0 else option_map suc (position p xs))
position_cons p x xs =
    split_on (p x)
    (λ t. let here : nat_lt 0 (suc (length xs)) ≡ true = grind (arith, common_steps) in rw t (ap (λ b. cond b (Some 0) None) here))
    (λ t. rw t (shifted (prefix_len (λ y. not (p y)) xs) (length xs)))
  where
    shifted : (n len : ℕ) → cond (nat_lt (1 + n) (suc len)) (Some (1 + n)) None ≡ option_map suc (cond (nat_lt n len) (Some n) None)
    shifted n len =
        let same : nat_lt (1 + n) (suc len) ≡ nat_lt n len = grind (arith, common_steps) in
        rw same (split_on (nat_lt n len) (λ t. rw t (ap Some (omega arith))) (λ t. rw t refl))

-- a place with one more that fails is the same
pub place_kept : {X : Type 0} (p : X → Bool) (ks : List X) (k : X) → p k ≡ false → position p (ks ++ k ∷ []) ≡ position p ks
place_kept p [] k fails = position_cons p k [] ∙ rw fails refl
place_kept p (y ∷ ks) k fails =
    position_cons p y (ks ++ k ∷ [])
    ∙ ap (λ o. if p y then Some 0 else option_map suc o) (place_kept p ks k fails)
    ∙ sym (position_cons p y ks)

-- an identifier that comes last has the last place, and each other one keeps its own
pub placed_last : (ids : List (List ℕ)) (id q : List ℕ) → list_any (bytes_eq id) ids ≡ false → position (bytes_eq q) (ids ++ id ∷ []) ≡ (if bytes_eq id q then Some (length ids) else position (bytes_eq q) ids)
placed_last [] id q none = position_cons (bytes_eq q) id [] ∙ ap (λ b. if b then Some 0 else None) (id_turned q id)
placed_last (x ∷ ids) id q none =
    position_cons (bytes_eq q) x (ids ++ id ∷ [])
    ∙ ap (λ o. if bytes_eq q x then Some 0 else option_map suc o) (placed_last ids id q (behind (bytes_eq id x) none))
    ∙ split_on (bytes_eq id q)
    (λ t. rw (t, ap (λ i. bytes_eq i x) (sym (same_id id q t)) ∙ first (bytes_eq id x) none) refl)
    (λ t. rw t (sym (position_cons (bytes_eq q) x ids)))
  where
    first : (b : Bool) → (b || list_any (bytes_eq id) ids) ≡ false → b ≡ false
    first true is = clash true refl is
    first false is = refl

    behind : (b : Bool) → (b || list_any (bytes_eq id) ids) ≡ false → list_any (bytes_eq id) ids ≡ false
    behind true is = clash true refl is
    behind false is = is

-- an identifier has a place where it stands
pub placed_there : (ids : List (List ℕ)) (id : List ℕ) → is_some (position (bytes_eq id) ids) ≡ list_any (bytes_eq id) ids
placed_there [] id = refl
placed_there (x ∷ ids) id = ap is_some (position_cons (bytes_eq id) x ids) ∙ by (bytes_eq id x) (position (bytes_eq id) ids) (placed_there ids id)
  where
    by : (b : Bool) (o : Option ℕ) → is_some o ≡ list_any (bytes_eq id) ids → is_some (if b then Some 0 else option_map suc o) ≡ (b || list_any (bytes_eq id) ids)
    by true o more = refl
    by false None more = more
    by false (Some n) more = more

-- no identifier stands twice in a list of none, and in one with another one more
pub none_twice : IsDistinct bytes_eq []
unfolding IsDistinct
none_twice = tt

pub one_more_once : (ids : List (List ℕ)) (id : List ℕ) → IsDistinct bytes_eq ids → list_any (bytes_eq id) ids ≡ false → IsDistinct bytes_eq (ids ++ id ∷ [])
one_more_once ids id once none = IsDistinct-push ids_are_one ids id once none
