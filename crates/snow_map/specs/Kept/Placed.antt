-- Where the entries of a map stand: each under its identifier's seat, or in order where another has that seat.
use Rattle.std.specs.Prelude.{◌≡◌, ℕ, Bool, false, not, cond, List, ◌++◌, get_or, map, nat_eq, Option, Some, None, is_some, bytes_eq}
use Rattle.std.specs.List.{IsDistinct}
use Rattle.std.specs.Map.{keys_of, lookup}
use Rattle.snow_map.specs.Clauses.Entries.{value_of}
use Rattle.snow_map.specs.Kept.Seats.{place_of as among}

-- its seat among 65,536
abbrev pub place_of : List ℕ → ℕ
place_of id = among 65536 id

-- its mark among 4,096
abbrev pub mark_of : List ℕ → ℕ
mark_of id = among 4096 id

-- whether a mark is set
abbrev pub is_marked : List Bool → ℕ → Bool
is_marked marks at = get_or marks at false

module _ {V : Type 0} where
  -- what the entry under its seat gives an identifier
  abbrev pub gives : Option (List ℕ × V) → List ℕ → Option V
  gives None id = None
  gives (Some e) id = cond (bytes_eq id e.0) (Some e.1) None

  -- the entries under seats, and then those in order
  abbrev pub entries_of : List (ℕ × (List ℕ × V)) → List (List ℕ × V) → List (List ℕ × V)
  entries_of near far = map (λ e. e.1) near ++ far

  -- whether the entry under its seat is an identifier's own
  abbrev pub is_own : Option (List ℕ × V) → List ℕ → Bool
  is_own None id = false
  is_own (Some e) id = bytes_eq id e.0

  -- whether an identifier's entry belongs in the order, by what stands under its seat
  abbrev pub is_far_by : Option (List ℕ × V) → List (List ℕ × V) → List ℕ → Bool
  is_far_by None far id = is_some (value_of far id)
  is_far_by (Some e) far id = not (bytes_eq id e.0)

  abbrev pub is_far : List (ℕ × (List ℕ × V)) → List (List ℕ × V) → List ℕ → Bool
  is_far near far id = is_far_by (lookup (nat_eq (place_of id)) near) far id

  -- an entry under a seat is of an identifier with that seat, which has none in the order
  pub record IsPlaced (far : List (List ℕ × V)) (place : ℕ) (e : List ℕ × V) : Type 0 where
    pub here : place_of e.0 ≡ place
    pub alone : value_of far e.0 ≡ None

  -- an identifier has an entry in the order only where its mark is set, and then one
  pub record IsInOrder (marks : List Bool) (far : List (List ℕ × V)) : Type 0 where
    pub once : IsDistinct bytes_eq (keys_of far)
    pub noted : (id : List ℕ) → is_marked marks (mark_of id) ≡ false → value_of far id ≡ None

  pub record IsKept (near : List (ℕ × (List ℕ × V))) (far : List (List ℕ × V)) : Type 0 where
    pub unique : IsDistinct nat_eq (keys_of near)
    pub once : IsDistinct bytes_eq (keys_of far)
    pub placed : (place : ℕ) (e : List ℕ × V) → lookup (nat_eq place) near ≡ Some e → IsPlaced far place e
