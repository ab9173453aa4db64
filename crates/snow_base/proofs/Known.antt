-- Lemmas on bytes that are known: pieces written one after another, wholly or in front, and pieces read.
use Rattle.std.proofs.Common.{◌≡◌, ℕ, ◌+◌, ◌<◌, List, [], ◌∷◌, ◌++◌, length, take, drop, get_or, flat_map, Option, Some, None, refl, sym, ap, ◌∙◌, append_assoc, append-nil, add-one, drop-cons, take-append-drop}
use Rattle.std.specs.Io.KnownBytes.{Appends, Keeps, Consumes}
use Rattle.std.proofs.lemmas.List.{take_more}
use Rattle.std.proofs.lemmas.List.Concat.{flat_map-append}
use Rattle.std.proofs.KnownBytes.{Appends-nil, Consumes-nil, Keeps-trans}
use Rattle.snow_base.specs.Clauses.Outside.{AppendsFront}

-- ---- written bytes

-- nothing was written
pub appends_none : (a : Option (List ℕ)) → Appends a a []
appends_none = Appends-nil

-- one piece and then another
pub appends_then : (a b c : Option (List ℕ)) (first second all : List ℕ) → Appends a b first → Appends b c second → first ++ second ≡ all → Appends a c all
appends_then None b c first second all p q e = tt
appends_then (Some x) None c first second all p q e = absurd p
appends_then (Some x) (Some y) None first second all p q e = absurd q
appends_then (Some x) (Some y) (Some z) first second all p q e =
    q ∙ ap (λ l. l ++ second) p ∙ append_assoc x first second ∙ ap (λ l. x ++ l) e

-- a piece, and then a write that failed with nothing written
pub appends_then_kept : (a b c : Option (List ℕ)) (first rest all : List ℕ) → Appends a b first → Keeps b c → first ++ rest ≡ all → AppendsFront a c all
appends_then_kept None b c first rest all p q e = tt
appends_then_kept (Some x) None c first rest all p q e = absurd p
appends_then_kept (Some x) (Some y) None first rest all p q e = absurd q
appends_then_kept (Some x) (Some y) (Some z) first rest all p q e = (first, rest, e, q ∙ p)

-- a piece, and then a front of the next
pub appends_then_front : (a b c : Option (List ℕ)) (first second all : List ℕ) → Appends a b first → AppendsFront b c second → first ++ second ≡ all → AppendsFront a c all
appends_then_front None b c first second all p q e = tt
appends_then_front (Some x) None c first second all p q e = absurd p
appends_then_front (Some x) (Some y) None first second all p q e = absurd q
appends_then_front (Some x) (Some y) (Some z) first second all p q e =
    (first ++ q.0, q.1, append_assoc first q.0 q.1 ∙ ap (λ l. first ++ l) q.2 ∙ e, q.3 ∙ ap (λ l. l ++ q.0) p ∙ append_assoc x first q.0)

-- a front of a piece is a front of more
pub front_of_more : (a b : Option (List ℕ)) (piece more all : List ℕ) → AppendsFront a b piece → piece ++ more ≡ all → AppendsFront a b all
front_of_more None b piece more all p e = tt
front_of_more (Some x) None piece more all p e = absurd p
front_of_more (Some x) (Some y) piece more all p e = (p.0, p.1 ++ more, sym (append_assoc p.0 p.1 more) ∙ ap (λ l. l ++ more) p.2 ∙ e, p.3)

-- a whole piece is a front of itself
pub front_of_whole : (a b : Option (List ℕ)) (piece : List ℕ) → Appends a b piece → AppendsFront a b piece
front_of_whole None b piece p = tt
front_of_whole (Some x) None piece p = absurd p
front_of_whole (Some x) (Some y) piece p = (piece, [], append-nil piece, p)

-- a write that failed with nothing written, and then a piece
pub kept_then_appends : (a b c : Option (List ℕ)) (all : List ℕ) → Keeps a b → Appends b c all → Appends a c all
kept_then_appends None b c all p q = tt
kept_then_appends (Some x) None c all p q = absurd p
kept_then_appends (Some x) (Some y) None all p q = absurd q
kept_then_appends (Some x) (Some y) (Some z) all p q = q ∙ ap (λ l. l ++ all) p

-- two calls that failed with nothing written or read
pub kept_then_kept : (a b c : Option (List ℕ)) → Keeps a b → Keeps b c → Keeps a c
kept_then_kept = Keeps-trans

-- what lemmas on written pieces a caller wants
pub ruleset appending = (kept_then_appends, kept_then_kept, appends_none, appends_then, appends_then_kept, appends_then_front, front_of_more, front_of_whole)

-- ---- read bytes

-- nothing was read
pub consumes_none : (a : Option (List ℕ)) → Consumes a a []
consumes_none = Consumes-nil

-- one piece and then another
pub consumes_then : (a b c : Option (List ℕ)) (first second all : List ℕ) → Consumes a b first → Consumes b c second → first ++ second ≡ all → Consumes a c all
consumes_then None b c first second all p q e = tt
consumes_then (Some x) None c first second all p q e = absurd p
consumes_then (Some x) (Some y) None first second all p q e = absurd q
consumes_then (Some x) (Some y) (Some z) first second all p q e =
    p ∙ ap (λ l. first ++ l) q ∙ sym (append_assoc first second z) ∙ ap (λ l. l ++ z) e

-- a read that failed with nothing read, and then a piece
pub kept_then_consumes : (a b c : Option (List ℕ)) (all : List ℕ) → Keeps a b → Consumes b c all → Consumes a c all
kept_then_consumes None b c all p q = tt
kept_then_consumes (Some x) None c all p q = absurd p
kept_then_consumes (Some x) (Some y) None all p q = absurd q
kept_then_consumes (Some x) (Some y) (Some z) all p q = sym p ∙ q

-- what lemmas on read pieces a caller wants
pub ruleset consuming = (kept_then_consumes, kept_then_kept, consumes_none, consumes_then)

-- ---- pieces of a list of items

-- the piece of the next item
pub flat_map_more : {A : Type 0} (f : A → List ℕ) (xs : List A) (i : ℕ) (d : A) → i < length xs → flat_map f (take (i + 1) xs) ≡ flat_map f (take i xs) ++ f (get_or xs i d)
flat_map_more f xs i d h = ap (flat_map f) (take_more xs i d h) ∙ flat_map-append f (take i xs) (get_or xs i d ∷ []) ∙ ap (λ l. flat_map f (take i xs) ++ l) (append-nil (f (get_or xs i d)))

-- the pieces so far, this piece and those after it
pub flat_map_split : {A : Type 0} (f : A → List ℕ) (xs : List A) (i : ℕ) (d : A) → i < length xs
    → flat_map f (take i xs) ++ (f (get_or xs i d) ++ flat_map f (drop (i + 1) xs)) ≡ flat_map f xs
flat_map_split f xs i d h =
    let here : drop i xs ≡ get_or xs i d ∷ drop (i + 1) xs = rw add-one (drop-cons xs i d h) in
    ap (λ l. flat_map f (take i xs) ++ flat_map f l) (sym here)
    ∙ sym (flat_map-append f (take i xs) (drop i xs))
    ∙ ap (flat_map f) (take-append-drop i xs)

-- the pieces so far, and a front of the next, are a front of them all
pub fails_inside : {A : Type 0} (f : A → List ℕ) (xs : List A) (i : ℕ) (d : A) (a b c : Option (List ℕ)) → i < length xs
    → Appends a b (flat_map f (take i xs)) → AppendsFront b c (f (get_or xs i d)) → AppendsFront a c (flat_map f xs)
fails_inside f xs i d a b c h p q =
    appends_then_front a b c (flat_map f (take i xs)) (f (get_or xs i d) ++ flat_map f (drop (i + 1) xs)) (flat_map f xs) p
    (front_of_more b c (f (get_or xs i d)) (flat_map f (drop (i + 1) xs)) _ q refl)
    (flat_map_split f xs i d h)
