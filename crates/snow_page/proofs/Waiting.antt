-- Lemmas on bytes that wait in a buffer, one piece after another.
use Rattle.std.proofs.Common.{◌≡◌, ℕ, ◌+◌, ◌<◌, List, [], ◌++◌, take, drop, length, get_or, flat_map, Option, Some, None, Result, Ok, Err, refl, sym, ap, ◌∙◌, append_assoc, append-nil}
use Rattle.std.specs.Io.KnownBytes.{Appends}
use Rattle.std.specs.Result.{OnOk, OnErr}
use Rattle.snow_base.proofs.Known.{front_of_more, flat_map_more, flat_map_split}
use Rattle.snow_base.specs.Clauses.Outside.{AppendsFront}
use Rattle.snow_page.specs.Kept.Gathered.{Gathers}

-- nothing came
pub gathers_none : (a : Option (List ℕ)) (t : List ℕ) → Gathers a t a t []
gathers_none None t = tt
gathers_none (Some x) t = ([], sym (append-nil x), sym (append-nil t))

-- a piece came and waits
pub gathers_waiting : (a : Option (List ℕ)) (t u piece : List ℕ) → u ≡ t ++ piece → Gathers a t a u piece
gathers_waiting None t u piece e = tt
gathers_waiting (Some x) t u piece e = ([], sym (append-nil x), e)

-- what waited was written, and the piece waits
pub gathers_written : (a b : Option (List ℕ)) (t u piece : List ℕ) → Appends a b t → u ≡ piece → Gathers a t b u piece
gathers_written None b t u piece p e = tt
gathers_written (Some x) None t u piece p e = absurd p
gathers_written (Some x) (Some y) t u piece p e = (t, p, ap (λ l. t ++ l) e)

-- a piece was written as it came, and nothing waits
pub gathers_through : (a b : Option (List ℕ)) (piece : List ℕ) → Appends a b piece → Gathers a [] b [] piece
gathers_through None b piece p = tt
gathers_through (Some x) None piece p = absurd p
gathers_through (Some x) (Some y) piece p = (piece, p, append-nil piece)

-- where nothing waited and nothing waits, all was written
pub gathers_whole : (a b : Option (List ℕ)) (piece : List ℕ) → Gathers a [] b [] piece → Appends a b piece
gathers_whole None b piece p = tt
gathers_whole (Some x) None piece p = absurd p
gathers_whole (Some x) (Some y) piece p = p.1 ∙ ap (λ l. x ++ l) (sym (append-nil p.0) ∙ p.2)

-- the first of two pieces failed
pub fails_first : (a b : Option (List ℕ)) (t first second : List ℕ) → AppendsFront a b (t ++ first) → AppendsFront a b (t ++ (first ++ second))
fails_first a b t first second p = front_of_more a b (t ++ first) second _ p (append_assoc t first second)

-- one piece and then another
pub gathers_then : (a b c : Option (List ℕ)) (t u v first second all : List ℕ) → Gathers a t b u first → Gathers b u c v second → first ++ second ≡ all → Gathers a t c v all
gathers_then None b c t u v first second all p q e = tt
gathers_then (Some x) None c t u v first second all p q e = absurd p
gathers_then (Some x) (Some y) None t u v first second all p q e = absurd q
gathers_then (Some x) (Some y) (Some z) t u v first second all p q e = (
  p.0 ++ q.0,
  q.1 ∙ ap (λ l. l ++ q.0) p.1 ∙ append_assoc x p.0 q.0,
  append_assoc p.0 q.0 v ∙ ap (λ l. p.0 ++ l) q.2 ∙ sym (append_assoc p.0 u second) ∙ ap (λ l. l ++ second) p.2 ∙ append_assoc t first second ∙ ap (λ l. t ++ l) e,
)

-- a piece, and then a front of what waits and the next
pub gathers_then_front : (a b c : Option (List ℕ)) (t u first second all : List ℕ) → Gathers a t b u first → AppendsFront b c (u ++ second) → t ++ (first ++ second) ≡ all → AppendsFront a c all
gathers_then_front None b c t u first second all p q e = tt
gathers_then_front (Some x) None c t u first second all p q e = absurd p
gathers_then_front (Some x) (Some y) None t u first second all p q e = absurd q
gathers_then_front (Some x) (Some y) (Some z) t u first second all p q e = (
  p.0 ++ q.0,
  q.1,
  append_assoc p.0 q.0 q.1 ∙ ap (λ l. p.0 ++ l) q.2 ∙ sym (append_assoc p.0 u second) ∙ ap (λ l. l ++ second) p.2 ∙ append_assoc t first second ∙ e,
  q.3 ∙ ap (λ l. l ++ q.0) p.1 ∙ append_assoc x p.0 q.0,
)

-- a piece, and then all that waits was written
pub gathers_then_written : (a b c : Option (List ℕ)) (t u piece all : List ℕ) → Gathers a t b u piece → Appends b c u → t ++ piece ≡ all → Appends a c all
gathers_then_written None b c t u piece all p q e = tt
gathers_then_written (Some x) None c t u piece all p q e = absurd p
gathers_then_written (Some x) (Some y) None t u piece all p q e = absurd q
gathers_then_written (Some x) (Some y) (Some z) t u piece all p q e =
    q ∙ ap (λ l. l ++ u) p.1 ∙ append_assoc x p.0 u ∙ ap (λ l. x ++ l) (p.2 ∙ e)

-- the pieces so far, and then a front of what waits and the next
pub gathers_inside : {A : Type 0} (f : A → List ℕ) (xs : List A) (i : ℕ) (d : A) (a b c : Option (List ℕ)) (t u piece : List ℕ) → i < length xs
    → Gathers a t b u (flat_map f (take i xs)) → AppendsFront b c (u ++ piece) → piece ≡ f (get_or xs i d) → AppendsFront a c (t ++ flat_map f xs)
gathers_inside f xs i d a b c t u piece h p q e =
    gathers_then_front a b c t u (flat_map f (take i xs)) (f (get_or xs i d) ++ flat_map f (drop (i + 1) xs)) (t ++ flat_map f xs) p
    (front_of_more b c (u ++ piece) (flat_map f (drop (i + 1) xs)) _ q (ap (λ l. (u ++ l) ++ flat_map f (drop (i + 1) xs)) e ∙ append_assoc u (f (get_or xs i d)) (flat_map f (drop (i + 1) xs))))
    (ap (λ l. t ++ l) (flat_map_split f xs i d h))

-- the pieces so far, and the next
pub gathers_next : {A : Type 0} (f : A → List ℕ) (xs : List A) (i : ℕ) (d : A) (a b c : Option (List ℕ)) (t u v piece : List ℕ) → i < length xs
    → Gathers a t b u (flat_map f (take i xs)) → Gathers b u c v piece → piece ≡ f (get_or xs i d) → Gathers a t c v (flat_map f (take (i + 1) xs))
gathers_next f xs i d a b c t u v piece h p q e =
    gathers_then a b c t u v (flat_map f (take i xs)) piece _ p q (ap (λ l. flat_map f (take i xs) ++ l) e ∙ sym (flat_map_more f xs i d h))

-- the call for the first of two pieces failed
pub err_first : {T E : Type 0} (r : Result T E) (a b : Option (List ℕ)) (t first second : List ℕ) → AppendsFront a b (t ++ first) → OnErr r (AppendsFront a b (t ++ (first ++ second)))
err_first (Ok x) a b t first second p = tt
err_first (Err e) a b t first second p = fails_first a b t first second p

-- a piece came, and then the next, unless its call failed
pub ok_then : {T E : Type 0} (r : Result T E) (a b c : Option (List ℕ)) (t u v first second : List ℕ) → Gathers a t b u first → OnOk r (Gathers b u c v second) → OnOk r (Gathers a t c v (first ++ second))
ok_then (Ok x) a b c t u v first second p q = gathers_then a b c t u v first second (first ++ second) p q refl
ok_then (Err e) a b c t u v first second p q = tt

-- a piece came, and where the call for the next failed, a front of what waits and both
pub err_then : {T E : Type 0} (r : Result T E) (a b c : Option (List ℕ)) (t u first second : List ℕ) → Gathers a t b u first → OnErr r (AppendsFront b c (u ++ second)) → OnErr r (AppendsFront a c (t ++ (first ++ second)))
err_then (Ok x) a b c t u first second p q = tt
err_then (Err e) a b c t u first second p q = gathers_then_front a b c t u first second (t ++ (first ++ second)) p q refl
