-- Items one after another: passing over them, as a loop does, and taking the first one off.
use Rattle.std.proofs.Common.{◌≡◌, ℕ, suc, ◌-◌, ◌+◌, ◌≤◌, ◌<◌, true, false, List, [], ◌∷◌, Result, Ok, Err, refl, sym, ap, subst, ◌∙◌, arith}
use Rattle.std.specs.Result.{IsOk}
use Rattle.snow_wire.specs.declared.skip.Fault.{Fault}
use Rattle.snow_wire.specs.Model.Reading.{Read, ◌>>=◌, items_at, items_in}
use Rattle.snow_wire.proofs.Fields.{ok_is}

-- an item in front of others
abbrev led : {A : Type 0} → A → Read (List A) → Read (List A)
led x read = read >>= λ others. Ok (x ∷ others.0, others.1)

items_led : {A : Type 0} (item : List ℕ → Read A) (count n : ℕ) (bytes after : List ℕ) (x : A) → count ≡ suc n → item bytes ≡ Ok (x, after) → items_at item count bytes ≡ led x (items_at item n after)
unfolding items_at
items_led item count n bytes after x same h = rw (same, h) refl

items_refused : {A : Type 0} (item : List ℕ → Read A) (count n : ℕ) (bytes : List ℕ) (f : Fault) → count ≡ suc n → item bytes ≡ Err f → items_at item count bytes ≡ Err f
unfolding items_at
items_refused item count n bytes f same h = rw (same, h) refl

-- ---- passing over them

-- the bytes behind what was read, or why nothing was
abbrev pub left_by : {A : Type 0} → Read A → Result (List ℕ) Fault
left_by (Ok x) = Ok x.1
left_by (Err f) = Err f

same_left : {A : Type 0} (x : A) (read : Read (List A)) → left_by (led x read) ≡ left_by read
same_left x (Ok others) = refl
same_left x (Err f) = refl

-- one item more
pub goes_on : {A : Type 0} (item : List ℕ → Read A) (count i : ℕ) (bytes : List ℕ) (x : A) (after : List ℕ) (total : Result (List ℕ) Fault) → i < count → item bytes ≡ Ok (x, after)
    → left_by (items_at item (count - i) bytes) ≡ total → left_by (items_at item (count - (i + 1)) after) ≡ total
goes_on item count i bytes x after total lt h so_far =
    let n = count - (i + 1) in
    sym (same_left x (items_at item n after)) ∙ ap left_by (sym (items_led item (count - i) n bytes after x (omega arith) h)) ∙ so_far

refused : {A : Type 0} (f : Fault) (read : Read A) → Err f ≡ left_by read → read ≡ Err f
refused f (Ok x) e = absurd cc
refused f (Err g) e = cc

-- an item that is refused
pub ends : {A : Type 0} (item : List ℕ → Read A) (f : Fault) (count i : ℕ) (bytes : List ℕ) (total : Read (List A)) → i < count → item bytes ≡ Err f
    → left_by (items_at item (count - i) bytes) ≡ left_by total → total ≡ Err f
ends item f count i bytes total lt h so_far =
    refused f total (ap left_by (sym (items_refused item (count - i) (count - (i + 1)) bytes f (omega arith) h)) ∙ so_far)

given : {A : Type 0} (rest : List ℕ) (read : Read (List A)) → Ok rest ≡ left_by read → read ≡ Ok (items_in read, rest)
given rest (Ok x) e = ap (λ (r : List ℕ). Ok (x.0, r)) (sym (ok_is rest x.1 e))
given rest (Err f) e = absurd cc

-- no item more
pub is_done : {A : Type 0} (item : List ℕ → Read A) (count i : ℕ) (bytes : List ℕ) (total : Read (List A)) → count ≤ i
    → left_by (items_at item (count - i) bytes) ≡ left_by total → total ≡ Ok (items_in total, bytes)
unfolding items_at
is_done item count i bytes total le so_far =
    let k : count - i ≡ 0 = omega arith in
    let one : left_by (items_at item (count - i) bytes) ≡ Ok bytes = rw k refl in
    given bytes total (sym one ∙ so_far)

-- ---- taking the first one off

-- there is none
pub none_left : {A : Type 0} (item : List ℕ → Read A) (count : ℕ) (bytes : List ℕ) → count ≡ 0 → items_in (items_at item count bytes) ≡ []
unfolding items_at
none_left item count bytes same = rw same refl

not_ok : false ≡ true → ⊥
not_ok ok = cc

-- where all are read, the first one is
pub none_refused : {A : Type 0} (item : List ℕ → Read A) (count n : ℕ) (bytes : List ℕ) (f : Fault) → count ≡ suc n → item bytes ≡ Err f → IsOk (items_at item count bytes) → ⊥
none_refused item count n bytes f same h ok = not_ok (subst IsOk (items_refused item count n bytes f same h) ok)

others_ok : {A : Type 0} (x : A) (read : Read (List A)) → IsOk (led x read) → IsOk read
others_ok x (Ok others) ok = refl
others_ok x (Err f) ok = ok

led_in : {A : Type 0} (x : A) (read : Read (List A)) → IsOk (led x read) → items_in (led x read) ≡ x ∷ items_in read
led_in x (Ok others) ok = refl
led_in x (Err f) ok = absurd (not_ok ok)

-- the others are read behind it
pub others_read : {A : Type 0} (item : List ℕ → Read A) (count n : ℕ) (bytes after : List ℕ) (x : A) → count ≡ suc n → item bytes ≡ Ok (x, after) → IsOk (items_at item count bytes) → IsOk (items_at item n after)
others_read item count n bytes after x same h ok =
    others_ok x (items_at item n after) (subst IsOk (items_led item count n bytes after x same h) ok)

-- it stands in front of the others
pub first_taken : {A : Type 0} (item : List ℕ → Read A) (count n : ℕ) (bytes after : List ℕ) (x : A) → count ≡ suc n → item bytes ≡ Ok (x, after) → IsOk (items_at item count bytes)
    → items_in (items_at item count bytes) ≡ x ∷ items_in (items_at item n after)
first_taken item count n bytes after x same h ok =
    let e = items_led item count n bytes after x same h in
    ap items_in e ∙ led_in x (items_at item n after) (subst IsOk e ok)
