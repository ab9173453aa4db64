-- Lemmas on votes that meet and go on as one.
use Rattle.std.proofs.Common.{◌≡◌, ℕ, ◌+◌, ◌<◌, ◌≤◌, Bool, true, false, not, List, [], ◌∷◌, ◌++◌, length, filter, sum_by, nat_lt, bytes_eq, Some, All, refl, sym, ap, ◌∙◌, arith, length-append, if◌then◌else◌}
use Rattle.std.specs.Bool.{beq}
use Rattle.std.specs.List.{starts_with}
use Rattle.std.proofs.lemmas.Grind.{common_steps}
use Rattle.std.proofs.lemmas.List.Sums.{sum_by-append, sum_by-cons}
use Rattle.std.proofs.lemmas.List.Elements.{All-append, All-cons, All-nil, All-head, All-tail}
use Rattle.snow_base.specs.declared.block.Header.{Header}
use Rattle.snow_base.specs.Model.Identifier.{bits}
use Rattle.snow_board.specs.declared.cursor.Cursor.{Cursor}
use Rattle.snow_board.specs.Kept.Cursors.{child_at, cursor_total, votes_at, votes_for as of_child}
use Rattle.snow_board.proofs.Cases.{split_on}
use Rattle.snow_climb.specs.Kept.Climbing.{count_at, merged, HasCome}

-- nothing is picked of nothing
nothing : (u : Bool) → ◌≡◌ {A = ℕ} (if u then 0 else 0) 0
nothing true = refl
nothing false = refl

-- a sum over all is that over those that stay, and that of the group where it counts
pub grouped : (f : Cursor → ℕ) (p : Cursor → Bool) (t : Bool) → ((c : Cursor) → p c ≡ true → f c ≡ (if t then c.count else 0)) → (cs : List Cursor)
    → sum_by f (filter (λ c. not (p c)) cs) + (if t then sum_by (λ c. if p c then c.count else 0) cs else 0) ≡ sum_by f cs
grouped f p true same [] = refl
grouped f p false same [] = refl
grouped f p t same (c ∷ cs) =
    let rest = grouped f p t same cs in
    let g : Cursor → ℕ = λ c. if p c then c.count else 0 in
    let stays = filter (λ c. not (p c)) cs in
    let whole = sum_by-cons f c cs in
    let group = picked t (sum_by g (c ∷ cs)) (g c) (sum_by g cs) (sum_by-cons g c cs) in
    split_on (p c)
    (λ u.
    let first : sum_by f (filter (λ c. not (p c)) (c ∷ cs)) ≡ sum_by f stays = rw u refl in
    let own : g c ≡ c.count = rw u refl in
    let counted : (if t then g c else 0) ≡ f c = ap (λ n. if t then n else 0) own ∙ sym (same c u) in
    omega (arith, rest, whole, group, first, counted))
    (λ u.
    let first : sum_by f (filter (λ c. not (p c)) (c ∷ cs)) ≡ sum_by f (c ∷ stays) = rw u refl in
    let own : g c ≡ 0 = rw u refl in
    let counted : (if t then g c else 0) ≡ 0 = ap (λ n. if t then n else 0) own ∙ nothing t in
    omega (arith, rest, whole, group, first, sum_by-cons f c stays, counted))
  where
    picked : (u : Bool) (x y z : ℕ) → x ≡ y + z → (if u then x else 0) ≡ (if u then y else 0) + (if u then z else 0)
    picked true x y z e = e
    picked false x y z e = refl

-- no more stay than there were
few_stay : (p : Cursor → Bool) (cs : List Cursor) → length (filter p cs) ≤ length cs
few_stay p [] = omega arith
few_stay p (c ∷ cs) = let rest = few_stay p cs in split_on (p c) (λ u. rw u (omega (arith, rest))) (λ u. rw u (omega (arith, rest)))

-- where some look for a block, some leave
pub some_leave : (id : List ℕ) (cs : List Cursor) → 0 < count_at id cs → length (filter (λ c. not (bytes_eq c.sought id)) cs) < length cs
some_leave id [] h = absurd (omega (arith, h))
some_leave id (c ∷ cs) h =
    let g : Cursor → ℕ = λ c. if bytes_eq c.sought id then c.count else 0 in
    let group = sum_by-cons g c cs in
    split_on (bytes_eq c.sought id)
    (λ u. rw u (omega (arith, few_stay (λ c. not (bytes_eq c.sought id)) cs)))
    (λ u. let own : g c ≡ 0 = rw u refl in
    let rest = some_leave id cs (omega (arith, h, own, group)) in
    rw u (omega (arith, rest)))

-- the sum over votes that went on
pub merged_sum : (f : Cursor → ℕ) (b : Header) (t : Bool) (cs : List Cursor) → ((c : Cursor) → bytes_eq c.sought b.id ≡ true → f c ≡ (if t then c.count else 0))
    → ((n : ℕ) → f (record { sought = b.parent; passed = b.id; count = n }) ≡ (if t then n else 0)) → sum_by f (merged b cs) ≡ sum_by f cs
merged_sum f b t cs same new =
    let n = count_at b.id cs in
    let stays = filter (λ c. not (bytes_eq c.sought b.id)) cs in
    let next : Cursor = record { sought = b.parent; passed = b.id; count = n } in
    let both = grouped f (λ c. bytes_eq c.sought b.id) t same cs in
    sum_by-append f stays (if nat_lt 0 n then next ∷ [] else [])
    ∙ ap (λ m. sum_by f stays + m)
    (split_on (nat_lt 0 n)
    (λ u. let one : 0 + f next ≡ f next = omega arith in rw u (one ∙ new n))
    (λ u. let none : n ≡ 0 = no_more n u in rw u (sym (ap (λ m. if t then m else 0) none ∙ nothing t))))
    ∙ both
  where
    no_more : (m : ℕ) → nat_lt 0 m ≡ false → m ≡ 0
    no_more m u = grind (arith, common_steps)

-- there are as many votes
pub total_merged : (b : Header) (cs : List Cursor) → cursor_total (merged b cs) ≡ cursor_total cs
total_merged b cs = merged_sum (λ c. c.count) b true cs (λ c u. refl) (λ n. refl)

-- in no more groups
pub fewer_merged : (b : Header) (cs : List Cursor) → length (merged b cs) ≤ length cs
fewer_merged b cs =
    let n = count_at b.id cs in
    let stays = filter (λ c. not (bytes_eq c.sought b.id)) cs in
    let next : Cursor = record { sought = b.parent; passed = b.id; count = n } in
    split_on (nat_lt 0 n)
    (λ u. let some : 0 < n = grind (arith, common_steps) in rw u (omega (arith, some_leave b.id cs some, length-append stays (next ∷ []))))
    (λ u. rw u (omega (arith, few_stay (λ c. not (bytes_eq c.sought b.id)) cs, length-append stays [])))

-- what is so of all that stay, and of those that went on
pub all_merged : (P : Cursor → Type 0) (b : Header) (cs : List Cursor) → All P (filter (λ c. not (bytes_eq c.sought b.id)) cs)
    → (0 < count_at b.id cs → P (record { sought = b.parent; passed = b.id; count = count_at b.id cs })) → All P (merged b cs)
all_merged P b cs stay new =
    let n = count_at b.id cs in
    let next : Cursor = record { sought = b.parent; passed = b.id; count = n } in
    All-append P (filter (λ c. not (bytes_eq c.sought b.id)) cs) (if nat_lt 0 n then next ∷ [] else []) stay
    (split_on (nat_lt 0 n)
    (λ u. let some : 0 < n = grind (arith, common_steps) in rw u (All-cons P next [] (new some) (All-nil P)))
    (λ u. rw u (All-nil P)))

-- ---- those that look for a block, behind those that look for others

-- none of the others counts
none_at : (id : List ℕ) (cs : List Cursor) → All (λ c. bytes_eq c.sought id ≡ false) cs → count_at id cs ≡ 0
none_at id [] others = refl
none_at id (c ∷ cs) others =
    let f : Cursor → ℕ = λ c. if bytes_eq c.sought id then c.count else 0 in
    let own : f c ≡ 0 = rw (All-head (λ c. bytes_eq c.sought id ≡ false) c cs others) refl in
    omega (arith, sum_by-cons f c cs, own, none_at id cs (All-tail (λ c. bytes_eq c.sought id ≡ false) c cs others))

-- all that look for it count
all_at : (id : List ℕ) (cs : List Cursor) → All (λ c. bytes_eq c.sought id ≡ true) cs → count_at id cs ≡ cursor_total cs
all_at id [] here = refl
all_at id (c ∷ cs) here =
    let f : Cursor → ℕ = λ c. if bytes_eq c.sought id then c.count else 0 in
    let own : f c ≡ c.count = rw (All-head (λ c. bytes_eq c.sought id ≡ true) c cs here) refl in
    omega (arith, sum_by-cons f c cs, sum_by-cons (λ (c : Cursor). c.count) c cs, own, all_at id cs (All-tail (λ c. bytes_eq c.sought id ≡ true) c cs here))

pub joined_at : (id : List ℕ) (front group : List Cursor) → All (λ c. bytes_eq c.sought id ≡ false) front → All (λ c. bytes_eq c.sought id ≡ true) group
    → count_at id (front ++ group) ≡ cursor_total group
joined_at id front group others here =
    omega (arith, sum_by-append (λ c. if bytes_eq c.sought id then c.count else 0) front group, none_at id front others, all_at id group here)

-- votes that look for other blocks didn't come to it
pub none_came : (id : List ℕ) (front group : List Cursor) (on : List Bool) → All (λ c. bytes_eq c.sought id ≡ false) front → votes_at (front ++ group) id on ≡ votes_at group id on
none_came id [] group on others = refl
none_came id (c ∷ front) group on others =
    let f : Cursor → ℕ = λ c. of_child (child_at id c) c.count on in
    let own : f c ≡ 0 = rw (All-head (λ c. bytes_eq c.sought id ≡ false) c front others) refl in
    omega (arith, sum_by-cons f c (front ++ group), own, none_came id front group on (All-tail (λ c. bytes_eq c.sought id ≡ false) c front others))

-- all that came to it are counted, whatever their bits
pub all_came : (bs : List Header) (id : List ℕ) (cs : List Cursor) → All (HasCome bs id) cs → votes_at cs id [] ≡ cursor_total cs
all_came bs id [] come = refl
all_came bs id (c ∷ cs) come =
    let f : Cursor → ℕ = λ c. of_child (child_at id c) c.count [] in
    let first = All-head (HasCome bs id) c cs come in
    let own : f c ≡ c.count = rw (first.0, first.1) refl in
    omega (arith, sum_by-cons f c cs, sum_by-cons (λ (c : Cursor). c.count) c cs, own, all_came bs id cs (All-tail (HasCome bs id) c cs come))

-- by no bits more
pub few_came : (id : List ℕ) (cs : List Cursor) (on : List Bool) → votes_at cs id on ≤ cursor_total cs
few_came id [] on = omega arith
few_came id (c ∷ cs) on =
    let f : Cursor → ℕ = λ c. of_child (child_at id c) c.count on in
    let own : f c ≤ c.count =
    split_on (bytes_eq c.sought id)
    (λ t. split_on (bytes_eq c.passed id)
    (λ s. rw (t, s) (omega arith))
    (λ s. split_on (starts_with beq (bits c.passed) on) (λ u. rw (t, s, u) (omega arith)) (λ u. rw (t, s, u) (omega arith))))
    (λ t. rw t (omega arith))
    in
    omega (arith, sum_by-cons f c cs, sum_by-cons (λ (c : Cursor). c.count) c cs, own, few_came id cs on)

-- votes that came to it came by a child
pub come_by : (bs : List Header) (id : List ℕ) (c : Cursor) → HasCome bs id c → child_at id c ≡ Some c.passed
come_by bs id c come = rw (come.0, come.1) refl
