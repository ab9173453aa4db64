-- Lemmas on how a ladder is kept.
use Rattle.std.proofs.Common.{◌≡◌, ℕ, zero, suc, ◌+◌, ◌-◌, ◌*◌, ◌/◌, ◌%◌, ◌^◌, ◌<◌, ◌≤◌, ◌==◌, ◌≢◌, true, false, nat_lt, List, [], ◌∷◌, ◌++◌, length, get_or, set, take, filter, All, IsPermutation, refl, sym, ap, subst, ◌∙◌, arith, length-append}
use Rattle.std.specs.Int.{bit_at}
use Rattle.std.proofs.Math.Nat.{pow-suc}
use Rattle.std.proofs.Math.Seq.{get_or-append_seam, take-append_seam}
use Rattle.std.proofs.lemmas.Grind.{common_steps}
use Rattle.std.proofs.lemmas.List.{get_or_append_left, get_or-set_same, get_or-set_other, length-set, map-append, take_more, take_all}
use Rattle.std.proofs.lemmas.List.Sums.{sum_by-cons}
use Rattle.std.proofs.lemmas.List.Elements.{All-cons, All-nil, All-head, All-tail, filter-append}
use Rattle.std.proofs.lemmas.List.Sorted.{IsPermutation-refl, IsPermutation-cons, IsPermutation-trans, IsPermutation-to_front}
use Rattle.std.proofs.lemmas.Nat.Bits.{bit_at-zero, bit_at_above}
use Rattle.snow_board.proofs.Cases.{split_on}
use Rattle.snow_climb.specs.declared.climber.Climber.{Climber}
use Rattle.snow_climb.specs.declared.ladder.Head.{Head}
use Rattle.snow_climb.specs.declared.ladder.Link.{Link}
use Rattle.snow_climb.specs.Kept.Climbing.{climber_total}
use Rattle.snow_climb.specs.Kept.Ladder.{under, up_from, no_link, no_head, climbers_of, latest, group, mark_at, IsHung}
use Rattle.snow_climb.proofs.Chains.{same_nat, nat_same, nat_other, latest_none, latest_before, latest_more, group_none, group_more}
use Rattle.snow_climb.proofs.Passed.{halves}

-- numbers one of which is found less
is_less : (a b : ℕ) → nat_lt a b ≡ true → a < b
is_less a b h = grind (arith, common_steps)

no_less : (a b : ℕ) → nat_lt a b ≡ false → b ≤ a
no_less a b h = grind (arith, common_steps)

less_is : (a b : ℕ) → a < b → nat_lt a b ≡ true
less_is a b h = grind (arith, common_steps)

less_not : (a b : ℕ) → b ≤ a → nat_lt a b ≡ false
less_not a b h = grind (arith, common_steps)

-- ---- what is seen of those that were put on

-- what is so of all that stand below a rung
pub seen_each : (P : Climber → Type 0) (low : ℕ) (links : List Link) → All P (under low (climbers_of links)) → (i : ℕ) → i < length links → (get_or links i no_link).climber.place < low → P (get_or links i no_link).climber
seen_each P low [] all i h lower = absurd (omega (arith, h))
seen_each P low (l ∷ links) all zero h lower =
    let m = rw (less_is l.climber.place low lower) at all in
    All-head P l.climber (under low (climbers_of links)) m
seen_each P low (l ∷ links) all (suc i) h lower =
    split_on (nat_lt l.climber.place low)
    (λ t. let m = rw t at all in seen_each P low links (All-tail P l.climber (under low (climbers_of links)) m) i (omega (arith, h)) lower)
    (λ t. let m = rw t at all in seen_each P low links m i (omega (arith, h)) lower)

pub each_seen : (P : Climber → Type 0) (low : ℕ) (links : List Link) → ((i : ℕ) → i < length links → (get_or links i no_link).climber.place < low → P (get_or links i no_link).climber) → All P (under low (climbers_of links))
each_seen P low [] each = All-nil P
each_seen P low (l ∷ links) each =
    let rest = each_seen P low links (λ i h lower. each (suc i) (omega (arith, h)) lower) in
    split_on (nat_lt l.climber.place low)
    (λ t. rw t (All-cons P l.climber (under low (climbers_of links)) (each 0 (omega arith) (is_less l.climber.place low t)) rest))
    (λ t. rw t rest)

-- those below a rung are below a higher one
pub under_twice : (rung low : ℕ) (cs : List Climber) → rung < low → under rung (under low cs) ≡ under rung cs
under_twice rung low [] h = refl
under_twice rung low (c ∷ cs) h =
    let rest = under_twice rung low cs h in
    split_on (nat_lt c.place low)
    (λ t. rw t (split_on (nat_lt c.place rung) (λ s. rw s (ap (λ l. c ∷ l) rest)) (λ s. rw s rest)))
    (λ t. let s : nat_lt c.place rung ≡ false = less_not c.place rung (omega (arith, no_less c.place low t, h)) in rw (t, s) rest)

-- one more that stands below a rung
pub under_more : (low : ℕ) (links : List Link) (l : Link) → l.climber.place < low → under low (climbers_of (links ++ l ∷ [])) ≡ under low (climbers_of links) ++ l.climber ∷ []
under_more low links l lower =
    let one : under low (l.climber ∷ []) ≡ l.climber ∷ [] = rw (less_is l.climber.place low lower) refl in
    ap (under low) (map-append (λ (x : Link). x.climber) links (l ∷ []))
    ∙ filter-append (λ c. nat_lt c.place low) (climbers_of links) (l.climber ∷ [])
    ∙ ap (λ r. under low (climbers_of links) ++ r) one

-- those of a rung
abbrev on_rung : ℕ → List Climber → List Climber
on_rung place cs = filter (λ c. c.place == place) cs

-- are those that don't stand below it, where nobody stands higher
picked : (rung low : ℕ) (cs : List Climber) → rung < low → All (λ c. c.place ≤ rung) (under low cs) → up_from rung (under low cs) ≡ on_rung rung cs
picked rung low [] h all = refl
picked rung low (c ∷ cs) h all =
    split_on (nat_lt c.place low)
    (λ t.
    let m = rw t at all in
    let own : c.place ≤ rung = All-head (λ c. c.place ≤ rung) c (under low cs) m in
    let rest = picked rung low cs h (All-tail (λ c. c.place ≤ rung) c (under low cs) m) in
    rw t
    (split_on (nat_lt c.place rung)
    (λ s. let other : (c.place == rung) ≡ false = nat_other c.place rung (λ e. omega (arith, e, is_less c.place rung s)) in rw (s, other) rest)
    (λ s. let same : (c.place == rung) ≡ true = nat_same c.place rung (omega (arith, own, no_less c.place rung s)) in rw (s, same) (ap (λ l. c ∷ l) rest))))
    (λ t.
    let m = rw t at all in
    let other : (c.place == rung) ≡ false = nat_other c.place rung (λ e. omega (arith, e, no_less c.place low t, h)) in
    rw (t, other) (picked rung low cs h m))

-- the group of a rung has them all
grouped : (links : List Link) (n place : ℕ) → n ≤ length links → IsPermutation (on_rung place (climbers_of (take n links))) (group links n place)
grouped links zero place h = subst (λ l. IsPermutation (on_rung place (climbers_of l)) []) (sym (none links)) (IsPermutation-refl [])
  where
    none : (xs : List Link) → take zero xs ≡ []
    none [] = refl
    none (x ∷ xs) = refl
grouped links (suc n) place h =
    let x = (get_or links n no_link).climber in
    let rest = grouped links n place (omega (arith, h)) in
    let next : suc n ≡ n + 1 = omega arith in
    let whole : on_rung place (climbers_of (take (suc n) links)) ≡ on_rung place (climbers_of (take n links)) ++ on_rung place (x ∷ []) =
    ap (λ m. on_rung place (climbers_of (take m links))) next
    ∙ ap (λ l. on_rung place (climbers_of l)) (take_more links n no_link (omega (arith, h)))
    ∙ ap (on_rung place) (map-append (λ (y : Link). y.climber) (take n links) (get_or links n no_link ∷ []))
    ∙ filter-append (λ c. c.place == place) (climbers_of (take n links)) (x ∷ [])
    in
    subst (λ l. IsPermutation l (group links (suc n) place)) (sym whole)
    (split_on (x.place == place)
    (λ t.
    let one : on_rung place (x ∷ []) ≡ x ∷ [] = rw t refl in
    let own : group links (suc n) place ≡ x ∷ group links n place = rw t refl in
    subst (λ l. IsPermutation (on_rung place (climbers_of (take n links)) ++ l) (group links (suc n) place)) (sym one)
    (subst (IsPermutation (on_rung place (climbers_of (take n links)) ++ x ∷ [])) (sym own)
    (IsPermutation-trans _ _ _ (IsPermutation-to_front (on_rung place (climbers_of (take n links))) x) (IsPermutation-cons x _ _ rest))))
    (λ t.
    let one : on_rung place (x ∷ []) ≡ [] = rw t refl in
    let own : group links (suc n) place ≡ group links n place = rw t refl in
    subst (λ l. IsPermutation (on_rung place (climbers_of (take n links)) ++ l) (group links (suc n) place)) (sym one)
    (subst (λ l. IsPermutation l (group links (suc n) place)) (sym (append_nil (on_rung place (climbers_of (take n links)))))
    (subst (IsPermutation (on_rung place (climbers_of (take n links)))) (sym own) rest))))
  where
    append_nil : (xs : List Climber) → xs ++ [] ≡ xs
    append_nil [] = refl
    append_nil (y ∷ xs) = ap (λ l. y ∷ l) (append_nil xs)

-- so those that are taken off are those of the rung
pub taken_off : (rung low : ℕ) (links : List Link) → rung < low → All (λ c. c.place ≤ rung) (under low (climbers_of links))
    → IsPermutation (up_from rung (under low (climbers_of links))) (group links (length links) rung)
taken_off rung low links h all =
    subst (λ l. IsPermutation l (group links (length links) rung)) (sym (picked rung low (climbers_of links) h all))
    (subst (λ l. IsPermutation (on_rung rung (climbers_of l)) (group links (length links) rung)) (take_all (length links) links (omega arith))
    (grouped links (length links) rung (omega arith)))

-- ---- marks

pub mark_here : (words : List ℕ) (rung word : ℕ) → rung / 64 < length words → bit_at word (rung % 64) ≡ 1 → mark_at (set words (rung / 64) word) rung ≡ 1
mark_here words rung word h is = ap (λ w. bit_at w (rung % 64)) (get_or-set_same words (rung / 64) word 0 h) ∙ is

pub mark_others : (words : List ℕ) (rung word : ℕ) → rung / 64 < length words → ((i : ℕ) → i < 64 → i ≢ rung % 64 → bit_at word i ≡ bit_at (get_or words (rung / 64) 0) i)
    → (other : ℕ) → other ≢ rung → mark_at (set words (rung / 64) word) other ≡ mark_at words other
mark_others words rung word h same other differs =
    split_on (other / 64 == rung / 64)
    (λ t.
    let at : other / 64 ≡ rung / 64 = same_nat (other / 64) (rung / 64) t in
    ap (λ k. bit_at (get_or (set words (rung / 64) word) k 0) (other % 64)) at
    ∙ ap (λ w. bit_at w (other % 64)) (get_or-set_same words (rung / 64) word 0 h)
    ∙ same (other % 64) (omega arith) (omega (arith, at, differs))
    ∙ ap (λ k. bit_at (get_or words k 0) (other % 64)) (sym at))
    (λ t.
    ap (λ w. bit_at w (other % 64)) (get_or-set_other words (rung / 64) (other / 64) word 0 (apart (other / 64) (rung / 64) t)))
  where
    apart : (a b : ℕ) → (a == b) ≡ false → a ≢ b
    apart a b e = grind (arith, common_steps)

-- the highest bit of the last word that isn't 0 is no lower than any that is set
pub mark_highest : (words : List ℕ) (count at word high : ℕ) → 0 < at → ((k : ℕ) → at ≤ k → k < count → get_or words k 0 ≡ 0) → word ≡ get_or words (at - 1) 0 → word < 2 * 2 ^ high
    → (rung : ℕ) → rung < 64 * count → mark_at words rung ≡ 1 → rung ≤ 64 * (at - 1) + high
mark_highest words count at word high some zeros is less rung within marked =
    halves (rung / 64) at
    (λ t.
    halves (rung / 64) (at - 1)
    (λ u. omega (arith, u))
    (λ u.
    let same : rung / 64 ≡ at - 1 = omega (arith, t, u) in
    halves high (rung % 64)
    (λ v.
    let low : word < 2 ^ suc high = omega (arith, less, pow-suc 2 high) in
    let none : bit_at word (rung % 64) ≡ 0 = bit_at_above word (suc high) (rung % 64) low (omega (arith, v)) in
    let one : bit_at word (rung % 64) ≡ 1 = ap (λ w. bit_at w (rung % 64)) (is ∙ ap (λ k. get_or words k 0) (sym same)) ∙ marked in
    absurd (omega (arith, none, one)))
    (λ v. omega (arith, same, v))))
    (λ t. absurd (omega (arith, unmarked words count at zeros rung t within, marked)))
  where
    unmarked : (words : List ℕ) (count at : ℕ) → ((k : ℕ) → at ≤ k → k < count → get_or words k 0 ≡ 0) → (rung : ℕ) → at ≤ rung / 64 → rung < 64 * count → mark_at words rung ≡ 0
    unmarked words count at zeros rung h within =
        ap (λ w. bit_at w (rung % 64)) (zeros (rung / 64) h (omega (arith, within))) ∙ bit_at-zero (rung % 64)

-- ---- what is kept true

-- one more vote of a sum, as 32 bits hold it
more_held : (own : Climber) (rest : List Climber) (n : ℕ) → n ≡ climber_total rest % 2 ^ 32 → (n + own.count) % 2 ^ 32 ≡ climber_total (own ∷ rest) % 2 ^ 32
more_held own rest n is = omega (arith, is, sum_by-cons (λ (c : Climber). c.count) own rest)

-- one more
pub one_hung : (links : List Link) (heads : List Head) (words after : List ℕ) (low high taken most : ℕ) (head : Head) (l : Link) → IsHung links heads words low high taken → high ≤ most → l.climber.place ≤ most → l.climber.place < low → l.next ≡ (get_or heads l.climber.place no_head).last
    → head.last ≡ suc (length links) → head.count ≡ ((get_or heads l.climber.place no_head).count + l.climber.count) % 2 ^ 32 → mark_at after l.climber.place ≡ 1 → ((other : ℕ) → other ≢ l.climber.place → mark_at after other ≡ mark_at words other) → length after ≡ length words
    → IsHung (links ++ l ∷ []) (set heads l.climber.place head) after low most taken
one_hung links heads words after low high taken most head l hung raised own_place lower next is sums here others long =
    let place = l.climber.place in
    let size : length (links ++ l ∷ []) ≡ suc (length links) = omega (arith, length-append links (l ∷ [])) in
    let before : (i : ℕ) → i < length links → get_or (links ++ l ∷ []) i no_link ≡ get_or links i no_link = λ i h. get_or_append_left links (l ∷ []) no_link i h in
    let own : get_or (links ++ l ∷ []) (length links) no_link ≡ l = get_or-append_seam links l [] no_link in
    let there : get_or (set heads place head) place no_head ≡ head = get_or-set_same heads place head no_head (omega (arith, lower, hung.within)) in
    record {
      linked = λ i h.
          halves i (length links)
          (λ t. subst (λ (x : Link). x.next ≡ latest (links ++ l ∷ []) i x.climber.place) (sym (before i t))
          (hung.linked i t ∙ sym (latest_before links l i (get_or links i no_link).climber.place (omega (arith, t)))))
          (λ t. let same : length links ≡ i = omega (arith, t, h, size) in
          subst (λ j. (get_or (links ++ l ∷ []) j no_link).next ≡ latest (links ++ l ∷ []) j (get_or (links ++ l ∷ []) j no_link).climber.place) same
          (subst (λ (x : Link). x.next ≡ latest (links ++ l ∷ []) (length links) x.climber.place) (sym own)
          (next ∙ hung.last place lower ∙ sym (latest_before links l (length links) place (omega arith)))));
      last = λ rung h.
          split_on (place == rung)
          (λ t.
          let same : place ≡ rung = same_nat place rung t in
          let more : latest (links ++ l ∷ []) (length (links ++ l ∷ [])) rung ≡ suc (length links) = latest_more links l rung ∙ rw t refl in
          ap (λ r. (get_or (set heads place head) r no_head).last) (sym same) ∙ ap (λ (x : Head). x.last) there ∙ is ∙ sym more)
          (λ t.
          let more : latest (links ++ l ∷ []) (length (links ++ l ∷ [])) rung ≡ latest links (length links) rung = latest_more links l rung ∙ rw t refl in
          ap (λ (x : Head). x.last) (get_or-set_other heads place rung head no_head (apart rung place t)) ∙ hung.last rung h ∙ sym more);
      counted = λ rung h.
          split_on (place == rung)
          (λ t.
          let same : place ≡ rung = same_nat place rung t in
          let more : group (links ++ l ∷ []) (length (links ++ l ∷ [])) rung ≡ l.climber ∷ group links (length links) rung = group_more links l rung ∙ rw t refl in
          ap (λ r. (get_or (set heads place head) r no_head).count) (sym same) ∙ ap (λ (x : Head). x.count) there
          ∙ sums
          ∙ ap (λ r. ((get_or heads r no_head).count + l.climber.count) % 2 ^ 32) same
          ∙ more_held l.climber (group links (length links) rung) (get_or heads rung no_head).count (hung.counted rung h)
          ∙ ap (λ g. climber_total g % 2 ^ 32) (sym more))
          (λ t.
          let more : group (links ++ l ∷ []) (length (links ++ l ∷ [])) rung ≡ group links (length links) rung = group_more links l rung ∙ rw t refl in
          ap (λ (x : Head). x.count) (get_or-set_other heads place rung head no_head (apart rung place t)) ∙ hung.counted rung h ∙ ap (λ g. climber_total g % 2 ^ 32) (sym more));
      clear = λ rung h. get_or-set_other heads place rung head no_head (higher rung place (omega (arith, h, lower))) ∙ hung.clear rung h;
      marked = λ i h low_enough.
          halves i (length links)
          (λ t. subst (λ (x : Link). mark_at after x.climber.place ≡ 1) (sym (before i t))
          (marked_still (get_or links i no_link).climber.place
          (hung.marked i t (subst (λ (x : Link). x.climber.place < low) (before i t) low_enough))))
          (λ t. let same : length links ≡ i = omega (arith, t, h, size) in
          subst (λ j. mark_at after (get_or (links ++ l ∷ []) j no_link).climber.place ≡ 1) same
          (subst (λ (x : Link). mark_at after x.climber.place ≡ 1) (sym own) here));
      highest = λ i h low_enough.
          halves i (length links)
          (λ t. subst (λ (x : Link). x.climber.place ≤ most) (sym (before i t)) (omega (arith, hung.highest i t (subst (λ (x : Link). x.climber.place < low) (before i t) low_enough), raised)))
          (λ t. let same : length links ≡ i = omega (arith, t, h, size) in
          subst (λ j. (get_or (links ++ l ∷ []) j no_link).climber.place ≤ most) same
          (subst (λ (x : Link). x.climber.place ≤ most) (sym own) own_place));
      took = omega (arith, hung.took, size);
      within = omega (arith, hung.within, length-set heads place head);
      covered = omega (arith, hung.covered, length-set heads place head, long);
    }
  where
    apart : (a b : ℕ) → (b == a) ≡ false → a ≢ b
    apart a b e = grind (arith, common_steps)

    higher : (a b : ℕ) → b < a → a ≢ b
    higher a b e = omega (arith, e)

    other_nat : (a b : ℕ) → (a == b) ≡ false → a ≢ b
    other_nat a b e = grind (arith, common_steps)

    marked_still : (q : ℕ) → mark_at words q ≡ 1 → mark_at after q ≡ 1
    marked_still q was =
        split_on (q == l.climber.place)
        (λ t. ap (mark_at after) (same_nat q l.climber.place t) ∙ here)
        (λ t. others q (other_nat q l.climber.place t) ∙ was)

-- the highest rung empty
pub rung_empty : (links : List Link) (heads : List Head) (words after : List ℕ) (low high rung taken next : ℕ) → IsHung links heads words low high taken → rung < low → next ≤ length links → All (λ c. c.place ≤ rung) (under low (climbers_of links))
    → ((other : ℕ) → other ≢ rung → mark_at after other ≡ mark_at words other) → length after ≡ length words → IsHung links (set heads rung no_head) after rung high next
rung_empty links heads words after low high rung taken next hung lower there all others long =
    let each = seen_each (λ c. c.place ≤ rung) low links all in
    record {
      linked = hung.linked;
      last = λ r h. ap (λ (x : Head). x.last) (get_or-set_other heads rung r no_head no_head (omega (arith, h))) ∙ hung.last r (omega (arith, h, lower));
      counted = λ r h. ap (λ (x : Head). x.count) (get_or-set_other heads rung r no_head no_head (omega (arith, h))) ∙ hung.counted r (omega (arith, h, lower));
      clear = λ r h.
          split_on (r == rung)
          (λ t. ap (λ q. get_or (set heads rung no_head) q no_head) (same_nat r rung t) ∙ get_or-set_same heads rung no_head no_head (omega (arith, lower, hung.within)))
          (λ t.
          let other : r ≢ rung = apart r rung t in
          get_or-set_other heads rung r no_head no_head other
          ∙ halves r low
          (λ u. blank (get_or heads r no_head) (hung.last r u ∙ latest_none links (length links) r (λ i inside same. nobody r i u h other inside same))
          (hung.counted r u ∙ ap (λ g. climber_total g % 2 ^ 32) (group_none links (length links) r (λ i inside same. nobody r i u h other inside same))))
          (λ u. hung.clear r u));
      marked = λ i h low_enough. others (get_or links i no_link).climber.place (omega (arith, low_enough)) ∙ hung.marked i h (omega (arith, low_enough, lower));
      highest = λ i h low_enough. hung.highest i h (omega (arith, low_enough, lower));
      took = there;
      within = omega (arith, lower, hung.within, length-set heads rung no_head);
      covered = omega (arith, hung.covered, length-set heads rung no_head, long);
    }
  where
    apart : (a b : ℕ) → (a == b) ≡ false → a ≢ b
    apart a b e = grind (arith, common_steps)

    nobody : (r i : ℕ) → r < low → rung ≤ r → r ≢ rung → i < length links → (get_or links i no_link).climber.place ≡ r → ⊥
    nobody r i u h other inside same = omega (arith, same, seen_each (λ c. c.place ≤ rung) low links all i inside (omega (arith, same, u)), h, other)

    blank : (x : Head) → x.last ≡ 0 → x.count ≡ 0 → x ≡ no_head
    blank x last count = λ j. record { last = last j; count = count j }

-- what a write through a slice leaves of a list is what was written
pub written : (n : ℕ) (xs rest : List ℕ) → n ≡ length xs → take n (xs ++ rest) ≡ xs
written n xs rest long = ap (λ m. take m (xs ++ rest)) long ∙ take-append_seam xs rest
