-- Lemmas on what is seen of held replies: the first one to be looked at, those that are woken, and those of a poll.
use Rattle.std.proofs.Common.{◌≡◌, ℕ, ◌≤◌, ◌==◌, Bool, true, false, not, ◌&&◌, ◌||◌, cond, List, [], ◌∷◌, ◌++◌, map, filter, find, All, Option, Some, None, refl, sym, ap, ◌∙◌}
use Rattle.std.specs.BTreeMap.{is_at}
use Rattle.std.specs.List.{list_any}
use Rattle.std.specs.List.Sorted.{IsStrictlySortedBy}
use Rattle.std.specs.Map.{keys_of, set_value, remove_entry}
use Rattle.std.specs.Option.{option_map}
use Rattle.std.specs.Ordering.{nat_cmp}
use Rattle.std.specs.Str.{bytes_eq}
use Rattle.std.proofs.lemmas.List.{map-append}
use Rattle.std.proofs.lemmas.List.Elements.{All-head, All-tail}
use Rattle.snow_held.specs.declared.backlog.Kept.{Kept}
use Rattle.snow_held.specs.declared.held.Held.{Held}
use Rattle.snow_lineup.specs.declared.marks.Mark.{Mark}
use Rattle.snow_lineup.specs.declared.marks.Mark.TheVariants.{New, Quiet}
use Rattle.snow_lineup.specs.Kept.Marks.{has}
use Rattle.snow_lineup.specs.Kept.Index.{woken}
use Rattle.snow_held.specs.Model.Replies.{replies_of, quieted, without_new}
use Rattle.snow_held.specs.Kept.Arrivals.{Entries, at_arrival, mark_of, seat_of, loud, woken_among, IsFirst, AreQuiet, stays}
use Rattle.snow_held.proofs.Stocked.{none_before, behind_first, first_there, each}
use Rattle.snow_map.proofs.Booleans.{or_false}

-- ---- the first one that isn't quiet

-- it stands at the head, or the head is quiet and it stands behind
pub record IsBehind (e : ℕ × Kept) (es : Entries) (a : ℕ) (reply : Held) : Type 0 where
  pub apart : is_at (nat_cmp a) e.0 ≡ false
  pub quiet : e.1.quiet ≡ true
  pub first : IsFirst es a reply

behind : (e : ℕ × Kept) (es : Entries) (a : ℕ) (reply : Held) → IsStrictlySortedBy nat_cmp (keys_of (e ∷ es)) → IsFirst (e ∷ es) a reply → is_at (nat_cmp a) e.0 ≡ false → IsBehind e es a reply
unfolding IsStrictlySortedBy
behind e es a reply sorted is apart =
    let kept : Kept = record { reply = reply; quiet = false } in
    let there : at_arrival es a ≡ Some kept = sym (ap (λ t. cond t (Some e.1) (at_arrival es a)) apart) ∙ is.there in
    let Goal : Bool → Type 0 = λ b. e.1.quiet ≡ b → b ≡ true in
    record {
      apart = apart;
      quiet = elim e.1.quiet as Goal [
        | true ↦ λ q. refl
        | false ↦ λ q.
            let low : a ≤ e.0 = is.least e.0 e.1 (first_there e es) q in
            let none : at_arrival es a ≡ None = none_before es a e.0 sorted.0 low in
            absurd cc
      ] refl;
      first = record {
        there = there;
        least = λ b k found loud. is.least b k (behind_first e es b k sorted found) loud;
      };
    }

head_is : (e : ℕ × Kept) (es : Entries) (a : ℕ) (reply : Held) → IsFirst (e ∷ es) a reply → is_at (nat_cmp a) e.0 ≡ true → e.1 ≡ (record { reply = reply; quiet = false })
head_is e es a reply is at =
    let kept : Kept = record { reply = reply; quiet = false } in
    let there : Some e.1 ≡ Some kept = sym (ap (λ t. cond t (Some e.1) (at_arrival es a)) at) ∙ is.there in
    cc

tail_sorted : (e : ℕ × Kept) (es : Entries) → IsStrictlySortedBy nat_cmp (keys_of (e ∷ es)) → IsStrictlySortedBy nat_cmp (keys_of es)
unfolding IsStrictlySortedBy
tail_sorted e es sorted = sorted.1

new_by : (k : Kept) (b : Bool) → k.quiet ≡ b → (r : Held) → has New (r, mark_of k) ≡ not b
new_by k b q r =
    let Goal : Bool → Type 0 = λ b. has New (r, cond b Quiet New) ≡ not b in
    ap (λ b. has New (r, cond b Quiet New)) q ∙ (elim b as Goal [ true ↦ refl | false ↦ refl ])

pub seat_found : (es : Entries) (a : ℕ) (reply : Held) → IsStrictlySortedBy nat_cmp (keys_of es) → IsFirst es a reply → find (has New) (map seat_of es) ≡ Some (reply, New)
seat_found [] a reply sorted is = let h = is.there in absurd cc
seat_found (e ∷ es) a reply sorted is =
    let Goal : Bool → Type 0 = λ t. is_at (nat_cmp a) e.0 ≡ t → cond (has New (seat_of e)) (Some (seat_of e)) (find (has New) (map seat_of es)) ≡ Some (reply, New) in
    elim (is_at (nat_cmp a) e.0) as Goal [
      | true ↦ λ t. ap (λ (k : Kept). cond (has New (k.reply, mark_of k)) (Some (k.reply, mark_of k)) (find (has New) (map seat_of es))) (head_is e es a reply is t)
      | false ↦ λ t.
          let b = behind e es a reply sorted is t in
          ap (λ b. cond b (Some (seat_of e)) (find (has New) (map seat_of es))) (new_by e.1 true b.quiet e.1.reply)
          ∙ seat_found es a reply (tail_sorted e es sorted) b.first
    ] refl

-- it is taken out where it is the one that comes first
pub seats_taken : (es : Entries) (a : ℕ) (reply : Held) → IsStrictlySortedBy nat_cmp (keys_of es) → IsFirst es a reply
    → map seat_of (remove_entry (is_at (nat_cmp a)) es) ≡ without_new (map seat_of es)
seats_taken [] a reply sorted is = let h = is.there in absurd cc
seats_taken (e ∷ es) a reply sorted is =
    let rest = seat_of e ∷ without_new (map seat_of es) in
    let Goal : Bool → Type 0 = λ t. is_at (nat_cmp a) e.0 ≡ t → map seat_of (cond t es (e ∷ remove_entry (is_at (nat_cmp a)) es)) ≡ cond (has New (seat_of e)) (map seat_of es) rest in
    elim (is_at (nat_cmp a) e.0) as Goal [
      | true ↦ λ t. sym (ap (λ (k : Kept). cond (has New (k.reply, mark_of k)) (map seat_of es) rest) (head_is e es a reply is t))
      | false ↦ λ t.
          let b = behind e es a reply sorted is t in
          ap (λ l. seat_of e ∷ l) (seats_taken es a reply (tail_sorted e es sorted) b.first)
          ∙ sym (ap (λ b. cond b (map seat_of es) rest) (new_by e.1 true b.quiet e.1.reply))
    ] refl

pub seats_quieted : (es : Entries) (a : ℕ) (reply : Held) → IsStrictlySortedBy nat_cmp (keys_of es) → IsFirst es a reply
    → map seat_of (set_value (is_at (nat_cmp a)) es (record { reply = reply; quiet = true })) ≡ quieted (map seat_of es)
seats_quieted [] a reply sorted is = let h = is.there in absurd cc
seats_quieted (e ∷ es) a reply sorted is =
    let w : Kept = record { reply = reply; quiet = true } in
    let seats = map seat_of es in
    let Goal : Bool → Type 0 = λ t. is_at (nat_cmp a) e.0 ≡ t
    → map seat_of (cond t ((e.0, w) ∷ es) (e ∷ set_value (is_at (nat_cmp a)) es w)) ≡ cond (has New (seat_of e)) ((e.1.reply, Quiet) ∷ seats) (seat_of e ∷ quieted seats) in
    elim (is_at (nat_cmp a) e.0) as Goal [
      | true ↦ λ t. sym (ap (λ (k : Kept). cond (has New (k.reply, mark_of k)) ((k.reply, Quiet) ∷ seats) ((k.reply, mark_of k) ∷ quieted seats)) (head_is e es a reply is t))
      | false ↦ λ t.
          let b = behind e es a reply sorted is t in
          ap (λ l. seat_of e ∷ l) (seats_quieted es a reply (tail_sorted e es sorted) b.first)
          ∙ sym (ap (λ b. cond b ((e.1.reply, Quiet) ∷ seats) (seat_of e ∷ quieted seats)) (new_by e.1 true b.quiet e.1.reply))
    ] refl

-- where all are quiet, none is found
quiet_seats : (es : Entries) → All (λ e. e.1.quiet ≡ true) es → find (has New) (map seat_of es) ≡ None
quiet_seats [] h = refl
quiet_seats (e ∷ es) h =
    let P : ℕ × Kept → Type 0 = λ e. e.1.quiet ≡ true in
    ap (λ b. cond b (Some (seat_of e)) (find (has New) (map seat_of es))) (new_by e.1 true (All-head P e es h) e.1.reply) ∙ quiet_seats es (All-tail P e es h)

pub none_found : (es : Entries) → IsStrictlySortedBy nat_cmp (keys_of es) → AreQuiet es → find (has New) (map seat_of es) ≡ None
none_found es sorted quiet = quiet_seats es (each (λ e. e.1.quiet ≡ true) es sorted quiet)

-- where none is found, none becomes quiet and none is taken out
pub none_quieted : (seats : List (Held × Mark)) → find (has New) seats ≡ None → quieted seats ≡ seats
none_quieted [] h = refl
none_quieted (s ∷ seats) h =
    let Goal : Bool → Type 0 = λ b. cond b (Some s) (find (has New) seats) ≡ None → cond b ((s.0, Quiet) ∷ seats) (s ∷ quieted seats) ≡ s ∷ seats in
    elim (has New s) as Goal [ true ↦ λ h. absurd cc | false ↦ λ h. ap (λ l. s ∷ l) (none_quieted seats h) ] h

pub none_taken : (seats : List (Held × Mark)) → find (has New) seats ≡ None → without_new seats ≡ seats
none_taken [] h = refl
none_taken (s ∷ seats) h =
    let Goal : Bool → Type 0 = λ b. cond b (Some s) (find (has New) seats) ≡ None → cond b seats (s ∷ without_new seats) ≡ s ∷ seats in
    elim (has New s) as Goal [ true ↦ λ h. absurd cc | false ↦ λ h. ap (λ l. s ∷ l) (none_taken seats h) ] h

-- ---- replies that are woken

wake_twice : (k : Kept) (id : List ℕ) (p q b : Bool) → bytes_eq id k.reply.id ≡ b
    → cond (q && bytes_eq id (cond (p && b) (loud k) k).reply.id) (loud (cond (p && b) (loud k) k)) (cond (p && b) (loud k) k) ≡ cond ((p || q) && b) (loud k) k
wake_twice k id true true true e = rw e refl
wake_twice k id true true false e = rw e refl
wake_twice k id true false true e = refl
wake_twice k id true false false e = refl
wake_twice k id false true true e = rw e refl
wake_twice k id false true false e = rw e refl
wake_twice k id false false true e = refl
wake_twice k id false false false e = refl

-- one number and then others
pub woken_on : (n : ℕ) (numbers id : List ℕ) (es : Entries) → map (woken_among numbers id) (map (woken_among (n ∷ []) id) es) ≡ map (woken_among (n ∷ numbers) id) es
woken_on n numbers id [] = refl
woken_on n numbers id (e ∷ es) =
    let p = is_at (nat_cmp e.0) n in
    let q = list_any (is_at (nat_cmp e.0)) numbers in
    let head : woken_among numbers id (woken_among (n ∷ []) id e) ≡ woken_among (n ∷ numbers) id e =
    ap (λ t. woken_among numbers id (e.0, cond (t && bytes_eq id e.1.reply.id) (loud e.1) e.1)) (or_false p)
    ∙ ap (λ k. (e.0, k)) (wake_twice e.1 id p q (bytes_eq id e.1.reply.id) refl) in
    ap (λ x. x ∷ map (woken_among numbers id) (map (woken_among (n ∷ []) id) es)) head ∙ ap (λ l. woken_among (n ∷ numbers) id e ∷ l) (woken_on n numbers id es)

pub woken_by_none : (id : List ℕ) (es : Entries) → map (woken_among [] id) es ≡ es
woken_by_none id [] = refl
woken_by_none id (e ∷ es) = ap (λ l. e ∷ l) (woken_by_none id es)

-- they keep their numbers, and are the same replies
pub keys_woken : (numbers id : List ℕ) (es : Entries) → keys_of (map (woken_among numbers id) es) ≡ keys_of es
keys_woken numbers id [] = refl
keys_woken numbers id (e ∷ es) = ap (λ l. e.0 ∷ l) (keys_woken numbers id es)

same_reply : (b : Bool) (k : Kept) → (cond b (loud k) k).reply ≡ k.reply
same_reply true k = refl
same_reply false k = refl

pub replies_woken : (numbers id : List ℕ) (es : Entries) (a : ℕ) → option_map (λ k. k.reply) (at_arrival (map (woken_among numbers id) es) a) ≡ option_map (λ k. k.reply) (at_arrival es a)
replies_woken numbers id [] a = refl
replies_woken numbers id (e ∷ es) a =
    let w = woken_among numbers id e in
    let Goal : Bool → Type 0 = λ t. option_map (λ k. k.reply) (cond t (Some w.1) (at_arrival (map (woken_among numbers id) es) a)) ≡ option_map (λ k. k.reply) (cond t (Some e.1) (at_arrival es a)) in
    elim (is_at (nat_cmp a) e.0) as Goal [
      | true ↦ ap Some (same_reply (list_any (is_at (nat_cmp e.0)) numbers && bytes_eq id e.1.reply.id) e.1)
      | false ↦ replies_woken numbers id es a
    ]

wake_seat : (n : ℕ) (k : Kept) (a b : Bool) → (b ≡ true → a ≡ true) → seat_of (n, cond (a && b) (loud k) k) ≡ (k.reply, cond b New (mark_of k))
wake_seat n k true true h = refl
wake_seat n k true false h = refl
wake_seat n k false true h = let t = h refl in absurd cc
wake_seat n k false false h = refl

-- each reply that names the block has one of the numbers
pub seats_woken : (numbers id : List ℕ) (es : Entries) → All (λ e. bytes_eq id e.1.reply.id ≡ true → list_any (is_at (nat_cmp e.0)) numbers ≡ true) es
    → map seat_of (map (woken_among numbers id) es) ≡ map (woken (λ h. h.id) id) (map seat_of es)
seats_woken numbers id [] h = refl
seats_woken numbers id (e ∷ es) h =
    let P : ℕ × Kept → Type 0 = λ e. bytes_eq id e.1.reply.id ≡ true → list_any (is_at (nat_cmp e.0)) numbers ≡ true in
    let rest = map (woken (λ (h : Held). h.id) id) (map seat_of es) in
    ap (λ l. seat_of (woken_among numbers id e) ∷ l) (seats_woken numbers id es (All-tail P e es h))
    ∙ ap (λ s. s ∷ rest) (wake_seat e.0 e.1 (list_any (is_at (nat_cmp e.0)) numbers) (bytes_eq id e.1.reply.id) (All-head P e es h))

-- ---- replies of a poll

pub seats_filtered : (number : ℕ) (es : Entries) → map seat_of (filter (stays number) es) ≡ filter (λ s. not (s.0.number == number)) (map seat_of es)
seats_filtered number [] = refl
seats_filtered number (e ∷ es) =
    let Goal : Bool → Type 0 = λ b. map seat_of (cond b (e ∷ filter (stays number) es) (filter (stays number) es)) ≡ cond b (seat_of e ∷ filter (λ s. not (s.0.number == number)) (map seat_of es)) (filter (λ s. not (s.0.number == number)) (map seat_of es)) in
    elim (stays number e) as Goal [ true ↦ ap (λ l. seat_of e ∷ l) (seats_filtered number es) | false ↦ seats_filtered number es ]

pub all_stay : (number : ℕ) (es : Entries) → All (λ e. stays number e ≡ true) es → filter (stays number) es ≡ es
all_stay number [] h = refl
all_stay number (e ∷ es) h =
    let P : ℕ × Kept → Type 0 = λ e. stays number e ≡ true in
    ap (λ b. cond b (e ∷ filter (stays number) es) (filter (stays number) es)) (All-head P e es h) ∙ ap (λ l. e ∷ l) (all_stay number es (All-tail P e es h))

-- a reply of the poll goes
pub one_leaves : (number : ℕ) (es : Entries) (a : ℕ) (k : Kept) → at_arrival es a ≡ Some k → not (k.reply.number == number) ≡ false
    → filter (stays number) (remove_entry (is_at (nat_cmp a)) es) ≡ filter (stays number) es
one_leaves number [] a k found of = refl
one_leaves number (e ∷ es) a k found of =
    let rest = filter (stays number) es in
    let Goal : Bool → Type 0 = λ t. cond t (Some e.1) (at_arrival es a) ≡ Some k → filter (stays number) (cond t es (e ∷ remove_entry (is_at (nat_cmp a)) es)) ≡ cond (stays number e) (e ∷ rest) rest in
    elim (is_at (nat_cmp a) e.0) as Goal [
      | true ↦ λ h. let same : e.1 ≡ k = cc in sym (ap (λ (k : Kept). cond (not (k.reply.number == number)) (e ∷ rest) rest) same ∙ ap (λ b. cond b (e ∷ rest) rest) of)
      | false ↦ λ h. ap (λ l. cond (stays number e) (e ∷ l) l) (one_leaves number es a k h of)
    ] found

pub replies_filtered : (seats : List (Held × Mark)) (number : ℕ) → replies_of (filter (λ s. not (s.0.number == number)) seats) ≡ filter (λ h. not (h.number == number)) (replies_of seats)
replies_filtered [] number = refl
replies_filtered (s ∷ seats) number =
    let rest = replies_filtered seats number in
    let Goal : Bool → Type 0 = λ b. replies_of (cond b (s ∷ filter (λ s. not (s.0.number == number)) seats) (filter (λ s. not (s.0.number == number)) seats))
    ≡ cond b (s.0 ∷ filter (λ h. not (h.number == number)) (replies_of seats)) (filter (λ h. not (h.number == number)) (replies_of seats)) in
    elim (not (s.0.number == number)) as Goal [ true ↦ ap (λ l. s.0 ∷ l) rest | false ↦ rest ]

-- ---- one reply more, and one that quiet

pub seats_pushed : (es now : Entries) (n : ℕ) (k : Kept) → now ≡ es ++ (n, k) ∷ [] → map seat_of now ≡ map seat_of es ++ (k.reply, mark_of k) ∷ []
seats_pushed es now n k end =
    let last : Entries = (n, k) ∷ [] in
    ap (map seat_of) end ∙ map-append seat_of es last

same_replies : (es : Entries) (n : ℕ) (k w : Kept) (a : ℕ) → at_arrival es n ≡ Some k → w.reply ≡ k.reply
    → option_map (λ k. k.reply) (at_arrival (set_value (is_at (nat_cmp n)) es w) a) ≡ option_map (λ k. k.reply) (at_arrival es a)
same_replies [] n k w a found same = refl
same_replies (e ∷ es) n k w a found same =
    let Goal : Bool → Type 0 = λ t. cond t (Some e.1) (at_arrival es n) ≡ Some k
    → option_map (λ k. k.reply) (at_arrival (cond t ((e.0, w) ∷ es) (e ∷ set_value (is_at (nat_cmp n)) es w)) a) ≡ option_map (λ k. k.reply) (at_arrival (e ∷ es) a) in
    let one : (b : Bool) (x y : Kept) (o : Option Kept) → x.reply ≡ y.reply → option_map (λ k. k.reply) (cond b (Some x) o) ≡ option_map (λ k. k.reply) (cond b (Some y) o) =
    λ b x y o h. (elim b as (λ b. option_map (λ k. k.reply) (cond b (Some x) o) ≡ option_map (λ k. k.reply) (cond b (Some y) o)) [ true ↦ ap Some h | false ↦ refl ]) in
    let two : (b : Bool) (x : Kept) (o p : Option Kept) → option_map (λ k. k.reply) o ≡ option_map (λ k. k.reply) p → option_map (λ k. k.reply) (cond b (Some x) o) ≡ option_map (λ k. k.reply) (cond b (Some x) p) =
    λ b x o p h. (elim b as (λ b. option_map (λ k. k.reply) (cond b (Some x) o) ≡ option_map (λ k. k.reply) (cond b (Some x) p)) [ true ↦ refl | false ↦ h ]) in
    elim (is_at (nat_cmp n) e.0) as Goal [
      | true ↦ λ h. let is : e.1 ≡ k = cc in one (is_at (nat_cmp a) e.0) w e.1 (at_arrival es a) (same ∙ ap (λ (k : Kept). k.reply) (sym is))
      | false ↦ λ h. two (is_at (nat_cmp a) e.0) e.1 (at_arrival (set_value (is_at (nat_cmp n)) es w) a) (at_arrival es a) (same_replies es n k w a h same)
    ] found

pub replies_quieted : (es : Entries) (n : ℕ) (reply : Held) (a : ℕ) → IsFirst es n reply
    → option_map (λ k. k.reply) (at_arrival (set_value (is_at (nat_cmp n)) es (record { reply = reply; quiet = true })) a) ≡ option_map (λ k. k.reply) (at_arrival es a)
replies_quieted es n reply a is = same_replies es n (record { reply = reply; quiet = false }) (record { reply = reply; quiet = true }) a is.there refl
