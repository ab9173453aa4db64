-- Where nothing is to be done: what leaves it so, and a reply or a block that then comes.
use Rattle.std.proofs.Common.{◌≡◌, ℕ, suc, ◌+◌, ◌==◌, Bool, true, false, not, ◌&&◌, ◌||◌, cond, List, [], ◌∷◌, ◌++◌, filter, find, Option, Some, None, is_none, bytes_eq, refl, ap, ◌∙◌, arith}
use Rattle.std.proofs.lemmas.Bool.{or_left}
use Rattle.std.proofs.lemmas.List.Folds.{list_any-append}
use Rattle.std.specs.List.{remove, position_or_len}
use Rattle.std.specs.Option.{option_map, option_or}
use Rattle.snow_base.specs.declared.block.Header.{Header}
use Rattle.snow_base.specs.declared.block.Vote.{Vote}
use Rattle.snow_board.specs.Model.Board.{Board}
use Rattle.snow_board.specs.Model.Poll.{poll}
use Rattle.snow_board.proofs.Cases.{split_on}
use Rattle.snow_gets.specs.declared.gets.Get.{Get}
use Rattle.snow_held.specs.declared.held.Held.{Held}
use Rattle.snow_issue.specs.declared.work.Offered.{Offered}
use Rattle.snow_issue.specs.declared.work.Offered.TheVariants as offer
use Rattle.snow_issue.specs.declared.work.Waiting.{Waiting}
use Rattle.snow_issue.specs.declared.work.Work.TheVariants as work
use Rattle.snow_issue.specs.Model.Bubbling.{bubbled, vote_at_once}
use Rattle.snow_gets.specs.Model.Gets.{without}
use Rattle.snow_issue.specs.Model.Lists.{Lists, waits, waits_below, is_asked, after_asked, after_forgotten, after_held, with_waiting}
use Rattle.snow_issue.specs.Model.Offering.{is_on, is_high, is_next, wanted, asks, refusal, offered}
use Rattle.snow_issue.specs.Model.Settling.{work_of, after, is_hopeless, is_ready, is_free, IsIdle}
use Rattle.snow_gets.proofs.Asking.{asked_with}
use Rattle.snow_issue.proofs.Remembered.{off_polled}
use Rattle.snow_issue.proofs.Taken.{either_more, still_busy}

-- ---- none is found

-- what fails where two tests fail is not found where they find nothing
none_by : {T : Type 0} (p r q : T → Bool) (xs : List T) → ((x : T) → p x ≡ false → r x ≡ false → q x ≡ false) → find p xs ≡ None → find r xs ≡ None → find q xs ≡ None
none_by p r q [] fails a b = refl
none_by {T = T} p r q (x ∷ xs) fails a b = by (p x) (r x) (λ c d. none_by p r q xs fails c d) refl refl a b
  where
    by : (s t : Bool) → (find p xs ≡ None → find r xs ≡ None → find q xs ≡ None) → p x ≡ s → r x ≡ t → cond s (Some x) (find p xs) ≡ None → cond t (Some x) (find r xs) ≡ None
        → find q (x ∷ xs) ≡ None
    by true t rest e f a b = absurd cc
    by false true rest e f a b = absurd cc
    by false false rest e f a b = rw (fails x e f) (rest a b)

-- nor among fewer
none_among : {T : Type 0} (p t : T → Bool) (xs : List T) → find p xs ≡ None → find p (filter t xs) ≡ None
none_among p t [] none = refl
none_among {T = T} p t (x ∷ xs) none = by (p x) (λ c. none_among p t xs c) refl none
  where
    by : (b : Bool) → (find p xs ≡ None → find p (filter t xs) ≡ None) → p x ≡ b → cond b (Some x) (find p xs) ≡ None → find p (filter t (x ∷ xs)) ≡ None
    by true rest e none = absurd cc
    by false rest e none = split_on (t x) (λ s. rw s (rw e (rest none))) (λ s. rw s (rest none))

-- what comes last is found there
found_last : {T : Type 0} (p : T → Bool) (xs : List T) (x : T) → find p xs ≡ None → p x ≡ true → find p (xs ++ x ∷ []) ≡ Some x
found_last p [] x none t = rw t refl
found_last {T = T} p (y ∷ xs) x none t = by (p y) (λ c. found_last p xs x c t) refl none
  where
    by : (b : Bool) → (find p xs ≡ None → find p (xs ++ x ∷ []) ≡ Some x) → p y ≡ b → cond b (Some y) (find p xs) ≡ None → find p (y ∷ (xs ++ x ∷ [])) ≡ Some x
    by true rest e none = absurd cc
    by false rest e none = rw e (rest none)

-- the first that passes is taken out in front, or behind
pub without_cons : {T : Type 0} (t : T → Bool) (x : T) (xs : List T) → without t (x ∷ xs) ≡ cond (t x) xs (x ∷ without t xs)
without_cons {T = T} t x xs =
    split_on (t x)
    (λ e. rw e refl)
    (λ e. rw e (next (position_or_len t xs)))
  where
    next : (n : ℕ) → remove (x ∷ xs) (1 + n) ≡ x ∷ remove xs n
    next n =
        let one : 1 + n ≡ suc n = omega arith in
        ap (λ (k : ℕ). remove (x ∷ xs) k) one

-- what comes last is taken out from there
left_last : {T : Type 0} (p : T → Bool) (xs : List T) (x : T) → find p xs ≡ None → p x ≡ true → without p (xs ++ x ∷ []) ≡ xs
left_last p [] x none t = without_cons p x [] ∙ rw t refl
left_last {T = T} p (y ∷ xs) x none t = by (p y) (λ c. left_last p xs x c t) refl none
  where
    by : (b : Bool) → (find p xs ≡ None → without p (xs ++ x ∷ []) ≡ xs) → p y ≡ b → cond b (Some y) (find p xs) ≡ None → without p (y ∷ (xs ++ x ∷ [])) ≡ y ∷ xs
    by true rest e none = absurd cc
    by false rest e none = without_cons p y (xs ++ x ∷ []) ∙ rw e (ap (λ (l : List T). y ∷ l) (rest none))

-- ---- nothing is to be done

-- no block is hopeless, none is ready, and no reply is free
idle_parts : (q : Lists) (board : Board) → IsIdle q board
    → (find (is_hopeless q board) q.waiting ≡ None) × (find (is_ready board) q.waiting ≡ None) × (find (is_free q) q.held ≡ None)
idle_parts q board idle = by (find (is_hopeless q board) q.waiting) (find (is_ready board) q.waiting) (find (is_free q) q.held) idle
  where
    by : (a b : Option Waiting) (c : Option Held) → option_or (option_map work.Hopeless a) (option_or (option_map work.Ready b) (option_map work.Vote c)) ≡ None
        → (a ≡ None) × (b ≡ None) × (c ≡ None)
    by (Some w) b c e = absurd cc
    by None (Some w) c e = absurd cc
    by None None (Some h) e = absurd cc
    by None None None e = (refl, refl, refl)

-- with no block hopeless and none ready, the first free reply is to be counted
vote_of : (q : Lists) (board : Board) → find (is_hopeless q board) q.waiting ≡ None → find (is_ready board) q.waiting ≡ None
    → work_of q board ≡ option_map work.Vote (find (is_free q) q.held)
vote_of q board a b =
    let vote = option_map work.Vote (find (is_free q) q.held) in
    ap (λ (o : Option Waiting). option_or (option_map work.Hopeless o) (option_or (option_map work.Ready (find (is_ready board) q.waiting)) vote)) a
    ∙ ap (λ (o : Option Waiting). option_or (option_map work.Ready o) vote) b

idle_from : (q : Lists) (board : Board) → find (is_hopeless q board) q.waiting ≡ None → find (is_ready board) q.waiting ≡ None → find (is_free q) q.held ≡ None → IsIdle q board
idle_from q board a b c = vote_of q board a b ∙ ap (λ (o : Option Held). option_map work.Vote o) c

-- a block is asked for
pub idle_asked : (q : Lists) (board : Board) (get : Get) → IsIdle q board → IsIdle (after_asked q get) board
idle_asked q board get idle =
    let now = after_asked q get in
    let parts = idle_parts q board idle in
    let more : (id : List ℕ) → is_asked q id ≡ true → is_asked now id ≡ true = λ id e. asked_with q.gets get id ∙ or_left (is_asked q id) (bytes_eq get.id id) e in
    idle_from now board
    (none_by (is_hopeless q board) (is_hopeless q board) (is_hopeless now board) q.waiting
    (λ w a b. let below = waits_below q.waiting w.header in
    still_busy (is_on board w.header.parent) (is_asked q w.header.parent || below) (is_on board w.header.parent) (is_asked now w.header.parent || below) (λ e. e)
    (either_more (is_asked q w.header.parent) below (is_asked now w.header.parent) below (more w.header.parent) (λ e. e)) a)
    parts.0 parts.0)
    parts.1
    (none_by (is_free q) (is_free q) (is_free now) q.held
    (λ h a b. still_busy (waits q h.id) (is_asked q h.id) (waits q h.id) (is_asked now h.id) (λ e. e) (more h.id) a)
    parts.2 parts.2)

-- a poll leaves with its replies
pub idle_forgotten : (q : Lists) (board : Board) (number : ℕ) → IsIdle q board → IsIdle (after_forgotten q number) board
idle_forgotten q board number idle =
    let parts = idle_parts q board idle in
    idle_from (after_forgotten q number) board parts.0 parts.1 (none_among (is_free q) (λ h. not (h.number == number)) q.held parts.2)

-- a poll is recorded
pub idle_polled : (q : Lists) (board : Board) (votes : List Vote) → IsIdle q board → IsIdle q (poll board votes).0
idle_polled q board votes idle =
    let now = (poll board votes).0 in
    let parts = idle_parts q board idle in
    idle_from q now
    (none_by (is_hopeless q board) (is_ready board) (is_hopeless q now) q.waiting
    (λ w a b. still_hopes (is_on board w.header.parent) (is_asked q w.header.parent || waits_below q.waiting w.header) (is_on now w.header.parent) a b)
    parts.0 parts.1)
    (none_by (is_ready board) (is_ready board) (is_ready now) q.waiting (λ w a b. off_polled board votes w.header.parent a) parts.1 parts.1)
    parts.2
  where
    still_hopes : (on other after : Bool) → not (on || other) ≡ false → on ≡ false → not (after || other) ≡ false
    still_hopes true other after a b = absurd cc
    still_hopes false true true a b = refl
    still_hopes false true false a b = refl
    still_hopes false false after a b = absurd cc

-- ---- a reply comes

-- a free one is then the first thing to do
pub first_to_do : (q : Lists) (board : Board) (reply : Held) → IsIdle q board → is_free q reply ≡ true
    → (work_of (after_held q reply) board ≡ Some (work.Vote reply)) × (after (after_held q reply) board (Some (work.Vote reply)) ≡ q)
first_to_do q board reply idle free =
    let parts = idle_parts q board idle in (
      vote_of (after_held q reply) board parts.0 parts.1 ∙ ap (λ (o : Option Held). option_map work.Vote o) (found_last (is_free q) q.held reply parts.2 free),
      ap (λ (held : List Held). record q { held = held }) (left_last (is_free q) q.held reply parts.2 free),
    )

-- what is so where it may be counted as it comes
pub counts : (q : Lists) (board : Board) (id : List ℕ) (vote : Option (List ℕ)) → vote_at_once q board id ≡ Some vote
    → (not (waits q id || is_asked q id) ≡ true) × (wanted q board id ≡ false) × (bubbled q board id ≡ vote)
counts q board id vote e = by (waits q id) (is_asked q id) (wanted q board id) (bubbled q board id) e
  where
    by : (a b c : Bool) (o : Option (List ℕ)) → cond (a || (b || c)) None (Some o) ≡ Some vote → (not (a || b) ≡ true) × (c ≡ false) × (o ≡ vote)
    by true b c o e = absurd cc
    by false true c o e = absurd cc
    by false false true o e = absurd cc
    by false false false o e = (refl, refl, cc)

-- ---- a block comes

-- what fails at the last too is not found
none_last : {T : Type 0} (p : T → Bool) (xs : List T) (x : T) → find p xs ≡ None → p x ≡ false → find p (xs ++ x ∷ []) ≡ None
none_last p [] x none fails = rw fails refl
none_last {T = T} p (y ∷ xs) x none fails = by (p y) (λ c. none_last p xs x c fails) refl none
  where
    by : (b : Bool) → (find p xs ≡ None → find p (xs ++ x ∷ []) ≡ None) → p y ≡ b → cond b (Some y) (find p xs) ≡ None → find p (y ∷ (xs ++ x ∷ [])) ≡ None
    by true rest e none = absurd cc
    by false rest e none = rw e (rest none)

-- with no block hopeless, the first ready one is to be issued
ready_of : (q : Lists) (board : Board) (w : Waiting) → find (is_hopeless q board) q.waiting ≡ None → find (is_ready board) q.waiting ≡ Some w
    → work_of q board ≡ Some (work.Ready w)
ready_of q board w a b =
    let vote = option_map work.Vote (find (is_free q) q.held) in
    ap (λ (o : Option Waiting). option_or (option_map work.Hopeless o) (option_or (option_map work.Ready (find (is_ready board) q.waiting)) vote)) a
    ∙ ap (λ (o : Option Waiting). option_or (option_map work.Ready o) vote) b

-- one whose parent is on the board is then the first thing to do
pub next_to_do : (q : Lists) (board : Board) (w : Waiting) → IsIdle q board → is_on board w.header.parent ≡ true
    → (work_of (with_waiting q w) board ≡ Some (work.Ready w)) × (after (with_waiting q w) board (Some (work.Ready w)) ≡ q)
next_to_do q board w idle on =
    let now = with_waiting q w in
    let parts = idle_parts q board idle in
    let below : (h : Header) → waits_below q.waiting h ≡ true → waits_below now.waiting h ≡ true = λ h e.
    list_any-append (λ v. bytes_eq v.header.id h.parent && (v.header.height + 1 == h.height)) q.waiting (w ∷ [])
    ∙ or_left (waits_below q.waiting h) ((bytes_eq w.header.id h.parent && (w.header.height + 1 == h.height)) || false) e
    in
    let hopes : find (is_hopeless now board) q.waiting ≡ None =
    none_by (is_hopeless q board) (is_hopeless q board) (is_hopeless now board) q.waiting
    (λ x a b. let asked = is_asked q x.header.parent in
    still_busy (is_on board x.header.parent) (asked || waits_below q.waiting x.header) (is_on board x.header.parent) (asked || waits_below now.waiting x.header) (λ e. e)
    (either_more asked (waits_below q.waiting x.header) asked (waits_below now.waiting x.header) (λ e. e) (below x.header)) a)
    parts.0 parts.0
    in
    let rises : is_hopeless now board w ≡ false = rw on refl in (
      ready_of now board w (none_last (is_hopeless now board) q.waiting w hopes rises) (found_last (is_ready board) q.waiting w parts.1 on),
      ap (λ (waiting : List Waiting). record q { waiting = waiting }) (left_last (is_ready board) q.waiting w parts.1 on),
    )

-- what is so where a block is ready as it comes
pub next_parts : (q : Lists) (board : Board) (block : Header) → is_next q board block ≡ true → (is_on board block.parent ≡ true) × (refusal q board block ≡ None)
next_parts q board block e = by (is_on board block.parent) (refusal q board block) e
  where
    by : (a : Bool) (o : Option Offered) → (a && is_none o) ≡ true → (a ≡ true) × (o ≡ None)
    by false o e = absurd cc
    by true (Some x) e = absurd cc
    by true None e = (refl, refl)

-- it waits if it is offered, and its parent isn't asked for
pub next_waits : (q : Lists) (board : Board) (w : Waiting) → is_next q board w.header ≡ true → offered q board w ≡ offer.Waits None
next_waits q board w e =
    let parts = next_parts q board w.header e in
    rw parts.1 (ap offer.Waits (unasked (with_waiting q w) parts.0))
  where
    never : (b : Bool) → cond (b && false) (Some w.header.parent) None ≡ None
    never true = refl
    never false = refl

    unasked : (l : Lists) → is_on board w.header.parent ≡ true → asks l board w.header ≡ None
    unasked l on = rw on (never (is_high board w.header))
