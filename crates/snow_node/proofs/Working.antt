-- What is taken out of a queue: it was there, and less is left.
use Rattle.std.proofs.Common.{◌≡◌, ℕ, ◌+◌, ◌<◌, ◌==◌, Bool, true, false, ◌&&◌, cond, List, [], ◌∷◌, length, find, Option, Some, None, bytes_eq, ◌⊎◌, inl, inr, refl, sym, ap, ◌∙◌, subst, arith}
use Rattle.std.proofs.lemmas.Bool.{or_parts}
use Rattle.std.specs.List.{list_any}
use Rattle.std.specs.Option.{option_map, option_or}
use Rattle.snow_board.specs.Model.Board.{Board}
use Rattle.snow_board.proofs.Cases.{split_on, differs_back}
use Rattle.snow_gets.specs.declared.gets.Get.{Get}
use Rattle.snow_held.specs.declared.held.Held.{Held}
use Rattle.snow_issue.specs.declared.work.Waiting.{Waiting}
use Rattle.snow_issue.specs.declared.work.Work.{Work}
use Rattle.snow_issue.specs.declared.work.Work.TheVariants as work
use Rattle.snow_gets.specs.Model.Gets.{without, has_number, is_get}
use Rattle.snow_issue.specs.Model.Lists.{Lists, waits_among, after_closed}
use Rattle.snow_issue.specs.Model.Settling.{work_of, after, is_hopeless, is_ready, is_free}
use Rattle.snow_issue.proofs.Idle.{without_cons}
use Rattle.snow_node.specs.Kept.Tied.{AreAtMost, AreOff, IsApart, MayWork}

-- ---- the first item that passes is taken out

-- what no item has, none has that is left
without_none : {A : Type 0} (t p : A → Bool) (xs : List A) → list_any p xs ≡ false → list_any p (without t xs) ≡ false
without_none t p [] none = refl
without_none {A = A} t p (x ∷ xs) none =
    let parts = or_parts (p x) (list_any p xs) none in
    ap (list_any p) (without_cons t x xs)
    ∙ split_on (t x)
    (λ e. rw e parts.1)
    (λ e. rw (e, parts.0) (without_none t p xs parts.1))

-- what is found passes
find_parts : {A : Type 0} (t : A → Bool) (x w : A) (xs : List A) → find t (x ∷ xs) ≡ Some w → ((t x ≡ true) × (x ≡ w)) ⊎ ((t x ≡ false) × (find t xs ≡ Some w))
find_parts t x w xs found = by (t x) refl found
  where
    by : (b : Bool) → t x ≡ b → cond b (Some x) (find t xs) ≡ Some w → ((t x ≡ true) × (x ≡ w)) ⊎ ((t x ≡ false) × (find t xs ≡ Some w))
    by true e f = inl (e, cc)
    by false e f = inr (e, f)

-- one less is left
pub one_less : {A : Type 0} (t : A → Bool) (xs : List A) (w : A) → find t xs ≡ Some w → length (without t xs) < length xs
one_less t [] w found = absurd cc
one_less {A = A} t (x ∷ xs) w found = by (λ f. one_less t xs w f) (find_parts t x w xs found)
  where
    by : (find t xs ≡ Some w → length (without t xs) < length xs) → ((t x ≡ true) × (x ≡ w)) ⊎ ((t x ≡ false) × (find t xs ≡ Some w)) → length (without t (x ∷ xs)) < length (x ∷ xs)
    by less (inl here) = rw (without_cons t x xs, here.0) (omega arith)
    by shorter (inr behind) =
        let less : length (without t xs) < length xs = shorter behind.1 in
        rw (without_cons t x xs, behind.0) (omega arith)

-- where none is found, all stay
none_out : {A : Type 0} (t : A → Bool) (xs : List A) → find t xs ≡ None → without t xs ≡ xs
none_out t [] none = refl
none_out {A = A} t (x ∷ xs) none = by (λ f. none_out t xs f) (t x) refl none
  where
    by : (find t xs ≡ None → without t xs ≡ xs) → (b : Bool) → t x ≡ b → cond b (Some x) (find t xs) ≡ None → without t (x ∷ xs) ≡ x ∷ xs
    by rest true e f = absurd cc
    by rest false e f = without_cons t x xs ∙ rw e (ap (λ (l : List A). x ∷ l) (rest f))

-- where no get has the number, none is found by it
pub none_numbered : (gets : List Get) (number : ℕ) (peer : List ℕ) → has_number gets number ≡ false → None ≡ option_map (λ (get : Get). get.id) (find (is_get number peer) gets)
none_numbered [] number peer h = refl
none_numbered (g ∷ gets) number peer h =
    let parts = or_parts (g.number == number) (has_number gets number) h in
    none_numbered gets number peer parts.1
    ∙ ap (λ b. option_map (λ (get : Get). get.id) (cond (b && bytes_eq g.node peer) (Some g) (find (is_get number peer) gets))) (sym parts.0)

-- a get that isn't open can't be closed
pub none_closed : (queue : Lists) (number : ℕ) (peer : List ℕ) → None ≡ option_map (λ (get : Get). get.id) (find (is_get number peer) queue.gets)
    → after_closed queue number peer ≡ queue
none_closed queue number peer e = ap (λ (gets : List Get). record queue { gets = gets }) (none_out (is_get number peer) queue.gets (none (find (is_get number peer) queue.gets) e))
  where
    none : (o : Option Get) → None ≡ option_map (λ (get : Get). get.id) o → o ≡ None
    none None e = refl
    none (Some get) e = absurd cc

-- gets that are left are no greater
pub closed_gets : (n number : ℕ) (peer : List ℕ) (gets : List Get) → AreAtMost (λ (get : Get). get.number) n gets → AreAtMost (λ (get : Get). get.number) n (without (is_get number peer) gets)
closed_gets n number peer [] all = tt
closed_gets n number peer (get ∷ gets) all =
    split_on (is_get number peer get)
    (λ t. rw (without_cons (is_get number peer) get gets, t) all.1)
    (λ t. rw (without_cons (is_get number peer) get gets, t) (all.0, closed_gets n number peer gets all.1))

-- ---- blocks

-- what waits has no identifier that nothing has which waits
other_id : (t : Waiting → Bool) (waiting : List Waiting) (w : Waiting) (id : List ℕ) → find t waiting ≡ Some w → waits_among waiting id ≡ false → bytes_eq w.header.id id ≡ false
other_id t [] w id found none = absurd cc
other_id t (x ∷ waiting) w id found none =
    by (λ f. other_id t waiting w id f (or_parts (bytes_eq x.header.id id) (waits_among waiting id) none).1) (find_parts t x w waiting found)
  where
    by : (find t waiting ≡ Some w → bytes_eq w.header.id id ≡ false) → ((t x ≡ true) × (x ≡ w)) ⊎ ((t x ≡ false) × (find t waiting ≡ Some w)) → bytes_eq w.header.id id ≡ false
    by rest (inl here) = subst (λ (v : Waiting). bytes_eq v.header.id id ≡ false) here.1 (or_parts (bytes_eq x.header.id id) (waits_among waiting id) none).0
    by rest (inr behind) = rest behind.1

-- a block that is taken out is off the board, as are those that are left, and none of them has its identifier
pub taken_out : (board : Board) (t : Waiting → Bool) (waiting : List Waiting) (w : Waiting) → AreOff board waiting → find t waiting ≡ Some w
    → AreOff board (without t waiting) × IsApart board (without t waiting) w.header.id
taken_out board t [] w off found = absurd cc
taken_out board t (x ∷ waiting) w off found = by (λ f. taken_out board t waiting w off.2 f) (find_parts t x w waiting found)
  where
    by : (find t waiting ≡ Some w → AreOff board (without t waiting) × IsApart board (without t waiting) w.header.id) → ((t x ≡ true) × (x ≡ w)) ⊎ ((t x ≡ false) × (find t waiting ≡ Some w)) → AreOff board (without t (x ∷ waiting)) × IsApart board (without t (x ∷ waiting)) w.header.id
    by others (inl here) =
        let apart : IsApart board waiting x.header.id = record { off = off.0; other = off.1 } in
        rw (without_cons t x waiting, here.0) (off.2, subst (λ (v : Waiting). IsApart board waiting v.header.id) here.1 apart)
    by others (inr behind) =
        let rest = others behind.1 in
        let differs : bytes_eq x.header.id w.header.id ≡ false = differs_back x.header.id w.header.id (other_id t waiting w x.header.id behind.1 off.1) in
        let apart : IsApart board (x ∷ without t waiting) w.header.id = record { off = rest.1.off; other = rw differs rest.1.other } in
        rw (without_cons t x waiting, behind.0) ((off.0, without_none t (λ v. bytes_eq v.header.id x.header.id) waiting off.1, rest.0), apart)

-- ---- the work

-- what the first of three finds is
abbrev IsFirst : Option Waiting → Option Waiting → Option Held → Work → Type 0
IsFirst a b c (work.Hopeless w) = a ≡ Some w
IsFirst a b c (work.Ready w) = b ≡ Some w
IsFirst a b c (work.Vote h) = c ≡ Some h

first_found : (a b : Option Waiting) (c : Option Held) (w : Work) → option_or (option_map work.Hopeless a) (option_or (option_map work.Ready b) (option_map work.Vote c)) ≡ Some w
    → IsFirst a b c w
first_found (Some x) b c w e = let same : work.Hopeless x ≡ w = cc in subst (IsFirst (Some x) b c) same refl
first_found None (Some x) c w e = let same : work.Ready x ≡ w = cc in subst (IsFirst None (Some x) c) same refl
first_found None None (Some h) w e = let same : work.Vote h ≡ w = cc in subst (IsFirst None None (Some h)) same refl
first_found None None None w e = absurd cc

abbrev found_work : (queue : Lists) (board : Board) (w : Work) → work_of queue board ≡ Some w
    → IsFirst (find (is_hopeless queue board) queue.waiting) (find (is_ready board) queue.waiting) (find (is_free queue) queue.held) w
found_work queue board w e = first_found (find (is_hopeless queue board) queue.waiting) (find (is_ready board) queue.waiting) (find (is_free queue) queue.held) w e

-- how much waits
abbrev pub amount : Lists → ℕ
amount queue = length queue.waiting + length queue.held

-- work leaves less
pub work_smaller : (queue : Lists) (board : Board) (w : Work) → work_of queue board ≡ Some w → amount (after queue board (Some w)) < amount queue
work_smaller queue board (work.Hopeless w) e =
    let less : length (without (is_hopeless queue board) queue.waiting) < length queue.waiting = one_less (is_hopeless queue board) queue.waiting w (found_work queue board (work.Hopeless w) e) in
    omega arith
work_smaller queue board (work.Ready w) e =
    let less : length (without (is_ready board) queue.waiting) < length queue.waiting = one_less (is_ready board) queue.waiting w (found_work queue board (work.Ready w) e) in
    omega arith
work_smaller queue board (work.Vote h) e =
    let less : length (without (is_free queue) queue.held) < length queue.held = one_less (is_free queue) queue.held h (found_work queue board (work.Vote h) e) in
    omega arith

-- it may be done, and what still waits is off the board
pub work_out : (queue : Lists) (board : Board) (w : Work) → AreOff board queue.waiting → work_of queue board ≡ Some w
    → AreOff board (after queue board (Some w)).waiting × MayWork board (after queue board (Some w)) w
work_out queue board (work.Hopeless w) off e = ((taken_out board (is_hopeless queue board) queue.waiting w off (found_work queue board (work.Hopeless w) e)).0, tt)
work_out queue board (work.Ready w) off e = taken_out board (is_ready board) queue.waiting w off (found_work queue board (work.Ready w) e)
work_out queue board (work.Vote h) off e = (off, tt)

-- the gets stay
pub work_gets : (queue : Lists) (board : Board) (w : Work) → (after queue board (Some w)).gets ≡ queue.gets
work_gets queue board (work.Hopeless w) = refl
work_gets queue board (work.Ready w) = refl
work_gets queue board (work.Vote h) = refl
