-- Lemmas on what is taken out: what is known of the others stays so, once those are woken that it touched.
use Rattle.std.proofs.Common.{◌≡◌, ℕ, zero, suc, ◌<◌, ◌+◌, ◌==◌, Bool, true, false, not, ◌&&◌, ◌||◌, cond, List, [], ◌∷◌, ◌++◌, map, length, get_or, find, All, Some, None, refl, sym, ap, ◌∙◌, subst, arith}
use Rattle.std.specs.List.{list_any, remove, position_or_len}
use Rattle.std.specs.Str.{bytes_eq}
use Rattle.std.proofs.lemmas.Bool.{or_left, not-false}
use Rattle.std.proofs.lemmas.List.{get_or-map, length-map}
use Rattle.std.proofs.lemmas.List.Elements.{All-map, All-weaker, All-push}
use Rattle.std.proofs.lemmas.List.Folds.{list_any-append}
use Rattle.snow_board.specs.Model.Board.{Board}
use Rattle.snow_issue.specs.declared.work.Waiting.{Waiting}
use Rattle.snow_gets.specs.declared.gets.Get.{Get}
use Rattle.snow_held.specs.declared.held.Held.{Held}
use Rattle.snow_lineup.specs.declared.marks.Mark.{Mark}
use Rattle.snow_lineup.specs.declared.marks.Mark.TheVariants.{New, Quiet, Ripe}
use Rattle.snow_gets.specs.Model.Gets.{asked_in, with_get, is_get, without}
use Rattle.snow_issue.specs.Model.Lists.{waits_among, waits_below}
use Rattle.snow_issue.specs.Model.Offering.{is_on}
use Rattle.snow_issue.specs.Model.Settling.{is_free_by}
use Rattle.snow_issue.specs.Kept.Known.{items_of, sight, Tells, ForgetsChildren, NoneRipe}
use Rattle.snow_lineup.specs.Kept.Marks.{is_mark, has}
use Rattle.snow_map.proofs.Lists.{same_id, id_turned}
use Rattle.snow_lineup.specs.Kept.Index.{woken, forgotten}
use Rattle.snow_issue.specs.Kept.Keeping.{StaysQuiet}
use Rattle.snow_lineup.proofs.Tagged.{All_remove, map_remove}
use Rattle.snow_gets.proofs.Asking.{asked_with, first_at}

-- ---- lists

-- where the item that goes fails a test, the test's answer stays
pub without_other : {T : Type 0} (test : T → Bool) (xs : List T) (at : ℕ) (x : T) → at < length xs → x ≡ get_or xs at x → test x ≡ false → list_any test (remove xs at) ≡ list_any test xs
without_other test [] at x there is fails = absurd (omega (arith, there))
without_other test (y ∷ xs) zero x there is fails = ap (λ b. b || list_any test xs) (sym (ap test (sym is) ∙ fails))
without_other test (y ∷ xs) (suc at) x there is fails = ap (λ b. test y || b) (without_other test xs at x (omega (arith, there)) is fails)

pub items_woken : {T : Type 0} (key : T → List ℕ) (id : List ℕ) (seats : List (T × Mark)) → items_of (map (woken key id) seats) ≡ items_of seats
items_woken key id [] = refl
items_woken key id (s ∷ seats) = ap (λ l. s.0 ∷ l) (items_woken key id seats)

pub items_forgotten : {T : Type 0} (seats : List (T × Mark)) → items_of (map forgotten seats) ≡ items_of seats
items_forgotten [] = refl
items_forgotten (s ∷ seats) = ap (λ l. s.0 ∷ l) (items_forgotten seats)

pub items_pushed : {T : Type 0} (seats : List (T × Mark)) (x : T) (mark : Mark) → items_of (seats ++ (x, mark) ∷ []) ≡ items_of seats ++ x ∷ []
items_pushed [] x mark = refl
items_pushed (s ∷ seats) x mark = ap (λ l. s.0 ∷ l) (items_pushed seats x mark)

pub items_removed : {T : Type 0} (seats : List (T × Mark)) (at : ℕ) → items_of (remove seats at) ≡ remove (items_of seats) at
items_removed {T} seats at = map_remove (λ (s : T × Mark). s.0) seats at

-- the item at a place, by the seats
pub item_is : {T : Type 0} (seats : List (T × Mark)) (at : ℕ) (x : T) → at < length seats → ((d : T × Mark) → x ≡ (get_or seats at d).0) → x ≡ get_or (items_of seats) at x
item_is {T} seats at x there is = let d : T × Mark = (x, New) in is d ∙ sym (get_or-map (λ (s : T × Mark). s.0) seats at d x there)

-- ---- what is remembered, of other lists

-- what a look tells is the same where its two tests are
pub tells_same : (waiting other : List Waiting) (gets others : List Get) (board : Board) (w : Waiting) (mark : Mark)
    → sight other others board w.header ≡ sight waiting gets board w.header → Tells waiting gets board (w, mark) → Tells other others board (w, mark)
tells_same waiting other gets others board w New same h = tt
tells_same waiting other gets others board w Quiet same h = same ∙ h
tells_same waiting other gets others board w Ripe same h = same ∙ h

sight_more : (on a b : Bool) (mark : Mark) → (a ≡ true → b ≡ true) → cond on (Some Ripe) (cond a (Some Quiet) None) ≡ Some mark → cond on (Some Ripe) (cond b (Some Quiet) None) ≡ Some mark
sight_more true a b mark more h = h
sight_more false true b mark more h = ap (λ b. cond b (Some Quiet) None) (more refl) ∙ h
sight_more false false b mark more h = absurd cc

-- what a look tells stays, where more waits and more is asked for
pub tells_more : (waiting other : List Waiting) (gets others : List Get) (board : Board) (w : Waiting) (mark : Mark)
    → ((asked_in gets w.header.parent || waits_below waiting w.header) ≡ true → (asked_in others w.header.parent || waits_below other w.header) ≡ true)
    → Tells waiting gets board (w, mark) → Tells other others board (w, mark)
tells_more waiting other gets others board w New more h = tt
tells_more waiting other gets others board w Quiet more h =
    sight_more (is_on board w.header.parent) (asked_in gets w.header.parent || waits_below waiting w.header) (asked_in others w.header.parent || waits_below other w.header) Quiet more h
tells_more waiting other gets others board w Ripe more h =
    sight_more (is_on board w.header.parent) (asked_in gets w.header.parent || waits_below waiting w.header) (asked_in others w.header.parent || waits_below other w.header) Ripe more h

-- a mark is forgotten, or what it tells is the same
woken_tells : (waiting other : List Waiting) (gets others : List Get) (board : Board) (id : List ℕ) (s : Waiting × Mark)
    → (bytes_eq id s.0.header.parent ≡ false → sight other others board s.0.header ≡ sight waiting gets board s.0.header)
    → Tells waiting gets board s → Tells other others board (woken (λ w. w.header.parent) id s)
woken_tells waiting other gets others board id s same h =
    let Goal : Bool → Type 0 = λ b. bytes_eq id s.0.header.parent ≡ b → Tells other others board (s.0, cond b New s.1) in
    elim (bytes_eq id s.0.header.parent) as Goal [
      | true ↦ λ e. tt
      | false ↦ λ e. tells_same waiting other gets others board s.0 s.1 (same e) h
    ] refl

sight_by : (on a b c d : Bool) → a ≡ c → b ≡ d → cond on (Some Ripe) (cond (a || b) (Some Quiet) None) ≡ cond on (Some Ripe) (cond (c || d) (Some Quiet) None)
sight_by on a b c d ac bd = rw (ac, bd) refl

-- a block was taken out and its children woken
pub tells_left : (gets : List Get) (board : Board) (seats : List (Waiting × Mark)) (at : ℕ) (w : Waiting) → at < length seats → ((d : Waiting × Mark) → w ≡ (get_or seats at d).0)
    → All (Tells (items_of seats) gets board) seats
    → All (Tells (items_of (map (woken (λ w. w.header.parent) w.header.id) (remove seats at))) gets board) (map (woken (λ w. w.header.parent) w.header.id) (remove seats at))
tells_left gets board seats at w there is tells =
    let key : Waiting → List ℕ = λ w. w.header.parent in
    let id = w.header.id in
    let before = items_of seats in
    let other = items_of (map (woken key id) (remove seats at)) in
    let same : other ≡ remove before at = items_woken key id (remove seats at) ∙ items_removed seats at in
    let here = item_is seats at w there is in
    let long : at < length before = omega (arith, there, length-map seats (λ (s : Waiting × Mark). s.0)) in
    let stays : (s : Waiting × Mark) → bytes_eq id s.0.header.parent ≡ false → sight other gets board s.0.header ≡ sight before gets board s.0.header =
    λ s e. let h = s.0.header in
    sight_by (is_on board h.parent) (asked_in gets h.parent) (waits_below other h) (asked_in gets h.parent) (waits_below before h) refl
    (ap (λ l. waits_below l h) same
    ∙ without_other (λ w. bytes_eq w.header.id h.parent && (w.header.height + 1 == h.height)) before at w long here (ap (λ b. b && (w.header.height + 1 == h.height)) e)) in
    All-map (Tells other gets board) (woken key id) (remove seats at)
    (All-weaker (Tells before gets board) (λ s. Tells other gets board (woken key id s)) (λ s h. woken_tells before other gets gets board id s (stays s) h)
    (remove seats at) (All_remove (Tells before gets board) seats at tells))

-- a block was taken out that is still asked for: what a look tells of the others is the same
sight_asked : (on a b d : Bool) → a ≡ true → cond on (Some Ripe) (cond (a || b) (Some Quiet) None) ≡ cond on (Some Ripe) (cond (a || d) (Some Quiet) None)
sight_asked on a b d e = rw e refl

pub asked_for_same : (gets : List Get) (id other : List ℕ) → asked_in gets id ≡ true → bytes_eq id other ≡ true → asked_in gets other ≡ true
asked_for_same gets id other asked e = subst (λ (i : List ℕ). asked_in gets i ≡ true) (same_id id other e) asked

pub tells_stay : (gets : List Get) (board : Board) (seats : List (Waiting × Mark)) (at : ℕ) (w : Waiting) → at < length seats → ((d : Waiting × Mark) → w ≡ (get_or seats at d).0)
    → asked_in gets w.header.id ≡ true → All (Tells (items_of seats) gets board) seats → All (Tells (items_of (remove seats at)) gets board) (remove seats at)
tells_stay gets board seats at w there is asked tells =
    let id = w.header.id in
    let before = items_of seats in
    let other = items_of (remove seats at) in
    let here = item_is seats at w there is in
    let long : at < length before = omega (arith, there, length-map seats (λ (s : Waiting × Mark). s.0)) in
    let stays : (s : Waiting × Mark) → sight other gets board s.0.header ≡ sight before gets board s.0.header =
    λ s. let h = s.0.header in
    let Goal : Bool → Type 0 = λ b. bytes_eq id h.parent ≡ b → sight other gets board h ≡ sight before gets board h in
    elim (bytes_eq id h.parent) as Goal [
      | true ↦ λ e. sight_asked (is_on board h.parent) (asked_in gets h.parent) (waits_below other h) (waits_below before h) (asked_for_same gets id h.parent asked e)
      | false ↦ λ e. sight_by (is_on board h.parent) (asked_in gets h.parent) (waits_below other h) (asked_in gets h.parent) (waits_below before h) refl
          (ap (λ l. waits_below l h) (items_removed seats at)
          ∙ without_other (λ w. bytes_eq w.header.id h.parent && (w.header.height + 1 == h.height)) before at w long here (ap (λ b. b && (w.header.height + 1 == h.height)) e))
    ] refl in
    All-weaker (Tells before gets board) (Tells other gets board) (λ s h. tells_same before other gets gets board s.0 s.1 (stays s) h)
    (remove seats at) (All_remove (Tells before gets board) seats at tells)

-- a block's children were woken
pub tells_woken : (gets : List Get) (board : Board) (id : List ℕ) (seats : List (Waiting × Mark)) → All (Tells (items_of seats) gets board) seats
    → All (Tells (items_of (map (woken (λ w. w.header.parent) id) seats)) gets board) (map (woken (λ w. w.header.parent) id) seats)
tells_woken gets board id seats tells =
    let key : Waiting → List ℕ = λ w. w.header.parent in
    let before = items_of seats in
    let other = items_of (map (woken key id) seats) in
    let stays : (s : Waiting × Mark) → sight other gets board s.0.header ≡ sight before gets board s.0.header =
    λ s. ap (λ (l : List Waiting). sight l gets board s.0.header) (items_woken key id seats) in
    All-map (Tells other gets board) (woken key id) seats
    (All-weaker (Tells before gets board) (λ s. Tells other gets board (woken key id s)) (λ s h. woken_tells before other gets gets board id s (λ e. stays s) h) seats tells)

-- a get was closed and the children of its block woken
pub tells_closed : (board : Board) (seats : List (Waiting × Mark)) (gets : List Get) (number : ℕ) (node : List ℕ) (get : Get) → find (is_get number node) gets ≡ Some get
    → All (Tells (items_of seats) gets board) seats
    → All (Tells (items_of (map (woken (λ w. w.header.parent) get.id) seats)) (without (is_get number node) gets) board) (map (woken (λ w. w.header.parent) get.id) seats)
tells_closed board seats gets number node get found tells =
    let key : Waiting → List ℕ = λ w. w.header.parent in
    let before = items_of seats in
    let other = items_of (map (woken key get.id) seats) in
    let others = without (is_get number node) gets in
    let place = first_at (is_get number node) gets get found in
    let stays : (s : Waiting × Mark) → bytes_eq get.id s.0.header.parent ≡ false → sight other others board s.0.header ≡ sight before gets board s.0.header =
    λ s e. let h = s.0.header in
    sight_by (is_on board h.parent) (asked_in others h.parent) (waits_below other h) (asked_in gets h.parent) (waits_below before h)
    (without_other (λ g. bytes_eq g.id h.parent) gets (position_or_len (is_get number node) gets) get place.0 place.1 e)
    (ap (λ l. waits_below l h) (items_woken key get.id seats)) in
    All-map (Tells other others board) (woken key get.id) seats
    (All-weaker (Tells before gets board) (λ s. Tells other others board (woken key get.id s)) (λ s h. woken_tells before other gets others board get.id s (stays s) h) seats tells)

pub either_more : (a b c d : Bool) → (a ≡ true → c ≡ true) → (b ≡ true → d ≡ true) → (a || b) ≡ true → (c || d) ≡ true
either_more true b c d ac bd h = ap (λ x. x || d) (ac refl)
either_more false b true d ac bd h = refl
either_more false b false d ac bd h = bd h

-- a get was opened
pub tells_asked : (board : Board) (seats : List (Waiting × Mark)) (gets : List Get) (get : Get) → All (Tells (items_of seats) gets board) seats
    → All (Tells (items_of seats) (with_get gets get) board) seats
tells_asked board seats gets get tells =
    All-weaker (Tells (items_of seats) gets board) (Tells (items_of seats) (with_get gets get) board)
    (λ s h. let head = s.0.header in
    tells_more (items_of seats) (items_of seats) gets (with_get gets get) board s.0 s.1
    (either_more (asked_in gets head.parent) (waits_below (items_of seats) head) (asked_in (with_get gets get) head.parent) (waits_below (items_of seats) head)
    (λ e. asked_with gets get head.parent ∙ or_left (asked_in gets head.parent) (bytes_eq get.id head.parent) e) (λ e. e)) h)
    seats tells

-- a block came
pub tells_pushed : (board : Board) (seats : List (Waiting × Mark)) (gets : List Get) (w : Waiting) → All (Tells (items_of seats) gets board) seats
    → All (Tells (items_of (seats ++ (w, New) ∷ [])) gets board) (seats ++ (w, New) ∷ [])
tells_pushed board seats gets w tells =
    let other = items_of (seats ++ (w, New) ∷ []) in
    All-push (Tells other gets board) seats (w, New)
    (All-weaker (Tells (items_of seats) gets board) (Tells other gets board)
    (λ s h. let head = s.0.header in
    tells_more (items_of seats) other gets gets board s.0 s.1
    (either_more (asked_in gets head.parent) (waits_below (items_of seats) head) (asked_in gets head.parent) (waits_below other head) (λ e. e)
    (λ e. ap (λ l. waits_below l head) (items_pushed seats w New)
    ∙ list_any-append (λ w. bytes_eq w.header.id head.parent && (w.header.height + 1 == head.height)) (items_of seats) (w ∷ [])
    ∙ or_left (waits_below (items_of seats) head) ((bytes_eq w.header.id head.parent && (w.header.height + 1 == head.height)) || false) e)) h)
    seats tells) tt

-- nothing is remembered, so it is true of any board
pub tells_forgotten : (gets : List Get) (board : Board) (seats : List (Waiting × Mark)) → All (Tells (items_of (map forgotten seats)) gets board) (map forgotten seats)
tells_forgotten gets board seats =
    All-map (Tells (items_of (map forgotten seats)) gets board) forgotten seats (λ k d within. tt)

unripe_either : (b : Bool) (mark : Mark) → is_mark Ripe mark ≡ false → is_mark Ripe (cond b New mark) ≡ false
unripe_either true mark h = refl
unripe_either false mark h = h

-- a block's children were woken, so nothing is remembered of them
pub woken_forgets : (id : List ℕ) (seats after : List (Waiting × Mark)) → after ≡ map (woken (λ w. w.header.parent) id) seats → ForgetsChildren id after
woken_forgets id seats after is =
    let key : Waiting → List ℕ = λ w. w.header.parent in
    let P : Waiting × Mark → Type 0 = λ s. bytes_eq s.0.header.parent id ≡ true → s.1 ≡ New in
    subst (λ (l : List (Waiting × Mark)). All P l) (sym is)
    (All-map P (woken key id) seats (λ k d within child.
    let s = get_or seats k d in ap (λ b. cond b New s.1) (id_turned id s.0.header.parent ∙ child)))

-- ---- none is ripe

pub unripe_pushed : (seats : List (Waiting × Mark)) (w : Waiting) → NoneRipe seats → NoneRipe (seats ++ (w, New) ∷ [])
unripe_pushed seats w none = let new : Waiting × Mark = (w, New) in All-push (λ (s : Waiting × Mark). has Ripe s ≡ false) seats new none refl

pub unripe_woken : (id : List ℕ) (seats : List (Waiting × Mark)) → NoneRipe seats → NoneRipe (map (woken (λ w. w.header.parent) id) seats)
unripe_woken id seats none =
    let key : Waiting → List ℕ = λ w. w.header.parent in
    All-map (λ (s : Waiting × Mark). has Ripe s ≡ false) (woken key id) seats
    (All-weaker (λ s. has Ripe s ≡ false) (λ s. has Ripe (woken key id s) ≡ false) (λ s h. unripe_either (bytes_eq id s.0.header.parent) s.1 h) seats none)

-- ---- held replies

quiet_same : (waiting other : List Waiting) (gets others : List Get) (h : Held) (mark : Mark) → is_free_by other others h ≡ is_free_by waiting gets h
    → StaysQuiet waiting gets (h, mark) → StaysQuiet other others (h, mark)
quiet_same waiting other gets others h New same r = tt
quiet_same waiting other gets others h Quiet same r = same ∙ r
quiet_same waiting other gets others h Ripe same r = same ∙ r

woken_rests : (waiting other : List Waiting) (gets others : List Get) (id : List ℕ) (s : Held × Mark)
    → (bytes_eq id s.0.id ≡ false → is_free_by other others s.0 ≡ is_free_by waiting gets s.0)
    → StaysQuiet waiting gets s → StaysQuiet other others (woken (λ h. h.id) id s)
woken_rests waiting other gets others id s same r =
    let Goal : Bool → Type 0 = λ b. bytes_eq id s.0.id ≡ b → StaysQuiet other others (s.0, cond b New s.1) in
    elim (bytes_eq id s.0.id) as Goal [
      | true ↦ λ e. tt
      | false ↦ λ e. quiet_same waiting other gets others s.0 s.1 (same e) r
    ] refl

-- a block was taken out and the replies that name it woken
pub quiet_left : (gets : List Get) (waiting : List Waiting) (at : ℕ) (w : Waiting) (replies : List (Held × Mark)) → at < length waiting → w ≡ get_or waiting at w
    → All (StaysQuiet waiting gets) replies → All (StaysQuiet (remove waiting at) gets) (map (woken (λ h. h.id) w.header.id) replies)
quiet_left gets waiting at w replies there is quiet =
    All-map (StaysQuiet (remove waiting at) gets) (woken (λ h. h.id) w.header.id) replies
    (All-weaker (StaysQuiet waiting gets) (λ s. StaysQuiet (remove waiting at) gets (woken (λ h. h.id) w.header.id s))
    (λ s r. woken_rests waiting (remove waiting at) gets gets w.header.id s
    (λ e. ap (λ b. not (b || asked_in gets s.0.id)) (without_other (λ x. bytes_eq x.header.id s.0.id) waiting at w there is e)) r)
    replies quiet)

-- a block was taken out that is still asked for: no reply that names it is free
free_asked : (b d a : Bool) → a ≡ true → not (b || a) ≡ not (d || a)
free_asked true true a e = refl
free_asked true false a e = rw e refl
free_asked false true a e = rw e refl
free_asked false false a e = refl

pub quiet_stay : (gets : List Get) (waiting : List Waiting) (at : ℕ) (w : Waiting) (replies : List (Held × Mark)) → at < length waiting → w ≡ get_or waiting at w
    → asked_in gets w.header.id ≡ true → All (StaysQuiet waiting gets) replies → All (StaysQuiet (remove waiting at) gets) replies
quiet_stay gets waiting at w replies there is asked quiet =
    let id = w.header.id in
    let other = remove waiting at in
    let stays : (s : Held × Mark) → is_free_by other gets s.0 ≡ is_free_by waiting gets s.0 =
    λ s.
    let Goal : Bool → Type 0 = λ b. bytes_eq id s.0.id ≡ b → is_free_by other gets s.0 ≡ is_free_by waiting gets s.0 in
    elim (bytes_eq id s.0.id) as Goal [
      | true ↦ λ e. free_asked (waits_among other s.0.id) (waits_among waiting s.0.id) (asked_in gets s.0.id) (asked_for_same gets id s.0.id asked e)
      | false ↦ λ e. ap (λ b. not (b || asked_in gets s.0.id)) (without_other (λ x. bytes_eq x.header.id s.0.id) waiting at w there is e)
    ] refl in
    All-weaker (StaysQuiet waiting gets) (StaysQuiet other gets) (λ s r. quiet_same waiting other gets gets s.0 s.1 (stays s) r) replies quiet

-- a get was closed and the replies that name its block woken
pub quiet_closed : (waiting : List Waiting) (gets : List Get) (number : ℕ) (node : List ℕ) (get : Get) (replies : List (Held × Mark)) → find (is_get number node) gets ≡ Some get
    → All (StaysQuiet waiting gets) replies → All (StaysQuiet waiting (without (is_get number node) gets)) (map (woken (λ h. h.id) get.id) replies)
quiet_closed waiting gets number node get replies found quiet =
    let others = without (is_get number node) gets in
    let place = first_at (is_get number node) gets get found in
    All-map (StaysQuiet waiting others) (woken (λ h. h.id) get.id) replies
    (All-weaker (StaysQuiet waiting gets) (λ s. StaysQuiet waiting others (woken (λ h. h.id) get.id s))
    (λ s r. woken_rests waiting waiting gets others get.id s
    (λ e. ap (λ b. not (waits_among waiting s.0.id || b)) (without_other (λ g. bytes_eq g.id s.0.id) gets (position_or_len (is_get number node) gets) get place.0 place.1 e)) r)
    replies quiet)

pub still_busy : (a b c d : Bool) → (a ≡ true → c ≡ true) → (b ≡ true → d ≡ true) → not (a || b) ≡ false → not (c || d) ≡ false
still_busy a b c d ac bd h = ap not (either_more a b c d ac bd (not-false (a || b) h))

quiet_more : (waiting other : List Waiting) (gets others : List Get) (h : Held) (mark : Mark) → (waits_among waiting h.id ≡ true → waits_among other h.id ≡ true)
    → (asked_in gets h.id ≡ true → asked_in others h.id ≡ true) → StaysQuiet waiting gets (h, mark) → StaysQuiet other others (h, mark)
quiet_more waiting other gets others h New w g r = tt
quiet_more waiting other gets others h Quiet w g r = still_busy (waits_among waiting h.id) (asked_in gets h.id) (waits_among other h.id) (asked_in others h.id) w g r
quiet_more waiting other gets others h Ripe w g r = still_busy (waits_among waiting h.id) (asked_in gets h.id) (waits_among other h.id) (asked_in others h.id) w g r

pub quiet_asked : (waiting : List Waiting) (gets : List Get) (get : Get) (replies : List (Held × Mark)) → All (StaysQuiet waiting gets) replies → All (StaysQuiet waiting (with_get gets get)) replies
quiet_asked waiting gets get replies quiet =
    All-weaker (StaysQuiet waiting gets) (StaysQuiet waiting (with_get gets get))
    (λ s r. quiet_more waiting waiting gets (with_get gets get) s.0 s.1 (λ e. e)
    (λ e. asked_with gets get s.0.id ∙ or_left (asked_in gets s.0.id) (bytes_eq get.id s.0.id) e) r)
    replies quiet

pub quiet_pushed : (waiting : List Waiting) (gets : List Get) (w : Waiting) (replies : List (Held × Mark)) → All (StaysQuiet waiting gets) replies → All (StaysQuiet (waiting ++ w ∷ []) gets) replies
quiet_pushed waiting gets w replies quiet =
    All-weaker (StaysQuiet waiting gets) (StaysQuiet (waiting ++ w ∷ []) gets)
    (λ s r. quiet_more waiting (waiting ++ w ∷ []) gets gets s.0 s.1
    (λ e. list_any-append (λ x. bytes_eq x.header.id s.0.id) waiting (w ∷ []) ∙ or_left (waits_among waiting s.0.id) (bytes_eq w.header.id s.0.id || false) e) (λ e. e) r)
    replies quiet
