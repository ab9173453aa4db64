-- Lemmas on the walk over held replies: the first one of which nothing is remembered is free and goes, or it becomes quiet.
use Rattle.std.proofs.Common.{◌≡◌, suc, ◌<◌, ◌+◌, true, false, not, cond, List, [], ◌∷◌, length, filter, find, All, Some, None, refl, sym, ap, ◌∙◌, arith}
use Rattle.std.specs.List.{remove, position_or_len}
use Rattle.std.proofs.lemmas.List.Elements.{All-cons, All-head, All-tail}
use Rattle.snow_issue.specs.declared.work.Waiting.{Waiting}
use Rattle.snow_gets.specs.declared.gets.Get.{Get}
use Rattle.snow_gets.specs.Model.Gets.{without}
use Rattle.snow_held.specs.declared.held.Held.{Held}
use Rattle.snow_held.specs.Model.Replies.{first_new, quieted, without_new}
use Rattle.snow_lineup.specs.declared.marks.Mark.{Mark}
use Rattle.snow_lineup.specs.declared.marks.Mark.TheVariants.{New, Quiet, Ripe}
use Rattle.snow_lineup.specs.Kept.Marks.{has}
use Rattle.snow_issue.specs.Model.Settling.{is_free_by}
use Rattle.snow_issue.specs.Kept.Keeping.{StaysQuiet}
use Rattle.snow_issue.specs.Kept.Known.{items_of}

-- ---- one more is quiet

-- the replies are the same
pub items_quieted : (seats : List (Held × Mark)) → items_of (quieted seats) ≡ items_of seats
items_quieted [] = refl
items_quieted ((h, New) ∷ seats) = refl
items_quieted ((h, Quiet) ∷ seats) = ap (λ l. h ∷ l) (items_quieted seats)
items_quieted ((h, Ripe) ∷ seats) = ap (λ l. h ∷ l) (items_quieted seats)

-- where it isn't free, none is free of which something is remembered
pub quiet_quieted : (waiting : List Waiting) (gets : List Get) (seats : List (Held × Mark)) (reply : Held) → Some reply ≡ first_new seats → is_free_by waiting gets reply ≡ false
    → All (StaysQuiet waiting gets) seats → All (StaysQuiet waiting gets) (quieted seats)
quiet_quieted waiting gets [] reply first busy quiet = absurd cc
quiet_quieted waiting gets ((h, New) ∷ seats) reply first busy quiet =
    let same : h ≡ reply = cc in
    All-cons (StaysQuiet waiting gets) (h, Quiet) seats (ap (is_free_by waiting gets) same ∙ busy) (All-tail (StaysQuiet waiting gets) (h, New) seats quiet)
quiet_quieted waiting gets ((h, Quiet) ∷ seats) reply first busy quiet =
    All-cons (StaysQuiet waiting gets) (h, Quiet) (quieted seats) (All-head (StaysQuiet waiting gets) (h, Quiet) seats quiet)
    (quiet_quieted waiting gets seats reply first busy (All-tail (StaysQuiet waiting gets) (h, Quiet) seats quiet))
quiet_quieted waiting gets ((h, Ripe) ∷ seats) reply first busy quiet =
    All-cons (StaysQuiet waiting gets) (h, Ripe) (quieted seats) (All-head (StaysQuiet waiting gets) (h, Ripe) seats quiet)
    (quiet_quieted waiting gets seats reply first busy (All-tail (StaysQuiet waiting gets) (h, Ripe) seats quiet))

-- fewer are to be looked at
pub fewer_new : (seats : List (Held × Mark)) (reply : Held) → Some reply ≡ first_new seats → length (filter (has New) (quieted seats)) < length (filter (has New) seats)
fewer_new [] reply first = absurd cc
fewer_new ((h, New) ∷ seats) reply first = omega arith
fewer_new ((h, Quiet) ∷ seats) reply first = fewer_new seats reply first
fewer_new ((h, Ripe) ∷ seats) reply first = fewer_new seats reply first

-- ---- it is free

-- no reply before it is
pub free_found : (waiting : List Waiting) (gets : List Get) (seats : List (Held × Mark)) (reply : Held) → Some reply ≡ first_new seats → is_free_by waiting gets reply ≡ true
    → All (StaysQuiet waiting gets) seats → first_new seats ≡ find (is_free_by waiting gets) (items_of seats)
free_found waiting gets [] reply first free quiet = absurd cc
free_found waiting gets ((h, New) ∷ seats) reply first free quiet =
    let same : h ≡ reply = cc in
    sym (ap (λ b. cond b (Some h) (find (is_free_by waiting gets) (items_of seats))) (ap (is_free_by waiting gets) same ∙ free))
free_found waiting gets ((h, Quiet) ∷ seats) reply first free quiet =
    free_found waiting gets seats reply first free (All-tail (StaysQuiet waiting gets) (h, Quiet) seats quiet)
    ∙ sym (ap (λ b. cond b (Some h) (find (is_free_by waiting gets) (items_of seats))) (All-head (StaysQuiet waiting gets) (h, Quiet) seats quiet))
free_found waiting gets ((h, Ripe) ∷ seats) reply first free quiet =
    free_found waiting gets seats reply first free (All-tail (StaysQuiet waiting gets) (h, Ripe) seats quiet)
    ∙ sym (ap (λ b. cond b (Some h) (find (is_free_by waiting gets) (items_of seats))) (All-head (StaysQuiet waiting gets) (h, Ripe) seats quiet))

-- the first item passes a test and goes, or another one does
without_it : {T : Type 0} (test : T → _) (x : T) (xs : List T) → test x ≡ true → without test (x ∷ xs) ≡ xs
without_it test x xs passes = ap (λ b. remove (x ∷ xs) (cond (not b) (1 + position_or_len test xs) 0)) passes

without_other : {T : Type 0} (test : T → _) (x : T) (xs : List T) → test x ≡ false → without test (x ∷ xs) ≡ x ∷ without test xs
without_other test x xs fails =
    let next : 1 + position_or_len test xs ≡ suc (position_or_len test xs) = omega arith in
    ap (λ b. remove (x ∷ xs) (cond (not b) (1 + position_or_len test xs) 0)) fails ∙ ap (remove (x ∷ xs)) next

pub free_taken : (waiting : List Waiting) (gets : List Get) (seats : List (Held × Mark)) (reply : Held) → Some reply ≡ first_new seats → is_free_by waiting gets reply ≡ true
    → All (StaysQuiet waiting gets) seats → items_of (without_new seats) ≡ without (is_free_by waiting gets) (items_of seats)
free_taken waiting gets [] reply first free quiet = absurd cc
free_taken waiting gets ((h, New) ∷ seats) reply first free quiet =
    let same : h ≡ reply = cc in
    sym (without_it (is_free_by waiting gets) h (items_of seats) (ap (is_free_by waiting gets) same ∙ free))
free_taken waiting gets ((h, Quiet) ∷ seats) reply first free quiet =
    ap (λ l. h ∷ l) (free_taken waiting gets seats reply first free (All-tail (StaysQuiet waiting gets) (h, Quiet) seats quiet))
    ∙ sym (without_other (is_free_by waiting gets) h (items_of seats) (All-head (StaysQuiet waiting gets) (h, Quiet) seats quiet))
free_taken waiting gets ((h, Ripe) ∷ seats) reply first free quiet =
    ap (λ l. h ∷ l) (free_taken waiting gets seats reply first free (All-tail (StaysQuiet waiting gets) (h, Ripe) seats quiet))
    ∙ sym (without_other (is_free_by waiting gets) h (items_of seats) (All-head (StaysQuiet waiting gets) (h, Ripe) seats quiet))

-- the others stay what they were
pub quiet_taken : (P : Held × Mark → Type 0) (seats : List (Held × Mark)) → All P seats → All P (without_new seats)
quiet_taken P [] quiet = quiet
quiet_taken P ((h, New) ∷ seats) quiet = All-tail P (h, New) seats quiet
quiet_taken P ((h, Quiet) ∷ seats) quiet = All-cons P (h, Quiet) (without_new seats) (All-head P (h, Quiet) seats quiet) (quiet_taken P seats (All-tail P (h, Quiet) seats quiet))
quiet_taken P ((h, Ripe) ∷ seats) quiet = All-cons P (h, Ripe) (without_new seats) (All-head P (h, Ripe) seats quiet) (quiet_taken P seats (All-tail P (h, Ripe) seats quiet))

-- ---- there is none

pub none_free : (waiting : List Waiting) (gets : List Get) (seats : List (Held × Mark)) → None ≡ first_new seats → All (StaysQuiet waiting gets) seats
    → None ≡ find (is_free_by waiting gets) (items_of seats)
none_free waiting gets [] none quiet = refl
none_free waiting gets ((h, New) ∷ seats) none quiet = absurd cc
none_free waiting gets ((h, Quiet) ∷ seats) none quiet =
    none_free waiting gets seats none (All-tail (StaysQuiet waiting gets) (h, Quiet) seats quiet)
    ∙ sym (ap (λ b. cond b (Some h) (find (is_free_by waiting gets) (items_of seats))) (All-head (StaysQuiet waiting gets) (h, Quiet) seats quiet))
none_free waiting gets ((h, Ripe) ∷ seats) none quiet =
    none_free waiting gets seats none (All-tail (StaysQuiet waiting gets) (h, Ripe) seats quiet)
    ∙ sym (ap (λ b. cond b (Some h) (find (is_free_by waiting gets) (items_of seats))) (All-head (StaysQuiet waiting gets) (h, Ripe) seats quiet))
