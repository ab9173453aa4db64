-- Lemmas on a queue as a whole: what it keeps through each call.
use Rattle.std.proofs.Common.{◌≡◌, ℕ, ◌<◌, ◌≤◌, ◌+◌, ltb, Bool, true, false, cond, List, [], ◌∷◌, ◌++◌, map, take, drop, suc, length, get_or, find, All, Option, Some, None, refl, sym, ap, ◌∙◌, subst, arith, ⊎_elim}
use Rattle.std.specs.List.{remove, position_or_len}
use Rattle.std.specs.Option.{option_map}
use Rattle.std.proofs.lemmas.List.{length-map, length-take, length-drop, length-append}
use Rattle.std.proofs.lemmas.List.Edits.{length-remove}
use Rattle.snow_board.specs.Model.Board.{Board}
use Rattle.snow_issue.specs.declared.work.Waiting.{Waiting}
use Rattle.snow_gets.specs.declared.gets.Get.{Get}
use Rattle.snow_held.specs.declared.held.Held.{Held}
use Rattle.snow_issue.specs.declared.gone.Gone.{Gone}
use Rattle.snow_lineup.specs.declared.marks.Mark.{Mark}
use Rattle.snow_gets.specs.Model.Gets.{with_get, is_get, without, asked_in}
use Rattle.snow_issue.specs.Model.Lists.{Lists, AreWithinLimits}
use Rattle.snow_issue.specs.Kept.Known.{Seen, items_of, lists_of, Tells, Knows}
use Rattle.snow_lineup.specs.Kept.Index.{woken, forgotten}
use Rattle.snow_issue.specs.Kept.Keeping.{IsKept, StaysQuiet}
use Rattle.snow_issue.proofs.Taken.{items_woken, items_forgotten, items_removed, item_is, quiet_left, quiet_stay, quiet_closed, quiet_asked}

-- ---- lengths

length_with : (gets : List Get) (get : Get) → length (with_get gets get) ≡ length gets + 1
length_with [] get = refl
length_with (g ∷ gets) get =
    let rest = length_with gets get in
    let Goal : Bool → Type 0 = λ b. length (cond b (get ∷ g ∷ gets) (g ∷ with_get gets get)) ≡ length (g ∷ gets) + 1 in
    elim (ltb get.number g.number) as Goal [ true ↦ omega arith | false ↦ omega (arith, rest) ]

length_without : {T : Type 0} (test : T → Bool) (xs : List T) → length (without test xs) ≤ length xs
length_without test xs =
    let at = position_or_len test xs in
    let e = length-append (take at xs) (drop (suc at) xs) in
    let t = length-take at xs in
    let d = length-drop (suc at) xs in
    omega (arith, e, t, d)

-- the four lists of these parts
abbrev pub seen : List (Waiting × Mark) → List Get → List (Held × Mark) → List Gone → Seen
seen seats gets replies gone = record { seats = seats; gets = gets; held = items_of replies; gone = gone }

pub limits : (seats : List (Waiting × Mark)) (gets : List Get) (replies : List (Held × Mark)) (gone : List Gone) → IsKept seats gets replies gone
    → AreWithinLimits (lists_of (seen seats gets replies gone))
limits seats gets replies gone kept = record {
  few_waiting = omega (arith, length-map seats (λ (s : Waiting × Mark). s.0), kept.few_waiting);
  few_gets = kept.few_gets;
  few_gone = kept.few_gone;
}

-- ---- what is kept

pub kept_asked : (seats : List (Waiting × Mark)) (gets : List Get) (replies : List (Held × Mark)) (gone : List Gone) (get : Get) → IsKept seats gets replies gone
    → length gets < 4096 → IsKept seats (with_get gets get) replies gone
kept_asked seats gets replies gone get kept few = record {
  quiet = quiet_asked (items_of seats) gets get replies kept.quiet;
  few_waiting = kept.few_waiting;
  few_gets = omega (arith, length_with gets get, few);
  few_gone = kept.few_gone;
}

pub kept_closed : (seats : List (Waiting × Mark)) (gets : List Get) (replies : List (Held × Mark)) (gone : List Gone) (number : ℕ) (node : List ℕ) (get : Get)
    → find (is_get number node) gets ≡ Some get → IsKept seats gets replies gone
    → IsKept (map (woken (λ w. w.header.parent) get.id) seats) (without (is_get number node) gets) (map (woken (λ h. h.id) get.id) replies) gone
kept_closed seats gets replies gone number node get found kept = record {
  quiet = subst (λ (l : List Waiting). All (StaysQuiet l (without (is_get number node) gets)) (map (woken (λ h. h.id) get.id) replies)) (sym (items_woken (λ w. w.header.parent) get.id seats))
      (quiet_closed (items_of seats) gets number node get replies found kept.quiet);
  few_waiting = omega (arith, length-map seats (woken (λ w. w.header.parent) get.id), kept.few_waiting);
  few_gets = omega (arith, length_without (is_get number node) gets, kept.few_gets);
  few_gone = kept.few_gone;
}

pub kept_left : (seats : List (Waiting × Mark)) (gets : List Get) (replies : List (Held × Mark)) (gone : List Gone) (at : ℕ) (w : Waiting) → at < length seats
    → ((d : Waiting × Mark) → w ≡ (get_or seats at d).0) → IsKept seats gets replies gone
    → IsKept (map (woken (λ w. w.header.parent) w.header.id) (remove seats at)) gets (map (woken (λ h. h.id) w.header.id) replies) gone
kept_left seats gets replies gone at w there is kept =
    let items = items_of seats in
    let same = items_woken (λ (w : Waiting). w.header.parent) w.header.id (remove seats at) ∙ items_removed seats at in
    record {
      quiet = subst (λ (l : List Waiting). All (StaysQuiet l gets) (map (woken (λ h. h.id) w.header.id) replies)) (sym same)
          (quiet_left gets items at w replies (omega (arith, there, length-map seats (λ (s : Waiting × Mark). s.0))) (item_is seats at w there is) kept.quiet);
      few_waiting = omega (arith, length-map (remove seats at) (woken (λ w. w.header.parent) w.header.id), length-remove seats at there, kept.few_waiting);
      few_gets = kept.few_gets;
      few_gone = kept.few_gone;
    }

-- the same where the block is still asked for, so that nobody is woken
pub kept_stay : (seats : List (Waiting × Mark)) (gets : List Get) (replies : List (Held × Mark)) (gone : List Gone) (at : ℕ) (w : Waiting) → at < length seats
    → ((d : Waiting × Mark) → w ≡ (get_or seats at d).0) → asked_in gets w.header.id ≡ true → IsKept seats gets replies gone
    → IsKept (remove seats at) gets replies gone
kept_stay seats gets replies gone at w there is asked kept = record {
  quiet = subst (λ (l : List Waiting). All (StaysQuiet l gets) replies) (sym (items_removed seats at))
      (quiet_stay gets (items_of seats) at w replies (omega (arith, there, length-map seats (λ (s : Waiting × Mark). s.0))) (item_is seats at w there is) asked kept.quiet);
  few_waiting = omega (arith, length-remove seats at there, kept.few_waiting);
  few_gets = kept.few_gets;
  few_gone = kept.few_gone;
}

pub kept_forgotten : (seats : List (Waiting × Mark)) (gets : List Get) (replies : List (Held × Mark)) (gone : List Gone) → IsKept seats gets replies gone
    → IsKept (map forgotten seats) gets replies gone
kept_forgotten seats gets replies gone kept = record {
  quiet = subst (λ (l : List Waiting). All (StaysQuiet l gets) replies) (sym (items_forgotten seats)) kept.quiet;
  few_waiting = omega (arith, length-map seats forgotten, kept.few_waiting);
  few_gets = kept.few_gets;
  few_gone = kept.few_gone;
}

-- the same, with other replies
pub kept_replies : (seats : List (Waiting × Mark)) (gets : List Get) (replies others : List (Held × Mark)) (gone : List Gone) → IsKept seats gets replies gone
    → All (StaysQuiet (items_of seats) gets) others → IsKept seats gets others gone
kept_replies seats gets replies others gone kept quiet = record {
  quiet = quiet;
  few_waiting = kept.few_waiting;
  few_gets = kept.few_gets;
  few_gone = kept.few_gone;
}

-- the same, with the same blocks
pub kept_seats : (seats others : List (Waiting × Mark)) (gets : List Get) (replies : List (Held × Mark)) (gone : List Gone) → IsKept seats gets replies gone
    → items_of others ≡ items_of seats → IsKept others gets replies gone
kept_seats seats others gets replies gone kept same = record {
  quiet = subst (λ (l : List Waiting). All (StaysQuiet l gets) replies) (sym same) kept.quiet;
  few_waiting = omega (arith, length-map seats (λ (s : Waiting × Mark). s.0), length-map others (λ (s : Waiting × Mark). s.0), ap (λ l. length l) same, kept.few_waiting);
  few_gets = kept.few_gets;
  few_gone = kept.few_gone;
}

-- ---- lists and what is known, by their parts

pub lists_by : (s : Seen) (waiting : List Waiting) (gets : List Get) (held : List Held) (gone : List Gone) → items_of s.seats ≡ waiting → s.gets ≡ gets → s.held ≡ held → s.gone ≡ gone
    → lists_of s ≡ record { waiting = waiting; gets = gets; held = held; gone = gone }
lists_by s waiting gets held gone w g h o =
    let with : List Waiting → List Get → List Held → List Gone → Lists = λ w g h o. record { waiting = w; gets = g; held = h; gone = o } in
    ap (λ x. with x s.gets s.held s.gone) w ∙ ap (λ x. with waiting x s.held s.gone) g ∙ ap (λ x. with waiting gets x s.gone) h ∙ ap (λ x. with waiting gets held x) o

pub knows_from : (s : Seen) (board : Board) (seats : List (Waiting × Mark)) (gets : List Get) → s.seats ≡ seats → s.gets ≡ gets → All (Tells (items_of seats) gets board) seats → Knows s board
knows_from s board seats gets w g tells = rw (w, g) tells

-- the items after one was taken out and others woken
pub items_left : {T : Type 0} (key : T → List ℕ) (id : List ℕ) (seats others : List (T × Mark)) (at : ℕ) → items_of others ≡ items_of seats
    → items_of (map (woken key id) (remove others at)) ≡ remove (items_of seats) at
items_left key id seats others at same = items_woken key id (remove others at) ∙ items_removed others at ∙ ap (λ l. remove l at) same

-- ---- a get that is closed, by what the call answers

pub closed_get : (o : Option Get) (id : List ℕ) → Some id ≡ option_map (λ g. g.id) o → (get : Get) × (o ≡ Some get) × (get.id ≡ id)
closed_get None id h = absurd cc
closed_get (Some get) id h = (get, refl, cc)

pub no_get : (o : Option Get) → None ≡ option_map (λ g. g.id) o → o ≡ None
no_get None h = refl
no_get (Some get) h = absurd cc

-- ---- what is remembered, read by the fields

pub knows_by : (s : Seen) (board : Board) (seats : List (Waiting × Mark)) (gets : List Get) → s.seats ≡ seats → s.gets ≡ gets → Knows s board → All (Tells (items_of seats) gets board) seats
knows_by s board seats gets w g knows = rw (← w, ← g) knows
