-- Where each waiting block was looked at and none is ripe, a step is a vote.
use Rattle.std.proofs.Common.{◌≡◌, ◌<◌, Bool, false, cond, List, [], ◌∷◌, length, get_or, find, All, Some, None, refl, sym, ap, ◌∙◌, arith}
use Rattle.std.specs.Option.{option_map, option_or}
use Rattle.std.proofs.lemmas.List.{length-map}
use Rattle.std.proofs.lemmas.List.Elements.{All-head, All-tail}
use Rattle.snow_board.specs.Model.Board.{Board}
use Rattle.snow_issue.specs.declared.work.Waiting.{Waiting}
use Rattle.snow_issue.specs.declared.work.Work.TheVariants as work
use Rattle.snow_lineup.specs.declared.marks.Mark.{Mark}
use Rattle.snow_lineup.specs.declared.marks.Mark.TheVariants.{New}
use Rattle.snow_issue.specs.Model.Settling.{work_of, is_hopeless, is_ready, is_free}
use Rattle.snow_issue.specs.Kept.Known.{Seen, Knows, NoneNew, NoneRipe, lists_of, items_of}
use Rattle.snow_issue.proofs.Looked.{items_at, known_not_hopeless, ready_is_ripe}

-- where all fail, none is found
pub find_fails : {T : Type 0} (p : T → Bool) (xs : List T) → All (λ x. p x ≡ false) xs → None ≡ find p xs
find_fails p [] fails = refl
find_fails {T} p (x ∷ xs) fails =
    find_fails p xs (All-tail (λ (y : T). p y ≡ false) x xs fails)
    ∙ sym (ap (λ b. cond b (Some x) (find p xs)) (All-head (λ (y : T). p y ≡ false) x xs fails))

hopeless_fails : (s : Seen) (board : Board) → Knows s board → NoneNew s.seats → All (λ w. is_hopeless (lists_of s) board w ≡ false) (items_of s.seats)
hopeless_fails s board knows new k d within =
    let e : Waiting × Mark = (d, New) in
    let h : k < length s.seats = omega (arith, within, length-map s.seats (λ (t : Waiting × Mark). t.0)) in
    ap (is_hopeless (lists_of s) board) (items_at s.seats k e h)
    ∙ known_not_hopeless (items_of s.seats) s.gets board s.seats knows k e h (new k e h)

ready_fails : (s : Seen) (board : Board) → Knows s board → NoneNew s.seats → NoneRipe s.seats → All (λ w. is_ready board w ≡ false) (items_of s.seats)
ready_fails s board knows new ripe k d within =
    let e : Waiting × Mark = (d, New) in
    let h : k < length s.seats = omega (arith, within, length-map s.seats (λ (t : Waiting × Mark). t.0)) in
    ap (is_ready board) (items_at s.seats k e h)
    ∙ ready_is_ripe (items_of s.seats) s.gets board (get_or s.seats k e).0 (get_or s.seats k e).1 (knows k e h) (new k e h)
    ∙ ripe k e h

pub resting : (s : Seen) (board : Board) → Knows s board → NoneNew s.seats → NoneRipe s.seats
    → option_map work.Vote (find (is_free (lists_of s)) s.held) ≡ work_of (lists_of s) board
resting s board knows new ripe =
    let vote = option_map work.Vote (find (is_free (lists_of s)) s.held) in
    let items = items_of s.seats in
    ap (λ o. option_or (option_map work.Ready o) vote) (find_fails (is_ready board) items (ready_fails s board knows new ripe))
    ∙ ap (λ o. option_or (option_map work.Hopeless o) (option_or (option_map work.Ready (find (is_ready board) items)) vote))
    (find_fails (is_hopeless (lists_of s) board) items (hopeless_fails s board knows new))
