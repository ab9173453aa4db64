-- What issuing a block and recording a poll leave of what a queue remembers of the board.
use Rattle.std.proofs.Common.{◌≡◌, ℕ, Bool, true, false, ◌||◌, ◌&&◌, cond, List, [], ◌∷◌, ◌++◌, map, length, get_or, filter, find, Some, None, refl, sym, ap, ◌∙◌}
use Rattle.std.specs.List.{list_any}
use Rattle.std.specs.Option.{is_some, option_map}
use Rattle.std.specs.Str.{bytes_eq}
use Rattle.std.proofs.lemmas.Bool.{both_ways, false_from_ne_true, or_parts, or_from}
use Rattle.std.proofs.lemmas.List.Folds.{list_any-append}
use Rattle.snow_base.specs.declared.block.Header.{Header}
use Rattle.snow_base.specs.declared.block.Vote.{Vote}
use Rattle.snow_board.specs.Model.Conflict.{Pending}
use Rattle.snow_board.specs.Model.Conflict.{Counters, decides}
use Rattle.snow_board.specs.Model.Board.{Board, issued, with_counters, with_issued, new_pending, blocks_of}
use Rattle.snow_board.specs.Model.Poll.{with_votes, counted, winner, promoted, poll}
use Rattle.snow_board.proofs.Invariant.{settled_keeps}
use Rattle.snow_board.proofs.Lookup.{found}
use Rattle.snow_issue.specs.declared.work.Waiting.{Waiting}
use Rattle.snow_gets.specs.declared.gets.Get.{Get}
use Rattle.snow_lineup.specs.declared.marks.Mark.{Mark}
use Rattle.snow_lineup.specs.declared.marks.Mark.TheVariants.{New, Quiet, Ripe}
use Rattle.snow_gets.specs.Model.Gets.{asked_in}
use Rattle.snow_issue.specs.Model.Lists.{waits_below}
use Rattle.snow_issue.specs.Model.Offering.{is_on}
use Rattle.snow_issue.specs.Kept.Known.{Seen, items_of, sight, Tells, Knows, ForgetsChildren, NoneRipe}
use Rattle.snow_lineup.specs.Kept.Marks.{is_mark, has}
use Rattle.snow_issue.proofs.Looked.{quiet_off}
use Rattle.snow_map.proofs.Lists.{id_turned}
use Rattle.snow_map.proofs.Booleans.{or_false, or_true, or_assoc}

-- ---- what is on a board

abbrev pends : List Pending → List ℕ → Bool
pends pending id = list_any (λ q. bytes_eq q.block.id id) pending

found_pends : (pending : List Pending) (id : List ℕ) → is_some (option_map (λ q. q.block.height) (find (λ q. bytes_eq q.block.id id) pending)) ≡ pends pending id
found_pends [] id = refl
found_pends (q ∷ pending) id =
    let found = find (λ q. bytes_eq q.block.id id) pending in
    let Goal : Bool → Type 0 = λ b. is_some (option_map (λ q. q.block.height) (cond b (Some q) found)) ≡ (b || pends pending id) in
    elim (bytes_eq q.block.id id) as Goal [ true ↦ refl | false ↦ found_pends pending id ]

-- what is on the board is the last accepted block, or pending
on_is : (board : Board) (id : List ℕ) → is_on board id ≡ (bytes_eq board.last id || pends board.pending id)
on_is board id =
    let found = option_map (λ q. q.block.height) (find (λ q. bytes_eq q.block.id id) board.pending) in
    let Goal : Bool → Type 0 = λ b. is_some (cond b (Some board.height) found) ≡ (b || pends board.pending id) in
    elim (bytes_eq board.last id) as Goal [ true ↦ refl | false ↦ found_pends board.pending id ]

pends_changed : (change : List ℕ → Counters → Counters) (pending : List Pending) (id : List ℕ) → pends (map (with_counters change) pending) id ≡ pends pending id
pends_changed change [] id = refl
pends_changed change (q ∷ pending) id = ap (λ b. bytes_eq q.block.id id || b) (pends_changed change pending id)

-- a block that is issued is on the board, beside what was there
pub on_issued : (board : Board) (child : Header) (id : List ℕ) → is_on (issued board child) id ≡ (is_on board id || bytes_eq child.id id)
on_issued board child id =
    on_is (issued board child) id
    ∙ ap (λ b. bytes_eq board.last id || b) (list_any-append (λ q. bytes_eq q.block.id id) (map (with_counters (with_issued child)) board.pending) (new_pending child ∷ [])
    ∙ ap (λ b. b || (bytes_eq child.id id || false)) (pends_changed (with_issued child) board.pending id)
    ∙ ap (λ b. pends board.pending id || b) (or_false (bytes_eq child.id id)))
    ∙ sym (or_assoc (bytes_eq board.last id) (pends board.pending id) (bytes_eq child.id id))
    ∙ ap (λ b. b || bytes_eq child.id id) (sym (on_is board id))

-- what isn't on the board isn't there after a poll either
abbrev IsOff : List ℕ → Board → Type 0
IsOff id board = is_on board id ≡ false

off_counted : (board : Board) (votes : List Vote) (id : List ℕ) → IsOff id board → IsOff id (counted board votes)
unfolding counted
off_counted board votes id off =
    on_is (counted board votes) id
    ∙ ap (λ b. bytes_eq board.last id || b) (pends_changed (with_votes board.parameters (blocks_of board.pending) votes) board.pending id)
    ∙ sym (on_is board id) ∙ off

fewer_pend : (test : Pending → Bool) (pending : List Pending) (id : List ℕ) → pends pending id ≡ false → pends (filter test pending) id ≡ false
fewer_pend test [] id h = refl
fewer_pend test (q ∷ pending) id h =
    let parts = or_parts (bytes_eq q.block.id id) (pends pending id) h in
    let rest = fewer_pend test pending id parts.1 in
    let Goal : Bool → Type 0 = λ b. pends (cond b (q ∷ filter test pending) (filter test pending)) id ≡ false in
    elim (test q) as Goal [ true ↦ ap (λ b. b || pends (filter test pending) id) parts.0 ∙ rest | false ↦ rest ]

pends_found : (front back : List Pending) (q : Pending) (id : List ℕ) → bytes_eq q.block.id id ≡ true → pends (front ++ q ∷ back) id ≡ true
pends_found [] back q id h = ap (λ b. b || pends back id) h
pends_found (p ∷ front) back q id h = ap (λ b. bytes_eq p.block.id id || b) (pends_found front back q id h) ∙ or_true (bytes_eq p.block.id id)

off_promoted : (board : Board) (child : Pending) (id : List ℕ) → IsOff id board → winner board ≡ Some child → IsOff id (promoted board child)
unfolding promoted winner
off_promoted board child id off won =
    let parts = or_parts (bytes_eq board.last id) (pends board.pending id) (sym (on_is board id) ∙ off) in
    let at = found (λ q. bytes_eq q.block.parent board.last && decides board.counters q.block.id) board.pending child won in
    let other : bytes_eq child.block.id id ≡ false = false_from_ne_true (bytes_eq child.block.id id) (λ t.
    both_ways (pends board.pending id) parts.1 (ap (λ l. pends l id) at.is ∙ pends_found at.front at.back child id t)) in
    on_is (promoted board child) id
    ∙ or_from (bytes_eq child.block.id id) (pends (promoted board child).pending id) other (fewer_pend _ board.pending id parts.1)

pub off_polled : (board : Board) (votes : List Vote) (id : List ℕ) → is_on board id ≡ false → is_on (poll board votes).0 id ≡ false
unfolding poll
off_polled board votes id off =
    settled_keeps (IsOff id) (λ b child h won. off_promoted b child id h won) (length board.pending) (counted board votes) (off_counted board votes id off)

-- ---- what is remembered

-- a look tells the same where the parent is on both boards or on none
sight_same : (waiting : List Waiting) (gets : List Get) (board other : Board) (block : Header) → is_on other block.parent ≡ is_on board block.parent
    → sight waiting gets other block ≡ sight waiting gets board block
sight_same waiting gets board other block same = ap (λ b. cond b (Some Ripe) (cond (asked_in gets block.parent || waits_below waiting block) (Some Quiet) None)) same

tells_by : (waiting : List Waiting) (gets : List Get) (board other : Board) (w : Waiting) (mark : Mark) → (has New (w, mark) ≡ false → sight waiting gets other w.header ≡ sight waiting gets board w.header)
    → Tells waiting gets board (w, mark) → Tells waiting gets other (w, mark)
tells_by waiting gets board other w New same h = tt
tells_by waiting gets board other w Quiet same h = same refl ∙ h
tells_by waiting gets board other w Ripe same h = same refl ∙ h

-- a block may be issued where nothing is remembered of its children: what is remembered is then true of the new board
pub tells_issued : (s : Seen) (board : Board) (child : Header) → Knows s board → ForgetsChildren child.id s.seats → Knows s (issued board child)
tells_issued s board child knows forgets k d within =
    let seat = get_or s.seats k d in
    let parent = seat.0.header.parent in
    tells_by (items_of s.seats) s.gets board (issued board child) seat.0 seat.1
    (λ old.
    let other : bytes_eq child.id parent ≡ false = false_from_ne_true (bytes_eq child.id parent) (λ t.
    let new = forgets k d within (id_turned parent child.id ∙ t) in
    both_ways (has New seat) old (ap (λ m. is_mark New m) new)) in
    sight_same (items_of s.seats) s.gets board (issued board child) seat.0.header
    (on_issued board child parent ∙ ap (λ b. is_on board parent || b) other ∙ or_false (is_on board parent)))
    (knows k d within)

polled_by : (waiting : List Waiting) (gets : List Get) (board : Board) (votes : List Vote) (w : Waiting) (mark : Mark) → has Ripe (w, mark) ≡ false
    → Tells waiting gets board (w, mark) → Tells waiting gets (poll board votes).0 (w, mark)
polled_by waiting gets board votes w New other h = tt
polled_by waiting gets board votes w Quiet other h =
    let parent = w.header.parent in
    let off = quiet_off (is_on board parent) (asked_in gets parent || waits_below waiting w.header) h in
    sight_same waiting gets board (poll board votes).0 w.header (off_polled board votes parent off ∙ sym off) ∙ h
polled_by waiting gets board votes w Ripe other h = absurd cc

-- a poll may be recorded where no block is remembered to be ready: what is remembered is then true of the new board
pub tells_polled : (s : Seen) (board : Board) (votes : List Vote) → Knows s board → NoneRipe s.seats → Knows s (poll board votes).0
tells_polled s board votes knows none k d within =
    let seat = get_or s.seats k d in polled_by (items_of s.seats) s.gets board votes seat.0 seat.1 (none k d within) (knows k d within)
