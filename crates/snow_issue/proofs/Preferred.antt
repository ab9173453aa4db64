-- The preference is on the board.
use Rattle.std.proofs.Common.{◌≡◌, ℕ, Bool, true, false, ◌||◌, ◌&&◌, cond, List, [], ◌∷◌, bytes_eq, Option, Some, None, refl, sym, ap, ◌∙◌}
use Rattle.std.specs.Option.{is_some, option_map}
use Rattle.std.proofs.lemmas.Bool.{or_left, or_right}
use Rattle.snow_flake.specs.Model.Rule.{Answer}
use Rattle.snow_board.specs.Model.Conflict.{Pending}
use Rattle.snow_board.specs.Model.Conflict.{Counters, leads_to}
use Rattle.snow_board.specs.Model.Board.{Board, block_of, is_pending}
use Rattle.snow_board.specs.Model.Preference.{path_from, end_of, preferred}
use Rattle.snow_board.proofs.Cases.{split_on}
use Rattle.snow_issue.specs.Model.Offering.{is_on}
use Rattle.snow_gets.proofs.Named.{is_named, named_is_some}

abbrev id_of : Pending → List ℕ
id_of q = q.block.id

or_skip : (a b c : Bool) → (a || c) ≡ true → (a || (b || c)) ≡ true
or_skip true b c h = refl
or_skip false true c h = refl
or_skip false false c h = h

-- a path ends where it begins, or at a block that was issued later
ends_within : (answer : Answer) (at : List ℕ) (counters : Counters) (qs : List Pending) (id : List ℕ)
    → bytes_eq (end_of at (path_from answer at counters qs)) id ≡ true → (bytes_eq at id || is_named id_of qs id) ≡ true
unfolding path_from
ends_within answer at counters [] id h = or_left (bytes_eq at id) false h
ends_within answer at counters (q ∷ later) id h =
    split_on (bytes_eq q.block.parent at && leads_to answer counters q.block.id)
    (λ t. or_right (bytes_eq at id) (is_named id_of (q ∷ later) id) (ends_within answer q.block.id q.counters later id (rw t at h)))
    (λ t. or_skip (bytes_eq at id) (bytes_eq q.block.id id) (is_named id_of later id) (ends_within answer at counters later id (rw t at h)))

-- a block has a height where it is the last accepted one or pending
either_on : (b : Bool) (height : ℕ) (o : Option Pending) → (b || is_some o) ≡ true → is_some (cond b (Some height) (option_map (λ q. q.block.height) o)) ≡ true
either_on true height o h = refl
either_on false height None h = h
either_on false height (Some q) h = refl

pub preference_on : (answer : Answer) (board : Board) (id : List ℕ) → bytes_eq (preferred answer board) id ≡ true → is_on board id ≡ true
preference_on answer board id h =
    either_on (bytes_eq board.last id) board.height (block_of board id)
    (ap (λ b. bytes_eq board.last id || b) (named_is_some id_of board.pending id) ∙ ends_within answer board.last board.counters board.pending id h)

-- and where it isn't the last accepted block, it is pending
pub preference_pending : (answer : Answer) (board : Board) (id : List ℕ) → bytes_eq (preferred answer board) id ≡ true → bytes_eq board.last id ≡ false → is_pending board id ≡ true
preference_pending answer board id h other =
    ap (λ b. b || is_pending board id) (sym other)
    ∙ ap (λ b. bytes_eq board.last id || b) (named_is_some id_of board.pending id) ∙ ends_within answer board.last board.counters board.pending id h
