-- Worked examples: the definitions compute.
use Rattle.std.proofs.Common.{◌≡◌, ℕ, true, false, List, [], ◌∷◌, replicate, Option, Some, None, refl}
use Rattle.snow_base.specs.declared.block.Header.{Header}
use Rattle.snow_flake.specs.Model.Parameters.{Parameters}
use Rattle.snow_board.specs.Model.Board.{Board, begin, issued}
use Rattle.snow_issue.specs.declared.work.Waiting.{Waiting}
use Rattle.snow_gets.specs.declared.gets.Get.{Get}
use Rattle.snow_held.specs.declared.held.Held.{Held}
use Rattle.snow_issue.specs.declared.work.Offered.TheVariants as offer
use Rattle.snow_issue.specs.declared.work.Work.TheVariants as work
use Rattle.snow_issue.specs.declared.gone.Gone.{Gone}
use Rattle.snow_gets.specs.Model.Gets.{with_get}
use Rattle.snow_issue.specs.Model.Lists.{Lists, begun, with_waiting, after_asked, after_closed, after_held, after_forgotten, after_gone}
use Rattle.snow_issue.specs.Model.Offering.{offered, wanted}
use Rattle.snow_issue.specs.Model.Settling.{work_of, after}
use Rattle.snow_issue.specs.Model.Bubbling.{bubbled, bubbled_in}

-- an identifier by its first byte
abbrev id_of : ℕ → List ℕ
id_of first = first ∷ replicate 31 0

abbrev one_vote : Parameters
one_vote = record { k = 1; alpha_preference = 1; alpha_confidence = 1; beta = 1; repolls = 1 }

-- a board above the block 0 at height 0
abbrev board : Board
board = begin one_vote (id_of 0) 0

abbrev header : ℕ → ℕ → ℕ → Header
header id parent height = record { id = id_of id; parent = id_of parent; height = height }

-- a block of the node 7
abbrev block : ℕ → ℕ → ℕ → Waiting
block id parent height = record { node = 7 ∷ []; header = header id parent height; bytes = [] }

abbrev get : ℕ → ℕ → Get
get number id = record { number = number; node = 7 ∷ []; id = id_of id }

abbrev reply : ℕ → ℕ → Held
reply number id = record { number = number; node = 7 ∷ []; id = id_of id }

abbrev went : ℕ → Option (List ℕ) → Gone
went id parent = record { id = id_of id; parent = parent }

-- the queue at its beginning, and with block 5 waiting on block 4, which is asked for
abbrev first : Lists
first = begun (id_of 0)

abbrev waiting_5 : Lists
waiting_5 = after_asked (with_waiting first (block 5 4 2)) (get 1 4)

-- ---- offering

pub the_last_block_is_known : offered first board (block 0 9 0) ≡ offer.Known
the_last_block_is_known = refl

pub a_waiting_block_is_known : offered waiting_5 board (block 5 4 2) ≡ offer.Known
a_waiting_block_is_known = refl

pub a_late_ancestor_is_asked_for : offered first board (block 5 4 2) ≡ offer.Waits (Some (id_of 4))
a_late_ancestor_is_asked_for = refl

pub a_child_of_the_board_asks_nothing : offered first board (block 1 0 1) ≡ offer.Waits None
a_child_of_the_board_asks_nothing = refl

pub a_parent_right_above_the_last_height_is_not_asked_for : offered first board (block 5 4 1) ≡ offer.Waits None
a_parent_right_above_the_last_height_is_not_asked_for = refl

pub a_parent_that_is_asked_for_is_not_asked_again : offered waiting_5 board (block 6 4 2) ≡ offer.Waits None
a_parent_that_is_asked_for_is_not_asked_again = refl

pub a_waiting_parent_is_not_asked_for : offered waiting_5 board (block 6 5 3) ≡ offer.Waits None
a_waiting_parent_is_not_asked_for = refl

pub its_own_parent_is_not_asked_for : offered first board (block 5 5 2) ≡ offer.Waits None
its_own_parent_is_not_asked_for = refl

pub an_invalid_block_comes_again : offered (after_gone first (went 5 (Some (id_of 4)))) board (block 5 4 2) ≡ offer.Invalid
an_invalid_block_comes_again = refl

pub a_decided_block_comes_again : offered (after_gone (after_gone first (went 5 (Some (id_of 4)))) (went 5 None)) board (block 5 4 2) ≡ offer.Old
a_decided_block_comes_again = refl

pub a_low_block_is_old : offered first board (block 5 4 0) ≡ offer.Old
a_low_block_is_old = refl

pub a_gone_parent_is_not_asked_for : offered (after_gone first (went 4 None)) board (block 5 4 2) ≡ offer.Waits None
a_gone_parent_is_not_asked_for = refl

pub an_unknown_block_is_wanted : wanted waiting_5 board (id_of 6) ≡ true
an_unknown_block_is_wanted = refl

pub a_block_that_is_asked_for_is_not_wanted : wanted waiting_5 board (id_of 4) ≡ false
a_block_that_is_asked_for_is_not_wanted = refl

-- ---- settling

pub a_late_ancestor_is_waited_for : work_of waiting_5 board ≡ None
a_late_ancestor_is_waited_for = refl

-- the get of block 4 times out: blocks 5 and 6 are hopeless, one after another
abbrev timed_out : Lists
timed_out = after_closed (with_waiting waiting_5 (block 6 5 3)) 1 (7 ∷ [])

pub the_child_is_hopeless_first : work_of timed_out board ≡ Some (work.Hopeless (block 5 4 2))
the_child_is_hopeless_first = refl

pub then_its_own_child : work_of (after timed_out board (Some (work.Hopeless (block 5 4 2)))) board ≡ Some (work.Hopeless (block 6 5 3))
then_its_own_child = refl

pub and_then_nothing_waits : after (after timed_out board (Some (work.Hopeless (block 5 4 2)))) board (Some (work.Hopeless (block 6 5 3))) ≡ first
and_then_nothing_waits = refl

pub a_parent_at_a_wrong_height_is_no_hope : work_of (with_waiting waiting_5 (block 6 5 4)) board ≡ Some (work.Hopeless (block 6 5 4))
a_parent_at_a_wrong_height_is_no_hope = refl

pub its_own_parent_is_no_hope : work_of (with_waiting first (block 5 5 2)) board ≡ Some (work.Hopeless (block 5 5 2))
its_own_parent_is_no_hope = refl

-- block 4 comes by itself: its get stays open, and it is ready
abbrev came : Lists
came = with_waiting waiting_5 (block 4 0 1)

pub a_block_that_came_is_ready : work_of came board ≡ Some (work.Ready (block 4 0 1))
a_block_that_came_is_ready = refl

pub the_other_waits_for_it : after came board (Some (work.Ready (block 4 0 1))) ≡ waiting_5
the_other_waits_for_it = refl

-- block 4 is issued
abbrev with_4 : Board
with_4 = issued board (header 4 0 1)

pub its_child_is_ready : work_of waiting_5 with_4 ≡ Some (work.Ready (block 5 4 2))
its_child_is_ready = refl

pub hopeless_comes_before_ready : work_of (with_waiting came (block 8 9 3)) board ≡ Some (work.Hopeless (block 8 9 3))
hopeless_comes_before_ready = refl

pub a_child_follows_an_invalid_parent : (after (with_waiting (after_gone first (went 4 (Some (id_of 0)))) (block 5 4 2)) board (Some (work.Hopeless (block 5 4 2)))).gone
    ≡ went 0 None ∷ went 4 (Some (id_of 0)) ∷ went 5 (Some (id_of 4)) ∷ []
a_child_follows_an_invalid_parent = refl

pub a_child_of_a_decided_parent_leaves_no_entry : (after (with_waiting (after_gone first (went 4 None)) (block 5 4 2)) board (Some (work.Hopeless (block 5 4 2)))).gone
    ≡ went 0 None ∷ went 4 None ∷ []
a_child_of_a_decided_parent_leaves_no_entry = refl

-- ---- held replies

pub a_reply_is_held_while_its_block_is_asked_for : work_of (after_held waiting_5 (reply 3 4)) board ≡ None
a_reply_is_held_while_its_block_is_asked_for = refl

pub a_reply_is_held_while_its_block_waits : work_of (after_held waiting_5 (reply 3 5)) board ≡ None
a_reply_is_held_while_its_block_waits = refl

pub a_reply_waits_for_the_get_though_its_block_is_on_the_board : work_of (after_held (after_asked first (get 1 4)) (reply 3 4)) with_4 ≡ None
a_reply_waits_for_the_get_though_its_block_is_on_the_board = refl

pub a_free_reply_votes : work_of (after_held (after_held first (reply 3 0)) (reply 4 0)) board ≡ Some (work.Vote (reply 3 0))
a_free_reply_votes = refl

pub ready_comes_before_a_vote : work_of (after_held came (reply 3 0)) board ≡ Some (work.Ready (block 4 0 1))
ready_comes_before_a_vote = refl

pub a_poll_takes_its_replies : (after_forgotten (after_held (after_held waiting_5 (reply 3 4)) (reply 4 4)) 3).held ≡ reply 4 4 ∷ []
a_poll_takes_its_replies = refl

-- ---- bubbling

pub a_pending_block_is_itself : bubbled first with_4 (id_of 4) ≡ Some (id_of 4)
unfolding bubbled_in
a_pending_block_is_itself = refl

pub the_last_block_gives_no_vote : bubbled first with_4 (id_of 0) ≡ None
unfolding bubbled_in
the_last_block_gives_no_vote = refl

pub an_unknown_block_gives_no_vote : bubbled first with_4 (id_of 6) ≡ None
unfolding bubbled_in
an_unknown_block_gives_no_vote = refl

pub a_vote_bubbles_twice : bubbled (after_gone (after_gone first (went 5 (Some (id_of 4)))) (went 6 (Some (id_of 5)))) with_4 (id_of 6) ≡ Some (id_of 4)
unfolding bubbled_in
a_vote_bubbles_twice = refl

pub the_latest_entry_counts : bubbled (after_gone (after_gone first (went 5 (Some (id_of 4)))) (went 5 None)) with_4 (id_of 5) ≡ None
unfolding bubbled_in
the_latest_entry_counts = refl

-- blocks 5 and 6 follow each other in a circle
pub a_circle_gives_no_vote : bubbled_in 20 (after_gone (after_gone first (went 5 (Some (id_of 6)))) (went 6 (Some (id_of 5)))).gone with_4 (id_of 5) ≡ None
unfolding bubbled_in
a_circle_gives_no_vote = refl

-- ---- gets

pub gets_stand_in_order_of_number : with_get (with_get (with_get [] (get 4 1)) (get 2 2)) (get 3 3) ≡ get 2 2 ∷ get 3 3 ∷ get 4 1 ∷ []
gets_stand_in_order_of_number = refl

pub another_node_closes_nothing : after_closed waiting_5 1 (8 ∷ []) ≡ waiting_5
another_node_closes_nothing = refl
