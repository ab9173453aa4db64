-- Lemmas on where the counters of a board stand: where children were issued, and only there.
use Rattle.std.proofs.Common.{◌≡◌, ℕ, suc, Bool, true, false, not, ◌||◌, ◌&&◌, List, [], ◌∷◌, ◌++◌, length, get_or, take, drop, reverse, filter, bytes_eq, All, Option, Some, None, is_some, option_map, nat_lt, if◌then◌else◌, refl, sym, ap, ◌∙◌, subst}
use mathlib.Core.List.{reverse-cons}
use Rattle.std.specs.Bool.{beq}
use Rattle.std.specs.List.{list_any, starts_with}
use Rattle.std.proofs.lemmas.List.Elements.{All-head, All-tail}
use Rattle.std.proofs.lemmas.List.Folds.{list_any-append}
use Rattle.std.proofs.lemmas.Bool.{or_parts, or_left, or_right, and_parts, and_left, and_right}
use Rattle.snow_base.specs.declared.block.Header.{Header}
use Rattle.snow_base.specs.declared.block.Vote.{Vote}
use Rattle.snow_base.specs.Model.Identifier.{bits}
use Rattle.snow_base.specs.Model.Ancestry.{line_in, votes_below}
use Rattle.snow_base.proofs.Bits.{length-bits}
use Rattle.snow_flake.specs.Model.Parameters.{Parameters}
use Rattle.snow_flake.specs.Model.Counter.{Counter, stepped}
use Rattle.snow_board.specs.Model.Conflict.{Pending}
use Rattle.snow_board.specs.Model.Conflict.{Counters, Blank, counter_at, with_child, all_polled}
use Rattle.snow_board.specs.Model.Board.{Board, begin, blocks_of, counters_on, counter_on, with_issued, issued}
use Rattle.snow_board.specs.Model.Poll.{counted, winner, promoted}
use Rattle.snow_board.specs.Laws.Reached.{MayIssue, Reached}
use Rattle.snow_board.specs.Kept.Grown.{has_block, is_on, IsGrown}
use Rattle.snow_board.specs.Laws.Excluded.{is_excluded}
use Rattle.snow_board.specs.Laws.PointwiseLaw.{stepped_at, fresh_at}
use Rattle.snow_board.specs.Laws.StandingLaw.{has_child_from}
use Rattle.snow_board.proofs.Cases.{split_on, clash, same_id, id_itself, differs_back}
use Rattle.snow_board.proofs.Grown.{not_last, has_child, childless, reversed_at}
use Rattle.snow_board.proofs.Kept.{is_under, under_has}
use Rattle.snow_board.proofs.Invariant.{IsSound, IsKeptOver, sound_kept, both_kept, reached_keeps, blocks_counted, blocks_issued, issued_parent, on-reverse}
use Rattle.snow_board.proofs.Lookup.{IsWinner, won, none_on, stays, on_promoted, counters_issued, counters_counted, counters_promoted}
use Rattle.snow_board.proofs.Lines.{line_of, same_block}
use Rattle.snow_board.proofs.Pointwise.{polled_each, grown_each}
use Rattle.snow_board.proofs.Excluding.{excluded_polled, excluded_stays, excluded_grown, fresh_front}

-- counters stand where children of the block were issued, and only there
abbrev pub StandIn : List Header → List ℕ → Counters → Type 0
StandIn blocks id counters = (place : List Bool) → is_some (counter_at counters place)
    ≡ (nat_lt (length place) 256 && has_child_from blocks id place && not (is_excluded (counter_at counters) place))

-- and so for each block of a board
abbrev pub HasStanding : Board → Type 0
HasStanding board = (id : List ℕ) → StandIn (blocks_of board.pending) id (counters_on board id)

-- ---- an issue

-- one bit list of the parent
issue_case : (o f : Option Counter) (short child begins excluded : Bool) → is_some o ≡ (short && child && not excluded) → is_some f ≡ (short && begins)
    → is_some (if is_some o || excluded then o else f) ≡ (short && (child || (begins || false)) && not excluded)
issue_case None f false child begins true h k = refl
issue_case None f false child begins false h k = k
issue_case (Some c) f false child begins excluded h k = cc
issue_case None f true true begins true h k = refl
issue_case None f true true begins false h k = cc
issue_case None f true false true true h k = refl
issue_case None f true false false true h k = refl
issue_case None f true false true false h k = k
issue_case None f true false false false h k = k
issue_case (Some c) f true true begins true h k = cc
issue_case (Some c) f true true begins false h k = refl
issue_case (Some c) f true false begins excluded h k = cc

-- the parent's counters
parent_stands : (blocks : List Header) (child : Header) (counters : Counters) → StandIn blocks child.parent counters
    → StandIn (blocks ++ child ∷ []) child.parent (with_child (bits child.id) counters)
parent_stands blocks child counters h place =
    let before = counter_at counters place in
    let excluded = is_excluded (counter_at counters) place in
    let short = nat_lt (length place) 256 in
    let begins = starts_with beq (bits child.id) place in
    let fresh = fresh_front (bits child.id) place ∙ ap (λ n. nat_lt (length place) n && begins) (length-bits child.id) in
    let own : has_child_from (child ∷ []) child.parent place ≡ (begins || false) = rw (id_itself child.parent) refl in
    ap is_some (grown_each (bits child.id) counters place)
    ∙ issue_case before (fresh_at (bits child.id) place) short (has_child_from blocks child.parent place) begins excluded (h place) fresh
    ∙ ap (λ t. short && (has_child_from blocks child.parent place || t) && not excluded) (sym own)
    ∙ ap (λ t. short && t && not excluded) (sym (list_any-append (λ b. bytes_eq b.parent child.parent && starts_with beq (bits b.id) place) blocks (child ∷ [])))
    ∙ ap (λ t. short && has_child_from (blocks ++ child ∷ []) child.parent place && not t) (sym (excluded_grown (bits child.id) counters place))

-- those of any other block
other_stands : (blocks : List Header) (child : Header) (id : List ℕ) (counters : Counters) → bytes_eq child.parent id ≡ false → StandIn blocks id counters
    → StandIn (blocks ++ child ∷ []) id counters
other_stands blocks child id counters other h place =
    let none : has_child_from (child ∷ []) id place ≡ false = rw other refl in
    h place
    ∙ ap (λ t. nat_lt (length place) 256 && t && not (is_excluded (counter_at counters) place))
    (sym (list_any-append (λ b. bytes_eq b.parent id && starts_with beq (bits b.id) place) blocks (child ∷ [])
    ∙ ap (λ t. has_child_from blocks id place || t) none ∙ or_none (has_child_from blocks id place)))
  where
    or_none : (x : Bool) → (x || false) ≡ x
    or_none true = refl
    or_none false = refl

-- those of each block
stands_issued : (blocks : List Header) (child : Header) (id : List ℕ) (counters : Counters) → StandIn blocks id counters
    → StandIn (blocks ++ child ∷ []) id (with_issued child id counters)
stands_issued blocks child id counters h =
    split_on (bytes_eq id child.parent)
    (λ t. let same : id ≡ child.parent = same_id id child.parent t in
    rw t (subst (λ i. StandIn (blocks ++ child ∷ []) i (with_child (bits child.id) counters)) (sym same)
    (parent_stands blocks child counters (subst (λ i. StandIn blocks i counters) same h))))
    (λ t. rw t (other_stands blocks child id counters (differs_back child.parent id t) h))

-- an issue keeps it
standing_issued : (board : Board) (child : Header) → IsSound board → HasStanding board → MayIssue board child → HasStanding (issued board child)
standing_issued board child sound h may id =
    subst (λ l. StandIn l id (counters_on (issued board child) id)) (sym (blocks_issued board child))
    (subst (StandIn (blocks_of board.pending ++ child ∷ []) id) (sym (counters_issued board child id (issued_parent board child sound may)))
    (stands_issued (blocks_of board.pending) child id (counters_on board id) (h id)))

-- ---- a poll

-- one bit list
count_case : (before after : Option Counter) (short child excluded goes : Bool) → is_some after ≡ is_some before → is_some before ≡ (short && child && not excluded)
    → (excluded ≡ true → goes ≡ true) → is_some (if goes then None else after) ≡ (short && child && not goes)
count_case before after short child excluded true same h k = sym (and_right (short && child) false refl)
count_case before after short child true false same h k = let c = k refl in cc
count_case before after short child false false same h k = same ∙ h

-- a counter stands after its bit step where it stood
step_stands : (p : Parameters) (votes : List Bool → ℕ) (counters : Counters) (place : List Bool) → is_some (stepped_at p votes counters place) ≡ is_some (counter_at counters place)
step_stands p votes counters place = mapped (λ c. stepped p c (votes (place ++ false ∷ [])) (votes (place ++ true ∷ []))) (counter_at counters place)
  where
    mapped : (f : Counter → Counter) (o : Option Counter) → is_some (option_map f o) ≡ is_some o
    mapped f None = refl
    mapped f (Some c) = refl

-- the bit steps of a conflict keep it
polled_stands : (blocks : List Header) (id : List ℕ) (p : Parameters) (votes : List Bool → ℕ) (counters : Counters) → StandIn blocks id counters
    → StandIn blocks id (all_polled p votes counters)
polled_stands blocks id p votes counters h place =
    let goes = is_excluded (stepped_at p votes counters) place in
    ap is_some (polled_each p votes counters place)
    ∙ count_case (counter_at counters place) (stepped_at p votes counters place) (nat_lt (length place) 256) (has_child_from blocks id place)
    (is_excluded (counter_at counters) place) goes (step_stands p votes counters place) (h place) (excluded_stays p votes counters place)
    ∙ ap (λ t. nat_lt (length place) 256 && has_child_from blocks id place && not t) (sym (excluded_polled p votes counters place))

-- those of a board keep it
standing_counted : (board : Board) (votes : List Vote) → HasStanding board → HasStanding (counted board votes)
standing_counted board votes h id =
    rw (blocks_counted board votes, counters_counted board votes id)
    (polled_stands (blocks_of board.pending) id board.parameters (votes_below (blocks_of board.pending) votes id) (counters_on board id) (h id))

-- ---- an acceptance

-- the children of a block that is on the board after an acceptance stay
pub child_stays : (board : Board) (child : Pending) (parent : List ℕ) (later : List Header) (b : Header) (earlier : List Header)
    → IsGrown board.last (reverse (blocks_of board.pending)) → IsWinner board child
    → is_on (promoted board child).last (blocks_of (promoted board child).pending) parent ≡ true
    → reverse (blocks_of board.pending) ≡ later ++ b ∷ earlier → b.parent ≡ parent → stays board child b.id ≡ true
child_stays board child parent later b earlier g w on is of =
    let blocks = reverse (blocks_of board.pending) in
    let id = child.block.id in
    let line_at : (later : List Header) (b : Header) (earlier : List Header) → blocks ≡ later ++ b ∷ earlier → line_in blocks b.id ≡ b ∷ line_in blocks b.parent =
    λ later b earlier is. subst (λ l. line_in l b.id ≡ b ∷ line_in l b.parent) (sym is) (line_of board.last later b earlier (subst (IsGrown board.last) is g))
    in
    let itself : is_under blocks id id ≡ true =
    ap (list_any (λ e. bytes_eq e.id id)) (line_at w.later child.block w.earlier w.is)
    ∙ or_left (bytes_eq id id) (is_under blocks id child.block.parent) (id_itself id)
    in
    let above : is_under blocks id parent ≡ true =
    split_on (bytes_eq id parent)
    (λ t. ap (is_under blocks id) (sym (same_id id parent t)) ∙ itself)
    (λ t. (and_parts (is_under blocks id parent) (not (bytes_eq parent id)) (on_promoted board child parent on t).1).0)
    in
    let here : is_under blocks id b.id ≡ true =
    ap (list_any (λ e. bytes_eq e.id id)) (line_at later b earlier is)
    ∙ or_right (bytes_eq b.id id) (is_under blocks id b.parent) (ap (is_under blocks id) of ∙ above)
    in
    split_on (bytes_eq b.id id)
    (λ t.
    let one : b ≡ child.block = same_block board.last blocks later w.later b child.block earlier w.earlier g is w.is (same_id b.id id t) in
    let top : parent ≡ board.last = sym of ∙ ap (λ (e : Header). e.parent) one ∙ w.parent in
    clash (has_block blocks parent) (under_has blocks id parent above) (ap (has_block blocks) top ∙ not_last board.last blocks g))
    (λ t. rw (here, t) refl)

-- a filter that keeps what passes a test leaves it to find
any_filtered : (p test : Header → Bool) (pending : List Pending) → All (λ q. p q.block ≡ true → test q.block ≡ true) pending
    → list_any p (blocks_of (filter (λ q. test q.block) pending)) ≡ list_any p (blocks_of pending)
any_filtered p test [] h = refl
any_filtered p test (q ∷ pending) h =
    let rest = any_filtered p test pending (All-tail (λ q. p q.block ≡ true → test q.block ≡ true) q pending h) in
    split_on (test q.block)
    (λ t. rw t (ap (λ u. p q.block || u) rest))
    (λ t. split_on (p q.block)
    (λ s. clash (test q.block) (All-head (λ q. p q.block ≡ true → test q.block ≡ true) q pending h s) t)
    (λ s. rw (t, s) rest))

-- so a block that is on the board after an acceptance has the children that it had
pub children_promoted : (board : Board) (child : Pending) (id : List ℕ) (place : List Bool) → IsGrown board.last (reverse (blocks_of board.pending)) → winner board ≡ Some child
    → is_on (promoted board child).last (blocks_of (promoted board child).pending) id ≡ true
    → has_child_from (blocks_of (promoted board child).pending) id place ≡ has_child_from (blocks_of board.pending) id place
unfolding promoted
children_promoted board child id place g w on =
    any_filtered (λ b. bytes_eq b.parent id && starts_with beq (bits b.id) place) (λ b. stays board child b.id) board.pending
    (λ k d l s.
    let b = (get_or board.pending k d).block in
    child_stays board child id (reverse (blocks_of (drop (suc k) board.pending))) b (reverse (blocks_of (take k board.pending)))
    g (won board child g w) on (reversed_at board.pending k d l) (same_id b.parent id (and_parts (bytes_eq b.parent id) (starts_with beq (bits b.id) place) s).0))

-- the order makes no difference to what passes a test
pub any-reverse : {X : Type 0} (p : X → Bool) (xs : List X) → list_any p (reverse xs) ≡ list_any p xs
any-reverse p [] = refl
any-reverse p (x ∷ xs) =
    ap (list_any p) (reverse-cons x xs) ∙ list_any-append p (reverse xs) (x ∷ []) ∙ ap (λ t. t || (p x || false)) (any-reverse p xs) ∙ swapped (list_any p xs) (p x)
  where
    swapped : (x y : Bool) → (x || (y || false)) ≡ (y || x)
    swapped true true = refl
    swapped true false = refl
    swapped false true = refl
    swapped false false = refl

-- a block without children has none whose bits begin so
none_from : (blocks : List Header) (id : List ℕ) (place : List Bool) → has_child blocks id ≡ false → has_child_from blocks id place ≡ false
none_from [] id place h = refl
none_from (b ∷ blocks) id place h =
    let parts = or_parts (bytes_eq b.parent id) (has_child blocks id) h in
    rw parts.0 (none_from blocks id place parts.1)

-- where there are neither counters nor children
blank_stands : (blocks : List Header) (id : List ℕ) → ((place : List Bool) → has_child_from blocks id place ≡ false) → StandIn blocks id Blank
blank_stands blocks id h place =
    sym (and_left (nat_lt (length place) 256 && has_child_from blocks id place) (not (is_excluded (counter_at Blank) place))
    (and_right (nat_lt (length place) 256) (has_child_from blocks id place) (h place)))

-- an acceptance keeps it
standing_promoted : (board : Board) (child : Pending) → IsSound board → HasStanding board → winner board ≡ Some child → HasStanding (promoted board child)
standing_promoted board child sound h w id =
    let new = promoted board child in
    let grown = (sound_kept.at_promotion board child sound w).grown in
    split_on (is_on new.last (blocks_of new.pending) id)
    (λ t.
    subst (StandIn (blocks_of new.pending) id) (sym (counters_promoted board child id sound.grown w t))
    (λ place.
    h id place
    ∙ ap (λ u. nat_lt (length place) 256 && u && not (is_excluded (counter_on board id) place)) (sym (children_promoted board child id place sound.grown w t))))
    (λ t.
    subst (StandIn (blocks_of new.pending) id) (sym (none_on new id t))
    (blank_stands (blocks_of new.pending) id (λ place.
    none_from (blocks_of new.pending) id place
    (sym (any-reverse (λ b. bytes_eq b.parent id) (blocks_of new.pending))
    ∙ childless new.last (reverse (blocks_of new.pending)) id grown (on-reverse new.last (blocks_of new.pending) id ∙ t)))))

-- every step keeps it
pub standing_kept : IsKeptOver IsSound HasStanding
standing_kept = record {
  at_begin = λ p last height good id. subst (StandIn [] id) (sym (none_begun p last height id)) (blank_stands [] id (λ place. refl));
  at_issue = standing_issued;
  at_count = λ board votes sound h few. standing_counted board votes h;
  at_promotion = standing_promoted;
}
  where
    none_begun : (p : Parameters) (last : List ℕ) (height : ℕ) (id : List ℕ) → counters_on (begin p last height) id ≡ Blank
    none_begun p last height id = split_on (bytes_eq last id) (λ t. rw t refl) (λ t. rw t refl)

-- every board that can be reached has it
pub reached_standing : (board : Board) → Reached board → HasStanding board
reached_standing board reached = (reached_keeps (λ board. IsSound board × HasStanding board) (both_kept IsSound HasStanding sound_kept standing_kept) board reached).1

-- ---- the laws

-- where the counters stand
pub standing : (board : Board) (block : List ℕ) (place : List Bool) → Reached board
    → is_some (counter_on board block place)
    ≡ (nat_lt (length place) 256 && has_child_from (blocks_of board.pending) block place && not (is_excluded (counter_on board block) place))
standing board block place reached = reached_standing board reached block place

-- no excluded counter is kept
pub none_excluded : (board : Board) (block : List ℕ) (place : List Bool) → Reached board
    → is_excluded (counter_on board block) place ≡ true → counter_on board block place ≡ None
none_excluded board block place reached h =
    is_none (counter_on board block place)
    (reached_standing board reached block place
    ∙ and_right (nat_lt (length place) 256 && has_child_from (blocks_of board.pending) block place) (not (is_excluded (counter_on board block) place)) (ap not h))
  where
    is_none : (o : Option Counter) → is_some o ≡ false → o ≡ None
    is_none None e = refl
    is_none (Some c) e = cc
