-- Lemmas on the end of the path by the answers: no pending block stands above it.
use Rattle.std.proofs.Common.{◌≡◌, ℕ, Bool, true, false, ◌||◌, ◌&&◌, List, [], ◌∷◌, ◌++◌, reverse, bytes_eq, Some, refl, sym, ap, ◌∙◌, subst, append_assoc}
use Rattle.std.specs.Bool.{beq}
use Rattle.std.specs.List.{list_any, starts_with}
use Rattle.std.proofs.lemmas.List.{map-append, reverse-append}
use Rattle.std.proofs.lemmas.List.Folds.{list_any-append}
use Rattle.std.proofs.lemmas.Bool.{or_parts, or_from, or_left, or_right}
use Rattle.snow_base.specs.declared.block.Header.{Header}
use Rattle.snow_base.specs.Model.Identifier.{bits}
use Rattle.snow_flake.specs.Model.Rule.{Answer}
use Rattle.snow_board.specs.Model.Conflict.{Pending}
use Rattle.snow_board.specs.Model.Conflict.{Counters, leads_to}
use Rattle.snow_board.specs.Model.Board.{Board, blocks_of, counters_on}
use Rattle.snow_board.specs.Model.Preference.{path_from, end_of, preferred}
use Rattle.snow_board.specs.Kept.Ending.{has_pending_child}
use Rattle.snow_board.specs.Laws.Reached.{Reached}
use Rattle.snow_board.specs.Kept.Grown.{has_block, is_on, IsGrown}
use Rattle.snow_board.specs.Laws.StandingLaw.{has_child_from}
use Rattle.snow_board.proofs.Cases.{split_on, clash, same_id, id_itself}
use Rattle.snow_board.proofs.Grown.{grown_new, grown_parent, grown_before, on_more, older, has_child, latest_childless, has_block-reverse}
use Rattle.snow_board.proofs.Invariant.{IsSound, sound_kept, both_kept, reached_keeps}
use Rattle.snow_board.proofs.Lookup.{sought, sought_behind, reversed_around}
use Rattle.snow_board.proofs.Standing.{HasStanding, standing_kept, any-reverse}
use Rattle.snow_board.proofs.Backing.{HasBacking, backing_kept}
use Rattle.snow_board.proofs.Led.{any_weaker, leads}

-- ---- the walk

-- the end of the path from a block
abbrev end_from : Answer → List ℕ → Counters → List Pending → List ℕ
end_from answer at counters qs = end_of at (path_from answer at counters qs)

-- one step of the walk
abbrev goes : Answer → List ℕ → Counters → Pending → Bool
goes answer at counters q = bytes_eq q.block.parent at && leads_to answer counters q.block.id

-- where a block has a child, the answers lead to one
abbrev IsLed : Answer → List ℕ → Counters → List Pending → Type 0
IsLed answer at counters qs = has_pending_child qs at ≡ true → list_any (goes answer at counters) qs ≡ true

-- blocks that each come after their parent, and from each of which the answers lead to a child among those that come later
abbrev AreLed : Answer → List Pending → Type 0
AreLed answer [] = Unit {0}
AreLed answer (q ∷ later) = (has_block (blocks_of (q ∷ later)) q.block.parent ≡ false) × IsLed answer q.block.id q.counters later × AreLed answer later

-- a step that is made, and one that isn't
end_moves : (answer : Answer) (at : List ℕ) (counters : Counters) (q : Pending) (later : List Pending) → goes answer at counters q ≡ true
    → end_from answer q.block.id q.counters later ≡ end_from answer at counters (q ∷ later)
unfolding path_from
end_moves answer at counters q later t = rw t refl

end_waits : (answer : Answer) (at : List ℕ) (counters : Counters) (q : Pending) (later : List Pending) → goes answer at counters q ≡ false
    → end_from answer at counters later ≡ end_from answer at counters (q ∷ later)
unfolding path_from
end_waits answer at counters q later t = rw t refl

-- nothing comes later
ends_alone : (answer : Answer) (at : List ℕ) (counters : Counters) → bytes_eq at (end_from answer at counters []) ≡ true
unfolding path_from
ends_alone answer at counters = id_itself at

-- the path ends at the block or at one of those that come later
ends_on : (answer : Answer) (at : List ℕ) (counters : Counters) (qs : List Pending) → is_on at (blocks_of qs) (end_from answer at counters qs) ≡ true
ends_on answer at counters [] = or_left (bytes_eq at (end_from answer at counters [])) false (ends_alone answer at counters)
ends_on answer at counters (q ∷ later) =
    split_on (goes answer at counters q)
    (λ t. let top = end_from answer q.block.id q.counters later in
    subst (λ id. is_on at (blocks_of (q ∷ later)) id ≡ true) (end_moves answer at counters q later t)
    (or_right (bytes_eq at top) (has_block (blocks_of (q ∷ later)) top) (ends_on answer q.block.id q.counters later)))
    (λ t. let top = end_from answer at counters later in
    subst (λ id. is_on at (blocks_of (q ∷ later)) id ≡ true) (end_waits answer at counters q later t)
    (on_more at (q.block ∷ []) (blocks_of later) top (ends_on answer at counters later)))

-- where a step can be made it ends at one of those
ends_later : (answer : Answer) (at : List ℕ) (counters : Counters) (qs : List Pending) → list_any (goes answer at counters) qs ≡ true
    → has_block (blocks_of qs) (end_from answer at counters qs) ≡ true
ends_later answer at counters [] h = cc
ends_later answer at counters (q ∷ later) h =
    split_on (goes answer at counters q)
    (λ t. subst (λ id. has_block (blocks_of (q ∷ later)) id ≡ true) (end_moves answer at counters q later t) (ends_on answer q.block.id q.counters later))
    (λ t. let k = rw t at h in
    let top = end_from answer at counters later in
    subst (λ id. has_block (blocks_of (q ∷ later)) id ≡ true) (end_waits answer at counters q later t)
    (or_right (bytes_eq q.block.id top) (has_block (blocks_of later) top) (ends_later answer at counters later k)))

-- where none can be made it ends at the block
ends_here : (answer : Answer) (at : List ℕ) (counters : Counters) (qs : List Pending) → list_any (goes answer at counters) qs ≡ false → end_from answer at counters qs ≡ at
unfolding path_from
ends_here answer at counters [] h = refl
ends_here answer at counters (q ∷ later) h =
    let parts = or_parts (goes answer at counters q) (list_any (goes answer at counters) later) h in
    rw parts.0 (ends_here answer at counters later parts.1)

-- a block that comes no earlier than another isn't its parent
no_parent : (q : Pending) (later : List Pending) (id : List ℕ) → has_block (blocks_of (q ∷ later)) q.block.parent ≡ false → has_block (blocks_of (q ∷ later)) id ≡ true
    → bytes_eq q.block.parent id ≡ false
no_parent q later id off on =
    split_on (bytes_eq q.block.parent id)
    (λ t. clash (has_block (blocks_of (q ∷ later)) id) on (ap (has_block (blocks_of (q ∷ later))) (sym (same_id q.block.parent id t)) ∙ off))
    (λ t. t)

-- the block at which the path ends has no child
end_childless : (answer : Answer) (at : List ℕ) (counters : Counters) (qs : List Pending) → IsLed answer at counters qs → AreLed answer qs
    → has_pending_child qs (end_from answer at counters qs) ≡ false
end_childless answer at counters [] led all = refl
end_childless answer at counters (q ∷ later) led all =
    split_on (goes answer at counters q)
    (λ t. let top = end_from answer q.block.id q.counters later in
    subst (λ id. has_pending_child (q ∷ later) id ≡ false) (end_moves answer at counters q later t)
    (or_from (bytes_eq q.block.parent top) (has_pending_child later top)
    (no_parent q later top all.0 (ends_on answer q.block.id q.counters later))
    (end_childless answer q.block.id q.counters later all.1 all.2)))
    (λ t. let top = end_from answer at counters later in
    let led_later : IsLed answer at counters later = λ h. let k = led (or_right (bytes_eq q.block.parent at) (has_pending_child later at) h) in rw t at k in
    subst (λ id. has_pending_child (q ∷ later) id ≡ false) (end_waits answer at counters q later t)
    (or_from (bytes_eq q.block.parent top) (has_pending_child later top)
    (split_on (list_any (goes answer at counters) later)
    (λ s. no_parent q later top all.0 (or_right (bytes_eq q.block.id top) (has_block (blocks_of later) top) (ends_later answer at counters later s)))
    (λ s. split_on (bytes_eq q.block.parent top)
    (λ u.
    let child : bytes_eq q.block.parent at ≡ true = ap (bytes_eq q.block.parent) (sym (ends_here answer at counters later s)) ∙ u in
    let k = led (or_left (bytes_eq q.block.parent at) (has_pending_child later at) child) in
    let m : list_any (goes answer at counters) later ≡ true = rw t at k in
    clash (list_any (goes answer at counters) later) m s)
    (λ u. u)))
    (end_childless answer at counters later led_later all.2)))

-- ---- the blocks of a board

-- what a test finds among blocks it finds among the pending ones
any_pending : (p : Header → Bool) (qs : List Pending) → list_any (λ q. p q.block) qs ≡ list_any p (blocks_of qs)
any_pending p [] = refl
any_pending p (q ∷ qs) = ap (λ t. p q.block || t) (any_pending p qs)

-- no step is made to a block that has another parent
none_goes : (answer : Answer) (at : List ℕ) (counters : Counters) (qs : List Pending) → has_pending_child qs at ≡ false → list_any (goes answer at counters) qs ≡ false
none_goes answer at counters [] h = refl
none_goes answer at counters (q ∷ qs) h =
    let parts = or_parts (bytes_eq q.block.parent at) (has_pending_child qs at) h in
    rw parts.0 (none_goes answer at counters qs parts.1)

module _ (answer : Answer) (agrees : (b : Bool) → answer b b ≡ b) (board : Board) (sound : IsSound board) (standing : HasStanding board) (backing : HasBacking board) where
  -- from each block the answers lead to a child, where there is one
  board_led : (id : List ℕ) → IsLed answer id (counters_on board id) board.pending
  board_led id h =
      let blocks = blocks_of board.pending in
      let child : has_child_from blocks id [] ≡ true =
      any_weaker (λ b. bytes_eq b.parent id) (λ b. bytes_eq b.parent id && starts_with beq (bits b.id) []) blocks (λ b t. rw t refl)
      (sym (any_pending (λ b. bytes_eq b.parent id) board.pending) ∙ h) in
      any_pending (λ b. bytes_eq b.parent id && leads_to answer (counters_on board id) b.id) board.pending
      ∙ leads answer agrees blocks id (counters_on board id) (standing id) (backing id) child

  -- a pending block, with those in front and those that come later
  all_led : (front qs : List Pending) → board.pending ≡ front ++ qs → AreLed answer qs
  all_led front [] is = tt
  all_led front (q ∷ later) is = (parent_before, led, all_led (front ++ q ∷ []) later (is ∙ sym (append_assoc front (q ∷ []) later)))
    where
      whole : reverse (blocks_of board.pending) ≡ reverse (blocks_of later) ++ q.block ∷ reverse (blocks_of front)
      whole = ap (λ l. reverse (blocks_of l)) is ∙ reversed_around front later q

      parts : reverse (blocks_of board.pending) ≡ reverse (blocks_of (q ∷ later)) ++ reverse (blocks_of front)
      parts =
          ap (λ l. reverse (blocks_of l)) is
          ∙ ap reverse (map-append (λ q. q.block) front (q ∷ later))
          ∙ reverse-append (blocks_of front) (blocks_of (q ∷ later))

      here : IsGrown board.last (q.block ∷ reverse (blocks_of front))
      here = grown_before board.last (reverse (blocks_of later)) (q.block ∷ reverse (blocks_of front)) (subst (IsGrown board.last) whole sound.grown)

      parent_before : has_block (blocks_of (q ∷ later)) q.block.parent ≡ false
      parent_before =
          sym (has_block-reverse (blocks_of (q ∷ later)) q.block.parent)
          ∙ older board.last (reverse (blocks_of (q ∷ later))) (reverse (blocks_of front)) q.block.parent (subst (IsGrown board.last) parts sound.grown) (grown_parent here)

      apart : (bytes_eq board.last q.block.id ≡ false) × (has_block (reverse (blocks_of front)) q.block.id ≡ false)
      apart = or_parts (bytes_eq board.last q.block.id) (has_block (reverse (blocks_of front)) q.block.id) (grown_new here)

      found : sought board.pending q.block.id ≡ Some q
      found =
          ap (λ l. sought l q.block.id) is
          ∙ sought_behind front (q ∷ later) q.block.id (sym (has_block-reverse (blocks_of front) q.block.id) ∙ apart.1)
          ∙ rw (id_itself q.block.id) refl

      own : counters_on board q.block.id ≡ q.counters
      own = rw (apart.0, found) refl

      alone : (bytes_eq q.block.parent q.block.id ≡ false) × (has_child (reverse (blocks_of front)) q.block.id ≡ false)
      alone = or_parts (bytes_eq q.block.parent q.block.id) (has_child (reverse (blocks_of front)) q.block.id) (latest_childless board.last q.block (reverse (blocks_of front)) here)

      none_before : has_pending_child front q.block.id ≡ false
      none_before =
          any_pending (λ b. bytes_eq b.parent q.block.id) front
          ∙ sym (any-reverse (λ b. bytes_eq b.parent q.block.id) (blocks_of front))
          ∙ alone.1

      led : IsLed answer q.block.id q.counters later
      led h =
          let child : has_pending_child board.pending q.block.id ≡ true =
          ap (λ l. has_pending_child l q.block.id) is
          ∙ list_any-append (λ e. bytes_eq e.block.parent q.block.id) front (q ∷ later)
          ∙ or_right (has_pending_child front q.block.id) (has_pending_child (q ∷ later) q.block.id)
          (or_right (bytes_eq q.block.parent q.block.id) (has_pending_child later q.block.id) h) in
          let step : list_any (goes answer q.block.id q.counters) (front ++ q ∷ later) ≡ true =
          subst (λ l. list_any (goes answer q.block.id q.counters) l ≡ true) is
          (subst (λ cs. list_any (goes answer q.block.id cs) board.pending ≡ true) own (board_led q.block.id child)) in
          let k : (list_any (goes answer q.block.id q.counters) front || (goes answer q.block.id q.counters q || list_any (goes answer q.block.id q.counters) later)) ≡ true =
          sym (list_any-append (goes answer q.block.id q.counters) front (q ∷ later)) ∙ step in
          let m = rw (none_goes answer q.block.id q.counters front none_before) at k in
          rw alone.0 at m

  -- the preference has no pending child
  preferred_childless : has_pending_child board.pending (preferred answer board) ≡ false
  preferred_childless =
      end_childless answer board.last board.counters board.pending
      (subst (λ cs. IsLed answer board.last cs board.pending) last_own (board_led board.last))
      (all_led [] board.pending refl)
    where
      last_own : counters_on board board.last ≡ board.counters
      last_own = rw (id_itself board.last) refl

-- the preference of a board that can be reached has no pending child
pub preference_ends : (answer : Answer) (board : Board) → ((bit : Bool) → answer bit bit ≡ bit) → Reached board
    → has_pending_child board.pending (preferred answer board) ≡ false
preference_ends answer board agrees reached =
    let stands = reached_keeps (λ board. IsSound board × HasStanding board) (both_kept IsSound HasStanding sound_kept standing_kept) board reached in
    let backs = reached_keeps (λ board. IsSound board × HasBacking board) (both_kept IsSound HasBacking sound_kept backing_kept) board reached in
    preferred_childless answer agrees board stands.0 stands.1 backs.1
