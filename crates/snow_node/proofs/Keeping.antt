-- What ties a node that runs is kept by each thing that it does.
use Rattle.std.proofs.Common.{◌≡◌, ℕ, ◌-◌, ◌^◌, ◌+◌, ◌<◌, ◌≤◌, ◌==◌, Bool, true, false, not, ◌||◌, ◌&&◌, cond, nat_lt, List, [], ◌∷◌, ◌++◌, Option, Some, None, IfSome, is_some, bytes_eq, refl, sym, ap, ◌∙◌, subst, arith}
use Rattle.std.proofs.lemmas.Bool.{or_parts}
use Rattle.std.proofs.lemmas.List.Folds.{list_any-append}
use Rattle.std.proofs.lemmas.Bool.Decides.{nat_tests}
use Rattle.std.specs.List.{list_any}
use Rattle.snow_base.specs.Model.Numbers.{next_number, last_after}
use Rattle.snow_base.specs.declared.block.Header.{Header}
use Rattle.snow_flake.specs.Model.Parameters.{Parameters, AreGood}
use Rattle.snow_sample.specs.declared.draws.Draw.{Draw}
use Rattle.snow_board.specs.declared.board.Decision.{Decision}
use Rattle.snow_board.specs.Model.Board.{Board, begin, height_of, issued}
use Rattle.snow_board.proofs.Cases.{split_on, clash, differs_back}
use Rattle.snow_chain.specs.Model.Chain.{Held, begun as first_states, with_state}
use Rattle.snow_poll.specs.Model.Poll.{Poll}
use Rattle.snow_poll.specs.Model.Table.{Table, no_polls, begun, voted, shortened, unfinished, answered, is_awaited_by, has_number as has_poll}
use Rattle.snow_poll.specs.Model.Closing.{is_closed}
use Rattle.snow_gets.specs.declared.gets.Get.{Get}
use Rattle.snow_issue.specs.declared.work.Waiting.{Waiting}
use Rattle.snow_issue.specs.declared.work.Offered.TheVariants as offer
use Rattle.snow_issue.specs.declared.work.Work.{Work}
use Rattle.snow_gets.specs.Model.Gets.{with_get}
use Rattle.snow_gets.specs.Model.Gets.{has_number as has_get}
use Rattle.snow_issue.specs.Model.Lists.{Lists, begun as first_lists, after_gone, with_waiting, waits, waits_among}
use Rattle.snow_issue.specs.Model.Offering.{is_on, offered}
use Rattle.snow_issue.specs.Model.Settling.{work_of, after as left_by}
use Rattle.snow_node.specs.Model.Closing.{all_gone}
use Rattle.snow_node.specs.Kept.Tied.{AreAtMost, AreOff, IsApart, IsKept, MayWork}
use Rattle.snow_node.specs.Clauses.Matching.{IsSteady}
use Rattle.snow_node.specs.Model.Running.{Running}
use Rattle.snow_node.specs.Model.Telling.{with_decision, with_decisions}
use Rattle.snow_node.proofs.Following.{begun_steady, holds, holds_with, holds_without}
use Rattle.snow_node.proofs.Working.{work_gets, work_out}

-- ---- numbers

-- a bound may rise
all_below : {A : Type 0} (number : A → ℕ) (xs : List A) (n m : ℕ) → n ≤ m → AreAtMost number n xs → AreAtMost number m xs
all_below number [] n m le all = tt
all_below {A = A} number (x ∷ xs) n m le all = (below (number x) all.0, all_below number xs n m le all.1)
  where
    below : (i : ℕ) → i ≤ n → i ≤ m
    below i h = omega arith

-- one more that is no greater
one_more : {A : Type 0} (number : A → ℕ) (n : ℕ) (xs : List A) (x : A) → AreAtMost number n xs → number x ≤ n → AreAtMost number n (xs ++ x ∷ [])
one_more number n [] x all le = (le, tt)
one_more number n (y ∷ xs) x all le = (all.0, one_more number n xs x all.1 le)

-- a number above them all is none of them
none_is : {A : Type 0} (number : A → ℕ) (xs : List A) (n m : ℕ) → n < m → AreAtMost number n xs → list_any (λ x. number x == m) xs ≡ false
none_is number [] n m lt all = refl
none_is {A = A} number (x ∷ xs) n m lt all = rw (differs (number x) all.0) (none_is number xs n m lt all.1)
  where
    differs : (i : ℕ) → i ≤ n → (i == m) ≡ false
    differs i h = grind (arith, nat_tests)

-- the next number is one more, and it is then the last one
number_drawn : (last number next : ℕ) → Some number ≡ next_number last → next ≡ last_after last → (number ≡ next) × (last < number) × (next ≤ 2 ^ 32 - 1)
number_drawn last number next e f = by (nat_lt last (2 ^ 32 - 1)) refl e
  where
    by : (b : Bool) → nat_lt last (2 ^ 32 - 1) ≡ b → Some number ≡ cond b (Some (last + 1)) None → (number ≡ next) × (last < number) × (next ≤ 2 ^ 32 - 1)
    by true t e =
        let is : number ≡ last + 1 = cc in
        let small : last < 2 ^ 32 - 1 = grind (arith, nat_tests) in
        (omega (arith, f), omega arith, omega (arith, f))
    by false t e = absurd cc

-- a number that is asked for is no smaller than the last one
later : (last next : ℕ) → next ≡ last_after last → last ≤ 2 ^ 32 - 1 → (last ≤ next) × (next ≤ 2 ^ 32 - 1)
later last next f small = (omega (arith, f), omega (arith, f))

-- one block more is off the board, with those that waited
one_more_off : (board : Board) (waiting : List Waiting) (w : Waiting) → AreOff board waiting → IsApart board waiting w.header.id → AreOff board (waiting ++ w ∷ [])
one_more_off board [] w off apart = (apart.off, refl, tt)
one_more_off board (x ∷ waiting) w off apart =
    let parts = or_parts (bytes_eq x.header.id w.header.id) (waits_among waiting w.header.id) apart.other in
    let differs : bytes_eq w.header.id x.header.id ≡ false = differs_back w.header.id x.header.id parts.0 in
    let alone : waits_among (waiting ++ w ∷ []) x.header.id ≡ false =
    list_any-append (λ (v : Waiting). bytes_eq v.header.id x.header.id) waiting (w ∷ []) ∙ rw (off.1, differs) refl in
    (off.0, alone, one_more_off board waiting w off.2 (record { off = apart.off; other = parts.1 }))

-- what has no height is off the board
no_height : (o : Option ℕ) → is_some o ≡ false → o ≡ None
no_height None e = refl
no_height (Some h) e = clash true refl e

-- a block that waits now was apart from all others
pub offered_apart : (queue : Lists) (board : Board) (w : Waiting) (ask : Option (List ℕ)) → offer.Waits ask ≡ offered queue board w → IsApart board queue.waiting w.header.id
offered_apart queue board w ask e = by (is_on board w.header.id || waits queue w.header.id) refl e
  where
    by : (b : Bool) → (is_on board w.header.id || waits queue w.header.id) ≡ b → offer.Waits ask ≡ offered queue board w → IsApart board queue.waiting w.header.id
    by true t e = let known = rw t at e in absurd cc
    by false t e =
        let parts = or_parts (is_on board w.header.id) (waits queue w.header.id) t in
        record { off = no_height (height_of board w.header.id) parts.0; other = parts.1 }

-- a node that begins
pub kept_new : (p : Parameters) (last : List ℕ) (height : ℕ) (state : List ℕ) (board : Board) (held : Held) (table : Table) (queue : Lists) (number : ℕ) → AreGood p
    → board ≡ begin p last height → held ≡ first_states last state → table ≡ no_polls p → queue ≡ first_lists last → number ≤ 2 ^ 32 - 1 → IsKept p board held table queue number
kept_new p last height state board held table queue number good a b c d small =
    rw (a, b, c, d) (record {
      steady = begun_steady p last height state good;
      parameters = refl;
      table = refl;
      small = small;
      numbers = tt;
      gets = tt;
      waiting = tt;
    })

-- where a queue shows the lists that it showed, the node is as it was
pub same_lists : {node old : Running} {queue : Lists} → queue ≡ node.queue → node ≡ old → record node { queue = queue } ≡ old
same_lists {node = node} same is = ap (λ (q : Lists). record node { queue = q }) same ∙ is

module _ (p : Parameters) (board : Board) (held : Held) (table : Table) (queue : Lists) (last : ℕ) (kept : IsKept p board held table queue last) where
  -- a number was asked for
  pub kept_numbered : (next : ℕ) → next ≡ last_after last → IsKept p board held table queue next
  kept_numbered next e =
      let l = later last next e kept.small in
      record {
        steady = kept.steady;
        parameters = kept.parameters;
        table = kept.table;
        small = l.1;
        numbers = all_below (λ (q : Poll). q.number) table.polls last next l.0 kept.numbers;
        gets = all_below (λ (g : Get). g.number) queue.gets last next l.0 kept.gets;
        waiting = kept.waiting;
      }

  -- and no poll was begun under it
  pub kept_unbegun : (next : ℕ) (after : Table) → next ≡ last_after last → after ≡ table → IsKept p board held after queue next
  kept_unbegun next after e f = subst (λ (t : Table). IsKept p board held t queue next) (sym f) (kept_numbered next e)

  -- it is new to the table and to the gets
  pub new_to_polls : (number next : ℕ) → Some number ≡ next_number last → next ≡ last_after last → has_poll table.polls number ≡ false
  new_to_polls number next e f = none_is (λ (q : Poll). q.number) table.polls last number (number_drawn last number next e f).1 kept.numbers

  pub new_to_gets : (number next : ℕ) → Some number ≡ next_number last → next ≡ last_after last → has_get queue.gets number ≡ false
  new_to_gets number next e f = none_is (λ (g : Get). g.number) queue.gets last number (number_drawn last number next e f).1 kept.gets

  -- a poll was begun under it
  pub kept_begun : (number next : ℕ) (draws : List Draw) (after : Table) → Some number ≡ next_number last → next ≡ last_after last → after ≡ begun table number draws
      → IsKept p board held after queue next
  kept_begun number next draws after e f g =
      let drawn = number_drawn last number next e f in
      let k = kept_numbered next f in
      let is : number ≤ next = omega (arith, drawn.0) in
      subst (λ (t : Table). IsKept p board held t queue next) (sym g)
      (record {
        steady = k.steady;
        parameters = k.parameters;
        table = k.table;
        small = k.small;
        numbers = one_more (λ (q : Poll). q.number) next table.polls _ k.numbers is;
        gets = k.gets;
        waiting = k.waiting;
      })

  -- a get was opened under it
  pub kept_asked : (number next : ℕ) (peer id : List ℕ) (after : Lists) → Some number ≡ next_number last → next ≡ last_after last
      → after ≡ record queue { gets = with_get queue.gets (record { number = number; node = peer; id = id }) }
      → IsKept p board held table after next
  kept_asked number next peer id after e f g =
      let drawn = number_drawn last number next e f in
      let k = kept_numbered next f in
      let is : number ≤ next = omega (arith, drawn.0) in
      subst (λ (q : Lists). IsKept p board held table q next) (sym g)
      (record {
        steady = k.steady;
        parameters = k.parameters;
        table = k.table;
        small = k.small;
        numbers = k.numbers;
        gets = with_get_below next queue.gets (record { number = number; node = peer; id = id }) is k.gets;
        waiting = k.waiting;
      })
    where
      with_get_below : (next : ℕ) (gets : List Get) (get : Get) → get.number ≤ next → AreAtMost (λ (g : Get). g.number) next gets → AreAtMost (λ (g : Get). g.number) next (with_get gets get)
      with_get_below next [] get is all = (is, tt)
      with_get_below next (g ∷ gets) get is all =
          split_on (nat_lt get.number g.number)
          (λ t. rw t (is, all))
          (λ t. rw t (all.0, with_get_below next gets get is all.1))

  -- ---- boards that change

  -- what isn't on the board has no state, and what has none isn't on the board
  off_held : (id : List ℕ) → height_of board id ≡ None → holds held id ≡ false
  off_held id e = kept.steady.matches.each id ∙ ap (λ o. is_some o) e

  held_off : (now : Board) (states : Held) (id : List ℕ) → IsSteady now states → holds states id ≡ false → height_of now id ≡ None
  held_off now states id steady none = no_height (height_of now id) (sym (steady.matches.each id) ∙ none)

  -- a block was issued that is apart from all that waits
  pub kept_issued : (now : Board) (states : Held) (block : Header) (state : List ℕ) → IsSteady now states → now ≡ issued board block → states ≡ with_state held block.id state
      → IsApart board queue.waiting block.id → IsKept p now states table queue last
  kept_issued now states block state steady e f apart = record {
    steady = steady;
    parameters = ap (λ (b : Board). b.parameters) e ∙ kept.parameters;
    table = kept.table;
    small = kept.small;
    numbers = kept.numbers;
    gets = kept.gets;
    waiting = still_off queue.waiting apart.other kept.waiting;
  }
    where
      still_off : (waiting : List Waiting) → waits_among waiting block.id ≡ false → AreOff board waiting → AreOff now waiting
      still_off [] none off = tt
      still_off (w ∷ waiting) none off =
          let parts = or_parts (bytes_eq w.header.id block.id) (waits_among waiting block.id) none in
          let not_held : holds states w.header.id ≡ false =
          ap (λ (h : Held). holds h w.header.id) f ∙ holds_with held block.id state w.header.id ∙ rw parts.0 (off_held w.header.id off.0) in
          (held_off now states w.header.id steady not_held, off.1, still_off waiting parts.1 off.2)

  -- a poll was recorded
  pub kept_polled : (now : Board) (states : Held) (decisions : List Decision) (after : Lists) → IsSteady now states → now.parameters ≡ board.parameters
      → states ≡ with_decisions held decisions → after ≡ all_gone queue decisions → IsKept p now states table after last
  kept_polled now states decisions after steady same f g =
      subst (λ (q : Lists). IsKept p now states table q last) (sym g) (
      record {
        steady = steady;
        parameters = same ∙ kept.parameters;
        table = kept.table;
        small = kept.small;
        numbers = kept.numbers;
        gets = subst (AreAtMost (λ (get : Get). get.number) last) (sym (gone_gets queue decisions)) kept.gets;
        waiting = subst (AreOff now) (sym (gone_waiting queue decisions)) (still_off queue.waiting kept.waiting);
      })
    where
      gone_waiting : (q : Lists) (ds : List Decision) → (all_gone q ds).waiting ≡ q.waiting
      gone_waiting q [] = refl
      gone_waiting q (d ∷ ds) = gone_waiting (after_gone q (record { id = d.id; parent = None })) ds

      gone_gets : (q : Lists) (ds : List Decision) → (all_gone q ds).gets ≡ q.gets
      gone_gets q [] = refl
      gone_gets q (d ∷ ds) = gone_gets (after_gone q (record { id = d.id; parent = None })) ds

      one_fewer : (h : Held) (d : Decision) (id : List ℕ) → holds h id ≡ false → holds (with_decision h d) id ≡ false
      one_fewer h d id none =
          split_on d.accepted
          (λ t. rw t (holds_without h h.last id ∙ rw none (never (bytes_eq id h.last))))
          (λ t. rw t (holds_without h d.id id ∙ rw none (never (bytes_eq id d.id))))
        where
          never : (b : Bool) → (not b && false) ≡ false
          never true = refl
          never false = refl

      fewer : (h : Held) (ds : List Decision) (id : List ℕ) → holds h id ≡ false → holds (with_decisions h ds) id ≡ false
      fewer h [] id none = none
      fewer h (d ∷ ds) id none = fewer (with_decision h d) ds id (one_fewer h d id none)

      still_off : (waiting : List Waiting) → AreOff board waiting → AreOff now waiting
      still_off [] off = tt
      still_off (w ∷ waiting) off =
          let not_held : holds states w.header.id ≡ false = ap (λ (h : Held). holds h w.header.id) f ∙ fewer held decisions w.header.id (off_held w.header.id off.0) in
          (held_off now states w.header.id steady not_held, off.1, still_off waiting off.2)

  -- ---- tables and queues that change

  -- another table with polls of no greater number
  pub kept_table : (after : Table) → after.parameters ≡ table.parameters → AreAtMost (λ (q : Poll). q.number) last after.polls → IsKept p board held after queue last
  kept_table after same numbers = record { steady = kept.steady; parameters = kept.parameters; table = same ∙ kept.table; small = kept.small; numbers = numbers; gets = kept.gets; waiting = kept.waiting }

  pub kept_voted : (after : Table) (number : ℕ) (peer : List ℕ) (id : Option (List ℕ)) → after ≡ voted table number peer id → IsKept p board held after queue last
  kept_voted after number peer id e = subst (λ (t : Table). IsKept p board held t queue last) (sym e) (kept_table (voted table number peer id) refl (still table.polls kept.numbers))
    where
      one : (q : Poll) → q.number ≤ last → (answered number peer id q).number ≤ last
      one q h = split_on (is_awaited_by number peer q) (λ t. rw t h) (λ t. rw t h)

      still : (polls : List Poll) → AreAtMost (λ (q : Poll). q.number) last polls → AreAtMost (λ (q : Poll). q.number) last (voted (record { parameters = table.parameters; polls = polls }) number peer id).polls
      still [] all = tt
      still (q ∷ polls) all = (one q all.0, still polls all.1)

  pub kept_shortened : (after : Table) → after ≡ shortened table → IsKept p board held after queue last
  kept_shortened after e = subst (λ (t : Table). IsKept p board held t queue last) (sym e) (kept_table (shortened table) refl (still table.polls kept.numbers))
    where
      still : (polls : List Poll) → AreAtMost (λ (q : Poll). q.number) last polls → AreAtMost (λ (q : Poll). q.number) last (unfinished table.parameters polls)
      still [] all = tt
      still (q ∷ polls) all = split_on (is_closed table.parameters q) (λ t. rw t all.1) (λ t. rw t all)

  -- another queue with the same blocks and no other gets
  pub kept_queue : (after : Lists) → AreOff board after.waiting → AreAtMost (λ (get : Get). get.number) last after.gets → IsKept p board held table after last
  kept_queue after off gets = record { steady = kept.steady; parameters = kept.parameters; table = kept.table; small = kept.small; numbers = kept.numbers; gets = gets; waiting = off }

  pub kept_queue_as : (after now : Lists) → now ≡ after → AreOff board after.waiting → AreAtMost (λ (get : Get). get.number) last after.gets → IsKept p board held table now last
  kept_queue_as after now e off gets = subst (λ (q : Lists). IsKept p board held table q last) (sym e) (kept_queue after off gets)

  -- the same queue
  pub kept_same : (now : Lists) → now ≡ queue → IsKept p board held table now last
  kept_same now e = subst (λ (q : Lists). IsKept p board held table q last) (sym e) kept

  -- a get wasn't opened after all
  pub kept_unasked : (next : ℕ) (after : Lists) → next ≡ last_after last → after ≡ queue → IsKept p board held table after next
  kept_unasked next after e f =
      let k = kept_numbered next e in
      subst (λ (q : Lists). IsKept p board held table q next) (sym f)
      (record { steady = k.steady; parameters = k.parameters; table = k.table; small = k.small; numbers = k.numbers; gets = k.gets; waiting = k.waiting })

  -- a block more waits that is apart from all others
  pub kept_waiting : (w : Waiting) (after : Lists) → IsApart board queue.waiting w.header.id → after ≡ with_waiting queue w → IsKept p board held table after last
  kept_waiting w after apart e = kept_queue_as (with_waiting queue w) after e (one_more_off board queue.waiting w kept.waiting apart) kept.gets

  -- what there is to do was taken out
  pub kept_worked : (w : Work) (after : Lists) → Some w ≡ work_of queue board → after ≡ left_by queue board (Some w)
      → IsKept p board held table after last × MayWork board after w
  kept_worked w now e f =
      let out = work_out queue board w kept.waiting (sym e) in
      let k = kept_queue_as (left_by queue board (Some w)) now f out.0 (subst (AreAtMost (λ (get : Get). get.number) last) (sym (work_gets queue board w)) kept.gets) in (
        k,
        subst (λ (q : Lists). MayWork board q w) (sym f) out.1,
      )

  -- something was taken out, if there was anything to do
  pub kept_taken_out : (o : Option Work) (after : Lists) → o ≡ work_of queue board → after ≡ left_by queue board o
      → IsKept p board held table after last × IfSome o (λ w. MayWork board after w)
  kept_taken_out None after e f = (kept_same after f, tt)
  kept_taken_out (Some w) after e f = kept_worked w after e f
