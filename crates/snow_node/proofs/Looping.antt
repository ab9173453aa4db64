-- What each loop of a node that runs counts falls.
use Rattle.std.proofs.Common.{◌≡◌, ℕ, zero, suc, ◌-◌, ◌+◌, ◌<◌, ◌≤◌, ◌==◌, Bool, true, false, not, cond, nat_lt, nat_le, List, [], ◌∷◌, length, filter, Option, Some, None, Result, Ok, Err, refl, sym, ap, ◌∙◌, subst, arith}
use Rattle.std.proofs.lemmas.Bool.{and_parts}
use Rattle.std.proofs.lemmas.Bool.Decides.{nat_tests}
use Rattle.std.proofs.lemmas.List.{length-append}
use Rattle.snow_base.specs.Model.Numbers.{next_number}
use Rattle.snow_base.specs.declared.block.Header.{Header}
use Rattle.snow_base.specs.declared.block.Vote.{Vote}
use Rattle.snow_flake.specs.Model.Rule.{Answer}
use Rattle.snow_sample.specs.declared.draws.Draw.{Draw}
use Rattle.snow_sample.specs.declared.sampling.SampleFault.{SampleFault}
use Rattle.snow_sample.specs.declared.sampling.SampleFault.TheVariants as fault
use Rattle.snow_sample.specs.Model.Sampling.{sample_of}
use Rattle.snow_board.specs.declared.board.Decision.{Decision}
use Rattle.snow_board.specs.Model.Board.{Board, height_of}
use Rattle.snow_board.specs.Model.Preference.{is_preferred}
use Rattle.snow_board.specs.Model.Poll.{poll}
use Rattle.snow_board.proofs.Cases.{split_on}
use Rattle.snow_chain.specs.Model.Chain.{Rules, next_on}
use Rattle.snow_lines.specs.declared.line.Line.{Line}
use Rattle.snow_lines.specs.declared.why.DropWhy.{DropWhy}
use Rattle.snow_lines.specs.declared.why.DropWhy.TheVariants as why
use Rattle.snow_poll.specs.Model.Poll.{Poll}
use Rattle.snow_poll.specs.Model.Closing.{is_closed}
use Rattle.snow_poll.specs.Model.Table.{finished, unfinished, voted}
use Rattle.snow_issue.specs.Model.Bubbling.{bubbled}
use Rattle.snow_held.specs.declared.held.Held.{Held}
use Rattle.snow_issue.specs.declared.work.Work.{Work}
use Rattle.snow_issue.specs.declared.work.Work.TheVariants as work
use Rattle.snow_issue.specs.Model.Lists.{Lists, after_gone, after_forgotten}
use Rattle.snow_issue.specs.Model.Settling.{work_of, after}
use Rattle.snow_node.specs.declared.stop.Halt.{Halt}
use Rattle.snow_node.specs.Model.Outcome.{Comes, quietly, going_on, where_made}
use Rattle.snow_node.specs.Model.Again.{again}
use Rattle.snow_node.specs.Model.Running.{Running}
use Rattle.snow_node.specs.Model.Placing.{opposed}
use Rattle.snow_node.specs.Model.Querying.{queried, sampled, lacks_polls, one_repolled}
use Rattle.snow_node.specs.Model.Closing.{all_gone, front_closed, one_closed, running_polls}
use Rattle.snow_node.specs.Model.Settling.{with_block, issued_by, placed_by, done, worked, one_settled, left_to_do, asked_on_the_way}
use Rattle.snow_node.proofs.Working.{amount, work_smaller}

-- ---- what holds of what comes, if it doesn't stop

abbrev pub AtOk : {T : Type 0} → (T → Type 0) → Result T Halt → Type 0
AtOk P (Ok x) = P x
AtOk P (Err s) = Unit {0}

pub at_then : (S T : Type 0) (P : S → Type 0) (Q : T → Type 0) (lines : List Line) (r : Result S Halt) (f : S → Comes T)
    → AtOk P r → ((x : S) → P x → AtOk Q (f x).1) → AtOk Q (going_on lines r f).1
at_then S T P Q lines (Err s) f p h = tt
at_then S T P Q lines (Ok x) f p h = h x p

-- a step that wasn't made is none that was
not_made : (T A : Type 0) (x y : T) (r : Result (T × Bool) Halt) → r ≡ Ok (x, false) → r ≡ Ok (y, true) → A
not_made T A x y r d e =
    let flags : false ≡ true = sym (ap flag d) ∙ ap flag e in
    absurd cc
  where
    flag : Result (T × Bool) Halt → Bool
    flag (Ok p) = p.1
    flag (Err s) = false

pub at_ok : (T : Type 0) (P : T → Type 0) (r : Result T Halt) (x : T) → AtOk P r → r ≡ Ok x → P x
at_ok T P r x p e = subst (AtOk P) e p

-- ---- queries

-- a query leaves board and queue; where it was sent there is one poll more
record IsQueried (before : Running) (after : Running × Bool) : Type 0 where
  board : after.0.board ≡ before.board
  queue : after.0.queue ≡ before.queue
  more : after.1 ≡ true → length after.0.polls.polls ≡ length before.polls.polls + 1

query_leaves : (answer : Answer) (node : Running) → AtOk (IsQueried node) (queried answer node).1
query_leaves answer node =
    split_on (nat_le 1024 (length node.polls.polls))
    (λ t. rw t (record { board = refl; queue = refl; more = λ e. absurd cc }))
    (λ t. rw t (by_sample (sample_of node.roster node.board.parameters.k node.words)))
  where
    by_number : (draws : List Draw) (left : List ℕ) (o : Option ℕ) → next_number node.last ≡ o → AtOk (IsQueried node) (sampled answer node (Ok (draws, left))).1
    by_number draws left None e = rw e tt
    by_number draws left (Some number) e = rw e (record { board = refl; queue = refl; more = λ m. length-append node.polls.polls _ })

    by_sample : (sample : Result (List Draw × List ℕ) SampleFault) → AtOk (IsQueried node) (sampled answer node sample).1
    by_sample (Err (fault.TooFewUnits total)) = record { board = refl; queue = refl; more = λ e. absurd cc }
    by_sample (Err fault.WordsOut) = record { board = refl; queue = refl; more = λ e. absurd cc }
    by_sample (Err fault.Memory) = tt
    by_sample (Ok (draws, left)) = by_number draws left (next_number node.last) refl

-- how many polls are lacking falls with each that is sent
pub repolls_fall : (answer : Answer) (x y : Running) → (one_repolled answer x).1 ≡ Ok (y, true)
    → y.board.parameters.repolls - length y.polls.polls < x.board.parameters.repolls - length x.polls.polls
repolls_fall answer x y e = by (lacks_polls x) refl e
  where
    by : (b : Bool) → lacks_polls x ≡ b → (cond b (queried answer x) (quietly (x, false))).1 ≡ Ok (y, true)
        → y.board.parameters.repolls - length y.polls.polls < x.board.parameters.repolls - length x.polls.polls
    by true t e =
        let leaves = at_ok (Running × Bool) (IsQueried x) (queried answer x).1 (y, true) (query_leaves answer x) e in
        let lacks : nat_lt (length x.polls.polls) x.board.parameters.repolls ≡ true = (and_parts (nat_lt 0 (length x.board.pending)) (nat_lt (length x.polls.polls) x.board.parameters.repolls) t).1 in
        let more : length y.polls.polls ≡ length x.polls.polls + 1 = leaves.more refl in
        let same : y.board.parameters.repolls ≡ x.board.parameters.repolls = ap (λ (b : Board). b.parameters.repolls) leaves.board in
        fewer (length x.polls.polls) x.board.parameters.repolls (length y.polls.polls) y.board.parameters.repolls lacks more same
      where
        fewer : (n r m s : ℕ) → nat_lt n r ≡ true → m ≡ n + 1 → s ≡ r → s - m < r - n
        fewer n r m s lacks more same = grind (arith, nat_tests)
    by false t e = not_made Running (y.board.parameters.repolls - length y.polls.polls < x.board.parameters.repolls - length x.polls.polls) x y _ refl e

-- ---- polls that are closed

-- the number of polls falls with each that leaves
pub polls_fall : (answer : Answer) (x y : Running) → (one_closed answer x).1 ≡ Ok (y, true) → length y.polls.polls < length x.polls.polls
polls_fall answer x y e = by (finished x.polls.parameters x.polls.polls) refl e
  where
    shorter : (polls : List Poll) (o : ℕ × List Vote) → finished x.polls.parameters polls ≡ Some o → length (unfinished x.polls.parameters polls) < length polls
    shorter [] o f = absurd cc
    shorter (q ∷ polls) o f = by_front (is_closed x.polls.parameters q) refl f
      where
        by_front : (b : Bool) → is_closed x.polls.parameters q ≡ b → finished x.polls.parameters (q ∷ polls) ≡ Some o → length (unfinished x.polls.parameters (q ∷ polls)) < length (q ∷ polls)
        by_front true t f = rw t (omega arith)
        by_front false t f = let g = rw t at f in absurd cc

    by : (o : Option (ℕ × List Vote)) → finished x.polls.parameters x.polls.polls ≡ o → (front_closed answer x o).1 ≡ Ok (y, true) → length y.polls.polls < length x.polls.polls
    by None f e = not_made Running (length y.polls.polls < length x.polls.polls) x y _ refl e
    by (Some (number, votes)) f e =
        let left : length y.polls.polls ≡ length (unfinished x.polls.parameters x.polls.polls) = sym (at_ok (Running × Bool) (λ p. length (unfinished x.polls.parameters x.polls.polls) ≡ length p.0.polls.polls) _ (y, true) refl e) in
        let less : length (unfinished x.polls.parameters x.polls.polls) < length x.polls.polls = shorter x.polls.polls (number, votes) f in
        omega arith

-- ---- settling

-- no more waits than this
abbrev HasAtMost : ℕ → Running → Type 0
HasAtMost n node = left_to_do node ≤ n

module _ (answer : Answer) (n : ℕ) where
  gone_amount : (q : Lists) (ds : List Decision) → amount (all_gone q ds) ≡ amount q
  gone_amount q [] = refl
  gone_amount q (d ∷ ds) = gone_amount (after_gone q (record { id = d.id; parent = None })) ds

  filter_fewer : (A : Type 0) (t : A → Bool) (xs : List A) → length (filter t xs) ≤ length xs
  filter_fewer A t [] = omega arith
  filter_fewer A t (x ∷ xs) =
      let rest : length (filter t xs) ≤ length xs = filter_fewer A t xs in
      split_on (t x) (λ e. rw e (omega arith)) (λ e. rw e (omega arith))

  one_closed_keeps : (node : Running) → HasAtMost n node → AtOk (λ (p : Running × Bool). HasAtMost n p.0) (one_closed answer node).1
  one_closed_keeps node h = by (finished node.polls.parameters node.polls.polls)
    where
      by : (o : Option (ℕ × List Vote)) → AtOk (λ (p : Running × Bool). HasAtMost n p.0) (front_closed answer node o).1
      by None = h
      by (Some (number, votes)) =
          let queue = after_forgotten node.queue number in
          let same : amount (all_gone queue (poll node.board votes).1) ≡ amount queue = gone_amount queue (poll node.board votes).1 in
          let few : length queue.held ≤ length node.queue.held = filter_fewer Held (λ h. not (h.number == number)) node.queue.held in
          few_left (length node.queue.waiting) (length queue.held) (length node.queue.held) (amount (all_gone queue (poll node.board votes).1)) same few h
        where
          few_left : (w i j k : ℕ) → k ≡ w + i → i ≤ j → w + j ≤ n → k ≤ n
          few_left w i j k a b c = omega arith

  closed_keeps : (m : ℕ) (node : Running) → HasAtMost n node → AtOk (HasAtMost n) (again m (one_closed answer) node).1
  unfolding again
  closed_keeps zero node h = h
  closed_keeps (suc m) node h =
      at_then (Running × Bool) Running (λ p. HasAtMost n p.0) (HasAtMost n) (one_closed answer node).0 (one_closed answer node).1 (where_made (again m (one_closed answer)))
      (one_closed_keeps node h)
      (λ p h. where_keeps (λ x k. closed_keeps m x k) p h)
    where
      where_keeps : ((x : Running) → HasAtMost n x → AtOk (HasAtMost n) (again m (one_closed answer) x).1) → (p : Running × Bool) → HasAtMost n p.0
          → AtOk (HasAtMost n) (where_made (again m (one_closed answer)) p).1
      where_keeps rest (x, true) h = rest x h
      where_keeps rest (x, false) h = h

  asked_keeps : (id : List ℕ) (node : Running) → HasAtMost n node → AtOk (HasAtMost n) (asked_on_the_way answer id node).1
  asked_keeps id node h =
      split_on (is_preferred answer node.board id)
      (λ t. rw t (at_then (Running × Bool) Running (IsQueried node) (HasAtMost n) (queried answer node).0 (queried answer node).1 (λ sent. quietly sent.0)
      (query_leaves answer node)
      (λ p l. subst (λ (q : Lists). amount q ≤ n) (sym l.queue) h)))
      (λ t. rw t h)

  issued_keeps : (node : Running) (block : Header) (bytes : List ℕ) (state : Option (List ℕ)) → HasAtMost n node → AtOk (HasAtMost n) (issued_by answer node block bytes state).1
  issued_keeps node block bytes None h = h
  issued_keeps node block bytes (Some state) h = asked_keeps block.id (with_block node block bytes state) h

  placed_keeps : (node : Running) (block : Header) (bytes : List ℕ) (state : Option (List ℕ)) (o : Option DropWhy) → HasAtMost n node → AtOk (HasAtMost n) (placed_by answer node block bytes state o).1
  placed_keeps node block bytes state None h = issued_keeps node block bytes state h
  placed_keeps node block bytes state (Some why.Parent) h = h
  placed_keeps node block bytes state (Some why.Full) h = h
  placed_keeps node block bytes state (Some why.Invalid) h = h
  placed_keeps node block bytes state (Some why.Old) h = h

  done_keeps : (rules : Rules) (node : Running) (w : Work) → HasAtMost n node → AtOk (HasAtMost n) (done rules answer node w).1
  done_keeps rules node (work.Hopeless w) h = h
  done_keeps rules node (work.Ready w) h = placed_keeps node w.header w.bytes (next_on rules node.chain w.header.parent w.bytes) (opposed node.board w.header (height_of node.board w.header.parent)) h
  done_keeps rules node (work.Vote reply) h =
      let after = record node { polls = voted node.polls reply.number reply.node (bubbled node.queue node.board reply.id) } in
      closed_keeps (suc (running_polls after)) after h

-- what is left to do falls with each thing that is done
pub settling_falls : (rules : Rules) (answer : Answer) (x y : Running) → (one_settled rules answer x).1 ≡ Ok (y, true) → left_to_do y < left_to_do x
settling_falls rules answer x y e = by (work_of x.queue x.board) refl e
  where
    by : (o : Option Work) → work_of x.queue x.board ≡ o → (worked rules answer x o).1 ≡ Ok (y, true) → left_to_do y < left_to_do x
    by None f e = not_made Running (left_to_do y < left_to_do x) x y _ refl e
    by (Some w) f e =
        let node = record x { queue = after x.queue x.board (Some w) } in
        let n = left_to_do node in
        let less : n < left_to_do x = work_smaller x.queue x.board w f in
        let kept : left_to_do y ≤ n =
        at_ok (Running × Bool) (λ p. left_to_do p.0 ≤ n) (worked rules answer x (Some w)).1 (y, true)
        (at_then Running (Running × Bool) (HasAtMost n) (λ p. left_to_do p.0 ≤ n) (done rules answer node w).0 (done rules answer node w).1 (λ m. quietly (m, true))
        (done_keeps answer n rules node w (same n)) (λ m h. h)) e in
        omega arith
      where
        same : (k : ℕ) → k ≤ k
        same k = omega arith
