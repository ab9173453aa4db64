-- Lemmas on what a node that runs does until nothing is to be done: queries, closing and settling leave no closed poll in front.
use Rattle.std.proofs.Common.{◌≡◌, ℕ, zero, suc, ◌<◌, Bool, true, false, cond, nat_le, List, length, Option, Some, None, Result, Ok, Err, refl, sym, ap, ◌∙◌, arith}
use Rattle.std.proofs.lemmas.Bool.{true≢false}
use Rattle.snow_base.specs.Model.Numbers.{next_number}
use Rattle.snow_base.specs.declared.block.Header.{Header}
use Rattle.snow_base.specs.declared.block.Vote.{Vote}
use Rattle.snow_flake.specs.Model.Parameters.{Parameters, AreGood}
use Rattle.snow_flake.specs.Model.Rule.{Answer}
use Rattle.snow_sample.specs.declared.draws.Draw.{Draw}
use Rattle.snow_sample.specs.declared.sampling.SampleFault.{SampleFault}
use Rattle.snow_sample.specs.declared.sampling.SampleFault.TheVariants as fault
use Rattle.snow_sample.specs.Model.Sampling.{sample_of}
use Rattle.snow_board.specs.Model.Board.{height_of}
use Rattle.snow_board.specs.Model.Preference.{is_preferred}
use Rattle.snow_board.proofs.Cases.{split_on}
use Rattle.snow_board.proofs.Polled.{poll_parameters}
use Rattle.snow_chain.specs.Model.Chain.{Rules, next_on}
use Rattle.snow_lines.specs.declared.why.DropWhy.{DropWhy}
use Rattle.snow_lines.specs.declared.why.DropWhy.TheVariants as why
use Rattle.snow_poll.specs.Model.Table.{finished}
use Rattle.snow_issue.specs.declared.work.Work.{Work}
use Rattle.snow_issue.specs.declared.work.Work.TheVariants as work
use Rattle.snow_issue.specs.Model.Bubbling.{bubbled}
use Rattle.snow_issue.specs.Model.Lists.{Lists}
use Rattle.snow_issue.specs.Model.Settling.{work_of, IsIdle}
use Rattle.snow_node.specs.declared.stop.Halt.{Halt}
use Rattle.snow_node.specs.Model.Outcome.{Comes, quietly, going_on, then_comes, where_made}
use Rattle.snow_node.specs.Model.Again.{again, all_made}
use Rattle.snow_node.specs.Model.Running.{Running}
use Rattle.snow_node.specs.Model.Placing.{opposed}
use Rattle.snow_node.specs.Model.Querying.{queried, sampled, lacks_polls, one_repolled, lacking, repolled}
use Rattle.snow_node.specs.Model.Closing.{front_closed, one_closed, running_polls, closed_out, with_vote, tallied}
use Rattle.snow_node.specs.Model.Settling.{with_block, issued_by, placed_by, done, worked, without_work, one_settled, left_to_do, settled, asked_on_the_way}
use Rattle.snow_node.proofs.Made.{Falls}
use Rattle.snow_node.proofs.Looping.{AtOk, at_then, at_ok, repolls_fall, polls_fall, settling_falls}
use Rattle.snow_node.proofs.Opening.{sample_counts, front_stays}

-- ---- a step that is made until there is none to make

module _ (T : Type 0) (size : T → ℕ) (step : T → Comes (T × Bool)) (falls : Falls T size step) (Before After : T → Type 0)
    (kept : (x y : T) (made : Bool) → Before x → (step x).1 ≡ Ok (y, made) → Before y)
    (ends : (x y : T) → Before x → (step x).1 ≡ Ok (y, false) → After y) where
  -- what each step keeps, and what holds where none is to be made, holds once all are made
  made_again : (n : ℕ) (x : T) → size x < n → Before x → AtOk (λ y. Before y × After y) (again n step x).1
  unfolding again
  made_again zero x few h = absurd (omega arith)
  made_again (suc n) x few h = by (λ y less k. made_again n y less k) (step x).1 refl
    where
      below : (i j : ℕ) → i < j → j < suc n → i < n
      below i j p q = omega arith

      by : ((y : T) → size y < n → Before y → AtOk (λ y. Before y × After y) (again n step y).1) → (r : Result (T × Bool) Halt) → (step x).1 ≡ r
          → AtOk (λ y. Before y × After y) (going_on (step x).0 r (where_made (again n step))).1
      by rest (Err s) e = tt
      by rest (Ok (y, true)) e = rest y (below (size y) (size x) (falls x y e) few) (kept x y true h e)
      by rest (Ok (y, false)) e = (kept x y false h e, ends x y h e)

  made : (x : T) → Before x → AtOk (λ y. Before y × After y) (all_made size step x).1
  made x h = made_again (suc (size x)) x (omega arith) h

-- the same once more is known of what comes
at_more : (T : Type 0) (P Q : T → Type 0) (r : Result T Halt) → ((x : T) → P x → Q x) → AtOk P r → AtOk Q r
at_more T P Q (Ok x) up h = up x h
at_more T P Q (Err s) up h = tt

-- whatever comes
some_ok : (r : Result Running Halt) → AtOk (λ n. Unit {0}) r
some_ok (Ok n) = tt
some_ok (Err s) = tt

-- ---- what is kept

-- no closed poll stands in front
abbrev pub IsOpen : Running → Type 0
IsOpen node = finished node.polls.parameters node.polls.polls ≡ None

-- nothing is to be done
abbrev pub Idles : Running → Type 0
Idles node = IsIdle node.queue node.board

-- the parameters are good, and the same of board and polls
pub record IsRight (node : Running) : Type 0 where
  pub good : AreGood node.polls.parameters
  pub same : node.board.parameters ≡ node.polls.parameters

-- and no closed poll stands in front
pub record IsCalm (node : Running) : Type 0 where
  pub right : IsRight node
  pub front : finished node.polls.parameters node.polls.polls ≡ None

-- and nothing is to be done
pub record IsStill (node : Running) : Type 0 where
  pub calm : IsCalm node
  pub idle : IsIdle node.queue node.board

-- ---- queries

-- a query leaves board and queue, and no closed poll in front
record IsAsked (before : Running) (after : Running × Bool) : Type 0 where
  pub calm : IsCalm after.0
  pub queue : after.0.queue ≡ before.queue
  pub board : after.0.board ≡ before.board

query_calm : (answer : Answer) (node : Running) → IsCalm node → AtOk (IsAsked node) (queried answer node).1
query_calm answer node h =
    split_on (nat_le 1024 (length node.polls.polls))
    (λ t. rw t (record { calm = h; queue = refl; board = refl }))
    (λ t. rw t (by_sample (sample_of node.roster node.board.parameters.k node.words) refl))
  where
    by_number : (draws : List Draw) (left : List ℕ) (o : Option ℕ) → next_number node.last ≡ o → sample_of node.roster node.board.parameters.k node.words ≡ Ok (draws, left)
        → AtOk (IsAsked node) (sampled answer node (Ok (draws, left))).1
    by_number draws left None n e = rw n tt
    by_number draws left (Some number) n e =
        let p = node.polls.parameters in
        let count = sample_counts node.roster node.board.parameters.k node.words draws left e ∙ ap (λ (x : Parameters). x.k) h.right.same in
        rw n (record {
          calm = record {
            right = record { good = h.right.good; same = h.right.same };
            front = front_stays p node.polls.polls number draws h.right.good count h.front;
          };
          queue = refl;
          board = refl;
        })

    by_sample : (sample : Result (List Draw × List ℕ) SampleFault) → sample_of node.roster node.board.parameters.k node.words ≡ sample → AtOk (IsAsked node) (sampled answer node sample).1
    by_sample (Err (fault.TooFewUnits total)) e = record { calm = h; queue = refl; board = refl }
    by_sample (Err fault.WordsOut) e = record { calm = record { right = record { good = h.right.good; same = h.right.same }; front = h.front }; queue = refl; board = refl }
    by_sample (Err fault.Memory) e = tt
    by_sample (Ok (draws, left)) e = by_number draws left (next_number node.last) refl e

-- so it leaves nothing to do
asked_still : (before : Running) (after : Running × Bool) → IsStill before → IsAsked before after → IsStill after.0
asked_still before after h asked = record {
  calm = asked.calm;
  idle = ap (λ (q : Lists). work_of q after.0.board) asked.queue ∙ ap (work_of before.queue) asked.board ∙ h.idle;
}

-- and neither do repolls
pub repolled_still : (answer : Answer) (node : Running) → IsStill node → AtOk IsStill (repolled answer node).1
repolled_still answer node h =
    at_more Running (λ n. IsStill n × Unit {0}) IsStill (repolled answer node).1 (λ n k. k.0)
    (made Running lacking (one_repolled answer) (repolls_fall answer) IsStill (λ n. Unit {0}) kept (λ x y k e. tt) node h)
  where
    kept : (x y : Running) (sent : Bool) → IsStill x → (one_repolled answer x).1 ≡ Ok (y, sent) → IsStill y
    kept x y sent k e = by (lacks_polls x) e
      where
        by : (b : Bool) → (cond b (queried answer x) (quietly (x, false))).1 ≡ Ok (y, sent) → IsStill y
        by true e = asked_still x (y, sent) k (at_ok (Running × Bool) (IsAsked x) (queried answer x).1 (y, sent) (query_calm answer x k.calm) e)
        by false e = at_ok (Running × Bool) (λ r. IsStill r.0) (quietly (x, false)).1 (y, sent) k e

-- ---- polls that are closed

-- once all that are closed have left, none stands in front
closed_calm : (answer : Answer) (node : Running) → IsRight node → AtOk IsCalm (closed_out answer node).1
closed_calm answer node h =
    at_more Running (λ n. IsRight n × IsOpen n) IsCalm (closed_out answer node).1 (λ n k. record { right = k.0; front = k.1 })
    (made Running running_polls (one_closed answer) (polls_fall answer) IsRight IsOpen kept ends node h)
  where
    kept : (x y : Running) (left : Bool) → IsRight x → (one_closed answer x).1 ≡ Ok (y, left) → IsRight y
    kept x y left k e = by (finished x.polls.parameters x.polls.polls) e
      where
        by : (o : Option (ℕ × List Vote)) → (front_closed answer x o).1 ≡ Ok (y, left) → IsRight y
        by None e = at_ok (Running × Bool) (λ r. IsRight r.0) (quietly (x, false)).1 (y, left) k e
        by (Some (number, votes)) e =
            at_ok (Running × Bool) (λ r. IsRight r.0) (front_closed answer x (Some (number, votes))).1 (y, left)
            (record { good = k.good; same = poll_parameters x.board votes ∙ k.same }) e

    ends : (x y : Running) → IsRight x → (one_closed answer x).1 ≡ Ok (y, false) → IsOpen y
    ends x y k e = by (finished x.polls.parameters x.polls.polls) refl e
      where
        by : (o : Option (ℕ × List Vote)) → finished x.polls.parameters x.polls.polls ≡ o → (front_closed answer x o).1 ≡ Ok (y, false) → IsOpen y
        by None f e = at_ok (Running × Bool) (λ r. IsOpen r.0) (quietly (x, false)).1 (y, false) f e
        by (Some (number, votes)) f e =
            absurd (true≢false (sym (at_ok (Running × Bool) (λ r. r.1 ≡ true) (front_closed answer x (Some (number, votes))).1 (y, false) refl e)))

-- so once a vote was counted
pub tallied_calm : (answer : Answer) (node : Running) (number : ℕ) (peer : List ℕ) (vote : Option (List ℕ)) → IsRight node → AtOk IsCalm (tallied answer node number peer vote).1
tallied_calm answer node number peer vote h = closed_calm answer (with_vote node number peer vote) (record { good = h.good; same = h.same })

-- ---- settling

-- another queue
pub with_queue : (node : Running) (queue : Lists) → IsCalm node → IsCalm (record node { queue = queue })
with_queue node queue h = record { right = record { good = h.right.good; same = h.right.same }; front = h.front }

-- a query on the way to the preference
asked_calm : (answer : Answer) (id : List ℕ) (node : Running) → IsCalm node → AtOk IsCalm (asked_on_the_way answer id node).1
asked_calm answer id node h =
    split_on (is_preferred answer node.board id)
    (λ t. rw t (at_then (Running × Bool) Running (IsAsked node) IsCalm (queried answer node).0 (queried answer node).1 (λ sent. quietly sent.0) (query_calm answer node h) (λ r k. k.calm)))
    (λ t. rw t h)

issued_calm : (answer : Answer) (node : Running) (block : Header) (bytes : List ℕ) (state : Option (List ℕ)) → IsCalm node → AtOk IsCalm (issued_by answer node block bytes state).1
issued_calm answer node block bytes None h = record { right = record { good = h.right.good; same = h.right.same }; front = h.front }
issued_calm answer node block bytes (Some state) h =
    asked_calm answer block.id (with_block node block bytes state) (record { right = record { good = h.right.good; same = h.right.same }; front = h.front })

placed_calm : (answer : Answer) (node : Running) (block : Header) (bytes : List ℕ) (state : Option (List ℕ)) (o : Option DropWhy) → IsCalm node → AtOk IsCalm (placed_by answer node block bytes state o).1
placed_calm answer node block bytes state None h = issued_calm answer node block bytes state h
placed_calm answer node block bytes state (Some why.Parent) h = h
placed_calm answer node block bytes state (Some why.Full) h = h
placed_calm answer node block bytes state (Some why.Invalid) h = record { right = record { good = h.right.good; same = h.right.same }; front = h.front }
placed_calm answer node block bytes state (Some why.Old) h = h

-- what was taken out of the queue leaves no closed poll in front
done_calm : (rules : Rules) (answer : Answer) (node : Running) (w : Work) → IsCalm node → AtOk IsCalm (done rules answer node w).1
done_calm rules answer node (work.Hopeless w) h = h
done_calm rules answer node (work.Ready w) h =
    placed_calm answer node w.header w.bytes (next_on rules node.chain w.header.parent w.bytes) (opposed node.board w.header (height_of node.board w.header.parent)) h
done_calm rules answer node (work.Vote reply) h = tallied_calm answer node reply.number reply.node (bubbled node.queue node.board reply.id) h.right

-- once all is settled nothing is to be done
settled_still : (rules : Rules) (answer : Answer) (node : Running) → IsCalm node → AtOk IsStill (settled rules answer node).1
settled_still rules answer node h =
    at_more Running (λ n. IsCalm n × Idles n) IsStill (settled rules answer node).1 (λ n k. record { calm = k.0; idle = k.1 })
    (made Running left_to_do (one_settled rules answer) (settling_falls rules answer) IsCalm Idles kept ends node h)
  where
    kept : (x y : Running) (some : Bool) → IsCalm x → (one_settled rules answer x).1 ≡ Ok (y, some) → IsCalm y
    kept x y some k e = by (work_of x.queue x.board) e
      where
        by : (o : Option Work) → (worked rules answer x o).1 ≡ Ok (y, some) → IsCalm y
        by None e = at_ok (Running × Bool) (λ r. IsCalm r.0) (quietly (x, false)).1 (y, some) k e
        by (Some w) e =
            let taken = without_work x (Some w) in
            at_ok (Running × Bool) (λ r. IsCalm r.0) (worked rules answer x (Some w)).1 (y, some)
            (at_then Running (Running × Bool) IsCalm (λ r. IsCalm r.0) (done rules answer taken w).0 (done rules answer taken w).1 (λ n. quietly (n, true))
            (done_calm rules answer taken w (with_queue x taken.queue k)) (λ n c. c)) e

    ends : (x y : Running) → IsCalm x → (one_settled rules answer x).1 ≡ Ok (y, false) → Idles y
    ends x y k e = by (work_of x.queue x.board) refl e
      where
        by : (o : Option Work) → work_of x.queue x.board ≡ o → (worked rules answer x o).1 ≡ Ok (y, false) → Idles y
        by None f e = at_ok (Running × Bool) (λ r. Idles r.0) (quietly (x, false)).1 (y, false) f e
        by (Some w) f e =
            let taken = without_work x (Some w) in
            absurd (true≢false (sym (at_ok (Running × Bool) (λ r. r.1 ≡ true) (worked rules answer x (Some w)).1 (y, false)
            (at_then Running (Running × Bool) (λ n. Unit {0}) (λ r. r.1 ≡ true) (done rules answer taken w).0 (done rules answer taken w).1 (λ n. quietly (n, true))
            (some_ok (done rules answer taken w).1) (λ n u. refl)) e)))

-- what came leaves no closed poll in front, and then all is settled
pub then_settled : (rules : Rules) (answer : Answer) (first : Comes Running) → AtOk IsCalm first.1 → AtOk IsStill (then_comes first (settled rules answer)).1
then_settled rules answer first h = at_then Running Running IsCalm IsStill first.0 first.1 (settled rules answer) h (settled_still rules answer)
