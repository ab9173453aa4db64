-- Lemmas on a node that runs between two events: nothing is to be done, and no closed poll stands in front.
use Rattle.std.proofs.Common.{◌≡◌, ℕ, ◌+◌, ◌==◌, Bool, true, false, nat_lt, List, ◌++◌, length, Option, Some, None, if◌then◌else◌, refl, sym, ap, ◌∙◌, subst}
use Rattle.snow_base.specs.Model.Numbers.{next_number}
use Rattle.snow_base.specs.declared.block.Header.{Header}
use Rattle.snow_flake.specs.Model.Parameters.{AreGood}
use Rattle.snow_flake.specs.Model.Rule.{Answer}
use Rattle.snow_sample.specs.declared.roster.Node.{Node as Member}
use Rattle.snow_sample.specs.declared.roster.RosterFault.{RosterFault}
use Rattle.snow_sample.specs.Model.Roster.{first_fault}
use Rattle.snow_board.specs.Model.Board.{Board}
use Rattle.snow_board.proofs.Cases.{split_on}
use Rattle.snow_chain.specs.Model.Chain.{Rules}
use Rattle.snow_wire.specs.declared.event.Event.{Event}
use Rattle.snow_wire.specs.declared.event.Event.TheVariants as event
use Rattle.snow_poll.specs.Model.Table.{Table, finished}
use Rattle.snow_issue.specs.declared.work.Offered.{Offered}
use Rattle.snow_issue.specs.declared.work.Offered.TheVariants as offer
use Rattle.snow_issue.specs.declared.work.Waiting.{Waiting}
use Rattle.snow_issue.specs.Model.Lists.{Lists, after_held}
use Rattle.snow_issue.specs.Model.Offering.{offered, wanted, after_offer}
use Rattle.snow_issue.specs.Model.Settling.{work_of}
use Rattle.snow_node.specs.Model.Outcome.{Comes, quietly, then_comes}
use Rattle.snow_node.specs.Model.Running.{Running}
use Rattle.snow_node.specs.Model.Querying.{repolled}
use Rattle.snow_node.specs.Model.Hearing.{fetched_if, taken_in, brought, is_other, read_as, asked_by, without_get, block_read, block_answers, block_came, waits_for, vote_held, vote_came, given_up_on, timed_out}
use Rattle.snow_node.specs.Model.Turning.{members, words_came, roster_came, rounded, runs_on}
use Rattle.snow_node.specs.Laws.RestLaw.{Runs, Began, Went, IsAtRest}
use Rattle.snow_node.proofs.Looping.{AtOk, at_then, at_ok}
use Rattle.snow_node.proofs.Calm.{IsCalm, IsStill, repolled_still, tallied_calm, with_queue, then_settled}

-- ---- what comes

-- a get that is opened
fetched_calm : (node : Running) (peer : List ℕ) (ask : Option (List ℕ)) → IsCalm node → AtOk IsCalm (fetched_if node peer ask).1
fetched_calm node peer None h = h
fetched_calm node peer (Some id) h = by (next_number node.last) refl
  where
    by : (o : Option ℕ) → next_number node.last ≡ o → AtOk IsCalm (fetched_if node peer (Some id)).1
    by None e = rw e tt
    by (Some number) e = rw e (record { right = record { good = h.right.good; same = h.right.same }; front = h.front })

-- a block that is offered
brought_calm : (node : Running) (w : Waiting) → IsCalm node → AtOk IsCalm (brought node w).1
brought_calm node w h = by (offered node.queue node.board w)
  where
    by : (o : Offered) → AtOk IsCalm (taken_in node w o).1
    by offer.Known = h
    by offer.Invalid = h
    by offer.Old = h
    by offer.Full = h
    by (offer.Waits ask) = fetched_calm (record node { queue = after_offer node.queue w (offer.Waits ask) }) w.node ask (with_queue node (after_offer node.queue w (offer.Waits ask)) h)

block_still : (rules : Rules) (answer : Answer) (node : Running) (frame : ℕ) (peer bytes : List ℕ) (asked : Option (List ℕ)) → IsCalm node
    → AtOk IsStill (block_read rules answer node frame peer bytes asked).1
block_still rules answer node frame peer bytes asked h = then_settled rules answer (read_as node frame peer bytes asked (rules.header_of bytes)) (by (rules.header_of bytes))
  where
    by : (o : Option Header) → AtOk IsCalm (read_as node frame peer bytes asked o).1
    by None = h
    by (Some block) = split_on (is_other asked block.id) (λ t. rw t h) (λ t. rw t (brought_calm node (record { node = peer; header = block; bytes = bytes }) h))

came_still : (rules : Rules) (answer : Answer) (node : Running) (frame : ℕ) (peer : List ℕ) (number : ℕ) (bytes : List ℕ) → IsStill node
    → AtOk IsStill (block_came rules answer node frame peer number bytes).1
came_still rules answer node frame peer number bytes h =
    split_on (number == 0)
    (λ t. rw t (block_still rules answer node frame peer bytes None h.calm))
    (λ t. rw t (by (asked_by node.queue number peer)))
  where
    by : (o : Option (List ℕ)) → AtOk IsStill (block_answers rules answer node frame peer number bytes o).1
    by None = h
    by (Some asked) = block_still rules answer (without_get node number peer) frame peer bytes (Some asked) (with_queue node (without_get node number peer).queue h.calm)

-- a reply
held_calm : (node : Running) (number : ℕ) (peer id : List ℕ) → IsCalm node → AtOk IsCalm (vote_held node number peer id).1
held_calm node number peer id h =
    let after = record node { queue = after_held node.queue (record { number = number; node = peer; id = id }) } in
    let calm : IsCalm after = with_queue node after.queue h in
    split_on (wanted after.queue after.board id)
    (λ t. rw t (fetched_calm after peer (Some id) calm))
    (λ t. rw t calm)

voted_still : (rules : Rules) (answer : Answer) (node : Running) (number : ℕ) (peer id : List ℕ) → IsStill node → AtOk IsStill (vote_came rules answer node number peer id).1
voted_still rules answer node number peer id h =
    split_on (waits_for node number peer)
    (λ t. rw t (then_settled rules answer (vote_held node number peer id) (held_calm node number peer id h.calm)))
    (λ t. rw t h)

-- a timeout
lapsed_still : (rules : Rules) (answer : Answer) (node : Running) (number : ℕ) (peer : List ℕ) → IsStill node → AtOk IsStill (timed_out rules answer node number peer).1
lapsed_still rules answer node number peer h =
    then_settled rules answer (given_up_on answer node number peer (asked_by node.queue number peer)) (by (asked_by node.queue number peer))
  where
    by : (o : Option (List ℕ)) → AtOk IsCalm (given_up_on answer node number peer o).1
    by (Some asked) = with_queue node (without_get node number peer).queue h.calm
    by None = split_on (waits_for node number peer) (λ t. rw t (tallied_calm answer node number peer None h.calm.right)) (λ t. rw t h.calm)

-- ---- the end of an event

-- what is no part of it changes nothing
same_still : (node other : Running) → other.board ≡ node.board → other.polls ≡ node.polls → other.queue ≡ node.queue → IsStill node → IsStill other
same_still node other b p q h = record {
  calm = record {
    right = record {
      good = subst (λ (t : Table). AreGood t.parameters) (sym p) h.calm.right.good;
      same = ap (λ (x : Board). x.parameters) b ∙ h.calm.right.same ∙ sym (ap (λ (t : Table). t.parameters) p);
    };
    front = ap (λ (t : Table). finished t.parameters t.polls) p ∙ h.calm.front;
  };
  idle = ap (λ (l : Lists). work_of l other.board) q ∙ ap (work_of node.queue) b ∙ h.idle;
}

rounded_still : (answer : Answer) (first : Comes Running) → AtOk IsStill first.1 → AtOk IsStill (then_comes first (rounded answer)).1
rounded_still answer first h = at_then Running Running IsStill IsStill first.0 first.1 (rounded answer) h each
  where
    each : (node : Running) → IsStill node → AtOk IsStill (rounded answer node).1
    each node k = by node.recorded
      where
        by : (recorded : Bool) → AtOk IsStill (if recorded then repolled answer (record node { recorded = false }) else quietly node).1
        by true = repolled_still answer (record node { recorded = false }) (same_still node (record node { recorded = false }) refl refl refl k)
        by false = k

words_still : (answer : Answer) (node : Running) (frame : ℕ) (words : List ℕ) → IsStill node → AtOk IsStill (words_came answer node frame words).1
words_still answer node frame words h =
    let after = record node { words = node.words ++ words } in
    let still : IsStill after = same_still node after refl refl refl h in
    split_on (nat_lt 65536 (length node.words + length words))
    (λ t. rw t h)
    (λ t. split_on (length node.polls.polls == 0)
    (λ s. rw (t, s) (repolled_still answer after still))
    (λ s. rw (t, s) still))

roster_still : (node : Running) (frame : ℕ) (roster : List Member) (o : Option RosterFault) → IsStill node → AtOk IsStill (roster_came node frame roster o).1
roster_still node frame roster (Some f) h = h
roster_still node frame roster None h = same_still node (record node { roster = roster }) refl refl refl h

-- every event that doesn't stop the node leaves it so
event_still : (rules : Rules) (answer : Answer) (node : Running) (frame : ℕ) (e : Event) → IsStill node → AtOk IsStill (runs_on rules answer node frame e).1
unfolding runs_on
event_still rules answer node frame (event.Start s) h = tt
event_still rules answer node frame (event.Block peer number bytes) h =
    rounded_still answer (block_came rules answer node frame peer number bytes) (came_still rules answer node frame peer number bytes h)
event_still rules answer node frame (event.Poll ids) h = h
event_still rules answer node frame (event.Words words) h = words_still answer node frame words h
event_still rules answer node frame (event.Chits peer number id) h =
    rounded_still answer (vote_came rules answer node number peer id) (voted_still rules answer node number peer id h)
event_still rules answer node frame (event.Timeout peer number) h =
    rounded_still answer (timed_out rules answer node number peer) (lapsed_still rules answer node number peer h)
event_still rules answer node frame (event.Frontier peer number id) h = h
event_still rules answer node frame (event.Accepted peer number ids) h = h
event_still rules answer node frame (event.Ancestors peer number blocks) h = h
event_still rules answer node frame (event.Validators nodes) h = roster_still node frame (members nodes) (first_fault (members nodes)) h
event_still rules answer node frame (event.Line text) h = h
event_still rules answer node frame (event.Stored bytes) h = h
event_still rules answer node frame (event.AskQuery peer number) h = h
event_still rules answer node frame (event.AskFrontier peer number) h = h
event_still rules answer node frame (event.AskAccepted peer number ids) h = h
event_still rules answer node frame (event.AskAncestors peer number id) h = h
event_still rules answer node frame (event.AskBlock peer number id) h = h

-- every node that can be reached is so
reached_still : (rules : Rules) (answer : Answer) (node : Running) → Runs rules answer node → IsStill node
reached_still rules answer node (Began p roster words drawn last height state good) =
    record { calm = record { right = record { good = good; same = refl }; front = refl }; idle = refl }
reached_still rules answer node (Went before frame e after runs is) =
    at_ok Running IsStill (runs_on rules answer before frame e).1 after (event_still rules answer before frame e (reached_still rules answer before runs)) is

-- ---- the law

-- a node that runs is at rest between two events
pub at_rest : (rules : Rules) (answer : Answer) (node : Running) → Runs rules answer node → IsAtRest node
at_rest rules answer node runs =
    let still = reached_still rules answer node runs in
    record { idle = still.idle; front = still.calm.front }
