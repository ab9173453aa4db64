-- What would be the first thing to do is done as it comes: a reply needn't be held, nor need a block wait.
use Rattle.std.proofs.Common.{◌≡◌, ℕ, Bool, true, false, cond, not, ◌&&◌, List, append-nil, Option, Some, None, is_some, Result, Ok, Err, if◌then◌else◌, refl, sym, ap, ap₂, ◌∙◌}
use Rattle.std.proofs.lemmas.Bool.{true≢false}
use Rattle.snow_base.specs.declared.block.Vote.{Vote}
use Rattle.snow_flake.specs.Model.Rule.{Answer}
use Rattle.snow_chain.specs.Model.Chain.{Rules}
use Rattle.snow_lines.specs.declared.line.Line.{Line}
use Rattle.snow_held.specs.declared.held.Held.{Held}
use Rattle.snow_issue.specs.declared.work.Waiting.{Waiting}
use Rattle.snow_issue.specs.declared.work.Work.{Work}
use Rattle.snow_issue.specs.declared.work.Work.TheVariants as work
use Rattle.snow_poll.specs.declared.polls.Answered.TheVariants.{Counted, NotAwaited}
use Rattle.snow_poll.specs.Model.Table.{Table, is_awaited, finished, voted, answer as answer_of}
use Rattle.snow_issue.specs.Model.Lists.{Lists, after_held, with_waiting}
use Rattle.snow_held.specs.Model.Replies.{holds_in}
use Rattle.snow_issue.specs.Model.Settling.{work_of, after, IsIdle}
use Rattle.snow_issue.proofs.Idle.{first_to_do, counts, next_to_do, next_parts, next_waits}
use Rattle.snow_node.specs.declared.stop.Halt.{Halt}
use Rattle.snow_node.specs.Model.Outcome.{Comes, quietly, after_lines, going_on, then_comes, where_made}
use Rattle.snow_node.specs.Model.Running.{Running}
use Rattle.snow_node.specs.Model.Closing.{with_vote, front_closed, one_closed, running_polls, closed_out, tallied}
use Rattle.snow_node.specs.Model.Settling.{placed, done, worked, carried_out, one_settled, left_to_do, settled}
use Rattle.snow_node.specs.Model.Hearing.{IsFirst, IsNext, asked_by, waits_for, fetched_unknown, vote_held, vote_counts, vote_came, counted_if_awaited, given_up_on, taken_in, brought, block_brings}
use Rattle.snow_node.proofs.Looping.{polls_fall, settling_falls}
use Rattle.snow_node.proofs.Made.{one_then}

-- the table of polls after a vote is that of the node after it
pub with_vote_is : (before node : Running) (polls : Table) (number : ℕ) (peer : List ℕ) (vote : Option (List ℕ)) → before ≡ node → polls ≡ voted before.polls number peer vote
    → record before { polls = polls } ≡ with_vote node number peer vote
with_vote_is before node polls number peer vote e is = ap (λ (t : Table). record before { polls = t }) is ∙ ap (λ (n : Running). with_vote n number peer vote) e

-- a step that was made, and then all that follow
made_then : (first : Comes Running) (next : Running → Comes Running)
    → then_comes (then_comes first (λ n. quietly (n, true))) (where_made next) ≡ then_comes first next
made_then first next = by first.0 first.1
  where
    by : (lines : List Line) (r : Result Running Halt) → then_comes (going_on lines r (λ n. quietly (n, true))) (where_made next) ≡ going_on lines r next
    by lines (Err s) = refl
    by lines (Ok x) = ap (λ (l : List Line). after_lines l (next x)) (append-nil lines)

-- what is first to do is done, and then all that follows is settled
first_done : (rules : Rules) (answer : Answer) (node : Running) (w : Work) (left : Lists) → work_of node.queue node.board ≡ Some w
    → after node.queue node.board (Some w) ≡ left
    → settled rules answer node ≡ then_comes (done rules answer (record node { queue = left }) w) (settled rules answer)
first_done rules answer node w left is rest =
    one_then Running left_to_do (one_settled rules answer) (settling_falls rules answer) node
    ∙ ap (λ (o : Option Work). then_comes (worked rules answer node o) (where_made (settled rules answer))) is
    ∙ ap (λ (q : Lists). then_comes (carried_out rules answer (record node { queue = q }) w) (where_made (settled rules answer))) rest
    ∙ made_then (done rules answer (record node { queue = left }) w) (settled rules answer)

-- to hold such a reply and to settle is to count it and to settle
counted_at_once : (rules : Rules) (answer : Answer) (node : Running) (number : ℕ) (peer id : List ℕ) (vote : Option (List ℕ)) → IsFirst node id vote
    → vote_counts rules answer node number peer id ≡ then_comes (tallied answer node number peer vote) (settled rules answer)
counted_at_once rules answer node number peer id vote first =
    let reply : Held = record { number = number; node = peer; id = id } in
    let holding : Running = record node { queue = after_held node.queue reply } in
    let parts = counts node.queue node.board id vote first.1 in
    let work_is = first_to_do node.queue node.board reply first.0 parts.0 in
    let known : vote_held node number peer id ≡ quietly holding = rw parts.1 refl in
    ap (λ (c : Comes Running). then_comes c (settled rules answer)) known
    ∙ first_done rules answer holding (work.Vote reply) node.queue work_is.0 work_is.1
    ∙ ap (λ (v : Option (List ℕ)). then_comes (tallied answer node number peer v) (settled rules answer)) parts.2

-- so it may be counted before it is asked whether it is awaited, unless a reply of the peer is held
came_at_once : (rules : Rules) (answer : Answer) (node : Running) (number : ℕ) (peer id : List ℕ) (vote : Option (List ℕ)) → IsFirst node id vote
    → holds_in node.queue.held number peer ≡ false
    → vote_came rules answer node number peer id ≡ counted_if_awaited rules answer node number peer vote
came_at_once rules answer node number peer id vote first free =
    ap (λ (h : Bool). cond (is_awaited node.polls.polls number peer && not h) (vote_counts rules answer node number peer id) (quietly node)) free
    ∙ by (is_awaited node.polls.polls number peer)
  where
    by : (b : Bool) → cond (b && not false) (vote_counts rules answer node number peer id) (quietly node)
        ≡ cond b (then_comes (tallied answer node number peer vote) (settled rules answer)) (quietly node)
    by true = counted_at_once rules answer node number peer id vote first
    by false = refl

-- a vote that was counted was awaited
was_counted : (rules : Rules) (answer : Answer) (node : Running) (number : ℕ) (peer : List ℕ) (vote : Option (List ℕ))
    → Counted ≡ answer_of node.polls.polls number peer
    → counted_if_awaited rules answer node number peer vote ≡ then_comes (tallied answer node number peer vote) (settled rules answer)
was_counted rules answer node number peer vote e = by (is_awaited node.polls.polls number peer) e
  where
    by : (b : Bool) → Counted ≡ cond b Counted NotAwaited
        → cond b (then_comes (tallied answer node number peer vote) (settled rules answer)) (quietly node) ≡ then_comes (tallied answer node number peer vote) (settled rules answer)
    by true e = refl
    by false e = absurd cc

-- so to count such a vote and to settle is all that a reply brings
pub counted_first : (rules : Rules) (answer : Answer) (node after : Running) (number : ℕ) (peer id : List ℕ) (vote : Option (List ℕ)) → IsFirst node id vote
    → holds_in node.queue.held number peer ≡ false → Counted ≡ answer_of node.polls.polls number peer → after ≡ with_vote node number peer vote
    → then_comes (closed_out answer after) (settled rules answer) ≡ vote_came rules answer node number peer id
counted_first rules answer node after number peer id vote first free e is =
    ap (λ (n : Running). then_comes (closed_out answer n) (settled rules answer)) is
    ∙ sym (came_at_once rules answer node number peer id vote first free ∙ was_counted rules answer node number peer vote e)

-- no poll is closed where it is answered so
pub open_front : {X : Type 0} (o : Option X) (b : Bool) → b ≡ is_some o → b ≡ false → o ≡ None
open_front None b e none = refl
open_front (Some x) b e none = absurd (true≢false (sym e ∙ none))

-- where no poll is closed and nothing is to be done, nothing comes of both
none_closed : (rules : Rules) (answer : Answer) (node : Running) → finished node.polls.parameters node.polls.polls ≡ None → IsIdle node.queue node.board
    → then_comes (closed_out answer node) (settled rules answer) ≡ quietly node
none_closed rules answer node none idle =
    let stays : closed_out answer node ≡ quietly node =
    one_then Running running_polls (one_closed answer) (polls_fall answer) node
    ∙ ap (λ (o : Option (ℕ × List Vote)). then_comes (front_closed answer node o) (where_made (closed_out answer))) none in
    let rests : settled rules answer node ≡ quietly node =
    one_then Running left_to_do (one_settled rules answer) (settling_falls rules answer) node
    ∙ ap (λ (o : Option Work). then_comes (worked rules answer node o) (where_made (settled rules answer))) idle in
    ap (λ (c : Comes Running). then_comes c (settled rules answer)) stays ∙ rests

-- so such a vote that closes no poll brings nothing but its count
pub counted_alone : (rules : Rules) (answer : Answer) (node after : Running) (number : ℕ) (peer id : List ℕ) (vote : Option (List ℕ)) → IsFirst node id vote
    → holds_in node.queue.held number peer ≡ false → Counted ≡ answer_of node.polls.polls number peer → after ≡ with_vote node number peer vote
    → finished after.polls.parameters after.polls.polls ≡ None → quietly after ≡ vote_came rules answer node number peer id
counted_alone rules answer node after number peer id vote first free e is none =
    let queue : after.queue ≡ node.queue = ap (λ (n : Running). n.queue) is in
    let board : after.board ≡ node.board = ap (λ (n : Running). n.board) is in
    sym (none_closed rules answer after none (ap₂ (λ q b. work_of q b) queue board ∙ first.0)) ∙ counted_first rules answer node after number peer id vote first free e is

-- a reply that is held was awaited, and none of its peer was held
pub held_first : (rules : Rules) (answer : Answer) (node after : Running) (queue : Lists) (number : ℕ) (peer id : List ℕ) (is_new : Bool) → is_awaited node.polls.polls number peer ≡ true
    → is_new ≡ true → is_new ≡ not (holds_in node.queue.held number peer)
    → queue ≡ (if is_new then after_held node.queue (record { number = number; node = peer; id = id }) else node.queue) → after ≡ record node { queue = queue }
    → then_comes (fetched_unknown after peer id) (settled rules answer) ≡ vote_came rules answer node number peer id
held_first rules answer node after queue number peer id false awaited new none q is = absurd cc
held_first rules answer node after queue number peer id true awaited new none q is =
    let waits : waits_for node number peer ≡ true = rw (awaited, sym none) refl in
    ap (λ (n : Running). then_comes (fetched_unknown n peer id) (settled rules answer)) (is ∙ ap (λ (l : Lists). record node { queue = l }) q)
    ∙ ap (λ (b : Bool). cond b (vote_counts rules answer node number peer id) (quietly node)) (sym waits)

-- a vote that a poll awaits is lost where no get is open for it and no reply of its peer is held
pub lost_if_awaited : (answer : Answer) (node after : Running) (number : ℕ) (peer : List ℕ) → asked_by node.queue number peer ≡ None → is_awaited node.polls.polls number peer ≡ true
    → holds_in node.queue.held number peer ≡ false → after ≡ with_vote node number peer None
    → closed_out answer after ≡ given_up_on answer node number peer (asked_by node.queue number peer)
lost_if_awaited answer node after number peer asked awaited free is =
    let waits : waits_for node number peer ≡ true = rw (awaited, free) refl in
    ap (closed_out answer) is
    ∙ ap (λ (b : Bool). cond b (tallied answer node number peer None) (quietly node)) (sym waits)
    ∙ ap (given_up_on answer node number peer) (sym asked)

-- to let such a block wait and to settle is to place it and to settle
pub placed_at_once : (rules : Rules) (answer : Answer) (node : Running) (w : Waiting) → IsNext node w.header
    → block_brings rules answer node w ≡ then_comes (placed rules answer node w.header w.bytes) (settled rules answer)
placed_at_once rules answer node w next =
    let waiting : Running = record node { queue = with_waiting node.queue w } in
    let parts = next_parts node.queue node.board w.header next.1 in
    let work_is = next_to_do node.queue node.board w next.0 parts.0 in
    let known : brought node w ≡ quietly waiting = ap (taken_in node w) (next_waits node.queue node.board w next.1) in
    ap (λ (c : Comes Running). then_comes c (settled rules answer)) known
    ∙ first_done rules answer waiting (work.Ready w) node.queue work_is.0 work_is.1
