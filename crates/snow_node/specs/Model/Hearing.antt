-- What blocks, votes and timeouts do to a node that runs.
use Rattle.std.specs.Prelude.{◌≡◌, ℕ, Bool, true, false, not, ◌&&◌, ◌==◌, List, find, Option, Some, None, bytes_eq, if◌then◌else◌}
use Rattle.std.specs.Option.{option_map}
use Rattle.snow_base.specs.declared.block.Header.{Header}
use Rattle.snow_flake.specs.Model.Rule.{Answer}
use Rattle.snow_chain.specs.Model.Chain.{Rules}
use Rattle.snow_lines.specs.declared.line.Line.TheVariants as line
use Rattle.snow_lines.specs.declared.why.DropWhy.TheVariants as why
use Rattle.snow_lines.specs.declared.why.SkipKind.TheVariants as kind
use Rattle.snow_poll.specs.Model.Table.{is_awaited}
use Rattle.snow_issue.specs.declared.work.Waiting.{Waiting}
use Rattle.snow_issue.specs.declared.work.Offered.{Offered}
use Rattle.snow_issue.specs.declared.work.Offered.TheVariants as answer
use Rattle.snow_gets.specs.Model.Gets.{is_get}
use Rattle.snow_issue.specs.Model.Lists.{Lists, after_asked, after_closed, after_held}
use Rattle.snow_held.specs.Model.Replies.{holds_in}
use Rattle.snow_issue.specs.Model.Offering.{offered, after_offer, is_next, wanted}
use Rattle.snow_issue.specs.Model.Bubbling.{vote_at_once}
use Rattle.snow_issue.specs.Model.Settling.{IsIdle}
use Rattle.snow_node.specs.Model.Outcome.{Comes, quietly, with_line, then_comes}
use Rattle.snow_node.specs.Model.Running.{Running, numbered}
use Rattle.snow_node.specs.Model.Closing.{tallied}
use Rattle.snow_node.specs.Model.Settling.{settled}

-- ---- blocks are asked for

-- a peer is asked for a block
abbrev pub fetched : List ℕ → List ℕ → Running → ℕ → Comes Running
fetched peer id node number = with_line (line.Get number peer id) (record node { queue = after_asked node.queue (record { number = number; node = peer; id = id }) })

-- a peer is asked for a block, if any is wanted
abbrev pub fetched_if : Running → List ℕ → Option (List ℕ) → Comes Running
fetched_if node peer None = quietly node
fetched_if node peer (Some id) = numbered node (fetched peer id)

-- ---- a block came

-- the queue's answer to a block
abbrev pub taken_in : Running → Waiting → Offered → Comes Running
taken_in node w answer.Known = quietly node
taken_in node w answer.Invalid = with_line (line.Drop w.header.id why.Invalid) node
taken_in node w answer.Old = with_line (line.Drop w.header.id why.Old) node
taken_in node w answer.Full = with_line (line.Drop w.header.id why.Full) node
taken_in node w (answer.Waits ask) = fetched_if (record node { queue = after_offer node.queue w (answer.Waits ask) }) w.node ask

abbrev pub brought : Running → Waiting → Comes Running
brought node w = taken_in node w (offered node.queue node.board w)

-- a block is offered, and all that it brings is done
abbrev pub block_brings : Rules → Answer → Running → Waiting → Comes Running
block_brings rules answer node w = then_comes (brought node w) (settled rules answer)

-- a block that comes would be the first thing to do, and it is ready
abbrev pub IsNext : Running → Header → Type 0
IsNext node block = IsIdle node.queue node.board × (is_next node.queue node.board block ≡ true)

-- whether a block is another than the one that was asked for
abbrev pub is_other : Option (List ℕ) → List ℕ → Bool
is_other None id = false
is_other (Some asked) id = not (bytes_eq asked id)

-- what the bytes that came say, where this block was asked for
abbrev pub read_as : Running → ℕ → List ℕ → List ℕ → Option (List ℕ) → Option Header → Comes Running
read_as node frame peer bytes asked None = with_line (line.Skip frame kind.Block) node
read_as node frame peer bytes asked (Some block) =
    if is_other asked block.id then quietly node else brought node (record { node = peer; header = block; bytes = bytes })

abbrev pub block_read : Rules → Answer → Running → ℕ → List ℕ → List ℕ → Option (List ℕ) → Comes Running
block_read rules answer node frame peer bytes asked =
    then_comes (read_as node frame peer bytes asked (rules.header_of bytes)) (settled rules answer)

-- the block that an open get asks for
abbrev pub asked_by : Lists → ℕ → List ℕ → Option (List ℕ)
asked_by queue number peer = option_map (λ g. g.id) (find (is_get number peer) queue.gets)

-- a get is closed
abbrev pub without_get : Running → ℕ → List ℕ → Running
without_get node number peer = record node { queue = after_closed node.queue number peer }

-- the answer to a get; one that no get awaits is passed over
abbrev pub block_answers : Rules → Answer → Running → ℕ → List ℕ → ℕ → List ℕ → Option (List ℕ) → Comes Running
block_answers rules answer node frame peer number bytes None = quietly node
block_answers rules answer node frame peer number bytes (Some asked) =
    block_read rules answer (without_get node number peer) frame peer bytes (Some asked)

-- a block of no request, or the answer to a get
abbrev pub block_came : Rules → Answer → Running → ℕ → List ℕ → ℕ → List ℕ → Comes Running
block_came rules answer node frame peer number bytes =
    if number == 0 then block_read rules answer node frame peer bytes None
    else block_answers rules answer node frame peer number bytes (asked_by node.queue number peer)

-- ---- a vote came, or none will come

-- whether a poll awaits a peer of which it holds no reply yet
abbrev pub waits_for : Running → ℕ → List ℕ → Bool
waits_for node number peer = is_awaited node.polls.polls number peer && not (holds_in node.queue.held number peer)

-- a peer is asked for a block, if nothing is known of it
abbrev pub fetched_unknown : Running → List ℕ → List ℕ → Comes Running
fetched_unknown node peer id = if wanted node.queue node.board id then numbered node (fetched peer id) else quietly node

-- a reply is held, and its block asked for where it is unknown
abbrev pub vote_held : Running → ℕ → List ℕ → List ℕ → Comes Running
vote_held node number peer id =
    fetched_unknown (record node { queue = after_held node.queue (record { number = number; node = peer; id = id }) }) peer id

abbrev pub vote_counts : Rules → Answer → Running → ℕ → List ℕ → List ℕ → Comes Running
vote_counts rules answer node number peer id = then_comes (vote_held node number peer id) (settled rules answer)

abbrev pub vote_came : Rules → Answer → Running → ℕ → List ℕ → List ℕ → Comes Running
vote_came rules answer node number peer id = if waits_for node number peer then vote_counts rules answer node number peer id else quietly node

-- a reply that names this block would be the first thing to do, and gives this vote
abbrev pub IsFirst : Running → List ℕ → Option (List ℕ) → Type 0
IsFirst node id vote = IsIdle node.queue node.board × (vote_at_once node.queue node.board id ≡ Some vote)

-- a vote is counted where it is awaited, and all that it brings is done
abbrev pub counted_if_awaited : Rules → Answer → Running → ℕ → List ℕ → Option (List ℕ) → Comes Running
counted_if_awaited rules answer node number peer vote =
    if is_awaited node.polls.polls number peer then then_comes (tallied answer node number peer vote) (settled rules answer) else quietly node

-- a peer gives no vote, and closed polls leave
abbrev pub vote_lost : Answer → Running → ℕ → List ℕ → Comes Running
vote_lost answer node number peer =
    if waits_for node number peer then tallied answer node number peer None else quietly node

-- a get is closed, or a vote lost
abbrev pub given_up_on : Answer → Running → ℕ → List ℕ → Option (List ℕ) → Comes Running
given_up_on answer node number peer (Some asked) = quietly (without_get node number peer)
given_up_on answer node number peer None = vote_lost answer node number peer

abbrev pub timed_out : Rules → Answer → Running → ℕ → List ℕ → Comes Running
timed_out rules answer node number peer =
    then_comes (given_up_on answer node number peer (asked_by node.queue number peer)) (settled rules answer)
