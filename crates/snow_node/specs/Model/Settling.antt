-- Settling: blocks that wait are given up or issued, and held replies vote, until nothing is left to do.
use Rattle.std.specs.Prelude.{ℕ, ◌+◌, Bool, true, false, List, [], length, Option, Some, None, if◌then◌else◌}
use Rattle.snow_base.specs.declared.block.Header.{Header}
use Rattle.snow_flake.specs.Model.Rule.{Answer}
use Rattle.snow_board.specs.Model.Board.{height_of, issued}
use Rattle.snow_board.specs.Model.Preference.{is_preferred}
use Rattle.snow_chain.specs.Model.Chain.{Rules, next_on, with_state}
use Rattle.snow_lines.specs.declared.line.Line.TheVariants as line
use Rattle.snow_lines.specs.declared.why.DropWhy.{DropWhy}
use Rattle.snow_lines.specs.declared.why.DropWhy.TheVariants as why
use Rattle.snow_issue.specs.declared.work.Work.{Work}
use Rattle.snow_issue.specs.declared.work.Work.TheVariants as work
use Rattle.snow_issue.specs.declared.work.Waiting.{Waiting}
use Rattle.snow_held.specs.declared.held.Held.{Held}
use Rattle.snow_issue.specs.Model.Lists.{after_gone}
use Rattle.snow_issue.specs.Model.Settling.{work_of, after}
use Rattle.snow_issue.specs.Model.Bubbling.{bubbled}
use Rattle.snow_node.specs.Model.Outcome.{Comes, quietly, with_line, after_lines, then_comes}
use Rattle.snow_node.specs.Model.Again.{all_made}
use Rattle.snow_node.specs.Model.Supplying.{with_issued}
use Rattle.snow_node.specs.Model.Telling.{told}
use Rattle.snow_node.specs.Model.Placing.{opposed}
use Rattle.snow_node.specs.Model.Running.{Running}
use Rattle.snow_node.specs.Model.Querying.{queried}
use Rattle.snow_node.specs.Model.Closing.{tallied}

-- ---- a block whose parent is on the board

-- an invalid block is gone, with its parent
abbrev pub refused : Running → Header → Comes Running
refused node block = with_line (line.Drop block.id why.Invalid) (record node { queue = after_gone node.queue (record { id = block.id; parent = Some block.parent }) })

-- a block is given up
abbrev pub given_up : Running → Header → DropWhy → Comes Running
given_up node block why.Invalid = refused node block
given_up node block other = with_line (line.Drop block.id other) node

-- a block that was issued is asked about where it is on the way to the preference, whether the query is sent or not
abbrev pub asked_on_the_way : Answer → List ℕ → Running → Comes Running
asked_on_the_way answer id node =
    if is_preferred answer node.board id then then_comes (queried answer node) (λ sent. quietly sent.0) else quietly node

-- a node with this block on its board, which it serves from now on
abbrev pub with_block : Running → Header → List ℕ → List ℕ → Running
with_block node block bytes state = record node {
  board = issued node.board block;
  chain = with_state node.chain block.id state;
  served = with_issued node.served block bytes;
}

-- a block is issued with its state; one that has none is invalid
abbrev pub issued_by : Answer → Running → Header → List ℕ → Option (List ℕ) → Comes Running
issued_by answer node block bytes None = refused node block
issued_by answer node block bytes (Some state) =
    let after = with_block node block bytes state in
    after_lines (told answer node.board (after.board, [])) (asked_on_the_way answer block.id after)

-- a block is issued, unless something stands against it
abbrev pub placed_by : Answer → Running → Header → List ℕ → Option (List ℕ) → Option DropWhy → Comes Running
placed_by answer node block bytes state (Some why) = given_up node block why
placed_by answer node block bytes state None = issued_by answer node block bytes state

-- the same, by what the chain and the board say of it
abbrev pub placed : Rules → Answer → Running → Header → List ℕ → Comes Running
placed rules answer node block bytes =
    placed_by answer node block bytes (next_on rules node.chain block.parent bytes) (opposed node.board block (height_of node.board block.parent))

abbrev pub readied : Rules → Answer → Running → Waiting → Comes Running
readied rules answer node w = placed rules answer node w.header w.bytes

-- ---- the steps of settling

-- a held reply votes for what its block stands for, and closed polls leave
abbrev pub heard : Answer → Running → Held → Comes Running
heard answer node reply = tallied answer node reply.number reply.node (bubbled node.queue node.board reply.id)

-- what was taken out of the queue is done
abbrev pub done : Rules → Answer → Running → Work → Comes Running
done rules answer node (work.Hopeless w) = with_line (line.Drop w.header.id why.Parent) node
done rules answer node (work.Ready w) = readied rules answer node w
done rules answer node (work.Vote reply) = heard answer node reply

-- it was done, as there was something
abbrev pub carried_out : Rules → Answer → Running → Work → Comes (Running × Bool)
carried_out rules answer node w = then_comes (done rules answer node w) (λ n. quietly (n, true))

-- it was taken out of the queue, if there is any
abbrev pub without_work : Running → Option Work → Running
without_work node work = record node { queue = after node.queue node.board work }

-- the first thing that there is to do is done, and whether there was any
abbrev pub worked : Rules → Answer → Running → Option Work → Comes (Running × Bool)
worked rules answer node None = quietly (node, false)
worked rules answer node (Some w) = carried_out rules answer (without_work node (Some w)) w

abbrev pub one_settled : Rules → Answer → Running → Comes (Running × Bool)
one_settled rules answer node = worked rules answer node (work_of node.queue node.board)

-- how much may be left to do
abbrev pub left_to_do : Running → ℕ
left_to_do node = length node.queue.waiting + length node.queue.held

abbrev pub settled : Rules → Answer → Running → Comes Running
settled rules answer node = all_made left_to_do (one_settled rules answer) node
