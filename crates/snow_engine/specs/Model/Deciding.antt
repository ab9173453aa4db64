-- A node that decides: what one event makes of it.
use Rattle.std.specs.Prelude.{ℕ, List, [], length, fold, Option, Some, None, Ok, nat_lt, if◌then◌else◌}
use Rattle.snow_base.specs.declared.block.Header.{Header}
use Rattle.snow_base.specs.declared.block.Vote.{Vote}
use Rattle.snow_base.specs.Model.Votes.{added}
use Rattle.snow_flake.specs.Model.Rule.{Answer}
use Rattle.snow_board.specs.declared.board.Decision.{Decision}
use Rattle.snow_board.specs.Model.Board.{Board, height_of, issued}
use Rattle.snow_board.specs.Model.Poll.{poll}
use Rattle.snow_chain.specs.Model.Chain.{Rules, Held, next_on, with_state}
use Rattle.snow_wire.specs.declared.event.Event.{Event}
use Rattle.snow_wire.specs.declared.event.Event.TheVariants as event
use Rattle.snow_lines.specs.declared.line.Line.TheVariants as line
use Rattle.snow_lines.specs.declared.why.DropWhy.{DropWhy}
use Rattle.snow_lines.specs.declared.why.DropWhy.TheVariants as why
use Rattle.snow_lines.specs.declared.why.SkipKind.TheVariants as kind
use Rattle.snow_node.specs.declared.stop.Halt.TheVariants as halt
use Rattle.snow_node.specs.Model.Outcome.{Comes, quietly, with_line, stops}
use Rattle.snow_node.specs.Model.Telling.{told, with_decisions}
use Rattle.snow_node.specs.Model.Placing.{opposed}

-- the board, and what the chain holds
pub record Deciding : Type 0 where
  pub board : Board
  pub chain : Held

-- the board came to another one, with its decisions, and the chain holds this
abbrev pub moved : Answer → Deciding → Board × List Decision → Held → Comes Deciding
moved answer node after held = (told answer node.board after, Ok (record { board = after.0; chain = held }))

-- ---- blocks

-- a block is issued with its state; one that has none is invalid
abbrev pub issued_with : Answer → Deciding → Header → Option (List ℕ) → Comes Deciding
issued_with answer node block None = with_line (line.Drop block.id why.Invalid) node
issued_with answer node block (Some state) = moved answer node (issued node.board block, []) (with_state node.chain block.id state)

-- a block is issued, unless something stands against it
abbrev pub placed : Answer → Deciding → Header → Option (List ℕ) → Option DropWhy → Comes Deciding
placed answer node block state (Some why) = with_line (line.Drop block.id why) node
placed answer node block state None = issued_with answer node block state

-- a block that isn't on the board is placed above its parent; one that is changes nothing
abbrev pub offered : Answer → Deciding → Header → Option (List ℕ) → Option ℕ → Comes Deciding
offered answer node block state None = placed answer node block state (opposed node.board block (height_of node.board block.parent))
offered answer node block state (Some height) = quietly node

-- a block's bytes came
abbrev pub received : Rules → Answer → Deciding → ℕ → List ℕ → Option Header → Comes Deciding
received rules answer node frame bytes None = with_line (line.Skip frame kind.Block) node
received rules answer node frame bytes (Some block) =
    offered answer node block (next_on rules node.chain block.parent bytes) (height_of node.board block.id)

-- ---- polls

-- one vote for each of these identifiers, in bit order
abbrev pub votes_for : List (List ℕ) → List Vote
votes_for ids = fold (λ votes id. added votes id 1) [] ids

-- a poll was recorded, and the chain told its decisions
abbrev pub polled : Answer → Deciding → Board × List Decision → Comes Deciding
polled answer node after = moved answer node after (with_decisions node.chain after.1)

-- a poll with one vote for each of these identifiers came
abbrev pub recorded : Answer → Deciding → ℕ → List (List ℕ) → Comes Deciding
recorded answer node frame ids =
    if nat_lt node.board.parameters.k (length ids) then with_line (line.Skip frame kind.Votes) node
    else polled answer node (poll node.board (votes_for ids))

-- ---- the step

-- a node that decides takes blocks and polls; a second Start stops it, and every other event is passed over
unfoldable pub decides_on : Rules → Answer → Deciding → ℕ → Event → Comes Deciding
decides_on rules answer node frame (event.Start s) = stops halt.SecondStart
decides_on rules answer node frame (event.Block from request bytes) = received rules answer node frame bytes (rules.header_of bytes)
decides_on rules answer node frame (event.Poll ids) = recorded answer node frame ids
decides_on rules answer node frame _ = with_line (line.Skip frame kind.Task) node
