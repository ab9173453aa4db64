-- A node that runs: all that it knows between two events.
use Rattle.std.specs.Prelude.{ℕ, Bool, false, List, Option, Some, None}
use Rattle.snow_base.specs.Model.Numbers.{next_number}
use Rattle.snow_sample.specs.declared.roster.Node.{Node as Member}
use Rattle.snow_flake.specs.Model.Parameters.{Parameters}
use Rattle.snow_board.specs.Model.Board.{Board, begin}
use Rattle.snow_chain.specs.Model.Chain.{Held, begun}
use Rattle.snow_getter.specs.Model.Serving.{Serving, serving_from}
use Rattle.snow_poll.specs.Model.Table.{Table, no_polls}
use Rattle.snow_issue.specs.Model.Lists.{Lists}
use Rattle.snow_issue.specs.Model.Lists as lists
use Rattle.snow_node.specs.declared.stop.Halt.TheVariants as halt
use Rattle.snow_node.specs.Model.Outcome.{Comes, stops}

-- the board, what the chain holds, what peers are served, the roster in force, the polls that run, the blocks and replies that wait,
-- the random words, the last number drawn, and whether a poll was recorded since the event began
pub record Running : Type 0 where
  pub board : Board
  pub chain : Held
  pub served : Serving
  pub roster : List Member
  pub polls : Table
  pub queue : Lists
  pub words : List ℕ
  pub last : ℕ
  pub recorded : Bool

-- a node that begins to run above this block, with its height and state: it knows of no other block, and serves none
abbrev pub begun_above : Parameters → List Member → List ℕ → ℕ → List ℕ → ℕ → List ℕ → Running
begun_above p roster words drawn last height state = record {
  board = begin p last height;
  chain = begun last state;
  served = serving_from last;
  roster = roster;
  polls = no_polls p;
  queue = lists.begun last;
  words = words;
  last = drawn;
  recorded = false;
}

-- what follows once a number was drawn, which the node then has as its last one
abbrev pub with_number : {T : Type 0} → Running → Option ℕ → (Running → ℕ → Comes T) → Comes T
with_number node None next = stops halt.Requests
with_number node (Some number) next = next (record node { last = number }) number

abbrev pub numbered : {T : Type 0} → Running → (Running → ℕ → Comes T) → Comes T
numbered node next = with_number node (next_number node.last) next
