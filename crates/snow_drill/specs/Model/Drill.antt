-- A drill: events that follow from the seed and from the lines so far, each with the step of a node at it. The step is a parameter,
-- so that nothing here looks into a node.
use Rattle.std.specs.Prelude.{ℕ, zero, suc, ◌+◌, ◌*◌, List, [], ◌∷◌, ◌++◌, Result, Ok, Err, fold}
use Rattle.snow_base.specs.declared.block.Header.{Header}
use Rattle.snow_wire.specs.declared.event.Event.{Event}
use Rattle.snow_wire.specs.declared.event.Event.TheVariants as event
use Rattle.snow_lines.specs.declared.line.Line.{Line}
use Rattle.snow_lines.specs.declared.line.Line.TheVariants as line
use Rattle.snow_engine.specs.declared.stop.EngineStop.{EngineStop}
use Rattle.snow_engine.specs.Kept.Staging.{Comes}
use Rattle.snow_drill.specs.declared.tally.Asked.{Asked}
use Rattle.snow_drill.specs.Model.Generator.{following, last_of, values, picked}
use Rattle.snow_drill.specs.Kept.Told.{Told, untold, noted, answering}
use Rattle.snow_drill.specs.Model.Made.{height_in, chosen_by, voted_by, bytes_of, headed}
use Rattle.snow_drill.specs.Model.First.{node}

-- the step of a node at the event of a frame
abbrev pub Step : Type 0 → Type 0
Step N = N → ℕ → Event → Comes N

-- the node, the number of the last frame, the last value, the blocks made, all lines, and what is kept of them
pub record Drill (N : Type 0) : Type 0 where
  pub node : N
  pub frame : ℕ
  pub x : ℕ
  pub made : List Header
  pub lines : List Line
  pub told : Told

module _ {N : Type 0} where
  -- the node after a step; at a stop it stays, and none comes in a drill
  abbrev pub stays : N → Result N EngineStop → N
  stays node (Ok after) = after
  stays node (Err stop) = node

  -- once an event was stepped, with these lines
  abbrev pub happened : Drill N → Comes N → Drill N
  happened d after = record d {
    node = stays d.node after.1;
    frame = d.frame + 1;
    lines = d.lines ++ after.0;
    told = fold noted d.told after.0;
  }

  -- what comes of the next event
  abbrev pub comes : Step N → Drill N → Event → Comes N
  comes step d e = step d.node (d.frame + 1) e

  -- the next event
  abbrev pub with_event : Step N → Drill N → Event → Drill N
  with_event step d e = happened d (comes step d e)

  -- a node that was asked for a block gives none
  abbrev pub timed_out : Step N → Drill N → Line → Drill N
  timed_out step d (line.Get number node id) = with_event step d (event.Timeout node number)
  timed_out step d other = d

  -- the next event, and a Timeout for each block that it asks for
  unfoldable pub with_timeouts : Step N → Drill N → Event → Drill N
  with_timeouts step d e = fold (timed_out step) (with_event step d e) (comes step d e).0

  -- so many random words
  abbrev pub with_words : Step N → ℕ → Drill N → Drill N
  with_words step n d = with_timeouts step (record d { x = last_of n d.x }) (event.Words (values n d.x))

  -- a node's vote in a poll
  abbrev pub with_vote : Step N → ℕ → Drill N → List ℕ → Drill N
  with_vote step number d node =
      let x = following d.x in
      with_timeouts step (record d { x = x }) (event.Chits node number (voted_by d.made d.told.tip x))

  -- the votes of all nodes of the oldest query
  abbrev pub with_votes : Step N → Drill N → List Asked → Drill N
  with_votes step d [] = d
  with_votes step d (query ∷ later) =
      fold (with_vote step query.number) (with_words step 20 (record d { told = answering d.told later })) query.nodes

  -- the oldest query that isn't answered is; where there is none, nothing is done
  unfoldable pub with_answer : Step N → Drill N → Drill N
  with_answer step d = with_votes step d d.told.asked

  unfoldable pub with_answers : ℕ → Step N → Drill N → Drill N
  with_answers zero step d = d
  with_answers (suc n) step d = with_answer step (with_answers n step d)

  -- a new block of this number with these bytes
  abbrev pub with_bytes : Step N → Drill N → List ℕ → ℕ → List ℕ → Drill N
  with_bytes step d parent height bytes =
      with_timeouts step (record d { made = d.made ++ headed parent height bytes ∷ [] }) (event.Block (node 1) 0 bytes)

  -- a new block on this parent
  abbrev pub with_child : Step N → Drill N → ℕ → List ℕ → Drill N
  with_child step d number parent =
      let height = height_in d.made parent + 1 in
      with_bytes step d parent height (bytes_of parent height (picked 1000 d.x) number)

  -- a new block of this number, by two values: one for its parent, one for its amount
  abbrev pub with_block : Step N → Drill N → ℕ → Drill N
  with_block step d number =
      let x = following d.x in
      with_child step (record d { x = following x }) number (chosen_by d.made d.told.tip x)

  -- words, a block, and three answers
  unfoldable pub with_round : Step N → Drill N → ℕ → Drill N
  with_round step d number = with_answers 3 step (with_block step (with_words step 20 d) number)

  unfoldable pub with_rounds : ℕ → Step N → Drill N → Drill N
  with_rounds zero step d = d
  with_rounds (suc n) step d = with_round step (with_rounds n step d) (suc n)

  -- a drill of so many blocks, behind its Start
  abbrev pub played : Step N → ℕ → Drill N → Drill N
  played step blocks d = with_answers (64 * blocks + 4096) step (with_rounds blocks step (with_words step 1024 d))

  -- behind the Start, by this seed
  abbrev pub opened : ℕ → List Line → N → Drill N
  opened seed lines node = record { node = node; frame = 1; x = seed; made = []; lines = lines; told = fold noted untold lines }
