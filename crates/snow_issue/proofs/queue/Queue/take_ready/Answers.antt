-- The earliest ready block is taken out.
use Rattle.std.proofs.Common.{sym}
use Rattle.std.specs.List.{remove}
use Rattle.snow_issue.specs.Model.Settling.{is_ready}
use Rattle.snow_issue.specs.Kept.Known.{lists_of}
use Rattle.snow_issue.proofs.Stepped.{IsTaken, left_items, left_knows, first_taken, ready_step, after_ready}
use Rattle.snow_issue.proofs.Taken.{woken_forgets}
use Rattle.snow_issue.proofs.queue.Queue.take_ready.Goals as goal
use Rattle.snow_issue.proofs.queue.Queue.take_ready.Goals.{After-take_block}

taken : (g : _) (c : After-take_block g) → IsTaken c.args.self.now c.take_block.new.self c.args.at c.take_block.result
taken g c = record {
  within = c.requires.there;
  taken = c.take_block.ensures.taken;
  items = left_items c.args.self.now c.take_block.new.self c.args.at c.take_block.result c.take_block.ensures.left;
  gets = c.take_block.ensures.gets;
  held = c.take_block.ensures.held;
}

pub returns : goal.returns
returns g c =
    let board = g.B.Board.board c.args.board.now in
    let before = c.args.self.now in
    let now = c.take_block.new.self in
    let block = c.take_block.result in
    let out = taken g (goal.at.returns g c).After-take_block in
    record {
      work = ready_step (lists_of before) board block (sym c.requires.none) (first_taken (is_ready board) before now c.args.at block out c.requires.first);
      lists = after_ready board before now c.args.at block out c.requires.first c.take_block.ensures.gone;
      knows = left_knows board before now c.args.at block c.requires.there c.take_block.ensures.taken c.take_block.ensures.left c.take_block.ensures.gets c.requires.knows;
      marks = woken_forgets block.header.id (remove before.seats c.args.at) now.seats c.take_block.ensures.left;
      limits = c.take_block.ensures.limits;
    }
