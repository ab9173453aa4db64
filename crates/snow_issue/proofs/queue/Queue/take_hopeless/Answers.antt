-- The earliest hopeless block is taken out.
use Rattle.std.proofs.Common.{ap, ◌∙◌}
use Rattle.snow_issue.specs.Model.Settling.{is_hopeless, gone_with}
use Rattle.snow_issue.specs.Kept.Known.{items_of, lists_of}
use Rattle.snow_issue.proofs.Settled.{knows_from}
use Rattle.snow_issue.proofs.Stepped.{IsTaken, first_taken, hopeless_step, after_hopeless}
use Rattle.snow_issue.proofs.queue.Queue.take_hopeless.Goals as goal
use Rattle.snow_issue.proofs.queue.Queue.take_hopeless.Goals.{After-follow}

taken : (g : _) (c : After-follow g) → IsTaken c.args.self.now c.follow.new.self c.args.at c.give_up-block.result
taken g c = record {
  within = c.requires.there;
  taken = c.give_up-block.ensures.taken;
  items = ap items_of c.follow.ensures.seats ∙ c.give_up-block.ensures.items;
  gets = c.follow.ensures.gets ∙ c.give_up-block.ensures.gets;
  held = c.follow.ensures.held ∙ c.give_up-block.ensures.held;
}

pub returns : goal.returns
returns g c =
    let board = g.B.Board.board c.args.board.now in
    let before = c.args.self.now in
    let now = c.follow.new.self in
    let block = c.give_up-block.result in
    let q = lists_of before in
    let out = taken g (goal.at.returns g c).After-follow in
    record {
      work = hopeless_step q board block (first_taken (is_hopeless q board) before now c.args.at block out c.requires.first);
      lists = after_hopeless board before now c.args.at block out c.requires.first
          (c.follow.ensures.gone ∙ ap (λ l. gone_with l block.header) c.give_up-block.ensures.gone);
      knows = knows_from now board c.give_up-block.new.self.seats c.give_up-block.new.self.gets c.follow.ensures.seats c.follow.ensures.gets (c.give_up-block.ensures.knows board c.requires.knows);
      marks = tt;
      limits = c.follow.ensures.limits;
    }
