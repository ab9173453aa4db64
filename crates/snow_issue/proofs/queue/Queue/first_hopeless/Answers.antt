-- The earliest hopeless block is looked for in the parts of the queue.
use Rattle.std.proofs.Common.{List, sym, ap, ◌∙◌}
use Rattle.std.specs.List.{position_or_len}
use Rattle.snow_issue.specs.declared.work.Waiting.{Waiting}
use Rattle.snow_issue.specs.Model.Lists.{Lists}
use Rattle.snow_issue.specs.Model.Settling.{is_hopeless_by}
use Rattle.snow_issue.specs.Kept.Known.{items_of, lists_of}
use Rattle.snow_issue.proofs.queue.Queue.first_hopeless.Goals as goal

pub returns-clause-first : goal.returns-clause-first
returns-clause-first g c =
    c.first_hopeless.ensures.first
    ∙ ap (λ (l : List Waiting). position_or_len (is_hopeless_by l c.self.inside.gets (g.B.Board.board c.args.board.now)) l) (sym c.first_hopeless.ensures.same)

pub returns-clause-lists : goal.returns-clause-lists
returns-clause-lists g c =
    let inside = c.self.inside in
    let with : List Waiting → Lists = λ w. record { waiting = w; gets = inside.gets; held = items_of inside.replies; gone = inside.gone } in
    ap with c.first_hopeless.ensures.same ∙ ap lists_of c.self.view_is
