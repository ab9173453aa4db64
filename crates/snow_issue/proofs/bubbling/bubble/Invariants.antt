use Rattle.std.proofs.Common.{◌≡◌, ◌-◌}
use Rattle.snow_issue.specs.Model.Bubbling.{bubbled_in}
use Rattle.snow_issue.proofs.bubbling.bubble.Given as goal

abbrev pub invariant-loop : goal.invariant-loop
invariant-loop g l = bubbled_in (8192 - l.counter) l.gone (g.B.Board.board l.board) l.at ≡ bubbled_in 8192 l.gone (g.B.Board.board l.board) l.id
