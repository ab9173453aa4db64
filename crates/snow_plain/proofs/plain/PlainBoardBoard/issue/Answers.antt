use Rattle.std.proofs.Common.{◌≡◌, false, None, sym, ap, ◌∙◌, arith}
use Rattle.std.proofs.lemmas.Grind.{common_steps}
use Rattle.snow_board.specs.Model.Board.{Board, issued, height_of}
use Rattle.snow_board.specs.Clauses.Shown.{Shown}
use Rattle.snow_board.specs.Kept.Ending.{has_pending_child}
use Rattle.snow_board.proofs.Ended.{leading_issued}
use Rattle.snow_base.specs.declared.block.Header.{Header}
use Rattle.snow_plain.proofs.plain.PlainBoardBoard.issue.Goals as goal

pub invariant_of-self-2 : goal.invariant_of-self-2
invariant_of-self-2 g c =
    let child : Header = record { id = c.args.id; parent = c.args.parent; height = c.args.height } in
    let inside = c.self.inside in
    let new : c.issue.new.self ≡ issued inside.state child = c.in_ok-issue.ensures.ok in
    let unknown : height_of inside.state child.id ≡ None = ap (λ (s : Shown). height_of s.board child.id) c.self.view_is ∙ c.requires.unknown in
    let alone : has_pending_child (issued inside.state child).pending child.id ≡ false = ap (λ (b : Board). has_pending_child b.pending child.id) (sym new) ∙ c.in_ok-issue.ensures.alone in (
      grind (arith, common_steps),
      rw (c.after_issue-self-inside.ensures, new)
          (leading_issued g.R.Rule.answer g.met.R.Rule.agrees inside.state child inside.leading unknown alone c.self.invariant.1),
    )
