use Rattle.std.proofs.Common.{sym, ap, ◌∙◌, set}
use Rattle.std.proofs.lemmas.List.Edits.{map_over_more}
use Rattle.snow_board.specs.Kept.Cursors.{moved}
use Rattle.snow_board.proofs.cursor.advance.Goals as goal

pub loop-cursor-preserved : goal.loop-cursor-preserved
loop-cursor-preserved c =
    ap (set c.loop-cursor.cursors c.loop-cursor.cursor-index) (c.moved.ensures ∙ ap (moved c.args.block.now) (sym c.cursor-item.is))
    ∙ map_over_more (moved c.args.block.now) c.args.cursors.now c.loop-cursor.cursors c.loop-cursor.cursor-index c.cursor-item.result
    c.loop-cursor-test.true c.loop-cursor.invariant c.cursor-item.is
