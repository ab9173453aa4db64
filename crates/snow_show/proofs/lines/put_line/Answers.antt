use Rattle.std.proofs.Common.{codes}
use Rattle.snow_text_model.specs.Model.Lines.{line_words}
use Rattle.snow_text_model.specs.Model.Shown.{line}
use Rattle.snow_show.proofs.Brevity.{line_marked}
use Rattle.snow_show.proofs.Putting.{puts_behind}
use Rattle.snow_show.proofs.lines.put_line.Goals as goal

pub returns : goal.returns
returns c = puts_behind c.put_line_words.result _ _ _ (codes "> ") (line (line_words c.args.said.now)) _ c.in_ok-put.ensures c.put_line_words.ensures (line_marked c.args.said.now)
