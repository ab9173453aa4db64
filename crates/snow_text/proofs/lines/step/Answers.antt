use Rattle.std.proofs.Common.{sym, ◌∙◌}
use Rattle.snow_text.proofs.Gathered.{line_passed, line_refused}
use Rattle.snow_text.proofs.lines.step.Goals as goal

pub returns-in-Ok : goal.returns-in-Ok
returns-in-Ok c = line_passed c.args.maker.now.names c.args.maker.now.stream c.args.line.now c.args.number c.args.behind c.if-behind.true (sym c.in-Ok.is ∙ c.pass.ensures)

pub returns-in-Err : goal.returns-in-Err
returns-in-Err c = line_refused c.args.maker.now.names c.args.maker.now.names c.args.maker.now.stream c.args.maker.now.stream c.args.line.now c.args.number c.args.behind c.in-Err.refusal c.if-behind.true (sym c.in-Err.is ∙ c.pass.ensures)
