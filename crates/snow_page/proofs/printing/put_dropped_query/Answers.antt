-- Each has one text.
use Rattle.std.proofs.Common.{sym, subst}
use Rattle.std.specs.Result.{OnOk}
use Rattle.snow_lines.specs.declared.line.Line.TheVariants as line
use Rattle.snow_lines.specs.declared.why.QueryWhy.{QueryWhy}
use Rattle.snow_page.specs.Kept.Gathered.{Gathers}
use Rattle.snow_lines.specs.Model.Text.{text}
use Rattle.snow_page.proofs.printing.put_dropped_query.Goals as goal

pub returns-in-Full-clause-ok : goal.returns-in-Full-clause-ok
unfolding text
returns-in-Full-clause-ok g c =
    subst (λ (why : QueryWhy). OnOk c.put.result (Gathers (g.K.Sink.written c.args.sink.now) (g.G.Gather.waiting c.args.out.now) (g.K.Sink.written c.put.new.sink) (g.G.Gather.waiting c.put.new.self) (text (line.DropQuery why)))) (sym c.in-Full.is) c.put.ensures.ok

pub returns-in-Units-clause-ok : goal.returns-in-Units-clause-ok
unfolding text
returns-in-Units-clause-ok g c =
    subst (λ (why : QueryWhy). OnOk c.put-in-Units.result (Gathers (g.K.Sink.written c.args.sink.now) (g.G.Gather.waiting c.args.out.now) (g.K.Sink.written c.put-in-Units.new.sink) (g.G.Gather.waiting c.put-in-Units.new.self) (text (line.DropQuery why)))) (sym c.in-Units.is) c.put-in-Units.ensures.ok

pub returns-in-Words-clause-ok : goal.returns-in-Words-clause-ok
unfolding text
returns-in-Words-clause-ok g c =
    subst (λ (why : QueryWhy). OnOk c.put-in-Words.result (Gathers (g.K.Sink.written c.args.sink.now) (g.G.Gather.waiting c.args.out.now) (g.K.Sink.written c.put-in-Words.new.sink) (g.G.Gather.waiting c.put-in-Words.new.self) (text (line.DropQuery why)))) (sym c.in-Words.is) c.put-in-Words.ensures.ok
