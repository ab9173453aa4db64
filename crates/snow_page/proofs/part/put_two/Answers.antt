-- One piece, and then another.
use Rattle.snow_page.proofs.Waiting.{ok_then, err_then, err_first}
use Rattle.snow_page.proofs.part.put_two.Goals as goal

pub returns-in_err-put_into-clause-err : goal.returns-in_err-put_into-clause-err
returns-in_err-put_into-clause-err g c =
    err_first c.from_residual.result (g.K.Sink.written c.args.sink.now) (g.K.Sink.written c.put_into.new.sink) (g.G.Gather.waiting c.args.out.now) (g.A.Part.text c.args.a.now) (g.B.Part.text c.args.b.now) c.in_err-put_into.ensures.err

pub returns-clause-ok : goal.returns-clause-ok
returns-clause-ok g c =
    ok_then c.put_into-2.result (g.K.Sink.written c.args.sink.now) (g.K.Sink.written c.put_into.new.sink) (g.K.Sink.written c.put_into-2.new.sink) (g.G.Gather.waiting c.args.out.now) (g.G.Gather.waiting c.put_into.new.out) (g.G.Gather.waiting c.put_into-2.new.out)
    (g.A.Part.text c.args.a.now) (g.B.Part.text c.args.b.now) c.in_ok-put_into.ensures.ok c.put_into-2.ensures.ok

pub returns-clause-err : goal.returns-clause-err
returns-clause-err g c =
    err_then c.put_into-2.result (g.K.Sink.written c.args.sink.now) (g.K.Sink.written c.put_into.new.sink) (g.K.Sink.written c.put_into-2.new.sink) (g.G.Gather.waiting c.args.out.now) (g.G.Gather.waiting c.put_into.new.out)
    (g.A.Part.text c.args.a.now) (g.B.Part.text c.args.b.now) c.in_ok-put_into.ensures.ok c.put_into-2.ensures.err
