-- One piece, and then the others.
use Rattle.std.proofs.Common.{◌++◌}
use Rattle.snow_page.proofs.Waiting.{ok_then, err_then, err_first}
use Rattle.snow_page.proofs.part.put_three.Goals as goal

pub returns-in_err-put_into-clause-err : goal.returns-in_err-put_into-clause-err
returns-in_err-put_into-clause-err g c =
    err_first c.from_residual.result (g.K.Sink.written c.args.sink.now) (g.K.Sink.written c.put_into.new.sink) (g.G.Gather.waiting c.args.out.now) (g.A.Part.text c.args.a.now) (g.B.Part.text c.args.b.now ++ g.C.Part.text c.args.c.now) c.in_err-put_into.ensures.err

pub returns-clause-ok : goal.returns-clause-ok
returns-clause-ok g c =
    ok_then c.put_two.result (g.K.Sink.written c.args.sink.now) (g.K.Sink.written c.put_into.new.sink) (g.K.Sink.written c.put_two.new.sink) (g.G.Gather.waiting c.args.out.now) (g.G.Gather.waiting c.put_into.new.out) (g.G.Gather.waiting c.put_two.new.out)
    (g.A.Part.text c.args.a.now) (g.B.Part.text c.args.b.now ++ g.C.Part.text c.args.c.now) c.in_ok-put_into.ensures.ok c.put_two.ensures.ok

pub returns-clause-err : goal.returns-clause-err
returns-clause-err g c =
    err_then c.put_two.result (g.K.Sink.written c.args.sink.now) (g.K.Sink.written c.put_into.new.sink) (g.K.Sink.written c.put_two.new.sink) (g.G.Gather.waiting c.args.out.now) (g.G.Gather.waiting c.put_into.new.out)
    (g.A.Part.text c.args.a.now) (g.B.Part.text c.args.b.now ++ g.C.Part.text c.args.c.now) c.in_ok-put_into.ensures.ok c.put_two.ensures.err
