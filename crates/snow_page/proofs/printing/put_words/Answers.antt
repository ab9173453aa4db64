-- The front, the list, and the newline.
use Rattle.snow_page.proofs.Printed.{line_came, front_failed, list_failed, newline_failed}
use Rattle.snow_page.proofs.printing.put_words.Goals as goal

pub returns-in_err-put_head-clause-err : goal.returns-in_err-put_head-clause-err
returns-in_err-put_head-clause-err g c =
    front_failed c.args.line.now c.from_residual.result (g.K.Sink.written c.args.sink.now) (g.K.Sink.written c.put_head.new.sink) (g.G.Gather.waiting c.args.out.now) c.in_err-put_head.ensures.err

pub returns-in_err-put_list-clause-err : goal.returns-in_err-put_list-clause-err
returns-in_err-put_list-clause-err g c =
    list_failed c.args.line.now c.from_residual-in_err-put_list.result (g.K.Sink.written c.args.sink.now) (g.K.Sink.written c.put_head.new.sink) (g.K.Sink.written c.put_list.new.sink)
    (g.G.Gather.waiting c.args.out.now) (g.G.Gather.waiting c.put_head.new.out) c.in_ok-put_head.ensures.ok c.in_err-put_list.ensures.err

pub returns-clause-ok : goal.returns-clause-ok
returns-clause-ok g c =
    line_came c.args.line.now c.put.result (g.K.Sink.written c.args.sink.now) (g.K.Sink.written c.put_head.new.sink) (g.K.Sink.written c.put_list.new.sink) (g.K.Sink.written c.put.new.sink)
    (g.G.Gather.waiting c.args.out.now) (g.G.Gather.waiting c.put_head.new.out) (g.G.Gather.waiting c.put_list.new.out) (g.G.Gather.waiting c.put.new.self)
    c.in_ok-put_head.ensures.ok c.in_ok-put_list.ensures.ok c.put.ensures.ok

pub returns-clause-err : goal.returns-clause-err
returns-clause-err g c =
    newline_failed c.args.line.now c.put.result (g.K.Sink.written c.args.sink.now) (g.K.Sink.written c.put_head.new.sink) (g.K.Sink.written c.put_list.new.sink) (g.K.Sink.written c.put.new.sink)
    (g.G.Gather.waiting c.args.out.now) (g.G.Gather.waiting c.put_head.new.out) (g.G.Gather.waiting c.put_list.new.out)
    c.in_ok-put_head.ensures.ok c.in_ok-put_list.ensures.ok c.put.ensures.err
