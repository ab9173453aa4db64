-- The words of a list, each with a space in front.
use Rattle.std.proofs.Common.{◌++◌, sym, subst}
use Rattle.std.specs.List.{flat_map}
use Rattle.std.specs.Result.{OnOk, OnErr}
use Rattle.hex.specs.Hex.{encode_lower}
use Rattle.snow_base.specs.Clauses.Outside.{AppendsFront}
use Rattle.snow_lines.specs.declared.line.Line.{Line}
use Rattle.snow_page.specs.Kept.Gathered.{Gathers}
use Rattle.snow_lines.specs.Model.Text.{block_word, draw_word, listed, spaced}
use Rattle.snow_page.proofs.Joined.{list_came, list_failed}
use Rattle.snow_page.proofs.printing.put_list.Goals as goal

pub returns-in-Query-clause-ok : goal.returns-in-Query-clause-ok
returns-in-Query-clause-ok g c =
    let put = c.put_all in
    subst (λ (l : Line). OnOk put.result (Gathers (g.K.Sink.written c.args.sink.now) (g.G.Gather.waiting c.args.out.now) (g.K.Sink.written put.new.sink) (g.G.Gather.waiting put.new.out) (flat_map spaced (listed l)))) (sym c.in-Query.is)
    (list_came draw_word c.in-Query.draws c.list.result.now put.result (g.K.Sink.written c.args.sink.now) (g.K.Sink.written put.new.sink) (g.G.Gather.waiting c.args.out.now) (g.G.Gather.waiting put.new.out) c.list.ensures.list put.ensures.ok)

pub returns-in-Query-clause-err : goal.returns-in-Query-clause-err
returns-in-Query-clause-err g c =
    let put = c.put_all in
    subst (λ (l : Line). OnErr put.result (AppendsFront (g.K.Sink.written c.args.sink.now) (g.K.Sink.written put.new.sink) (g.G.Gather.waiting c.args.out.now ++ flat_map spaced (listed l)))) (sym c.in-Query.is)
    (list_failed draw_word c.in-Query.draws c.list.result.now put.result (g.K.Sink.written c.args.sink.now) (g.K.Sink.written put.new.sink) (g.G.Gather.waiting c.args.out.now) c.list.ensures.list put.ensures.err)

pub returns-in-Accepted-clause-ok : goal.returns-in-Accepted-clause-ok
returns-in-Accepted-clause-ok g c =
    let put = c.put_all-in-Accepted in
    subst (λ (l : Line). OnOk put.result (Gathers (g.K.Sink.written c.args.sink.now) (g.G.Gather.waiting c.args.out.now) (g.K.Sink.written put.new.sink) (g.G.Gather.waiting put.new.out) (flat_map spaced (listed l)))) (sym c.in-Accepted.is)
    (list_came encode_lower c.in-Accepted.ids c.list-in-Accepted.result.now put.result (g.K.Sink.written c.args.sink.now) (g.K.Sink.written put.new.sink) (g.G.Gather.waiting c.args.out.now) (g.G.Gather.waiting put.new.out) c.list-in-Accepted.ensures put.ensures.ok)

pub returns-in-Accepted-clause-err : goal.returns-in-Accepted-clause-err
returns-in-Accepted-clause-err g c =
    let put = c.put_all-in-Accepted in
    subst (λ (l : Line). OnErr put.result (AppendsFront (g.K.Sink.written c.args.sink.now) (g.K.Sink.written put.new.sink) (g.G.Gather.waiting c.args.out.now ++ flat_map spaced (listed l)))) (sym c.in-Accepted.is)
    (list_failed encode_lower c.in-Accepted.ids c.list-in-Accepted.result.now put.result (g.K.Sink.written c.args.sink.now) (g.K.Sink.written put.new.sink) (g.G.Gather.waiting c.args.out.now) c.list-in-Accepted.ensures put.ensures.err)

pub returns-in-ToAccepted-clause-ok : goal.returns-in-ToAccepted-clause-ok
returns-in-ToAccepted-clause-ok g c =
    let put = c.put_all-in-ToAccepted in
    subst (λ (l : Line). OnOk put.result (Gathers (g.K.Sink.written c.args.sink.now) (g.G.Gather.waiting c.args.out.now) (g.K.Sink.written put.new.sink) (g.G.Gather.waiting put.new.out) (flat_map spaced (listed l)))) (sym c.in-ToAccepted.is)
    (list_came encode_lower c.in-ToAccepted.ids c.list-in-ToAccepted.result.now put.result (g.K.Sink.written c.args.sink.now) (g.K.Sink.written put.new.sink) (g.G.Gather.waiting c.args.out.now) (g.G.Gather.waiting put.new.out) c.list-in-ToAccepted.ensures put.ensures.ok)

pub returns-in-ToAccepted-clause-err : goal.returns-in-ToAccepted-clause-err
returns-in-ToAccepted-clause-err g c =
    let put = c.put_all-in-ToAccepted in
    subst (λ (l : Line). OnErr put.result (AppendsFront (g.K.Sink.written c.args.sink.now) (g.K.Sink.written put.new.sink) (g.G.Gather.waiting c.args.out.now ++ flat_map spaced (listed l)))) (sym c.in-ToAccepted.is)
    (list_failed encode_lower c.in-ToAccepted.ids c.list-in-ToAccepted.result.now put.result (g.K.Sink.written c.args.sink.now) (g.K.Sink.written put.new.sink) (g.G.Gather.waiting c.args.out.now) c.list-in-ToAccepted.ensures put.ensures.err)

pub returns-in-ToAncestors-clause-ok : goal.returns-in-ToAncestors-clause-ok
returns-in-ToAncestors-clause-ok g c =
    let put = c.put_all-in-ToAncestors in
    subst (λ (l : Line). OnOk put.result (Gathers (g.K.Sink.written c.args.sink.now) (g.G.Gather.waiting c.args.out.now) (g.K.Sink.written put.new.sink) (g.G.Gather.waiting put.new.out) (flat_map spaced (listed l)))) (sym c.in-ToAncestors.is)
    (list_came block_word c.in-ToAncestors.blocks c.list-in-ToAncestors.result.now put.result (g.K.Sink.written c.args.sink.now) (g.K.Sink.written put.new.sink) (g.G.Gather.waiting c.args.out.now) (g.G.Gather.waiting put.new.out) c.list-in-ToAncestors.ensures put.ensures.ok)

pub returns-in-ToAncestors-clause-err : goal.returns-in-ToAncestors-clause-err
returns-in-ToAncestors-clause-err g c =
    let put = c.put_all-in-ToAncestors in
    subst (λ (l : Line). OnErr put.result (AppendsFront (g.K.Sink.written c.args.sink.now) (g.K.Sink.written put.new.sink) (g.G.Gather.waiting c.args.out.now ++ flat_map spaced (listed l)))) (sym c.in-ToAncestors.is)
    (list_failed block_word c.in-ToAncestors.blocks c.list-in-ToAncestors.result.now put.result (g.K.Sink.written c.args.sink.now) (g.K.Sink.written put.new.sink) (g.G.Gather.waiting c.args.out.now) c.list-in-ToAncestors.ensures put.ensures.err)
