-- The longest names.
use Rattle.std.proofs.Common.{◌∷◌, subst, sym}
use Rattle.std.specs.List.{join_with_byte}
use Rattle.std.specs.Result.{OnOk}
use Rattle.snow_lines.specs.declared.line.Line.{Line}
use Rattle.snow_page.specs.Kept.Gathered.{Gathers}
use Rattle.snow_lines.specs.Model.Text.{fields, name}
use Rattle.snow_page.proofs.printing.put_head.Goals as goal

pub returns-in-DropQuery-clause-ok : goal.returns-in-DropQuery-clause-ok
returns-in-DropQuery-clause-ok g c =
    let put = c.put_two-in-DropQuery in
    subst (λ (l : Line). OnOk put.result (Gathers (g.K.Sink.written c.args.sink.now) (g.G.Gather.waiting c.args.out.now) (g.K.Sink.written put.new.sink) (g.G.Gather.waiting put.new.out) (join_with_byte 32 (name l ∷ fields l)))) (sym c.in-DropQuery.is) put.ensures.ok

pub returns-in-Bootstrapped-clause-ok : goal.returns-in-Bootstrapped-clause-ok
returns-in-Bootstrapped-clause-ok g c =
    let put = c.put_three-in-Bootstrapped in
    subst (λ (l : Line). OnOk put.result (Gathers (g.K.Sink.written c.args.sink.now) (g.G.Gather.waiting c.args.out.now) (g.K.Sink.written put.new.sink) (g.G.Gather.waiting put.new.out) (join_with_byte 32 (name l ∷ fields l)))) (sym c.in-Bootstrapped.is) put.ensures.ok

pub returns-in-ToFrontier-clause-ok : goal.returns-in-ToFrontier-clause-ok
returns-in-ToFrontier-clause-ok g c =
    let put = c.put_four-in-ToFrontier in
    subst (λ (l : Line). OnOk put.result (Gathers (g.K.Sink.written c.args.sink.now) (g.G.Gather.waiting c.args.out.now) (g.K.Sink.written put.new.sink) (g.G.Gather.waiting put.new.out) (join_with_byte 32 (name l ∷ fields l)))) (sym c.in-ToFrontier.is) put.ensures.ok

pub returns-in-ToAccepted-clause-ok : goal.returns-in-ToAccepted-clause-ok
returns-in-ToAccepted-clause-ok g c =
    let put = c.put_three-in-ToAccepted in
    subst (λ (l : Line). OnOk put.result (Gathers (g.K.Sink.written c.args.sink.now) (g.G.Gather.waiting c.args.out.now) (g.K.Sink.written put.new.sink) (g.G.Gather.waiting put.new.out) (join_with_byte 32 (name l ∷ fields l)))) (sym c.in-ToAccepted.is) put.ensures.ok

pub returns-in-ToAncestors-clause-ok : goal.returns-in-ToAncestors-clause-ok
returns-in-ToAncestors-clause-ok g c =
    let put = c.put_three-in-ToAncestors in
    subst (λ (l : Line). OnOk put.result (Gathers (g.K.Sink.written c.args.sink.now) (g.G.Gather.waiting c.args.out.now) (g.K.Sink.written put.new.sink) (g.G.Gather.waiting put.new.out) (join_with_byte 32 (name l ∷ fields l)))) (sym c.in-ToAncestors.is) put.ensures.ok
