-- What was read stands behind the bytes that were held.
use Rattle.std.proofs.Common.{◌≡◌, ◌+◌, ◌-◌, ℕ, List, take, ap, ◌∙◌, subst, rules, arith}
use borrow.Rule.Slice.PartMut.{put_mid}
use Rattle.snow_wire.specs.Clauses.Filling.{Filled, TakesIn}
use Rattle.snow_wire.proofs.Behind.{read_behind, written_back}
use Rattle.snow_wire.proofs.buffer.Buffer.read.Goals as goal

pub returns-clause-took : goal.returns-clause-took
returns-clause-took g c =
    let xs = c.deref_mut.result.now in
    let at = c.self.inside.len in
    let buf = c.read.new.buf in
    let n = c.in_ok-taken.taken in
    let ys = put_mid at (at + c.args.most - at) xs buf in
    let before = g.S.Source.left c.args.source.now in
    let after = g.S.Source.left c.read.new.self in
    let held : take at xs ≡ c.args.self.now.bytes = ap (take at) c.deref_mut.ensures.value ∙ ap (λ (f : Filled). f.bytes) c.self.view_is in
    let back = written_back c.self.inside.bytes.items ys c.self.inside.bytes.len (search rules) in
    rw back (subst (λ (b : List ℕ). TakesIn before after b (take (at + n) ys) n) held (read_behind before after xs buf at _ n (omega arith) c.in_ok-taken.ensures.bound c.in_ok-taken.ensures.bytes.0))
