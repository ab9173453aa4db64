use Rattle.std.proofs.Common.{◌+◌, ◌^◌, ◌<◌, refl, ap, arith}
use Rattle.snow_base.specs.Model.Votes.{total_count}
use Rattle.snow_base.proofs.Adding.{tally_added, total_added}
use Rattle.snow_base.proofs.bag.Bag.add.Goals as goal

pub returns-clause-counted : goal.returns-clause-counted
returns-clause-counted c =
    rw (c.in_ok-count_in.ensures.ok, total_added, ← c.self.view_is) refl

pub invariant_of-self-2 : goal.invariant_of-self-2
invariant_of-self-2 c =
    let small : c.self.inside.total + c.args.n < 2 ^ 32 =
    omega (arith, c.self.invariant.sum, ap (λ v. total_count v.list) c.self.view_is, c.requires.total) in
    rw c.in_ok-count_in.ensures.ok
    (tally_added c.self.inside.votes.items c.self.inside.total c.args.id c.args.n c.self.invariant c.requires.some small)
