use Rattle.std.proofs.Common.{◌≡◌, ◌≤◌, length, sym, ap, subst, ◌∙◌, arith}
use Rattle.snow_base.specs.Model.Votes.{total_count}
use Rattle.snow_climb.specs.Kept.Starting.{HaveBegun}
use Rattle.snow_board.proofs.OneEach.{total_each}
use Rattle.snow_topo.specs.Clauses.Ballot.{votes_of}
use Rattle.snow_topo.proofs.ballot.start.Goals as goal

pub start_votes-requires-clause-few : goal.start_votes-requires-clause-few
start_votes-requires-clause-few g c =
    omega (arith, ap total_count c.entries.ensures.list, ap (λ b. total_count (votes_of b)) c.in-Counted.is, c.requires.most, c.requires.room)

pub returns-in-Counted-clause-begun : goal.returns-in-Counted-clause-begun
returns-in-Counted-clause-begun g c =
    let p = c.args.params.now in
    let votes = c.entries.result.now in
    let same : votes ≡ votes_of c.args.ballot = c.entries.ensures.list ∙ sym (ap votes_of c.in-Counted.is) in
    subst (λ l. HaveBegun p l c.args.tree.now.pending c.start_votes.new.ladder) same (c.start_votes.ensures.begun p (omega (arith, ap total_count same, c.requires.most)))

pub returns-in-Counted-clause-few : goal.returns-in-Counted-clause-few
returns-in-Counted-clause-few g c =
    omega (arith, c.start_votes.ensures.few, ap total_count c.entries.ensures.list, ap (λ b. total_count (votes_of b)) c.in-Counted.is, c.requires.most)

pub start_each-requires-clause-few : goal.start_each-requires-clause-few
start_each-requires-clause-few g c =
    omega (arith, total_each c.in-Each.ids.now, ap (λ b. total_count (votes_of b)) c.in-Each.is, c.requires.most, c.requires.room)

pub start_each-requires-clause-small : goal.start_each-requires-clause-small
start_each-requires-clause-small g c =
    omega (arith, total_each c.in-Each.ids.now, ap (λ b. total_count (votes_of b)) c.in-Each.is, c.requires.most, c.k-k.ensures.value)

pub returns-in-Each-clause-begun : goal.returns-in-Each-clause-begun
returns-in-Each-clause-begun g c =
    let p = c.args.params.now in
    let few : length c.in-Each.ids.now ≤ p.k = omega (arith, total_each c.in-Each.ids.now, ap (λ b. total_count (votes_of b)) c.in-Each.is, c.requires.most) in
    subst (λ l. HaveBegun p l c.args.tree.now.pending c.start_each.new.ladder) (sym (ap votes_of c.in-Each.is)) (c.start_each.ensures.begun p few)

pub returns-in-Each-clause-few : goal.returns-in-Each-clause-few
returns-in-Each-clause-few g c =
    omega (arith, c.start_each.ensures.few, total_each c.in-Each.ids.now, ap (λ b. total_count (votes_of b)) c.in-Each.is, c.requires.most)
