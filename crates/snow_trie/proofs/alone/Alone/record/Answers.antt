use Rattle.std.proofs.Common.{◌≡◌, ◌≤◌, ◌∷◌, [], All, Contains, sym, subst}
use Rattle.snow_base.specs.declared.block.Vote.{Vote}
use Rattle.snow_base.specs.Model.Votes.{total_count}
use Rattle.snow_board.specs.Model.Conflict.{all_polled, votes_on}
use Rattle.snow_trie.specs.Kept.Alone.{run_of, last}
use Rattle.snow_trie.specs.Kept.Stamped.{counters}
use Rattle.snow_trie.specs.Kept.Whole.{Compressed}
use Rattle.snow_trie.proofs.Lasts.{alone_polled, ordered_alone}
use Rattle.snow_trie.proofs.alone.Alone.record.Goals as goal
use Rattle.snow_trie.proofs.alone.Alone.record.Goals.{After-apply}

-- the counters after the poll
polled : (c : After-apply) → counters 0 0 (last (run_of c.self.inside.id c.apply.new.self)) ≡ all_polled c.self.inside.params (votes_on c.args.votes.now) (counters 0 0 (last (run_of c.self.inside.id c.self.inside.counter)))
polled c =
    let a = c.self.inside in
    let given = subst (λ (t : Compressed). All (λ (v : Vote). Contains t.ids v.id) c.args.votes.now) (sym c.self.view_is) c.requires.given in
    alone_polled a.params c.args.votes.now c.total-count.result a.id a.counter c.apply.new.self given c.total-count.ensures.count c.apply.ensures

pub invariant_of-self : goal.invariant_of-self
invariant_of-self c =
    let a = c.self.inside in
    let most = subst (λ (t : Compressed). total_count c.args.votes.now ≤ t.parameters.k) (sym c.self.view_is) c.requires.most in
    ordered_alone a.params c.args.votes.now a.id a.counter c.apply.new.self c.k-k.ensures.good most c.self.invariant (polled (goal.at.invariant_of-self c).After-apply)

pub returns : goal.returns
returns c =
    let a = c.self.inside in
    let counters = polled (goal.at.returns c).After-apply in
    rw (← c.self.view_is) (λ i. record { parameters = a.params; ids = a.id ∷ []; counters = counters i; nodes = 1 })
