use Rattle.std.proofs.Common.{[], ◌∷◌}
use Rattle.snow_trie.proofs.Lasts.{alone_failed, ordered_failed}
use Rattle.snow_trie.proofs.alone.Alone.fail.Goals as goal

pub invariant_of-self : goal.invariant_of-self
invariant_of-self c =
    let a = c.self.inside in
    ordered_failed a.params a.id a.counter c.fail.new.self c.k-k.ensures.good c.self.invariant (alone_failed a.params a.id a.counter c.fail.new.self c.k-k.ensures.good c.fail.ensures)

pub returns : goal.returns
returns c =
    let a = c.self.inside in
    let counters = alone_failed a.params a.id a.counter c.fail.new.self c.k-k.ensures.good c.fail.ensures in
    rw (← c.self.view_is) (λ i. record { parameters = a.params; ids = a.id ∷ []; counters = counters i; nodes = 1 })
