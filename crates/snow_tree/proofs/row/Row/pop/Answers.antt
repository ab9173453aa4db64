use Rattle.std.proofs.Common.{bytes_eq}
use Rattle.std.specs.HashMap.{get}
use Rattle.snow_tree.proofs.Edges.{last_own, last_gone}
use Rattle.snow_tree.proofs.row.Row.pop.Goals as goal

pub forget-requires : goal.forget-requires
forget-requires g c =
    let inside = c.self.inside in
    last_own c.pop_back.new.self.items c.in_ok-entry.entry (λ k. get bytes_eq inside.numbers.map k) inside.numbers.hints inside.next (rw c.in_ok-entry.ensures.items at c.self.invariant)

pub invariant_of-self-2 : goal.invariant_of-self-2
invariant_of-self-2 g c =
    rw c.forget.ensures.hints (last_gone c.pop_back.new.self.items c.in_ok-entry.entry _ _ _ _ (rw c.in_ok-entry.ensures.items at c.self.invariant) c.forget.ensures.map)
