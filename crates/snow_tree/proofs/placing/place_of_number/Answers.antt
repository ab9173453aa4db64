use Rattle.std.proofs.Common.{◌≡◌, ℕ, ◌+◌, ◌-◌, ◌%◌, ◌^◌, ◌<◌, Some, slice_get, List, sym, arith}
use Rattle.snow_tree.specs.declared.node.Node.{Node}
use Rattle.snow_tree.proofs.Searched.{there, above_more, placed_at, placed_none}
use Rattle.snow_tree.proofs.placing.place_of_number.Goals as goal
use Rattle.snow_tree.proofs.placing.place_of_number.Goals.{else-place-len-via-then-place-len+else-number_of-number-2, else-place-len-via-else-place-len}

-- a number below the first is none of theirs
pub returns-then-number-first : goal.returns-then-number-first
returns-then-number-first g c =
    let entries = c.args.entries.now.items in
    let n : ℕ = c.args.len in
    sym (placed_none entries n c.args.number 0 c.requires.order c.requires.most (omega arith)
    (λ i e less at. absurd (omega (arith, less)))
    (λ i e less within at.
    let x = there entries 0 (omega (arith, within, c.requires.most)) in
    above_more entries n c.args.number 0 x.0 c.requires.order x.1 (omega (arith, c.number_of-first.ensures.some x.0 x.1, c.if-number-first.true)) i e less within at)
    (λ inside e at same. omega (arith, c.number_of-first.ensures.some e at, c.if-number-first.true, same)))

pub returns-then-number_of-number : goal.returns-then-number_of-number
returns-then-number_of-number g c =
    let place : ℕ = (c.args.number + (2 ^ 64 - c.number_of-first.result)) % 2 ^ 64 in
    sym (placed_at c.args.entries.now.items c.args.len c.args.number place c.requires.order c.requires.most (omega (arith, c.if-expected-len.true))
    (λ e at. omega (arith, c.if-number_of-number.true, c.number_of.ensures.some e at)))

pub returns-then-number_of-number-2 : goal.returns-then-number_of-number-2
returns-then-number_of-number-2 g c =
    sym (placed_at c.args.entries.now.items c.args.len c.args.number c.count_lower-place.result c.requires.order c.requires.most (omega (arith, c.if-place-len.true))
    (λ e at. omega (arith, c.if-number_of-number-2.true, c.number_of-then-place-len.ensures.some e at)))

pub returns : goal.returns
returns g c =
    let lower = c.count_lower-place in
    let other : lower.result < c.args.len → (e : List ℕ × Node g.row.T.Denot) → slice_get c.args.entries.now.items lower.result ≡ Some e → e.1.number ≡ c.args.number → ⊥ =
    elim c.else-place-len.branch [
      | else-place-len-via-then-place-len+else-number_of-number-2 w ↦ λ less e at same. omega (arith, w.if-number_of-number-2.false, w.number_of-then-place-len.ensures.some e at, same)
      | else-place-len-via-else-place-len w ↦ λ less e at same. omega (arith, w.if-place-len.false, less)
    ]
    in
    sym (placed_none c.args.entries.now.items c.args.len c.args.number lower.result c.requires.order c.requires.most lower.ensures.most lower.ensures.below lower.ensures.above other)
