-- The first block is taken off those that are left.
use Rattle.std.proofs.Common.{◌≡◌, ◌-◌, suc, Ok, ap, sym, ◌∙◌, arith}
use Rattle.snow_wire.specs.Model.Reading.{block_at}
use Rattle.snow_wire.proofs.Listed.{none_left, none_refused, others_read, first_taken}
use Rattle.snow_wire.proofs.packed.Packed.first.Goals as goal

pub returns-then-self-eq0 : goal.returns-then-self-eq0
returns-then-self-eq0 c =
    let none = sym c.self.view_is ∙ none_left block_at c.self.inside.count c.self.inside.bytes.now c.if-self-eq0.true in
    (none, none)

pub returns-in_default : goal.returns-in_default
returns-in_default c =
    let same : c.self.inside.count ≡ suc (c.self.inside.count - 1) = omega arith in
    absurd (none_refused block_at c.self.inside.count (c.self.inside.count - 1) c.self.inside.bytes.now c.in_default.field-0 same (ap block_at (sym c.new-reader.ensures) ∙ c.in_default.ensures) c.self.invariant)

pub invariant_of-self : goal.invariant_of-self
invariant_of-self c =
    let same : c.self.inside.count ≡ suc (c.self.inside.count - 1) = omega arith in
    let read : block_at c.self.inside.bytes.now ≡ Ok (c.in-Ok.block.now, c.rest-self-inside.result.now) = rw c.rest-self-inside.ensures (ap block_at (sym c.new-reader.ensures) ∙ c.in-Ok.ensures) in
    others_read block_at c.self.inside.count (c.self.inside.count - 1) c.self.inside.bytes.now c.rest-self-inside.result.now c.in-Ok.block.now same read c.self.invariant

pub returns : goal.returns
returns c =
    let same : c.self.inside.count ≡ suc (c.self.inside.count - 1) = omega arith in
    let read : block_at c.self.inside.bytes.now ≡ Ok (c.in-Ok.block.now, c.rest-self-inside.result.now) = rw c.rest-self-inside.ensures (ap block_at (sym c.new-reader.ensures) ∙ c.in-Ok.ensures) in
    sym c.self.view_is ∙ first_taken block_at c.self.inside.count (c.self.inside.count - 1) c.self.inside.bytes.now c.rest-self-inside.result.now c.in-Ok.block.now same read c.self.invariant
