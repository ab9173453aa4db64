use Rattle.std.proofs.Common.{◌≡◌, length, ap, ◌∙◌, arith}
use Rattle.snow_tree.specs.Kept.Hints.{seat_of, slot_of}
use Rattle.snow_tree.proofs.Slots.{masked}
use Rattle.snow_tree.proofs.hints.Hints.slot_of.Goals as goal

pub returns-clause-slot : goal.returns-clause-slot
returns-clause-slot c some =
    let slots = c.self.inside.numbers in
    let len : c.len.result ≡ length slots.items = c.len.ensures ∙ slots.ok.0 in
    let there : length slots.items ≡ length c.args.self.now = ap length c.self.view_is in
    rw (c.seat_of.ensures.seat, len) (masked (length slots.items) (seat_of c.args.id.now) (c.self.invariant (omega arith)) (omega arith) (omega (arith, len, c.len.type_inv)) ∙ ap (λ n. slot_of n c.args.id.now) there)
