use Rattle.std.proofs.Common.{◌≡◌, length, ap, ◌∙◌, arith, vec_capacity}
use Rattle.snow_map.specs.Kept.Seats.{seat_of as number_of}
use Rattle.snow_recent.specs.Kept.Index.{seat_of}
use Rattle.snow_recent.proofs.Doubled.{masked}
use Rattle.snow_recent.proofs.heads.Heads.seat.Goals as goal

pub returns-clause-seat : goal.returns-clause-seat
returns-clause-seat c =
    let numbers = c.self.inside.numbers in
    let id = c.args.id.now in
    let len : c.len.result ≡ length numbers.items = c.len.ensures ∙ numbers.ok.0 in
    rw (c.seat_of.ensures.seat, len) (masked (length numbers.items) (vec_capacity numbers) (number_of id) c.self.invariant (omega (arith, len, c.len.type_inv)))
    ∙ ap (λ n. seat_of n id) (ap length c.self.view_is)
