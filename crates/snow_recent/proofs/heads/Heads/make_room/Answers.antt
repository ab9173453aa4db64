use Rattle.std.proofs.Common.{◌≡◌, ◌++◌, length, length-append, sym, subst, ap, ◌∙◌, vec_capacity}
use Rattle.snow_recent.specs.Kept.Index.{number_at, AreSeats}
use Rattle.snow_recent.proofs.Doubled.{told_twice, twice_seats, whole}
use Rattle.snow_recent.proofs.heads.Heads.make_room.Goals as goal
use Rattle.snow_recent.proofs.heads.Heads.make_room.Goals.{After-unwrap}

-- each seat stands there twice
doubled : (c : After-unwrap) → c.extend_from_within-doubled.new.self.items ≡ c.self.inside.numbers.items ++ c.self.inside.numbers.items
doubled c =
    let numbers = c.self.inside.numbers in
    let items = rw c.unwrap.ensures at c.extend_from_within-doubled.ensures.items in
    items ∙ whole numbers.items numbers.len numbers.ok.0

pub invariant_of-self : goal.invariant_of-self
invariant_of-self c =
    let numbers = c.self.inside.numbers in
    let now = c.extend_from_within-doubled.new.self in
    let twice = ap length (doubled (goal.at.invariant_of-self c).After-unwrap) ∙ length-append numbers.items numbers.items in
    subst (λ n. AreSeats n (vec_capacity now)) (sym twice)
    (twice_seats (length numbers.items) (vec_capacity numbers) (vec_capacity now) c.self.invariant c.extend_from_within-doubled.ensures.capacity)

pub returns : goal.returns
returns c id =
    let numbers = c.self.inside.numbers in
    ap (λ l. number_at l id) (doubled (goal.at.returns c).After-unwrap)
    ∙ told_twice numbers.items id (vec_capacity numbers) c.self.invariant
    ∙ ap (λ l. number_at l id) c.self.view_is
