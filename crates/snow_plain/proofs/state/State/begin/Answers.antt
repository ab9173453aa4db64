use Rattle.snow_board.specs.Kept.Grown.{Bare}
use Rattle.snow_plain.proofs.state.State.begin.Goals as goal

pub invariant_of-result : goal.invariant_of-result
invariant_of-result c = rw c.new-2.ensures.items (record { grown = Bare; places = c.no_places.ensures.places; entries = c.no_places.ensures.entries })
