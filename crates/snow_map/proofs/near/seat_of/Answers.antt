use Rattle.std.proofs.Common.{rules}
use Rattle.snow_map.specs.Kept.Seats.{first_of, last_of}
use Rattle.snow_map.proofs.near.seat_of.Goals as goal

pub returns-clause-seat : goal.returns-clause-seat
unfolding first_of last_of
returns-clause-seat c = search rules
