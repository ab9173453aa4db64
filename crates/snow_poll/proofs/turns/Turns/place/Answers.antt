-- The place is that of the turn.
use Rattle.std.proofs.Common.{◌∙◌}
use Rattle.snow_poll.proofs.Placed.{from_turn}
use Rattle.snow_poll.proofs.turns.Turns.place.Goals as goal

pub returns : goal.returns
returns c polls few placed behind =
    from_turn polls c.args.number c.args.self.now.gone c.in_ok-kept.kept.now c.place_of.result few (c.in_ok-kept.ensures.value ∙ placed c.args.number behind) c.place_of.ensures
