use Rattle.std.proofs.Common.{refl, sym, ◌∙◌}
use Rattle.snow_board.proofs.Settled.{winner_at, no_winner_at}
use Rattle.snow_plain.proofs.state.State.accept_next.Goals as goal

pub returns-in-Some-clause-accepts : goal.returns-in-Some-clause-accepts
returns-in-Some-clause-accepts c =
    rw (winner_at c.args.self.now c.in-Some.at (sym c.winner_place.ensures ∙ c.in-Some.is)).1 c.accept.ensures.accepts

pub returns-in-None-clause-accepts : goal.returns-in-None-clause-accepts
returns-in-None-clause-accepts c = rw (no_winner_at c.args.self.now (sym c.winner_place.ensures ∙ c.in-None.is)) (refl, refl, refl)
