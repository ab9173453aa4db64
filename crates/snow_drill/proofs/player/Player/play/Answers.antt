-- Words, rounds, and then answers.
use Rattle.std.proofs.lemmas.Result.{on_ok_weaker}
use Rattle.snow_drill.proofs.player.Player.play.Goals as goal

pub returns : goal.returns
returns g c = on_ok_weaker c.answers.result (λ answers d h. rw c.from.ensures at (answers _ (c.in_ok-rounds.ensures _ (c.in_ok-words.ensures d h)))) c.answers.ensures
