-- The values are the words.
use Rattle.std.proofs.Common.{map, ap, ◌∙◌}
use Rattle.std.proofs.lemmas.Result.{on_ok_weaker}
use Rattle.byteorder.specs.Endian.{big_number}
use Rattle.snow_drill.proofs.Played.{follows_words}
use Rattle.snow_drill.proofs.player.Player.words.Goals as goal

pub returns : goal.returns
returns g c =
    on_ok_weaker c.make.result
    (follows_words g.E.Driven.step c.args.self.now c.make.new.self c.args.n c.values.new.self (map (big_number 8) c.deref.result.now)
    (ap (map (big_number 8)) c.deref.ensures.value ∙ c.in_ok-words.ensures.values) c.in_ok-words.ensures.state)
    c.make.ensures
